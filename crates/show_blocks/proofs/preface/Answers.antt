-- The page has room for all the words.
use Rattle.blocks.proofs.Room.{written, noted}
use Rattle.show_blocks.proofs.preface.Goals as goal

pub returns : goal.returns
returns c =
    let said = c.tell_rows-said in
    let note = c.note.ensures in
    noted _ _ _ (written _ _ said.new.words _ said.result _ note.result_after note.page_len.0 note.page_len.1)
