-- The end of the file is forms of the sheet.
use Rattle.picture.proofs.Front.{drawn}
use Rattle.picture.proofs.closing.Goals as goal

pub returns : goal.returns
returns c = drawn _ _ _ c.draw_closing-ended.result.now _ _ c.put_list.ensures
