-- Seven pieces one behind the other.
use Rattle.image.proofs.Saves.{saved-done}
use Rattle.image.proofs.save.Goals as goal

pub returns : goal.returns
returns c =
    saved-done c.args.b c.args.area.now c.args.out.now c.held-n.result c.held-n.ensures c.requires.law
    _ _ _ _ _ _ _ _ c.if-out-size.false c.put.ensures c.put_kinds.ensures c.put_word.ensures c.put_entries.ensures c.put_slots.ensures
    c.checksum-sums.ensures c.put_word-2.ensures c.put_word-3.ensures
