-- The slot that is filled is the area's part.
use Rattle.std.proofs.Common.{length, sym, ◌∙◌}
use Rattle.slots.proofs.Slots.{slot-there, written_is, put_written}
use Rattle.slots.proofs.write.Goals as goal

pub returns : goal.returns
returns c =
    let a = c.args in
    let t = slot-there (length a.area.now) a.slot (sym c.is_slot.ensures ∙ c.if-not-is_slot.false) in
    put_written a.area.now _ a.slot _ c.from-start.ensures t.0 t.1 a.key.now a.bytes.now c.fill.ensures
    ∙ sym (written_is a.area.now a.slot t.0 t.1 a.key.now a.bytes.now c.if-key-gt255.false c.if-bytes-gt128.false)
