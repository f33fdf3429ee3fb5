-- The slot that is zeroed is the area's part.
use Rattle.std.proofs.Common.{length, sym, ◌∙◌}
use Rattle.slots.proofs.Slots.{slot-there, wiped-is, put-wiped}
use Rattle.slots.proofs.wipe.Goals as goal

pub returns : goal.returns
returns c =
    let a = c.args in
    let t = slot-there (length a.area.now) a.slot (sym c.is_slot.ensures ∙ c.if-not-is_slot.false) in
    put-wiped a.area.now _ a.slot _ c.from-start.ensures t.0 t.1 (c.fill.ensures.after (λ y e. e)) ∙ sym (wiped-is a.area.now a.slot t.0 t.1)
