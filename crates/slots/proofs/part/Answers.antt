-- The part that is handed out lies in the slot.
use Rattle.std.proofs.Common.{◌+◌, ◌-◌, ◌*◌, ◌≤◌, length, sym, ◌∙◌, arith}
use borrow.Author.Tests.{le-leb}
use Rattle.slots.proofs.Slots.{bytes-are, part-is, slot-there}
use Rattle.slots.proofs.part.Goals as goal

pub returns-then-count-at : goal.returns-then-count-at
returns-then-count-at c =
    let a = c.args in
    let e = sym c.is_slot.ensures ∙ c.if-is_slot.true in
    let t = slot-there (length a.area.now) a.slot e in
    let h : a.at + a.count ≤ 383 = omega arith in
    record {
      bytes = part-is a.area.now a.slot a.at a.count _ c.from.ensures h
          ∙ sym (bytes-are a.area.now a.slot t.0 t.1 a.at a.count h);
      place = rw (e, le-leb a.at 383 c.if-at-le-SLOT.true, le-leb a.count (383 - a.at) c.if-count-at.true)
          (λ i. (a.area.ref_ptr.0, c.from.ensures i * 383 + a.at + a.area.ref_ptr.1));
    }
