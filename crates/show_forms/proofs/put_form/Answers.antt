-- One byte of the wording more, and the end of it.
use Rattle.std.proofs.Common.{arith, inl, inr}
use Rattle.forms.proofs.Filling.{byte_more, no_byte_more, next-value}
use Rattle.show_forms.proofs.put_form.Goals as goal
use Rattle.show_forms.proofs.put_form.Goals.{then-is_hole, else-is_hole}

pub loop-byte-preserved : goal.loop-byte-preserved
loop-byte-preserved c =
    let l = c.loop-byte in
    let k = next-value c.is_hole.result _ l.k c.if-is_hole.k c.is_hole.ensures (elim c.if-is_hole.branch [ then-is_hole w ↦ inl (w.if-is_hole.true, w.k-is) | else-is_hole w ↦ inr (w.if-is_hole.false, w.k-is) ]) in (
      elim c.if-is_hole.branch [ then-is_hole w ↦ omega arith | else-is_hole w ↦ omega arith ],
      byte_more _ _ _ l.k _ l.byte-index _ (omega arith) l.invariant.1 c.put_part.ensures c.value_at-in-loop-byte.ensures k,
    )

pub returns : goal.returns
returns c = no_byte_more _ _ _ c.loop-byte.k c.loop-byte.byte-index (omega arith) c.loop-byte.invariant.1
