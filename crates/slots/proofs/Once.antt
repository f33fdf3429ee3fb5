-- How far the contract of `part` reaches: two parts that meet it are the same bytes in the same place. The other contracts are equations.
use Prim.Native.Nat.{ℕ}
use mathlib.Core.List.{List}
use mathlib.Core.Path.{sym, ◌∙◌, ◌≡◌}
use denote.Ref.{Bor}
use Rattle.slots.specs.Slots.{SlotPart}

pub one-slot-part : (area p q : Bor (List ℕ)) (s at n : ℕ) → SlotPart area p s at n → SlotPart area q s at n → (p.now ≡ q.now) × (p.ref_ptr ≡ q.ref_ptr)
one-slot-part area p q s at n x y = (x.bytes ∙ sym y.bytes, x.place ∙ sym y.place)
