-- How far the contracts of `write` and `data_part` reach: two calls on the same inputs that both meet them answer the same and leave the same.
-- (`read`, `response_code` and `respond` have an equation for a contract, so there this is plain.)
use Prim.Native.Nat.{ℕ}
use Rattle.tapa.specs.declared.Refusal.{Refusal}
use Rattle.std.specs.Prelude.{Result}
use mathlib.Core.Path.{◌≡◌, sym, ◌∙◌}
use mathlib.Core.List.{List}
use denote.Ref.{Bor}
use Rattle.message.specs.Message.{Wrote, DataPart}

pub one-write : (d s k t : ℕ) (part before a b : List ℕ) (v w : Result ℕ Refusal) → Wrote d s k t part before a v → Wrote d s k t part before b w → (v ≡ w) × (a ≡ b)
one-write d s k t part before a b v w x y = (x.answer ∙ sym y.answer, x.buffer ∙ sym y.buffer)

-- a part is known by its bytes and by where it stands
pub one-data-part : (message a b : Bor (List ℕ)) → DataPart message a → DataPart message b → (a.now ≡ b.now) × (a.ref_ptr ≡ b.ref_ptr)
one-data-part message a b x y = (x.bytes ∙ sym y.bytes, x.place ∙ sym y.place)
