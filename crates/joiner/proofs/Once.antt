-- Each contract of psam_pieces, psam_whole and psam_sources leaves one answer possible, with one next state and one content of the lent buffer.
-- `fresh`, `judge` and `keep` ensure an equation with a definition: two answers are then equal by it.
use mathlib.Core.Path.{◌≡◌, sym, ◌∙◌}
use Rattle.tapa.specs.declared.Refusal.{Refusal}
use Rattle.std.specs.Prelude.{Result, Option}
use mathlib.Core.List.{List}
use Prim.Native.Nat.{ℕ}
use denote.Ref.{Bor}
use Rattle.joiner.specs.declared.Joiner.{Joiner}
use Rattle.joiner.specs.declared.Joined.{Joined}
use Rattle.joiner.specs.Joining.{Joins, PartFor, Asks}

pub one-join : (j : Joiner) (piece before a a' : List ℕ) (r r' : Joined) → Joins j piece before a r → Joins j piece before a' r' → (r ≡ r') × (a ≡ a')
one-join j piece before a a' r r' x y = (
  (λ i. record { answer = (x.answer ∙ sym y.answer) i; next = (x.next ∙ sym y.next) i }),
  x.buffer ∙ sym y.buffer,
)

pub one-get-next : (thread : ℕ) (before a a' : List ℕ) (w w' : Result ℕ Refusal) → Asks thread before a w → Asks thread before a' w' → (w ≡ w') × (a ≡ a')
one-get-next thread before a a' w w' x y = (x.answer ∙ sym y.answer, x.buffer ∙ sym y.buffer)

-- what can be seen of a part: its bytes and where they stand
pub one-joined-part : (answer : Result (Option ℕ) Refusal) (buffer x y : Bor (List ℕ)) → PartFor answer buffer x → PartFor answer buffer y → (x.now ≡ y.now) × (x.ref_ptr ≡ y.ref_ptr)
one-joined-part answer buffer x y p q = (p.bytes ∙ sym q.bytes, p.place ∙ sym q.place)
