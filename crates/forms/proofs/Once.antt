-- The contract of `wording` leaves one place possible. Assumes nothing.
use Prim.Native.Nat.{ℕ}
use mathlib.Core.Path.{◌≡◌, sym, ◌∙◌}
use mathlib.Core.List.{List}
use Rattle.forms.specs.declared.Span.{Span}
use Rattle.forms.specs.Forms.{Spans}

pub one-wording : (sheet : List ℕ) (n : ℕ) (p q : Span) → Spans sheet n p → Spans sheet n q → p ≡ q
one-wording sheet n p q g h = g.same ∙ sym h.same
