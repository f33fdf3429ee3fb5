-- The contract leaves one part possible: it is known by its bytes and by where it stands.
use Prim.Native.Nat.{ℕ}
use mathlib.Core.Path.{◌≡◌, sym, ◌∙◌}
use mathlib.Core.List.{List}
use denote.Ref.{Bor}
use Rattle.rules.specs.declared.Outcome.{Outcome}
use Rattle.sending.specs.Sending.{Sending}

pub one-part-to-send : (o : Outcome) (message reply a b : Bor (List ℕ)) → Sending o message reply a → Sending o message reply b → (a.now ≡ b.now) × (a.ref_ptr ≡ b.ref_ptr)
one-part-to-send o message reply a b x y = (x.bytes ∙ sym y.bytes, x.place ∙ sym y.place)
