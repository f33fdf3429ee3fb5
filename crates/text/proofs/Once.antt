-- The contracts that ensure `Writes` leave one text in one buffer, and one place. Assumes nothing.
-- (The functions on a buffer and a place have an equation for a contract, so there this is plain.)
use Prim.Native.Nat.{ℕ}
use mathlib.Core.Path.{◌≡◌, sym, ◌∙◌}
use mathlib.Core.List.{List}
use Rattle.text.specs.declared.Writer.{Writer}
use Rattle.text.specs.Text.{pen_of, Writes}

pub one-writes : (p q r : Writer) (t : List ℕ) → Writes p q t → Writes p r t → (q.bytes.ghost_name ≡ r.bytes.ghost_name) × (pen_of q ≡ pen_of r)
one-writes p q r t g h = (g.lent ∙ sym h.lent, g.text ∙ sym h.text)
