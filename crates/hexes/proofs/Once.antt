-- The contracts of `read` and `write` leave one answer and one buffer. Assumes nothing.
-- (`locate`, `fresh` and `write_end` have an equation for a contract, so there this is plain.)
use Prim.Native.Nat.{ℕ}
use mathlib.Core.Path.{◌≡◌, sym, ap, ◌∙◌}
use mathlib.Core.List.{List}
use Rattle.text.specs.Text.{Pen, pen}
use Rattle.hexes.specs.declared.Taken.{Taken}
use Rattle.hexes.specs.declared.Written.{Written}
use Rattle.hexes.specs.declared.Cursor.{Cursor}
use Rattle.hexes.specs.Reading.{Reads}
use Rattle.hexes.specs.Writing.{Writes}

pub one-read : (text old : List ℕ) (r r' : Taken) (new new' : List ℕ) → Reads text old new r → Reads text old new' r' → (r ≡ r') × (new ≡ new')
one-read text old r r' new new' g h =
    let e : pen new r.length ≡ pen new' r'.length = g.held ∙ sym h.held in
    let n = g.counted ∙ sym h.counted in
    let k = g.ends ∙ sym h.ends in
    ((λ i. record { length = (e i).at; count = n i; ends = k i }), ap (λ (x : Pen). x.bytes) e)

pub one-write : (c : Cursor) (part old : List ℕ) (r r' : Written) (new new' : List ℕ) → Writes c part old new r → Writes c part old new' r' → (r ≡ r') × (new ≡ new')
one-write c part old r r' new new' g h =
    let e : pen new r.used ≡ pen new' r'.used = g.text ∙ sym h.text in
    let n = g.next ∙ sym h.next in
    ((λ i. record { used = (e i).at; next = n i }), ap (λ (x : Pen). x.bytes) e)
