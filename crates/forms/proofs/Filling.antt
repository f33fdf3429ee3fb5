-- Laws of filled wordings, for the loops of `put_form` and `put_forms`. Assumes nothing.
use Prim.Native.Nat.{ℕ, ◌+◌, ◌*◌, ◌≤◌, ◌<◌}
use mathlib.Core.Path.{◌≡◌}
use mathlib.Core.Bool.{Bool, true, false, cond}
use mathlib.Core.Logic.{◌⊎◌, inl, inr}
use mathlib.Core.List.{List, ◌++◌}
use native.Mathlib.Numerals.{add-one}
use lib.ListN.{length, take, drop, get_or, drop_of_length-le}
use lib.Seq.{drop-cons}
use Rattle.text.specs.declared.Writer.{Writer}
use Rattle.text.specs.Text.{Writes}
use Rattle.text.proofs.Laws.{Left, left_more, left_none, and_then}
use Rattle.forms.specs.Forms.{is_hole, part_text, filled, form_text, form_at, first_forms}

-- ---- `put_form`: w is the wording, what is left of it is still to be written

-- a byte is written, and the rest is left
pub byte_more : (s f w : List ℕ) {p q r : Writer} {all : List ℕ} (k k' i v : ℕ)
    → i < length w → Left p q (filled s f k (drop i w)) all → Writes q r (part_text s (get_or w i 0) v)
    → v ≡ get_or f k 0 → k' ≡ cond (is_hole (get_or w i 0)) (k + 1) k
    → Left p r (filled s f k' (drop (i + 1) w)) all
byte_more s f w {p = p} {q = q} {all = all} k k' i v h e g a b =
    let part = part_text s (get_or w i 0) v in
    let o : filled s f k (drop i w) ≡ part ++ filled s f k' (drop (i + 1) w) = rw (drop-cons w i 0 h, a, b, add-one i) in
    left_more part (filled s f k' (drop (i + 1) w)) (rw o at e) g

-- nothing is left
pub no_byte_more : (s f w : List ℕ) {p q : Writer} {all : List ℕ} (k i : ℕ) → length w ≤ i → Left p q (filled s f k (drop i w)) all → Writes p q all
no_byte_more s f w k i h e = left_none (rw (drop_of_length-le w {i = i} h) at e)

-- a hole moves on to the next value, and nothing else does
pub next-value : (t : Bool) (b k k' : ℕ) → t ≡ is_hole b → ((t ≡ true) × (k' ≡ k + 1)) ⊎ ((t ≡ false) × (k' ≡ k)) → k' ≡ cond (is_hole b) (k + 1) k
next-value t b k k' e (inl w) = rw (← e, w.0) w.1
next-value t b k k' e (inr w) = rw (← e, w.0) w.1

-- ---- `put_forms`: one form more

pub form-more : (s l : List ℕ) (i m : ℕ) {p q r : Writer} → Writes p q (first_forms s l i) → Writes q r (form_text s (take m (drop (i * 8) l))) → m ≡ 8
    → Writes p r (first_forms s l (i + 1))
form-more s l i m e g h = rw (add-one i) (and_then e (rw h at g))
