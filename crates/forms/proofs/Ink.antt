-- A form has nothing but digits and bytes of the sheet's wordings, whatever its values are, and no byte below 32. Assumes nothing.
use Prim.Native.Nat.{ℕ, zero, suc, ◌+◌, ◌*◌, ◌/◌, ◌%◌, ◌≤◌, ◌<◌}
use mathlib.Core.Path.{◌≡◌, refl, ◌∙◌}
use mathlib.Core.Logic.{◌⊎◌, inl, inr}
use mathlib.Core.Bool.{◌&&◌, cond}
use mathlib.Core.List.{List, [], ◌∷◌}
use native.Mathlib.Omega.{arith}
use lib.Dec.{eqb, ltb, leb}
use lib.ListN.{length, get_or}
use lib.Seq.{drop-nil}
use borrow.Table.Steps.{cases}
use borrow.Author.Tests.{lt-ltb, ltb-true, ltb-false}
use Rattle.lists.specs.Lists.{All}
use Rattle.lists.proofs.Tests.{checks-are}
use Rattle.lists.proofs.Counts.{All-map}
use Rattle.lists.proofs.Members.{in_all, all_of, all_append}
use Rattle.text.specs.Text.{digit_of, hex_of, word_hex_of, decimals, decimal_of}
use Rattle.forms.specs.Forms.{worded as worded_of, cell_from, wording_of, is_hole, decimal_hole, word_hole, byte_hole, wording_hole, part_text, filled, form_text, form_at, first_forms, forms_text}
use Rattle.forms.specs.Ink.{Ink, digit, worded}

-- ---- nothing else is written

module _ (s : List ℕ) where
  hex-inked : (n : ℕ) → n < 256 → All (Ink s) (hex_of n)
  hex-inked n h = (digit _ (n / 16) (omega arith) refl, (digit _ (n % 16) (omega arith) refl, tt))

  word-inked : (n : ℕ) → n < 65536 → All (Ink s) (word_hex_of n)
  word-inked n h = all_append (Ink s) (hex_of (n / 256)) (hex_of (n % 256)) (hex-inked (n / 256) (omega arith)) (hex-inked (n % 256) (omega arith))

  last-inked : (n : ℕ) → Ink s (48 + n % 10)
  last-inked n = digit (48 + n % 10) (n % 10) (omega arith) (rw (lt-ltb (n % 10) 10 (omega arith)))

  decimals-inked : (f n : ℕ) → All (Ink s) (decimals f n)
  decimals-inked zero n = tt
  decimals-inked (suc f) n =
      cases (ltb n 10) (λ e. rw e (last-inked n, tt))
      (λ e. rw e (all_append (Ink s) (decimals f (n / 10)) ((48 + n % 10) ∷ []) (decimals-inked f (n / 10)) (last-inked n, tt)))

  decimal-inked : (n : ℕ) → All (Ink s) (decimal_of n)
  unfolding decimal_of
  decimal-inked n = decimals-inked (suc n) n

  wording-inked : (n : ℕ) → All (Ink s) (wording_of s n)
  wording-inked n = all_of (Ink s) (wording_of s n) (λ b i. worded b n i)

  part-inked : (b v : ℕ) → Ink s b → All (Ink s) (part_text s b v)
  unfolding part_text
  part-inked b v h =
      checks-are (All (Ink s))
      ((eqb b decimal_hole, decimal_of v) ∷ (eqb b word_hole, word_hex_of (v % 65536)) ∷ (eqb b byte_hole, hex_of (v % 256)) ∷ (eqb b wording_hole, wording_of s v) ∷ [])
      (b ∷ [])
      (decimal-inked v, (word-inked (v % 65536) (omega arith), (hex-inked (v % 256) (omega arith), (wording-inked v, tt))))
      (λ _. (h, tt))

  filled-inked : (f : List ℕ) (k : ℕ) (l : List ℕ) → All (Ink s) l → All (Ink s) (filled s f k l)
  filled-inked f k [] a = tt
  filled-inked f k (b ∷ l) a =
      let k' = cond (is_hole b) (k + 1) k in
      all_append (Ink s) (part_text s b (get_or f k 0)) (filled s f k' l) (part-inked b (get_or f k 0) a.0) (filled-inked f k' l a.1)

pub inked : (s f : List ℕ) → All (Ink s) (form_text s f)
inked s f = filled-inked s f 1 (wording_of s (get_or f 0 0)) (wording-inked s (get_or f 0 0))

firsts-inked : (s l : List ℕ) (n : ℕ) → All (Ink s) (first_forms s l n)
firsts-inked s l zero = tt
firsts-inked s l (suc n) = all_append (Ink s) (first_forms s l n) (form_text s (form_at l n)) (firsts-inked s l n) (inked s (form_at l n))

pub list-inked : (s l : List ℕ) (n : ℕ) → All (Ink s) (forms_text s l n)
list-inked s l n = firsts-inked s l (cond (ltb n (length l / 8)) n (length l / 8))

-- ---- what a sheet without wordings leaves: the hex digits, '0' to '9' and 'A' to 'F'

no-wording : (n : ℕ) → wording_of [] n ≡ []
unfolding wording_of
no-wording n = cases (ltb n 512 && leb (n * 128 + 128) 0) (λ e. rw (e, drop-nil {A = ℕ} (n * 128))) (λ e. rw e)

pub only-digits : (b : ℕ) → Ink [] b → ((48 ≤ b) × (b ≤ 57)) ⊎ ((65 ≤ b) × (b ≤ 70))
only-digits b (digit _ v h e) =
    cases (ltb v 10)
    (λ t. let n : b ≡ 48 + v = e ∙ rw t in let m : v < 10 = ltb-true v 10 t in inl (omega arith, omega arith))
    (λ t. let n : b ≡ 55 + v = e ∙ rw t in let m : 10 ≤ v = ltb-false v 10 t in inr (omega arith, omega arith))
only-digits b (worded _ n i) = absurd (rw (no-wording n) at i)

-- ---- no byte below 32, so no line feed

worded-plain : (l : List ℕ) → All (λ (b : ℕ). 32 ≤ b) (worded_of l)
worded-plain [] = tt
worded-plain (b ∷ l) = cases (ltb b 32) (λ e. rw e tt) (λ e. rw e (ltb-false b 32 e, worded-plain l))

wording-plain : (s : List ℕ) (n : ℕ) → All (λ (b : ℕ). 32 ≤ b) (wording_of s n)
unfolding wording_of
wording-plain s n = cases (ltb n 512 && leb (n * 128 + 128) (length s)) (λ e. rw e (worded-plain (cell_from s (n * 128)))) (λ e. rw e tt)

digit-plain : (v : ℕ) → 32 ≤ digit_of v
digit-plain v = cases (ltb v 10) (λ e. rw e (omega arith)) (λ e. rw e (omega arith))

ink-plain : (s : List ℕ) (b : ℕ) → Ink s b → 32 ≤ b
ink-plain s b (digit _ v h e) = rw e (digit-plain v)
ink-plain s b (worded _ n i) = in_all (λ (x : ℕ). 32 ≤ x) b (wording_of s n) (wording-plain s n) i

pub no-control : (s f : List ℕ) → All (λ (b : ℕ). 32 ≤ b) (form_text s f)
no-control s f = All-map (Ink s) (λ (b : ℕ). 32 ≤ b) (ink-plain s) (form_text s f) (inked s f)

pub list-no-control : (s l : List ℕ) (n : ℕ) → All (λ (b : ℕ). 32 ≤ b) (forms_text s l n)
list-no-control s l n = All-map (Ink s) (λ (b : ℕ). 32 ≤ b) (ink-plain s) (forms_text s l n) (list-inked s l n)
