-- The file from a place on is what stands there, and the file from the next place on; and what is written reads back. Assumes nothing.
use Prim.Native.Nat.{ℕ, zero, suc, ◌+◌, ◌*◌, ◌-◌, ◌/◌, ◌%◌, ◌≤◌}
use mathlib.Core.Path.{◌≡◌, refl, sym, ap, ◌∙◌}
use mathlib.Core.List.{List, [], ◌∷◌, ◌++◌}
use native.Mathlib.Omega.{arith}
use lib.Dec.{leb, ltb}
use lib.ListN.{length, take, drop, get_or, length-drop, length-append}
use lib.Seq.{get_or-drop, drop-drop, take-append_seam, drop-append_seam}
use borrow.Table.Steps.{cases}
use borrow.Author.Tests.{le-leb, lt-leb, le-ltb, lt-ltb, leb-true, leb-false, ltb-false}
use Rattle.tapa.specs.Numbers.{word_at}
use Rattle.fields.specs.Fields.{File, field, parse, file_of, field_bytes}
use Rattle.fields.specs.Places.{read_at, seen}
use Rattle.fields.specs.declared.Read.TheVariants.{Field}

-- fuel that is enough is as good as any other
more-fuel : (f g : ℕ) (s : List ℕ) → length s ≤ f → length s ≤ g → parse f s ≡ parse g s
more-fuel zero zero s p q = refl
more-fuel zero (suc g) [] p q = refl
more-fuel zero (suc g) (t ∷ s) p q = absurd (omega arith)
more-fuel (suc f) zero [] p q = refl
more-fuel (suc f) zero (t ∷ s) p q = absurd (omega arith)
more-fuel (suc f) (suc g) [] p q = refl
more-fuel (suc f) (suc g) (t ∷ []) p q = refl
more-fuel (suc f) (suc g) (t ∷ h ∷ []) p q = refl
more-fuel (suc f) (suc g) (t ∷ h ∷ l ∷ s) p q =
    rw (more-fuel f g (drop (h * 256 + l) s) (omega (arith, length-drop (h * 256 + l) s)) (omega (arith, length-drop (h * 256 + l) s)))

same-field : (t : ℕ) {c c' : List ℕ} {r r' : File} → c ≡ c' → r ≡ r' → field t c r ≡ field t c' r'
same-field t p q = λ i. field t (p i) (q i)

-- ---- the list l that stands from a place on

module _ (s : List ℕ) (at : ℕ) (l : List ℕ) (e : drop at s ≡ l) where
  byte_of : (k i : ℕ) → at + i ≡ k → get_or s k 0 ≡ get_or l i 0
  byte_of k i p = rw (← p, ← e) (sym (get_or-drop at s i 0))

  left-of : length s - at ≡ length l
  left-of = sym (length-drop at s) ∙ ap length e

  past : (k i : ℕ) → at + i ≡ k → drop k s ≡ drop i l
  past k i p = rw (← p, ← e) (sym (drop-drop i at s))

by_front : (s : List ℕ) (at : ℕ) (l : List ℕ) → drop at s ≡ l → file_of l ≡ seen s (read_at s at)
unfolding file_of read_at
by_front s at [] e =
    let n : length s - at ≡ 0 = left-of s at _ e in
    rw (le-leb (length s) at (omega arith))
by_front s at (t ∷ []) e =
    let n : length s - at ≡ 1 = left-of s at _ e in
    rw (lt-leb (length s) at (omega arith), lt-ltb (length s) (at + 3) (omega arith), byte_of s at _ e at 0 (omega arith))
by_front s at (t ∷ h ∷ []) e =
    let n : length s - at ≡ 2 = left-of s at _ e in
    rw (lt-leb (length s) at (omega arith), lt-ltb (length s) (at + 3) (omega arith), byte_of s at _ e at 0 (omega arith))
by_front s at (t ∷ h ∷ k ∷ r) e =
    let n : length s - at ≡ suc (suc (suc (length r))) = left-of s at _ e in
    let rest : drop (at + 3) s ≡ r = past s at _ e (at + 3) 3 refl in
    rw (lt-leb (length s) at (omega arith), le-ltb (length s) (at + 3) (omega arith), byte_of s at _ e at 0 (omega arith), byte_of s at _ e (at + 1) 1 (omega arith), byte_of s at _ e (at + 1 + 1) 2 (omega arith))
    (cases (leb (h * 256 + k) (length r))
    (λ b. rw (b, le-ltb (length s) (at + 3 + (h * 256 + k)) (omega (arith, leb-true (h * 256 + k) (length r) b)))
    (same-field t (ap (take (h * 256 + k)) (sym rest))
    (more-fuel (suc (suc (length r))) (length (drop (h * 256 + k) r)) (drop (h * 256 + k) r) (omega (arith, length-drop (h * 256 + k) r)) (omega arith)
    ∙ ap file_of (sym (past s (at + 3) r rest (at + 3 + (h * 256 + k)) (h * 256 + k) refl)))))
    (λ b. rw (b, lt-ltb (length s) (at + 3 + (h * 256 + k)) (omega (arith, leb-false (h * 256 + k) (length r) b)))))

-- THE law of reading by places
pub unfolds : (s : List ℕ) (at : ℕ) → file_of (drop at s) ≡ seen s (read_at s at)
unfolds s at = by_front s at (drop at s) refl

-- a whole field starts three bytes on, and ends inside
pub inside : (s : List ℕ) (at t a n : ℕ) → read_at s at ≡ Field t a n → (at + 3 ≡ a) × (a + n ≤ length s)
unfolding read_at
inside s at t a n =
    cases (leb (length s) at)
    (λ p. rw p (λ e. let z : ◌≡◌ {A = ℕ} 0 1 = cc in absurd (omega arith)))
    (λ p. cases (ltb (length s) (at + 3))
    (λ q. rw (p, q) (λ e. let z : ◌≡◌ {A = ℕ} 0 1 = cc in absurd (omega arith)))
    (λ q. cases (ltb (length s) (at + 3 + word_at s (at + 1)))
    (λ r. rw (p, q, r) (λ e. let z : ◌≡◌ {A = ℕ} 0 1 = cc in absurd (omega arith)))
    (λ r. rw (p, q, r) (λ e. let x : at + 3 ≡ a = cc in let y : word_at s (at + 1) ≡ n = cc in
    (x, omega (arith, ltb-false (length s) (at + 3 + word_at s (at + 1)) r))))))

-- ---- what is written reads back

pub written : (t : ℕ) (c rest : List ℕ) → file_of (field_bytes t c ++ rest) ≡ field t c (file_of rest)
unfolding file_of
written t c rest =
    let n : length c / 256 * 256 + length c % 256 ≡ length c = omega arith in
    rw (n, le-leb (length c) (length (c ++ rest)) (omega (arith, length-append c rest)), take-append_seam c rest, drop-append_seam c rest)
    (same-field t refl (more-fuel (suc (suc (length (c ++ rest)))) (length rest) rest (omega (arith, length-append c rest)) (omega arith)))
