-- What Adler-32 sees: of two lists of bytes that differ in one place at most, equal checksums make them equal.
use Prim.Native.Nat.{ℕ, ◌+◌, ◌%◌, ◌≤◌, ◌<◌}
use mathlib.Core.Path.{◌≡◌, sym, ap, ◌∙◌}
use mathlib.Core.List.{List, [], ◌∷◌, ◌++◌}
use native.Mathlib.Omega.{arith}
use native.Mathlib.Numerals.{add-one}
use lib.ListN.{length, drop, get_or, drop_of_length-le}
use lib.Seq.{drop-cons}
use Rattle.adler.specs.declared.Sums.{Sums}
use Rattle.adler.specs.Adler.{summed, adler32}

-- both halves are below the prime
pub summed-small : (a b : ℕ) (l : List ℕ) → a < 65521 → b < 65521 → ((summed a b l).low < 65521) × ((summed a b l).high < 65521)
summed-small a b [] h k = (h, k)
summed-small a b (x ∷ l) h k = summed-small ((a + x) % 65521) ((b + (a + x) % 65521) % 65521) l (omega arith) (omega arith)

pub adler-small : (l : List ℕ) → ((adler32 l).low < 65521) × ((adler32 l).high < 65521)
adler-small l = summed-small 1 0 l (omega arith) (omega arith)

-- the low half at the end tells what it was before
low-back : (a b a' b' : ℕ) (l : List ℕ) → a < 65521 → a' < 65521 → (summed a b l).low ≡ (summed a' b' l).low → a ≡ a'
low-back a b a' b' [] h k e = e
low-back a b a' b' (x ∷ l) h k e =
    let z : (a + x) % 65521 ≡ (a' + x) % 65521 =
    low-back ((a + x) % 65521) ((b + (a + x) % 65521) % 65521) ((a' + x) % 65521) ((b' + (a' + x) % 65521) % 65521) l (omega arith) (omega arith) e in
    omega arith

one_place : (a b : ℕ) (p q : List ℕ) (x y : ℕ) → a < 65521 → x < 256 → y < 256 → (summed a b (p ++ x ∷ q)).low ≡ (summed a b (p ++ y ∷ q)).low → x ≡ y
one_place a b [] q x y h k m e =
    let z : (a + x) % 65521 ≡ (a + y) % 65521 =
    low-back ((a + x) % 65521) ((b + (a + x) % 65521) % 65521) ((a + y) % 65521) ((b + (a + y) % 65521) % 65521) q (omega arith) (omega arith) e in
    omega arith
one_place a b (w ∷ p) q x y h k m e = one_place ((a + w) % 65521) ((b + (a + w) % 65521) % 65521) p q x y (omega arith) k m e

-- one byte changed is seen
pub one-byte-seen : (p q : List ℕ) (x y : ℕ) → x < 256 → y < 256 → adler32 (p ++ x ∷ q) ≡ adler32 (p ++ y ∷ q) → x ≡ y
one-byte-seen p q x y k m e = one_place 1 0 p q x y (omega arith) k m (ap (λ (s : Sums). s.low) e)

-- ---- the loop
pub sums-more : (l : List ℕ) (a b i : ℕ) → i < length l
    → summed ((a + get_or l i 0) % 65521) ((b + (a + get_or l i 0) % 65521) % 65521) (drop (i + 1) l) ≡ summed a b (drop i l)
sums-more l a b i h = sym (ap (summed a b) (drop-cons l i 0 h ∙ ap (λ (n : ℕ). get_or l i 0 ∷ drop n l) (sym (add-one i))))

pub sums-end : (l : List ℕ) (a b i : ℕ) → length l ≤ i → ◌≡◌ {A = Sums} (record { low = a; high = b }) (summed a b (drop i l))
sums-end l a b i h = sym (ap (summed a b) (drop_of_length-le l {i = i} h))
