-- Two images that differ in one byte at most are the same: in the body the checksum sees it, and the checksum's own bytes follow from the body.
use Prim.Native.Nat.{◌%◌, ◌+◌, ◌-◌, ◌/◌, ◌<◌, suc, ℕ, ◌≤◌}
use mathlib.Core.List.{◌++◌, List, ◌∷◌}
use mathlib.Core.Path.{ap, sym, ◌∙◌, ◌≡◌}
use native.Mathlib.Omega.{arith}
use lib.Dec.{ltb}
use lib.ListN.{drop, get_or, length, length-append, take}
use lib.Seq.{drop-append-add, drop-append-le, get_or-append_seam, take-append-add, take-append-le}
use borrow.Author.Tests.{ltb-false, ltb-true}
use Rattle.adler.proofs.Seen.{one-byte-seen}
use Rattle.adler.specs.Adler.{adler32}
use Rattle.adler.specs.declared.Sums.{Sums}
use Rattle.layout.specs.Layout.{sum_bytes}
use Rattle.lists.proofs.Tests.{split}
use Rattle.tapa.specs.Numbers.{two_bytes}

-- its last four bytes are the checksum of those before
abbrev pub Sealed : List ℕ → Type 0
Sealed img = drop (length img - 4) img ≡ sum_bytes (adler32 (take (length img - 4) img))

word_same : (a b : ℕ) → two_bytes a ≡ two_bytes b → a ≡ b
word_same a b e =
    let p : a / 256 ≡ b / 256 = cc in
    let q : a % 256 ≡ b % 256 = cc in
    omega arith

sums_same : (s u : Sums) → sum_bytes s ≡ sum_bytes u → s ≡ u
sums_same s u e =
    let a : s.high ≡ u.high = word_same s.high u.high (ap (take 2) e) in
    let c : s.low ≡ u.low = word_same s.low u.low (ap (drop 2) e) in
    λ i. record { low = c i; high = a i }

module _ (p q : List ℕ) (x y : ℕ) (sx : Sealed (p ++ x ∷ q)) (sy : Sealed (p ++ y ∷ q)) where
  abbrev end : ℕ
  end = length (p ++ x ∷ q) - 4

  same_end : length (p ++ y ∷ q) - 4 ≡ end
  same_end = ap (λ (n : ℕ). n - 4) (length-append p (y ∷ q) ∙ sym (length-append p (x ∷ q)))

  sealed-y : drop end (p ++ y ∷ q) ≡ sum_bytes (adler32 (take end (p ++ y ∷ q)))
  sealed-y = rw same_end at sy

  -- in the body: what stands behind is the same, so the checksums are
  in_body : x < 256 → y < 256 → length p < end → x ≡ y
  in_body bx by h =
      let m : ℕ = end - suc (length p) in
      let e : end ≡ length p + suc m = omega arith in
      let t : sum_bytes (adler32 (p ++ x ∷ take m q)) ≡ sum_bytes (adler32 (p ++ y ∷ take m q)) =
      sym (seal x m (rw e at sx)) ∙ seal y m (rw e at sealed-y) in
      one-byte-seen p (take m q) x y bx by (sums_same (adler32 (p ++ x ∷ take m q)) (adler32 (p ++ y ∷ take m q)) t)
    where
      seal : (z m : ℕ) → drop (length p + suc m) (p ++ z ∷ q) ≡ sum_bytes (adler32 (take (length p + suc m) (p ++ z ∷ q))) → drop m q ≡ sum_bytes (adler32 (p ++ z ∷ take m q))
      seal z m e = sym (drop-append-add p (z ∷ q) (suc m)) ∙ e ∙ ap (λ (l : List ℕ). sum_bytes (adler32 l)) (take-append-add p (z ∷ q) (suc m))

  -- in the checksum: the bodies are the same, so their checksums are
  in_sum : end ≤ length p → x ≡ y
  in_sum h =
      let r : List ℕ = drop end p in
      let b : take end (p ++ x ∷ q) ≡ take end (p ++ y ∷ q) = take-append-le end p (x ∷ q) h ∙ sym (take-append-le end p (y ∷ q) h) in
      let t : r ++ x ∷ q ≡ r ++ y ∷ q =
      sym (drop-append-le end p (x ∷ q) h) ∙ sx ∙ ap (λ (l : List ℕ). sum_bytes (adler32 l)) b ∙ sym sealed-y ∙ drop-append-le end p (y ∷ q) h in
      sym (get_or-append_seam r x q 0) ∙ ap (λ (l : List ℕ). get_or l (length r) 0) t ∙ get_or-append_seam r y q 0

  pub same_byte : x < 256 → y < 256 → x ≡ y
  same_byte bx by = split (ltb (length p) end) (λ t. in_body bx by (ltb-true (length p) end t)) (λ t. in_sum (ltb-false (length p) end t))
