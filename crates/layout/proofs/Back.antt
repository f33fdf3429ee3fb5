-- Parts of an image: reading gives back what was written, and writing gives back what was read.
use Prim.Native.Nat.{◌%◌, ◌*◌, ◌+◌, ◌/◌, suc, zero, ℕ, ◌≤◌}
use mathlib.Core.Bool.{Bool, false, true}
use mathlib.Core.List.{◌++◌, List, [], ◌∷◌}
use mathlib.Core.Path.{ap, refl, sym, ◌∙◌, ◌≡◌}
use native.Mathlib.Omega.{arith}
use lib.Dec.{eqb, leb}
use lib.ListN.{drop, get_or, length, take}
use lib.Seq.{drop-drop, get_or-drop, take-add}
use borrow.Author.Tests.{le-leb, leb-true}
use Rattle.book.specs.Book.{Limits}
use Rattle.book.specs.declared.Entry.{Entry}
use Rattle.book.specs.declared.Kind.{Kind}
use Rattle.layout.specs.Judged.{entries_at, entry_at, kind_at, kinds_at, row_fits, rows_fit}
use Rattle.layout.specs.Layout.{entry_bytes, flat, kind_bytes}
use Rattle.lists.proofs.Bytes.{bytes-at}
use Rattle.lists.proofs.Tests.{and_yes}
use Rattle.lists.specs.Lists.{All, Bytes, one}
use Rattle.tapa.specs.Numbers.{two_bytes, word_at}

-- ---- how long they are

pub kinds-long : (ks : List Kind) → length (flat kind_bytes ks) ≡ length ks * 3
kinds-long [] = refl
kinds-long (k ∷ ks) = omega (arith, kinds-long ks)

pub entries-long : (l : List Entry) → length (flat entry_bytes l) ≡ length l * 6
entries-long [] = refl
entries-long (x ∷ l) = omega (arith, entries-long l)

-- ---- written, then read

-- what stands from a place on
module _ (img w : List ℕ) (at : ℕ) (e : drop at img ≡ w) where
  behind : (j : ℕ) → get_or img (at + j) 0 ≡ get_or w j 0
  behind j = sym (get_or-drop at img j 0) ∙ ap (λ (l : List ℕ). get_or l j 0) e

  here : get_or img at 0 ≡ get_or w 0 0
  here = ap (λ (n : ℕ). get_or img n 0) (let z : at ≡ at + 0 = omega arith in z) ∙ behind 0

  next : (n : ℕ) → drop (at + n) img ≡ drop n w
  next n = sym (drop-drop n at img) ∙ ap (drop n) e

pub word_of : (img rest : List ℕ) (at x : ℕ) → drop at img ≡ two_bytes x ++ rest → word_at img at ≡ x
word_of img rest at x e =
    let a = here img (two_bytes x ++ rest) at e in
    let b = behind img (two_bytes x ++ rest) at e 1 in
    omega arith

flag-of : (m : Bool) → (eqb (one m) 1 ≡ m) × (leb (one m) 1 ≡ true)
flag-of true = (refl, refl)
flag-of false = (refl, refl)

pub kinds-of : (img rest : List ℕ) (at : ℕ) (ks : List Kind) → drop at img ≡ flat kind_bytes ks ++ rest → kinds_at img at (length ks) ≡ ks
kinds-of img rest at [] e = refl
kinds-of img rest at (k ∷ ks) e =
    let w : List ℕ = flat kind_bytes (k ∷ ks) ++ rest in
    let a : eqb (get_or img at 0) 1 ≡ k.made = ap (λ (n : ℕ). eqb n 1) (here img w at e) ∙ (flag-of k.made).0 in
    let b : get_or img (at + 1) 0 ≡ k.keymax = behind img w at e 1 in
    let c : get_or img (at + 2) 0 ≡ k.recmax = behind img w at e 2 in
    λ i. record { made = a i; keymax = b i; recmax = c i } ∷ kinds-of img rest (at + 3) ks (next img w at e 3) i

pub rows_of : (img rest : List ℕ) (at : ℕ) (ks : List Kind) → All Limits ks → drop at img ≡ flat kind_bytes ks ++ rest → rows_fit img at (length ks) ≡ true
rows_of img rest at [] a e = refl
rows_of img rest at (k ∷ ks) a e =
    let w : List ℕ = flat kind_bytes (k ∷ ks) ++ rest in
    let t : leb (get_or img at 0) 1 ≡ true = ap (λ (n : ℕ). leb n 1) (here img w at e) ∙ (flag-of k.made).1 in
    let u : leb (get_or img (at + 2) 0) 128 ≡ true = ap (λ (n : ℕ). leb n 128) (behind img w at e 2) ∙ le-leb k.recmax 128 a.0.body in
    rw (t, u) (rows_of img rest (at + 3) ks a.1 (next img w at e 3))

pub entries-of : (img rest : List ℕ) (at : ℕ) (l : List Entry) → drop at img ≡ flat entry_bytes l ++ rest → entries_at img at (length l) ≡ l
entries-of img rest at [] e = refl
entries-of img rest at (x ∷ l) e =
    let w : List ℕ = flat entry_bytes (x ∷ l) ++ rest in
    let f : get_or img at 0 ≡ x.file = here img w at e in
    let p : word_at img (at + 1) ≡ x.pointer = word_of img (drop 3 w) (at + 1) x.pointer (next img w at e 1) in
    let s : get_or img (at + 3) 0 ≡ x.slot = behind img w at e 3 in
    let k : get_or img (at + 4) 0 ≡ x.keylen = behind img w at e 4 in
    let n : get_or img (at + 5) 0 ≡ x.len = behind img w at e 5 in
    λ i. record { file = f i; pointer = p i; slot = s i; keylen = k i; len = n i } ∷ entries-of img rest (at + 6) l (next img w at e 6) i

-- ---- read, then written

pub word_back : (img : List ℕ) (at : ℕ) → Bytes img → at + 2 ≤ length img → two_bytes (word_at img at) ≡ take 2 (drop at img)
word_back img at bytes h =
    let a : word_at img at / 256 ≡ get_or img at 0 = omega (arith, bytes (at + 1)) in
    let b : word_at img at % 256 ≡ get_or img (at + 1) 0 = omega (arith, bytes (at + 1)) in
    (λ i. a i ∷ b i ∷ []) ∙ sym (bytes-at img at 1 h)

flag-back : (n : ℕ) → n ≤ 1 → one (eqb n 1) ≡ n
flag-back zero h = refl
flag-back (suc zero) h = refl
flag-back (suc (suc n)) h = absurd (omega arith)

-- a part with another behind it
joins : (img p q : List ℕ) (at n m k : ℕ) → p ≡ take n (drop at img) → q ≡ take m (drop (at + n) img) → n + m ≡ k → p ++ q ≡ take k (drop at img)
joins img p q at n m k e f s =
    (λ i. e i ++ (f ∙ ap (take m) (sym (drop-drop n at img))) i)
    ∙ sym (take-add n m (drop at img)) ∙ ap (λ (j : ℕ). take j (drop at img)) s

pub kinds-back : (img : List ℕ) (at k : ℕ) → at + k * 3 ≤ length img → rows_fit img at k ≡ true → flat kind_bytes (kinds_at img at k) ≡ take (k * 3) (drop at img)
kinds-back img at zero h f = refl
kinds-back img at (suc k) h f =
    let t = and_yes (row_fits img at) (rows_fit img (at + 3) k) f in
    let u = and_yes (leb (get_or img at 0) 1) (leb (get_or img (at + 2) 0) 128) t.0 in
    let row : kind_bytes (kind_at img at) ≡ take 3 (drop at img) =
    (λ i. flag-back (get_or img at 0) (leb-true (get_or img at 0) 1 u.0) i ∷ get_or img (at + 1) 0 ∷ get_or img (at + 2) 0 ∷ []) ∙ sym (bytes-at img at 2 (omega arith)) in
    joins img (kind_bytes (kind_at img at)) (flat kind_bytes (kinds_at img (at + 3) k)) at 3 (k * 3) (suc k * 3) row (kinds-back img (at + 3) k (omega arith) t.1) (omega arith)

pub entries-back : (img : List ℕ) (at k : ℕ) → Bytes img → at + k * 6 ≤ length img → flat entry_bytes (entries_at img at k) ≡ take (k * 6) (drop at img)
entries-back img at zero bytes h = refl
entries-back img at (suc k) bytes h =
    let x = entry_at img at in
    let far : get_or img ((at + 1) + 1) 0 ≡ get_or img (at + 2) 0 = ap (λ (n : ℕ). get_or img n 0) (let z : (at + 1) + 1 ≡ at + 2 = omega arith in z) in
    let a : x.pointer / 256 ≡ get_or img (at + 1) 0 = omega (arith, bytes (at + 2)) in
    let b : x.pointer % 256 ≡ get_or img (at + 2) 0 = omega (arith, bytes (at + 2)) in
    let entry : entry_bytes x ≡ take 6 (drop at img) =
    (λ i. get_or img at 0 ∷ a i ∷ b i ∷ get_or img (at + 3) 0 ∷ get_or img (at + 4) 0 ∷ get_or img (at + 5) 0 ∷ []) ∙ sym (bytes-at img at 5 (omega arith)) in
    joins img (entry_bytes x) (flat entry_bytes (entries_at img (at + 6) k)) at 6 (k * 6) (suc k * 6) entry (entries-back img (at + 6) k bytes (omega arith)) (omega arith)

-- ---- what stands in bytes

module _ (img : List ℕ) (bytes : Bytes img) where
  pub kinds-limits : (at k : ℕ) → rows_fit img at k ≡ true → All Limits (kinds_at img at k)
  kinds-limits at zero f = tt
  kinds-limits at (suc k) f =
      let t = and_yes (row_fits img at) (rows_fit img (at + 3) k) f in
      let u = and_yes (leb (get_or img at 0) 1) (leb (get_or img (at + 2) 0) 128) t.0 in
      (record { key = omega (arith, bytes (at + 1)); body = leb-true (get_or img (at + 2) 0) 128 u.1 }, kinds-limits (at + 3) k t.1)

  pub slots_small : (at k : ℕ) → All (λ (x : Entry). x.slot ≤ 255) (entries_at img at k)
  slots_small at zero = tt
  slots_small at (suc k) = (omega (arith, bytes (at + 3)), slots_small (at + 6) k)
