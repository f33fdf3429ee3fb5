-- Lists of bytes: put together, taken apart, and from a place on. Assumes nothing.
use Prim.Native.Nat.{◌+◌, ◌<◌, suc, zero, ℕ, ◌≤◌}
use mathlib.Core.Bool.{false}
use mathlib.Core.List.{◌++◌, List, [], ◌∷◌}
use mathlib.Core.Path.{ap, refl, ◌∙◌, ◌≡◌}
use native.Mathlib.Omega.{arith}
use lib.Dec.{leb}
use lib.ListN.{drop, get_or, length, take}
use lib.Seq.{drop-cons, get_or-drop}
use borrow.Author.Tests.{leb-false}
use Rattle.lists.proofs.Tests.{or_no}
use Rattle.lists.specs.Lists.{All, Bytes, some_of}

-- ---- all of them are bytes

bytes-none : Bytes []
bytes-none i = omega arith

bytes-cons : (x : ℕ) (l : List ℕ) → x < 256 → Bytes l → Bytes (x ∷ l)
bytes-cons x l h b zero = h
bytes-cons x l h b (suc i) = b i

pub bytes-all : (l : List ℕ) → All (λ (x : ℕ). x < 256) l → Bytes l
bytes-all [] a = bytes-none
bytes-all (x ∷ l) a = bytes-cons x l a.0 (bytes-all l a.1)

-- by a test, for lists that are written out
pub bytes-tested : (l : List ℕ) → some_of (leb 256) l ≡ false → Bytes l
bytes-tested [] e = bytes-none
bytes-tested (x ∷ l) e = let p = or_no (leb 256 x) (some_of (leb 256) l) e in bytes-cons x l (leb-false 256 x p.0) (bytes-tested l p.1)

pub bytes-append : (l m : List ℕ) → Bytes l → Bytes m → Bytes (l ++ m)
bytes-append [] m b c = c
bytes-append (x ∷ l) m b c = bytes-cons x (l ++ m) (b 0) (bytes-append l m (λ i. b (suc i)) c)

pub bytes_take : (n : ℕ) (l : List ℕ) → Bytes l → Bytes (take n l)
bytes_take zero l b = bytes-none
bytes_take (suc n) [] b = bytes-none
bytes_take (suc n) (x ∷ l) b = bytes-cons x (take n l) (b 0) (bytes_take n l (λ i. b (suc i)))

pub bytes_drop : (n : ℕ) (l : List ℕ) → Bytes l → Bytes (drop n l)
bytes_drop n l b i = rw (get_or-drop n l i 0) (b (n + i))

-- ---- those from a place on, one by one

-- behind a place, from the j-th on
abbrev pub bytes_from : List ℕ → ℕ → ℕ → ℕ → List ℕ
bytes_from l at j zero = []
bytes_from l at j (suc n) = get_or l (at + j) 0 ∷ bytes_from l at (suc j) n

bytes-from : (l : List ℕ) (at j n : ℕ) → at + j + n ≤ length l → take n (drop (at + j) l) ≡ bytes_from l at j n
bytes-from l at j zero h = refl
bytes-from l at j (suc n) h =
    let e : drop (at + j) l ≡ get_or l (at + j) 0 ∷ drop (at + suc j) l =
    drop-cons l (at + j) 0 (omega arith) ∙ ap (λ (k : ℕ). get_or l (at + j) 0 ∷ drop k l) (let z : suc (at + j) ≡ at + suc j = omega arith in z) in
    rw (e, bytes-from l at (suc j) n (omega arith))

pub bytes-at : (l : List ℕ) (at n : ℕ) → at + suc n ≤ length l → take (suc n) (drop at l) ≡ get_or l at 0 ∷ bytes_from l at 1 n
bytes-at l at n h =
    let e : at + 0 ≡ at = omega arith in
    rw e at (bytes-from l at 0 (suc n) (omega arith))
