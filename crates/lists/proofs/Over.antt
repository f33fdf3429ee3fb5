-- Bytes written into a buffer at a place, and a second piece right behind the first. Assumes nothing.
use Prim.Native.Nat.{◌+◌, ◌-◌, ℕ, ◌≤◌}
use mathlib.Core.List.{◌++◌, List, [], append_assoc, append-nil}
use mathlib.Core.Path.{ap, sym, ◌∙◌, ◌≡◌}
use native.Mathlib.Omega.{arith}
use lib.ListN.{drop, drop_of_length-le, length, length-append, length-drop, length-take, take}
use lib.Seq.{drop-append-add, drop-drop, length-take-le, take_all, take_at, take-length}
use borrow.Rule.Slice.PartMut.{put_mid}
use Rattle.lists.specs.Lists.{onto, over}

pub over-long : (buf : List ℕ) (at : ℕ) (p : List ℕ) → at + length p ≤ length buf → length (over buf at p) ≡ length buf
over-long buf at p h = simp (length-append, length-take, length-drop) (omega arith)

-- a buffer that was written keeps its length
pub kept : (x buf : List ℕ) (at : ℕ) (p : List ℕ) → x ≡ over buf at p → at + length p ≤ length buf → length x ≡ length buf
kept x buf at p e h = ap length e ∙ over-long buf at p h

-- a second piece right behind the first
pub over-more : (buf : List ℕ) (at : ℕ) (p q : List ℕ) → at + length p + length q ≤ length buf
    → over (over buf at p) (at + length p) q ≡ over buf at (p ++ q)
over-more buf at p q h =
    let a : List ℕ = take at buf in
    let d : List ℕ = drop (at + length p) buf in
    let la : length (a ++ p) ≡ at + length p = length-append a p ∙ ap (λ (n : ℕ). n + length p) (length-take-le at buf (omega arith)) in
    let e : over buf at p ≡ (a ++ p) ++ d = sym (append_assoc a p d) in
    let m : (at + length p) + length q ≡ length (a ++ p) + length q = omega arith in
    let n : (at + length p) + length q ≡ at + length (p ++ q) = omega (arith, length-append p q) in
    ap (λ (z : List ℕ). take (at + length p) z ++ (q ++ drop ((at + length p) + length q) z)) e
    ∙ (λ i. take_at (a ++ p) d (at + length p) la i ++ (q ++ (ap (λ (k : ℕ). drop k ((a ++ p) ++ d)) m ∙ drop-append-add (a ++ p) d (length q) ∙ drop-drop (length q) (at + length p) buf ∙ ap (λ (k : ℕ). drop k buf) n) i))
    ∙ append_assoc a p (q ++ drop (at + length (p ++ q)) buf)
    ∙ ap (λ (z : List ℕ). a ++ z) (sym (append_assoc p q (drop (at + length (p ++ q)) buf)))

-- a copied piece
pub copy-over : (buf src r : List ℕ) (at : ℕ) → at + length src ≤ length buf → r ≡ take (length src) src ++ drop (length src) (take (length buf - at) (drop at buf))
    → put_mid at (length buf - at) buf r ≡ over buf at src
copy-over buf src r at h e =
    let t : take (length buf - at) (drop at buf) ≡ drop at buf = take_all (length buf - at) (drop at buf) (omega (arith, length-drop at buf)) in
    let z : drop (length buf - at) (drop at buf) ≡ [] = drop_of_length-le (drop at buf) {i = length buf - at} (omega (arith, length-drop at buf)) in
    rw (z, append-nil {A = ℕ} r) (ap (λ (w : List ℕ). take at buf ++ w) (e ∙ rw (t, take-length src, drop-drop (length src) at buf)))

-- from the start on, it is what `onto` says
pub over-start : (buf p : List ℕ) → over buf 0 p ≡ onto p buf
over-start buf p = ap (λ (n : ℕ). p ++ drop n buf) (let e : 0 + length p ≡ length p = omega arith in e)

-- one piece more, behind those that stand from the start on
pub then : (buf p q x y : List ℕ) (n : ℕ) → x ≡ over buf 0 p → n ≡ length p → y ≡ over x n q → length p + length q ≤ length buf → y ≡ over buf 0 (p ++ q)
then buf p q x y n ex en ey h =
    let m : n ≡ 0 + length p = omega arith in
    ey ∙ (λ i. over (ex i) (m i) q) ∙ over-more buf 0 p q (omega arith)
