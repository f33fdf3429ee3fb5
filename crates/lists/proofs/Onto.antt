-- Bytes written at the start of a buffer, and then on from where they ended.
use Prim.Native.Nat.{ℕ, ◌+◌, ◌-◌, ◌≤◌}
use mathlib.Core.Path.{◌≡◌, sym, ap, ◌∙◌}
use mathlib.Core.List.{List, [], ◌++◌, append_assoc, append-nil}
use native.Mathlib.Nat.{le_of_eq}
use native.Mathlib.Omega.{arith}
use lib.ListN.{length, take, drop, length-append, length-drop, take-append-drop, drop_of_length-le}
use lib.Seq.{take_all, take-length, take_at, drop_at, length-take-le, drop-append-add, drop-drop, sets, sets-eq}
use borrow.Rule.Slice.PartMut.{put_mid}
use Rattle.lists.specs.Lists.{onto}

-- a buffer keeps its length
pub onto-length : (h buffer : List ℕ) → length h ≤ length buffer → length (onto h buffer) ≡ length buffer
onto-length h buffer l = simp (length-append, length-drop) (omega arith)

-- the bytes p copied into the part that starts after the head h: both stand at the start, and the rest stays
pub onto-then : (h p buffer : List ℕ) (k : ℕ) → length h ≡ k → k + length p ≤ length buffer
    → (x r : List ℕ) → x ≡ onto h buffer → r ≡ take (length p) p ++ drop (length p) (take (length x - k) (drop k x))
    → put_mid k (length x - k) x r ≡ onto (h ++ p) buffer
onto-then h p buffer k e l x r ex er =
    let n : length x ≡ length buffer = ap length ex ∙ onto-length h buffer (omega arith) in
    let rest : drop k x ≡ drop k buffer =
    ap (drop k) ex ∙ drop_at h (drop (length h) buffer) k e ∙ ap (λ (j : ℕ). drop j buffer) e in
    let long : length (drop k x) ≡ length x - k = length-drop k x in
    let all : take (length x - k) (drop k x) ≡ drop k buffer = take_all (length x - k) (drop k x) (le_of_eq long) ∙ rest in
    let front : take k x ≡ h = ap (take k) ex ∙ take_at h (drop (length h) buffer) k e in
    let back : r ≡ p ++ drop (k + length p) buffer =
    er ∙ ap (λ (y : List ℕ). y ++ drop (length p) (take (length x - k) (drop k x))) (take-length p)
    ∙ ap (λ (y : List ℕ). p ++ drop (length p) y) all ∙ ap (λ (y : List ℕ). p ++ y) (drop-drop (length p) k buffer) in
    let none : drop (length x - k) (drop k x) ≡ [] = drop_of_length-le (drop k x) (le_of_eq long) in
    let size : length (h ++ p) ≡ k + length p = length-append h p ∙ ap (λ (j : ℕ). j + length p) e in
    rw (front, none, back, append-nil, size, append_assoc)

-- the same by stores, one after the other
pub onto-stores : (h vs buffer : List ℕ) (k : ℕ) → length h ≡ k → k + length vs ≤ length buffer
    → (x : List ℕ) → x ≡ onto h buffer → sets x k vs ≡ onto (h ++ vs) buffer
onto-stores h vs buffer k e l x ex =
    let n : length x ≡ length buffer = ap length ex ∙ onto-length h buffer (omega arith) in
    let front : take k x ≡ h = ap (take k) ex ∙ take_at h (drop (length h) buffer) k e in
    let rest : drop k x ≡ drop k buffer =
    ap (drop k) ex ∙ drop_at h (drop (length h) buffer) k e ∙ ap (λ (j : ℕ). drop j buffer) e in
    let back : drop (k + length vs) x ≡ drop (k + length vs) buffer =
    sym (drop-drop (length vs) k x) ∙ ap (drop (length vs)) rest ∙ drop-drop (length vs) k buffer in
    let size : length (h ++ vs) ≡ k + length vs = length-append h vs ∙ ap (λ (j : ℕ). j + length vs) e in
    sets-eq vs x k (omega arith) ∙ rw (front, back, size, append_assoc)

-- a buffer's own start, written again
pub own-start : (k : ℕ) (b : List ℕ) → k ≤ length b → b ≡ onto (take k b) b
own-start k b l = rw (length-take-le k b l) (sym (take-append-drop k b))

-- what is written over a shorter writing leaves nothing of it
pub onto-over : (u s b : List ℕ) → length s ≤ length u → onto u (onto s b) ≡ onto u b
onto-over u s b l =
    let k : ℕ = length u - length s in
    let e : length u ≡ length s + k = omega arith in
    let past : drop (length u) (onto s b) ≡ drop (length u) b =
    ap (λ (i : ℕ). drop i (onto s b)) e ∙ drop-append-add s (drop (length s) b) k ∙ drop-drop k (length s) b ∙ ap (λ (i : ℕ). drop i b) (sym e) in
    ap (λ (y : List ℕ). u ++ y) past

-- the part from the start is a prefix
pub prefix : (k : ℕ) (b : List ℕ) → take (k - 0) (drop 0 b) ≡ take k b
prefix k b =
    let e : k - 0 ≡ k = omega arith in
    ap (λ (i : ℕ). take i b) e
