-- Pieces one after the other. Assumes nothing.
use Prim.Native.Nat.{◌+◌, suc, zero, ℕ, ◌≤◌}
use mathlib.Core.List.{◌++◌, List, [], append_assoc, append-nil, ◌∷◌}
use mathlib.Core.Path.{ap, refl, sym, ◌∙◌, ◌≡◌}
use native.Mathlib.Omega.{arith}
use lib.ListN.{drop, length, take}
use lib.Seq.{drop_at, length-take-le, take-add, take-take}
use Rattle.lists.specs.Lists.{joined}

-- the first pieces with one more
pub next-line : (k : ℕ) (ls : List (List ℕ)) (l : List ℕ) (rest : List (List ℕ)) → drop k ls ≡ l ∷ rest
    → (joined (take (suc k) ls) ≡ joined (take k ls) ++ l) × (drop (suc k) ls ≡ rest)
next-line zero [] l rest e = let z : ◌≡◌ {A = ℕ} 0 1 = cc in absurd (omega arith)
next-line zero (x ∷ ls) l rest e = (append-nil x ∙ cc, cc)
next-line (suc k) [] l rest e = let z : ◌≡◌ {A = ℕ} 0 1 = cc in absurd (omega arith)
next-line (suc k) (x ∷ ls) l rest e =
    let h = next-line k ls l rest e in
    (ap (λ (y : List ℕ). x ++ y) h.0 ∙ sym (append_assoc x (joined (take k ls)) l), h.1)

-- split behind so many pieces
pub joined-split : (k : ℕ) (ls : List (List ℕ)) → joined ls ≡ joined (take k ls) ++ joined (drop k ls)
joined-split zero ls = refl
joined-split (suc k) [] = refl
joined-split (suc k) (l ∷ ls) = ap (λ (x : List ℕ). l ++ x) (joined-split k ls) ∙ sym (append_assoc l (joined (take k ls)) (joined (drop k ls)))

-- so many pieces, and then so many more
pub joined-take : (n m : ℕ) (ls : List (List ℕ)) → n ≤ length ls → joined (take (n + m) ls) ≡ joined (take n ls) ++ joined (take m (drop n ls))
joined-take n m ls h =
    let d : drop n (take (n + m) ls) ≡ take m (drop n ls) = ap (drop n) (take-add n m ls) ∙ drop_at (take n ls) (take m (drop n ls)) n (length-take-le n ls h) in
    joined-split n (take (n + m) ls) ∙ rw (d, take-take n (n + m) ls (omega arith))

-- one piece more at the end
pub joined-more : (ps : List (List ℕ)) (p : List ℕ) → joined (ps ++ (p ∷ [])) ≡ joined ps ++ p
joined-more [] p = append-nil p
joined-more (x ∷ ps) p = ap (λ (y : List ℕ). x ++ y) (joined-more ps p) ∙ sym (append_assoc x (joined ps) p)
