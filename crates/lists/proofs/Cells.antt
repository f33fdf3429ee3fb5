-- Laws of the cells of an array: what a store keeps.
use Prim.Native.Nat.{ℕ, zero, suc, ◌-◌, ◌<◌}
use mathlib.Core.Path.{◌≡◌, refl, ap, ◌∙◌}
use mathlib.Core.List.{List, [], ◌∷◌}
use native.Mathlib.Omega.{arith}
use lib.ListN.{replicate, drop, get_or, set}

-- each cell of an array of one value holds it, and so does what stands for a cell past its end
pub same-all : {A : Type 0} (n j : ℕ) (d : A) → get_or (replicate n d) j d ≡ d
same-all zero j d = refl
same-all (suc n) zero d = refl
same-all (suc n) (suc j) d = same-all n j d

-- what every cell has, and what is stored has too, every cell has after the store
pub set_all : (P : ℕ → Type 0) (l : List ℕ) (i v : ℕ) → P v → ((j : ℕ) → P (get_or l j 0)) → (j : ℕ) → P (get_or (set l i v) j 0)
set_all P [] i v g h j = h j
set_all P (x ∷ l) zero v g h zero = g
set_all P (x ∷ l) zero v g h (suc j) = h (suc j)
set_all P (x ∷ l) (suc i) v g h zero = h 0
set_all P (x ∷ l) (suc i) v g h (suc j) = set_all P l i v g (λ k. h (suc k)) j

-- so numbers below a bound stay below it
pub set-small : (l : List ℕ) (i v b : ℕ) → v < b → ((j : ℕ) → get_or l j 0 < b) → (j : ℕ) → get_or (set l i v) j 0 < b
set-small l i v b g h = set_all (λ (x : ℕ). x < b) l i v g h

-- the end of an array of one value
pub drop-replicate : (n m v : ℕ) → drop n (replicate m v) ≡ replicate (m - n) v
drop-replicate zero m v = ap (λ (k : ℕ). replicate k v) (let e : m ≡ m - 0 = omega arith in e)
drop-replicate (suc n) zero v = ap (λ (k : ℕ). replicate k v) (let e : 0 ≡ 0 - suc n = omega arith in e)
drop-replicate (suc n) (suc m) v = drop-replicate n m v ∙ ap (λ (k : ℕ). replicate k v) (let e : m - n ≡ suc m - suc n = omega arith in e)
