-- Two lists of numbers are the same exactly where they are equal.
use Prim.Native.Nat.{ℕ}
use mathlib.Core.Bool.{Bool, false, true}
use mathlib.Core.List.{List, [], ◌∷◌}
use mathlib.Core.Path.{refl, sym, ◌∙◌, ◌≡◌}
use lib.Dec.{eqb}
use borrow.Author.Tests.{eq-eqb, eqb-true}
use Rattle.lists.proofs.Tests.{clash, split}
use Rattle.lists.specs.Least.{same}

pub same_self : (xs : List ℕ) → same xs xs ≡ true
same_self [] = refl
same_self (x ∷ xs) = rw (eq-eqb x x refl, same_self xs)

pub same-yes : (xs ys : List ℕ) → xs ≡ ys → same xs ys ≡ true
same-yes xs ys e = rw e (same_self ys)

pub same-eq : (xs ys : List ℕ) → same xs ys ≡ true → xs ≡ ys
same-eq [] [] e = refl
same-eq [] (y ∷ ys) e = clash false e refl
same-eq (x ∷ xs) [] e = clash false e refl
same-eq (x ∷ xs) (y ∷ ys) e =
    split (eqb x y) (λ t. let k : x ≡ y = eqb-true x y t in let m : xs ≡ ys = same-eq xs ys (rw t at e) in cc) (λ t. clash false (rw t at e) refl)

-- a flag that is true exactly where they are equal is `same`
pub same-is : (r : Bool) (xs ys : List ℕ) → (r ≡ true → xs ≡ ys) × (xs ≡ ys → r ≡ true) → r ≡ same xs ys
same-is r xs ys e =
    split r (λ t. t ∙ sym (same-yes xs ys (e.0 t)))
    (λ t. split (same xs ys) (λ u. clash r (e.1 (same-eq xs ys u)) t) (λ u. t ∙ sym u))

pub same_turn : (xs ys : List ℕ) → same xs ys ≡ same ys xs
same_turn xs ys = same-is (same xs ys) ys xs ((λ t. sym (same-eq xs ys t)), (λ e. same-yes xs ys (sym e)))
