-- Elements by their places, counted from the front of a list: the first element stands at place 0.
use Rattle.std.specs.Prelude.{suc, zero, ℕ, Bool, cond, false, true, List, [], ◌∷◌, Option, Some, None}

-- whether a search ended at an element
abbrev pub is_at : Option ℕ → Bool
is_at None = false
is_at (Some i) = true

-- where the last of a list stands that has one element more in front, which passes or not
abbrev pub later : Option ℕ → Bool → Option ℕ
later None b = cond b (Some 0) None
later (Some i) b = Some (suc i)

module _ {A : Type 0} where
  -- the place of the first that passes; the first element stands at place n
  abbrev pub place : (A → Bool) → ℕ → List A → Option ℕ
  place q n [] = None
  place q n (x ∷ xs) = cond (q x) (Some n) (place q (suc n) xs)

  -- the place of the last that passes
  abbrev pub last : (A → Bool) → List A → Option ℕ
  last q [] = None
  last q (x ∷ xs) = later (last q xs) (q x)

  -- the list without what stands at a place; past the end it stays as it is
  abbrev pub cut : List A → ℕ → List A
  cut [] i = []
  cut (x ∷ xs) zero = xs
  cut (x ∷ xs) (suc i) = x ∷ cut xs i

  -- a list turned round, in front of another
  abbrev pub turned_onto : List A → List A → List A
  turned_onto o [] = o
  turned_onto o (x ∷ xs) = turned_onto (x ∷ o) xs
