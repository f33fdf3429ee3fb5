-- The least number that a list of numbers leaves free, and two lists of numbers that are the same.
use Rattle.std.specs.Prelude.{◌<◌, suc, zero, ℕ, Bool, cond, false, true, List, [], ◌∷◌, eqb, get_or}
use Rattle.lists.specs.Lists.{some_of}

-- the least number from n on that is not in a list, looking at k numbers at most
abbrev pub lowest : ℕ → ℕ → List ℕ → ℕ
lowest zero n xs = n
lowest (suc k) n xs = cond (some_of (eqb n) xs) (lowest k (suc n) xs) n

-- of the 256 numbers from n on (shut, since a number so large would be counted down wherever it stands)
unfoldable pub least : ℕ → List ℕ → ℕ
least n xs = lowest 256 n xs

-- the same by marks: the least number from n on that is not marked
abbrev pub gap_in : ℕ → ℕ → List Bool → ℕ
gap_in zero n ms = n
gap_in (suc k) n ms = cond (get_or ms n false) (gap_in k (suc n) ms) n

unfoldable pub gap : ℕ → List Bool → ℕ
gap n ms = gap_in 256 n ms

-- numbers that rise, from above m on
abbrev pub Rising : ℕ → List ℕ → Type 0
Rising m [] = Unit {0}
Rising m (x ∷ xs) = (m < x) × Rising x xs

-- the same numbers, in the same order
abbrev pub same : List ℕ → List ℕ → Bool
same [] [] = true
same [] (y ∷ ys) = false
same (x ∷ xs) [] = false
same (x ∷ xs) (y ∷ ys) = cond (eqb x y) (same xs ys) false
