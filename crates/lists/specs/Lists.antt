-- What every room asks of a list. A test is a function into Bool, a count is a number.
use Rattle.std.specs.Prelude.{ℕ, ◌+◌, ◌<◌, Bool, true, false, ◌||◌, cond, List, [], ◌∷◌, ◌++◌, ◌⊎◌, ◌≡◌, eqb, length, take, drop, get_or, Some, None, Option}
use Rattle.std.specs.Borrow.{Bor}

-- 1 for a test that passes
abbrev pub one : Bool → ℕ
one true = 1
one false = 0

module _ {A : Type 0} where
  -- checks in their order: the first test that passes decides, else the last outcome stands
  abbrev pub checks : List (Bool × A) → A → A
  checks [] a = a
  checks (t ∷ ts) a = cond t.0 t.1 (checks ts a)

  -- how many elements pass
  abbrev pub count : (A → Bool) → List A → ℕ
  count q [] = 0
  count q (x ∷ xs) = one (q x) + count q xs

  -- whether some element passes
  abbrev pub some_of : (A → Bool) → List A → Bool
  some_of q [] = false
  some_of q (x ∷ xs) = q x || some_of q xs

  -- those that pass, in order
  abbrev pub keep : (A → Bool) → List A → List A
  keep q [] = []
  keep q (x ∷ xs) = cond (q x) (x ∷ keep q xs) (keep q xs)

  -- the first that passes
  abbrev pub first : (A → Bool) → List A → Option A
  first q [] = None
  first q (x ∷ xs) = cond (q x) (Some x) (first q xs)

  -- the list without the first that passes
  abbrev pub without : (A → Bool) → List A → List A
  without q [] = []
  without q (x ∷ xs) = cond (q x) xs (x ∷ without q xs)

  -- the list with the first that passes changed
  abbrev pub changed : (A → A) → (A → Bool) → List A → List A
  changed f q [] = []
  changed f q (x ∷ xs) = cond (q x) (f x ∷ xs) (x ∷ changed f q xs)

  -- the number of the first that passes: how many stand after it
  abbrev pub find : (A → Bool) → List A → Option ℕ
  find q [] = None
  find q (x ∷ xs) = cond (q x) (Some (length xs)) (find q xs)

  -- the list without the element that has the number i
  abbrev pub without_at : ℕ → List A → List A
  without_at i [] = []
  without_at i (x ∷ xs) = cond (eqb i (length xs)) xs (x ∷ without_at i xs)

  -- the list with that element changed
  abbrev pub changed_at : (A → A) → ℕ → List A → List A
  changed_at f i [] = []
  changed_at f i (x ∷ xs) = cond (eqb i (length xs)) (f x ∷ xs) (x ∷ changed_at f i xs)

  -- every element has P
  abbrev pub All : (A → Type 0) → List A → Type 0
  All P [] = Unit {0}
  All P (x ∷ xs) = P x × All P xs

  -- x stands in the list
  abbrev pub In : A → List A → Type 0
  In x [] = ⊥
  In x (y ∷ xs) = (y ≡ x) ⊎ In x xs

-- ---- bytes

-- what a buffer holds once some bytes were written at its start: the bytes after them stay
abbrev pub onto : List ℕ → List ℕ → List ℕ
onto written buffer = written ++ drop (length written) buffer

-- what a buffer holds once some bytes were written at a place: those before and after them stay
abbrev pub over : List ℕ → ℕ → List ℕ → List ℕ
over bytes at xs = take at bytes ++ (xs ++ drop (at + length xs) bytes)

-- pieces one after the other
abbrev pub joined : List (List ℕ) → List ℕ
joined [] = []
joined (l ∷ ls) = l ++ joined ls

-- every element is a byte, as in each lent slice
abbrev pub Bytes : List ℕ → Type 0
Bytes s = (i : ℕ) → get_or s i 0 < 256

-- ---- parts of a lent slice

-- a part that starts at a place of a lent slice: it stands in the same memory, and is no copy
abbrev pub LiesAt : ℕ → Bor (List ℕ) → Bor (List ℕ) → Type 0
LiesAt at slice part = part.ref_ptr ≡ (slice.ref_ptr.0, at + slice.ref_ptr.1)
