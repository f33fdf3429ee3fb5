-- An array that holds a list. Each element is packed into a number. The first n cells are in use, the oldest element first; the rest are zeros.
use Rattle.std.specs.Prelude.{ℕ, zero, suc, ◌≤◌, ◌≡◌, List, [], ◌∷◌, length, get_or}

module _ {A : Type 0} where
  -- the elements, the newest first: an element's number is its cell's index
  abbrev pub held : (ℕ → A) → List ℕ → ℕ → List A
  held unpack l zero = []
  held unpack l (suc n) = unpack (get_or l n 0) ∷ held unpack l n

  -- a number is that of the element that is read from it
  abbrev pub Exact : (A → ℕ) → (ℕ → A) → ℕ → Type 0
  Exact pack unpack x = pack (unpack x) ≡ x

  -- the law: as many cells as the array has and no more, each the number of what it holds, and zeros past the list
  pub record Holding (size : ℕ) (pack : A → ℕ) (unpack : ℕ → A) (l : List ℕ) (n : ℕ) : Type 0 where
    pub few : n ≤ size
    pub long : length l ≡ size
    pub exact : (j : ℕ) → Exact pack unpack (get_or l j 0)
    pub free : (j : ℕ) → n ≤ j → get_or l j 0 ≡ 0

  -- what a change of the array shows: it holds these elements, and keeps the law
  pub record Becoming (size : ℕ) (pack : A → ℕ) (unpack : ℕ → A) (l : List ℕ) (n : ℕ) (xs : List A) : Type 0 where
    pub holds : held unpack l n ≡ xs
    pub law : Holding size pack unpack l n
