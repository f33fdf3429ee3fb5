-- The message: 'Numbers have the high byte first.'
use Rattle.std.specs.Prelude.{ℕ, ◌+◌, ◌*◌, ◌/◌, ◌%◌, List, [], ◌∷◌, get_or}

-- the number whose two bytes stand from a place on
abbrev pub word_at : List ℕ → ℕ → ℕ
word_at s i = get_or s i 0 * 256 + get_or s (i + 1) 0

-- a number as its two bytes
abbrev pub two_bytes : ℕ → List ℕ
two_bytes n = n / 256 ∷ n % 256 ∷ []
