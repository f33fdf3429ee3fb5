-- The digits and some numbers, written out.
use mathlib.Core.Path.{◌≡◌, refl}
use mathlib.Core.List.{[], ◌∷◌, map}
use Rattle.text.specs.Text.{ascii, digit_of, hexes_of, word_hex_of, decimal_of}

-- 'upper-case hex'
pub sixteen : map digit_of (0 ∷ 1 ∷ 2 ∷ 3 ∷ 4 ∷ 5 ∷ 6 ∷ 7 ∷ 8 ∷ 9 ∷ 10 ∷ 11 ∷ 12 ∷ 13 ∷ 14 ∷ 15 ∷ []) ≡ ascii "0123456789ABCDEF"
sixteen = refl

pub in-hex : (hexes_of (0x00 ∷ 0x9A ∷ 0xBC ∷ 0xDE ∷ 0xFF ∷ []) ≡ ascii "009ABCDEFF") × (word_hex_of 0x0A81 ≡ ascii "0A81")
in-hex = (refl, refl)

pub in-decimals : (decimal_of 0 ≡ ascii "0") × (decimal_of 9 ≡ ascii "9") × (decimal_of 10 ≡ ascii "10") × (decimal_of 1032 ≡ ascii "1032")
unfolding decimal_of
in-decimals = (refl, refl, refl, refl)
