-- The session program: the text of each line. 'every line ends in LF'
use Rattle.std.specs.Prelude.{ℕ, Bool, List, [], ◌∷◌, ◌++◌, eqb}
use Rattle.lists.specs.Lists.{checks}
use Rattle.tapa.specs.Refusals.{number_of}
use Rattle.tapa.specs.Said.{Said, refused, says, Word, rank, passed, answered, turned, given, swallowed, event, reset}
use Rattle.tapa.specs.declared.Refusal.{Refusal}
use Rattle.text.specs.Text.{ascii, decimal_of, hexes_of, word_hex_of}

abbrev pub lf : List ℕ
lf = ascii "\n"

-- '`passed` or `answered` .., `turned` or `given` .., `swallowed`, `event`, `reset`': no other word is said of a step
abbrev pub words : Word → List (Bool × List ℕ)
words w =
    (eqb (rank w) (rank passed), ascii "passed")
    ∷ (eqb (rank w) (rank answered), ascii "answered")
    ∷ (eqb (rank w) (rank turned), ascii "turned")
    ∷ (eqb (rank w) (rank given), ascii "given")
    ∷ (eqb (rank w) (rank swallowed), ascii "swallowed")
    ∷ (eqb (rank w) (rank event), ascii "event")
    ∷ (eqb (rank w) (rank reset), ascii "reset")
    ∷ []

unfoldable pub word_of : Word → List ℕ
word_of w = checks (words w) []

-- 'with the destination', or 'with the 10 reply bytes (upper-case hex ..)': one value is an address, more are a reply, whose bytes stand in the reply buffer
abbrev pub values_of : (values reply : List ℕ) → List ℕ
values_of [] reply = []
values_of (a ∷ []) reply = ascii " " ++ word_hex_of a
values_of (a ∷ b ∷ l) reply = ascii " " ++ hexes_of reply

-- what the page says of a step, as text: its word and its values, or '`refused` with a number'
unfoldable pub text_of : Said → (reply : List ℕ) → List ℕ
text_of (refused n) reply = ascii " refused " ++ decimal_of n
text_of (says w values) reply = ascii " " ++ (word_of w ++ values_of values reply)

-- 'One line a field after the rows, numbered from 1'
abbrev pub step_line : ℕ → Said → (reply : List ℕ) → List ℕ
step_line k said reply = decimal_of k ++ (text_of said reply ++ lf)

-- a word and a number
abbrev pub counted : List ℕ → ℕ → List ℕ
counted word n = word ++ decimal_of n

-- 'Last line `totals`: accepted, answered, given up, waiting, owing.'
abbrev pub totals_line : (accepted answered given waiting owing : ℕ) → List ℕ
totals_line a b c d e =
    counted (ascii "totals ") a
    ++ (counted (ascii " ") b
    ++ (counted (ascii " ") c
    ++ (counted (ascii " ") d
    ++ (counted (ascii " ") e
    ++ lf))))

-- 'a broken field .. prints `broken` and its number'
abbrev pub broken_line : ℕ → List ℕ
broken_line n = counted (ascii "broken ") n ++ lf

-- 'A refused table prints `table refused N`'
abbrev pub table_line : Refusal → List ℕ
table_line r = counted (ascii "table refused ") (number_of r) ++ lf

-- 'a longer input printing only `too long`'
abbrev pub long_line : List ℕ
long_line = ascii "too long\n"
