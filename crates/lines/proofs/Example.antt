-- Each line written out. Assumes nothing.
use Prim.Native.Nat.{ℕ}
use mathlib.Core.Path.{◌≡◌, refl}
use mathlib.Core.List.{List, [], ◌∷◌}
use Rattle.tapa.specs.declared.Refusal.TheVariants.{RowCountOrShape, MoreThanAnnounced}
use Rattle.text.specs.Text.{ascii, decimal_of}
use Rattle.rules.specs.declared.Outcome.{Outcome}
use Rattle.rules.specs.declared.Outcome.TheVariants.{Passed, Answered, Swallowed, Event, Turned, Given, Reset, Refused}
use Rattle.rules.specs.Said.{said_outcome}
use Rattle.message.specs.Message.{response_of, message_of}
use Rattle.lines.specs.Lines.{word_of, text_of, step_line, totals_line, broken_line, table_line, long_line}

-- what stands in the reply buffer: '0202' turns '0100' back on thread 3, with code 'FFF5'
abbrev reply : List ℕ
reply = 0x01 ∷ 0x00 ∷ 0x02 ∷ 0x02 ∷ 0xFF ∷ 0x03 ∷ 0x00 ∷ 0x02 ∷ 0xFF ∷ 0xF5 ∷ []

abbrev line : ℕ → Outcome → List ℕ
line k o = step_line k (said_outcome o) reply

-- ---- the line of a step

pub a-step : (line 1 (Passed 0x0100 0x0202 0x45 3) ≡ ascii "1 passed 0202\n")
    × (line 23 (Answered 0x0202 0x0100 3 0xFF24) ≡ ascii "23 answered 0100\n")
    × (line 4 (Swallowed 0x0202 3) ≡ ascii "4 swallowed\n")
    × (line 5 Event ≡ ascii "5 event\n")
    × (line 6 (Turned 0x0100 0x0202 3 0xFFF5) ≡ ascii "6 turned 01000202FF030002FFF5\n")
    × (line 7 (Given 0x0100 0x0202 3) ≡ ascii "7 given 01000202FF030002FFF5\n")
    × (line 8 (Reset 0x0202) ≡ ascii "8 reset\n")
unfolding word_of text_of response_of message_of decimal_of
a-step = (refl, refl, refl, refl, refl, refl, refl)

-- 'with the destination': all sixteen bits of it, whatever the address
pub with-the-destination : (line 1 (Passed 0x0181 0x0282 0x45 3) ≡ ascii "1 passed 0282\n") × (line 2 (Answered 0x0282 0x0181 3 0) ≡ ascii "2 answered 0181\n")
    × (line 3 (Passed 0x0100 0x04EF 0x61 3) ≡ ascii "3 passed 04EF\n")
unfolding word_of text_of decimal_of
with-the-destination = (refl, refl, refl)

-- a refusal's number is decimal: '9 refused 19' and LF, byte for byte
pub nineteen : line 9 (Refused MoreThanAnnounced) ≡ 0x39 ∷ 0x20 ∷ 0x72 ∷ 0x65 ∷ 0x66 ∷ 0x75 ∷ 0x73 ∷ 0x65 ∷ 0x64 ∷ 0x20 ∷ 0x31 ∷ 0x39 ∷ 0x0A ∷ []
unfolding text_of decimal_of
nineteen = refl

-- ---- the other lines

pub totals : totals_line 12 5 4 3 2 ≡ ascii "totals 12 5 4 3 2\n"
unfolding decimal_of
totals = refl

pub a-broken-field : broken_line 17 ≡ ascii "broken 17\n"
unfolding decimal_of
a-broken-field = refl

pub a-refused-table : table_line RowCountOrShape ≡ ascii "table refused 11\n"
unfolding decimal_of
a-refused-table = refl

pub too_long : long_line ≡ ascii "too long\n"
too_long = refl
