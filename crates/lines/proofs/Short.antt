-- No line has more than 64 bytes: 'N' is below 100,000 wherever it is printed. Assumes nothing.
use Prim.Native.Nat.{ℕ, ◌+◌, ◌≤◌, ◌<◌}
use mathlib.Core.Path.{◌≡◌}
use mathlib.Core.List.{List, ◌++◌}
use native.Mathlib.Omega.{arith}
use lib.ListN.{length, length-append}
use Rattle.tapa.specs.Refusals.{number_of}
use Rattle.tapa.specs.declared.Refusal.{Refusal}
use Rattle.tapa.specs.declared.Refusal.TheVariants.{TooShort, TooLong, FewerThanAnnounced, NotInTable, ThreadAbove7, NoResponseCode, StrayResponse, WrongAsker, BufferTooSmall, EventCannotBeTaken, RowCountOrShape, Repeat, TooManyMulti, NothingToGiveUp, NotThisPartsMessage, StandsInAWait, NoSourceKept, StatusNotUsable, MoreThanAnnounced, HoldsAQuestion}
use Rattle.text.specs.Text.{ascii, decimal_of, hexes_of}
use Rattle.text.proofs.Laws.{five-digits, hexes-length}
use Rattle.rules.specs.declared.Outcome.{Outcome}
use Rattle.rules.specs.declared.Outcome.TheVariants.{Passed, Answered, Swallowed, Event, Turned, Given, Reset, Refused}
use Rattle.rules.specs.Said.{said_outcome}
use Rattle.message.specs.Message.{response_of, message_of}
use Rattle.lines.specs.Lines.{lf, word_of, text_of, step_line, counted, totals_line, broken_line, table_line, long_line}

few : (r : Refusal) → number_of r < 100000
few TooShort = omega arith
few TooLong = omega arith
few FewerThanAnnounced = omega arith
few NotInTable = omega arith
few ThreadAbove7 = omega arith
few NoResponseCode = omega arith
few StrayResponse = omega arith
few WrongAsker = omega arith
few BufferTooSmall = omega arith
few EventCannotBeTaken = omega arith
few RowCountOrShape = omega arith
few Repeat = omega arith
few TooManyMulti = omega arith
few NothingToGiveUp = omega arith
few NotThisPartsMessage = omega arith
few StandsInAWait = omega arith
few NoSourceKept = omega arith
few StatusNotUsable = omega arith
few MoreThanAnnounced = omega arith
few HoldsAQuestion = omega arith

counted-short : (word : List ℕ) (n : ℕ) → n < 100000 → length (counted word n) ≤ length word + 5
counted-short word n h = omega (arith, length-append word (decimal_of n), five-digits n h)

said-short : (o : Outcome) (reply : List ℕ) → length reply ≡ 10 → length (text_of (said_outcome o) reply) ≤ 28
unfolding word_of text_of response_of message_of
said-short (Passed asker asked kind t) reply h = omega arith
said-short (Answered asked asker t k) reply h = omega arith
said-short (Turned asker asked t k) reply h = omega (arith, length-append (ascii " turned ") (hexes_of reply), hexes-length reply)
said-short (Given asker asked t) reply h = omega (arith, length-append (ascii " given ") (hexes_of reply), hexes-length reply)
said-short (Refused r) reply h = omega (arith, counted-short (ascii " refused ") (number_of r) (few r))
said-short (Swallowed asked t) reply h = omega arith
said-short Event reply h = omega arith
said-short (Reset x) reply h = omega arith

pub step-short : (k : ℕ) (o : Outcome) (reply : List ℕ) → k < 100000 → length reply ≡ 10 → length (step_line k (said_outcome o) reply) ≤ 64
step-short k o reply h e =
    let t = text_of (said_outcome o) reply in
    omega (arith, length-append (decimal_of k) (t ++ lf), length-append t lf, five-digits k h, said-short o reply e)

pub broken-short : (n : ℕ) → n < 100000 → length (broken_line n) ≤ 64
broken-short n h = omega (arith, length-append (counted (ascii "broken ") n) lf, counted-short (ascii "broken ") n h)

pub table-short : (r : Refusal) → length (table_line r) ≤ 64
table-short r =
    omega (arith, length-append (counted (ascii "table refused ") (number_of r)) lf, counted-short (ascii "table refused ") (number_of r) (few r))

pub long-short : length long_line ≤ 64
long-short = omega arith

-- five counts, each of them with a word of 7 bytes at most
pub totals-short : (accepted answered given waiting owing : ℕ)
    → accepted < 100000 → answered < 100000 → given < 100000 → waiting < 100000 → owing < 100000
    → length (totals_line accepted answered given waiting owing) ≤ 64
totals-short v w x y z a b c d e =
    omega (
      arith,
      length-append (counted (ascii "totals ") v) (counted (ascii " ") w ++ (counted (ascii " ") x ++ (counted (ascii " ") y ++ (counted (ascii " ") z ++ lf)))),
      length-append (counted (ascii " ") w) (counted (ascii " ") x ++ (counted (ascii " ") y ++ (counted (ascii " ") z ++ lf))),
      length-append (counted (ascii " ") x) (counted (ascii " ") y ++ (counted (ascii " ") z ++ lf)),
      length-append (counted (ascii " ") y) (counted (ascii " ") z ++ lf),
      length-append (counted (ascii " ") z) lf,
      counted-short (ascii "totals ") v a,
      counted-short (ascii " ") w b,
      counted-short (ascii " ") x c,
      counted-short (ascii " ") y d,
      counted-short (ascii " ") z e,
    )
