-- A line has 64 bytes at most, where its numbers are small; and every item that is handed out is so. Assumes nothing.
use Prim.Native.Nat.{◌≤◌}
use mathlib.Core.Path.{◌≡◌, refl}
use native.Mathlib.Omega.{arith}
use lib.ListN.{length}
use Rattle.message.specs.Message.{response_of, message_of}
use Rattle.rules.specs.declared.Outcome.{Outcome}
use Rattle.rules.specs.declared.Outcome.TheVariants.{Passed, Answered, Swallowed, Event, Turned, Given, Reset, Refused}
use Rattle.lines.proofs.Short.{step-short, broken-short, table-short, long-short, totals-short}
use Rattle.run.specs.declared.Item.{Item}
use Rattle.run.specs.declared.Item.TheVariants.{Came, Over, Broken, Refused as RefusedTable, TooLong, Nothing}
use Rattle.run.specs.Run.{reply_of}
use Rattle.run.specs.State.{Small}
use Rattle.transcript.specs.Prescribed.{line_with, line_of}

-- ten bytes of reply
ten : (o : Outcome) → length (reply_of o) ≡ 10
unfolding response_of message_of
ten (Passed asker asked kind t) = refl
ten (Answered asked asker t k) = refl
ten (Swallowed asked t) = refl
ten Event = refl
ten (Turned asker asked t k) = refl
ten (Given asker asked t) = refl
ten (Reset h) = refl
ten (Refused r) = refl

pub short : (i : Item) → Small i → length (line_of i) ≤ 64
unfolding line_with
short (Came k o) h = step-short k o (reply_of o) (omega arith) (ten o)
short (Over t) h =
    totals-short t.accepted t.answered t.given t.waiting t.owing (omega (arith, h.0)) (omega (arith, h.1)) (omega (arith, h.2)) (omega (arith, h.3)) (omega (arith, h.4))
short (Broken n) h = broken-short n (omega arith)
short (RefusedTable r) h = table-short r
short TooLong h = long-short
short Nothing h = omega arith
