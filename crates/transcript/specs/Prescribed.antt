-- The session program: the lines that an input prescribes, all of them and in order.
use Rattle.std.specs.Prelude.{ℕ, List, [], map}
use Rattle.rules.specs.Said.{said_outcome}
use Rattle.lines.specs.Lines.{step_line, totals_line, broken_line, table_line, long_line}
use Rattle.run.specs.declared.Item.{Item}
use Rattle.run.specs.declared.Item.TheVariants.{Came, Over, Broken, Refused, TooLong, Nothing}
use Rattle.run.specs.declared.Session.{Session}
use Rattle.run.specs.Run.{reply_in, run_of}
use Rattle.run.specs.State.{items_in}

-- the line of an item, with what stands in the reply buffer
unfoldable pub line_with : Item → (reply : List ℕ) → List ℕ
line_with (Came k o) reply = step_line k (said_outcome o) reply
line_with (Over t) reply = totals_line t.accepted t.answered t.given t.waiting t.owing
line_with (Broken n) reply = broken_line n
line_with (Refused r) reply = table_line r
line_with TooLong reply = long_line
line_with Nothing reply = []

abbrev pub line_of : Item → List ℕ
line_of i = line_with i (reply_in i)

-- 'One line a field after the rows .. Last line `totals` ..'
abbrev pub prescribed : List ℕ → List (List ℕ)
prescribed s = map line_of (run_of s)

-- those that are left to print in a state
abbrev pub lines_left : List ℕ → Session → List (List ℕ)
lines_left s w = map line_of (items_in s w)
