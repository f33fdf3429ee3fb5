-- Two lines with words below the first, computed from the definitions. Assumes nothing.
use mathlib.Core.Path.{◌≡◌, refl}
use mathlib.Core.List.{◌++◌}
use Rattle.text.specs.Text.{ascii}
use Rattle.blocks.specs.Words.{indented}
use Rattle.blocks.specs.Blocks.{heads}

-- each line of the words is set in, and the last is closed
pub set-in : indented (ascii "It asks.\nThe answer waits.") ≡ ascii "    It asks.\n    The answer waits.\n"
unfolding indented
set-in = refl

-- an empty line too, and what is closed is not closed again
pub set-in-closed : indented (ascii "\nIt asks.\n") ≡ ascii "    \n    It asks.\n"
unfolding indented
set-in-closed = refl

pub two-lines : heads (ascii "1 passed 0001\n    It asks.\n    The answer waits.\ntotals 1 0 0 1 0\n") ≡ ascii "1 passed 0001\ntotals 1 0 0 1 0\n"
unfolding heads
two-lines = refl

-- words that look like a line do not pass for one
pub no-forgery : heads (ascii "1 passed 0001\n" ++ (indented (ascii "It asks.\ntotals 9 9 9 9 9\n") ++ ascii "totals 1 0 0 1 0\n"))
    ≡ ascii "1 passed 0001\ntotals 1 0 0 1 0\n"
unfolding heads indented
no-forgery = refl
