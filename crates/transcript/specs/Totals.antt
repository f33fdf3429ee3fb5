-- The rows and the steps of an input, and its steps as the calls of a history.
use Rattle.std.specs.Prelude.{ℕ, zero, suc, List, [], ◌∷◌}
use Rattle.table.specs.declared.Row.{Row}
use Rattle.fields.specs.Fields.{Steps, over, broken, then, Script, torn, begins, row-then, file_of, script_of}
use Rattle.history.specs.History.{Step}
use Rattle.run.specs.Run.{called}

-- the rows, the last one first, after some earlier ones; and the steps after them, where a broken row ends all
abbrev pub rows_there : List Row → Script → List Row
rows_there rows (torn n) = rows
rows_there rows (begins m) = rows
rows_there rows (row-then a o m) = rows_there (record { address = a; opened = o } ∷ rows) m

abbrev pub steps_there : Script → Steps
steps_there (torn n) = broken n
steps_there (begins m) = m
steps_there (row-then a o m) = steps_there m

abbrev pub rows_in : List ℕ → List Row
rows_in s = rows_there [] (script_of 1 (file_of s))

abbrev pub steps_in : List ℕ → Steps
steps_in s = steps_there (script_of 1 (file_of s))

-- the steps as calls after some earlier ones, the newest first
abbrev pub calls_of : List Step → Steps → List Step
calls_of past over = past
calls_of past (broken n) = past
calls_of past (then st m) = calls_of (called st ∷ past) m

abbrev pub how_many : Steps → ℕ
how_many over = zero
how_many (broken n) = zero
how_many (then st m) = suc (how_many m)
