-- The same file place by place: what stands at a place, and what is left from there on.
use Rattle.std.specs.Prelude.{ℕ, ◌+◌, ◌-◌, Bool, cond, List, [], ◌∷◌, eqb, leb, ltb, length, take, drop, get_or, Option, Some, None}
use Rattle.lists.specs.Lists.{checks}
use Rattle.tapa.specs.Numbers.{word_at}
use Rattle.fields.specs.Fields.{File, ended, cut, field, file_of, row_of, step_of, Step, message, give-up, replaced, Steps, over, broken, then, steps_of, Script, torn, begins, row-then, script_of}
use Rattle.fields.specs.declared.Read.{Read}
use Rattle.fields.specs.declared.Read.TheVariants.{End, Cut, Field}
use Rattle.fields.specs.declared.NextRow.{NextRow}
use Rattle.fields.specs.declared.NextRow.TheVariants.{Row, Torn, Over}
use Rattle.fields.specs.declared.NextStep.{NextStep}
use Rattle.fields.specs.declared.NextStep.TheVariants.{Message, GiveUp, Replaced, Broken, End as Ended}

-- ---- what stands at a place

-- the end, a header cut, contents cut, or a whole field
unfoldable pub read_at : List ℕ → ℕ → Read
read_at s at =
    checks
    ((leb (length s) at, End)
    ∷ (ltb (length s) (at + 3), Cut (get_or s at 0))
    ∷ (ltb (length s) (at + 3 + word_at s (at + 1)), Cut (get_or s at 0))
    ∷ [])
    (Field (get_or s at 0) (at + 3) (word_at s (at + 1)))

-- the file from there on
abbrev pub seen : List ℕ → Read → File
seen s End = ended
seen s (Cut t) = cut t
seen s (Field t a n) = field t (take n (drop a s)) (file_of (drop (a + n) s))

-- ---- among the rows

abbrev pub row_placed : ℕ → Option (ℕ × Bool) → NextRow
row_placed next None = Torn
row_placed next (Some r) = Row r.0 r.1 next

abbrev pub row_from : List ℕ → Read → NextRow
row_from s End = Over
row_from s (Cut t) = cond (eqb t 1) Torn Over
row_from s (Field t a n) = cond (eqb t 1) (row_placed (a + n) (row_of (take n (drop a s)))) Over

abbrev pub row_at : List ℕ → ℕ → NextRow
row_at s at = row_from s (read_at s at)

-- ---- among the steps

abbrev pub step_placed : ℕ → ℕ → Option Step → NextStep
step_placed start next None = Broken
step_placed start next (Some (message c)) = Message start next
step_placed start next (Some (give-up t a)) = GiveUp t a next
step_placed start next (Some (replaced a)) = Replaced a next

abbrev pub step_from : List ℕ → Read → NextStep
step_from s End = Ended
step_from s (Cut t) = Broken
step_from s (Field t a n) = step_placed a (a + n) (step_of t (take n (drop a s)))

abbrev pub step_at : List ℕ → ℕ → NextStep
step_at s at = step_from s (read_at s at)

-- ---- what is left from a place on: n is the number of the field there

unfoldable pub steps_at : List ℕ → ℕ → ℕ → Steps
steps_at s n at = steps_of n (file_of (drop at s))

unfoldable pub script_at : List ℕ → ℕ → ℕ → Script
script_at s n at = script_of n (file_of (drop at s))

-- ---- the same, by what `row_at` and `step_at` answer there

abbrev pub script_by : List ℕ → ℕ → ℕ → NextRow → Script
script_by s n at (Row x o next) = row-then x o (script_at s (n + 1) next)
script_by s n at Torn = torn n
script_by s n at Over = begins (steps_at s n at)

-- the bytes of a message, from its start to the next field
abbrev pub between : List ℕ → ℕ → ℕ → List ℕ
between s start next = take (next - start) (drop start s)

abbrev pub steps_by : List ℕ → ℕ → NextStep → Steps
steps_by s n (Message start next) = then (message (between s start next)) (steps_at s (n + 1) next)
steps_by s n (GiveUp t x next) = then (give-up t x) (steps_at s (n + 1) next)
steps_by s n (Replaced x next) = then (replaced x) (steps_at s (n + 1) next)
steps_by s n Broken = broken n
steps_by s n Ended = over
