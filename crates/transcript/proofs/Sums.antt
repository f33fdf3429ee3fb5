-- Made-up totals are no transcript: the last line of a session without a broken field has the totals of its history. Assumes nothing.
use Prim.Native.Nat.{ℕ, ◌+◌, ◌≤◌, ◌<◌}
use Rattle.std.specs.Prelude.{Ok, None}
use mathlib.Core.Path.{◌≡◌, refl, ap, ◌∙◌}
use mathlib.Core.List.{List, [], ◌∷◌, map}
use native.Mathlib.Omega.{arith}
use lib.ListN.{length, drop}
use borrow.Author.Tests.{lt-ltb, le-ltb}
use Rattle.table.specs.declared.Row.{Row}
use Rattle.table.specs.Table.{judge_table}
use Rattle.fields.specs.Fields.{Steps, over, broken, then, broken_step, Script, torn, begins, row-then, file_of, script_of}
use Rattle.history.specs.History.{Step}
use Rattle.lines.specs.Lines.{totals_line, long_line}
use Rattle.run.specs.declared.Item.{Item}
use Rattle.run.specs.Run.{called, totals_after, items_of, script_items, run_of}
use Rattle.transcript.specs.Prescribed.{line_with, line_of, prescribed}
use Rattle.transcript.specs.Totals.{rows_there, steps_there, rows_in, steps_in, calls_of, how_many}

-- a table that is accepted lets the steps come
script-steps : (rows : List Row) (m : Script) → judge_table (rows_there rows m) ≡ Ok tt → broken_step (steps_there m) ≡ None
    → script_items rows m ≡ items_of (rows_there rows m) [] 1 (steps_there m)
script-steps rows (torn n) e f = let z : ◌≡◌ {A = ℕ} 0 1 = cc in absurd (omega arith)
script-steps rows (begins m) e f = rw e
script-steps rows (row-then a o m) e f = script-steps (record { address = a; opened = o } ∷ rows) m e f

-- after the lines of the steps one line is left
last_of : (rows : List Row) (past : List Step) (k : ℕ) (m : Steps) → broken_step m ≡ None
    → drop (how_many m) (map line_of (items_of rows past k m))
    ≡ totals_line (totals_after rows (calls_of past m)).accepted (totals_after rows (calls_of past m)).answered (totals_after rows (calls_of past m)).given
    (totals_after rows (calls_of past m)).waiting (totals_after rows (calls_of past m)).owing
    ∷ []
unfolding line_with
last_of rows past k over e = refl
last_of rows past k (broken b) e = let z : ◌≡◌ {A = ℕ} 0 1 = cc in absurd (omega arith)
last_of rows past k (then st m) e = last_of rows (called st ∷ past) (k + 1) m e

-- of every input: the totals are those of the history of its steps
pub totals : (s : List ℕ) → length s ≤ 65536 → judge_table (rows_in s) ≡ Ok tt → broken_step (steps_in s) ≡ None
    → drop (how_many (steps_in s)) (prescribed s)
    ≡ totals_line (totals_after (rows_in s) (calls_of [] (steps_in s))).accepted (totals_after (rows_in s) (calls_of [] (steps_in s))).answered
    (totals_after (rows_in s) (calls_of [] (steps_in s))).given (totals_after (rows_in s) (calls_of [] (steps_in s))).waiting
    (totals_after (rows_in s) (calls_of [] (steps_in s))).owing
    ∷ []
unfolding run_of
totals s h e f =
    rw (le-ltb 65536 (length s) h)
    (ap (λ (l : List Item). drop (how_many (steps_in s)) (map line_of l)) (script-steps [] (script_of 1 (file_of s)) e f)
    ∙ last_of (rows_in s) [] 1 (steps_in s) f)

-- 'at most 65,536 bytes, a longer input printing only `too long`'
pub too_long : (s : List ℕ) → 65536 < length s → prescribed s ≡ long_line ∷ []
unfolding run_of line_with
too_long s h = rw (lt-ltb 65536 (length s) h)
