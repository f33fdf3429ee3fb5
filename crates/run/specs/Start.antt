-- The state before the first item. 'The table is checked before the first later field is judged, or at the end; a broken row comes before that.'
use Rattle.std.specs.Prelude.{ℕ, ◌+◌, ◌≡◌, Bool, true, false, cond, List, ltb, length, Result, Ok, Err, ⊤}
use Rattle.tapa.specs.declared.Refusal.{Refusal}
use Rattle.table.specs.declared.Rows.{Rows}
use Rattle.table.specs.Table.{no_rows, with_row, judge_rows, kept_by}
use Rattle.start.specs.Start.{blank, fresh_over}
use Rattle.fields.specs.Fields.{Script, torn, begins, row-then}
use Rattle.fields.specs.Places.{script_at}
use Rattle.run.specs.declared.Item.TheVariants.{Broken, Refused, TooLong}
use Rattle.run.specs.declared.Stage.{Stage}
use Rattle.run.specs.declared.Stage.TheVariants.{Steps as steps, Settled}
use Rattle.run.specs.declared.Cursor.{Cursor}
use Rattle.run.specs.declared.Session.{Session}
use Rattle.run.specs.declared.Heading.{Heading}
use Rattle.run.specs.Run.{run_of}
use Rattle.run.specs.State.{no_tally, items_in, Ready}

-- the rows, from the field with the number n on; a whole row has 6 bytes
abbrev pub heading_by : Rows → (n at : ℕ) → Script → Heading
heading_by t n at (torn m) = record { rows = t; at = at; number = n; torn = true }
heading_by t n at (begins m) = record { rows = t; at = at; number = n; torn = false }
heading_by t n at (row-then a o m) = heading_by (with_row t (record { address = a; opened = o })) (n + 1) (at + 6) m

unfoldable pub heading_of : List ℕ → Heading
heading_of s = heading_by no_rows 1 0 (script_at s 1 0)

abbrev pub checked_stage : Result ⊤ Refusal → Stage
checked_stage (Ok tt) = steps
checked_stage (Err r) = Settled (Refused r)

abbrev pub stage_of : Bool → (number : ℕ) → Result ⊤ Refusal → Stage
stage_of b n k = cond b (Settled (Broken n)) (checked_stage k)

abbrev pub cursor_at : (at number : ℕ) → Stage → Cursor
cursor_at at n g = record { at = at; number = n; step = 1; tally = no_tally; stage = g }

-- the router is over the rows that the table keeps: none where it is refused
abbrev pub started_by : Heading → Session
started_by h = record {
  cursor = cursor_at h.at h.number (stage_of h.torn h.number (judge_rows h.rows));
  router = fresh_over (kept_by (judge_rows h.rows) h.rows);
}

-- 'a longer input printing only `too long`'
unfoldable pub start_of : List ℕ → Session
start_of s =
    cond (ltb 65536 (length s))
    (record { cursor = cursor_at 0 1 (Settled TooLong); router = blank })
    (started_by (heading_of s))

-- the contract of `begin`: all that the input has is left
pub record Begins (s : List ℕ) (b : Session) : Type 0 where
  pub same : b ≡ start_of s
  pub all : items_in s b ≡ run_of s
  pub ready : Ready b
