-- What set-up hands back: an accepted table, or the refusal.
use Rattle.std.specs.Prelude.{List, Result, Ok, Err, ⊤}
use Rattle.tapa.specs.declared.Refusal.{Refusal}
use Rattle.table.specs.declared.Row.{Row}
use Rattle.table.specs.declared.Rows.{Rows}
use Rattle.table.specs.Table.{Proper, held_rows, Held, rows_read, judge_table, judge_rows}
use Rattle.setup.specs.declared.Accepted.{Accepted}

-- rows that are a table are kept; a refusal keeps none
abbrev pub kept : Result ⊤ Refusal → Rows → Result Accepted Refusal
kept (Ok tt) t = Ok (record { rows = t })
kept (Err r) t = Err r

-- over rows by value
abbrev pub set_up_with : Rows → Result Accepted Refusal
set_up_with t = kept (judge_rows t) t

-- over lent rows, read in order
abbrev pub set_up_of : List Row → Result Accepted Refusal
set_up_of rows = kept (judge_table rows) (rows_read rows)

-- the law of what set-up hands back: its rows are held, and they are a table
pub record Settled (u : Accepted) : Type 0 where
  pub held : Held u.rows
  pub proper : Proper (held_rows u.rows)
