-- `setup::check` meets its contract: where every row found a cell, the column is judged. Assumes nothing.
use Rattle.std.proofs.Common.{ℕ, ◌≡◌, false, List, sym, ◌∙◌}
use Rattle.tapa.specs.declared.Refusal.{Refusal}
use Rattle.std.specs.Prelude.{Result, ⊤}
use Rattle.table.specs.declared.Rows.{Rows}
use Rattle.table.specs.Table.{rows_of, judge_table, judge_rows}
use Rattle.setup.proofs.check.Goals as goal

judged : (t : Rows) (r : Result ⊤ Refusal) (l : List ℕ) (n : ℕ) → false ≡ t.more → l ≡ t.cells → n ≡ t.count → r ≡ judge_table (rows_of l n)
    → r ≡ judge_rows t
unfolding judge_rows
judged t r l n f e d k = k ∙ rw (e, d, sym f)

pub returns-then-more : goal.returns-then-more
unfolding judge_rows
returns-then-more c = rw (sym c.if-more.ensures)

pub returns : goal.returns
returns c = judged c.args.rows _ _ _ c.if-more.ensures c.cells-cells.ensures c.count.ensures c.check_column.ensures
