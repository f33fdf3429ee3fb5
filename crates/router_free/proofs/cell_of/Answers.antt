-- By the row that was found.
use Rattle.std.proofs.Common.{ℕ, ◌≡◌, List, Some, ◌∙◌, sym, ap, arith}
use Rattle.lists.specs.Lists.{find}
use Rattle.lists.proofs.Numbers.{find-inside}
use Rattle.lists.proofs.Arrays.{len}
use Rattle.tapa.specs.Address.{handler_of}
use Rattle.table.specs.declared.Row.{Row}
use Rattle.table.specs.Table.{unpack, is_at, rows_of}
use Rattle.numbers.specs.Numbers.{cell_in, cell_of}
use Rattle.numbers.proofs.Cells.{cell_at, cell-none}
use Rattle.router_free.proofs.cell_of.Goals as goal

pub cell_in-cell-requires : goal.cell_in-cell-requires
cell_in-cell-requires c =
    let a = c.args in
    omega (arith, c.requires, len unpack a.cells.now a.count, find-inside (is_at c.handler-handler.result) (rows_of a.cells.now a.count) _ (sym c.row_of.ensures ∙ c.in_ok-row.was))

pub returns-in_err-row : goal.returns-in_err-row
returns-in_err-row c =
    let a = c.args in
    rw c.from_residual.ensures
    (omega (arith, cell-none (rows_of a.cells.now a.count) (handler_of a.asked) a.thread (rw (← c.handler-handler.ensures) (sym c.row_of.ensures ∙ c.in_err-row.was))))

-- the number is that of the cell of the row that was found
stands : (rows : List Row) (h g t row cell : ℕ) → h ≡ g → find (is_at h) rows ≡ Some row → cell ≡ cell_in row h t → cell ≡ cell_of rows g t
stands rows h g t row cell e f k = k ∙ sym (cell_at rows h t row f) ∙ ap (λ (x : ℕ). cell_of rows x t) e

pub returns-then-cell-lt128 : goal.returns-then-cell-lt128
returns-then-cell-lt128 c =
    let a = c.args in
    (stands (rows_of a.cells.now a.count) c.handler-handler.result (handler_of a.asked) a.thread _ _ c.handler-handler.ensures (sym c.row_of.ensures ∙ c.in_ok-row.was) c.cell_in-cell.ensures, c.if-cell-lt128.true)

pub returns-else-cell-lt128 : goal.returns-else-cell-lt128
returns-else-cell-lt128 c =
    let a = c.args in
    omega (arith, c.if-cell-lt128.false, stands (rows_of a.cells.now a.count) c.handler-handler.result (handler_of a.asked) a.thread _ _ c.handler-handler.ensures (sym c.row_of.ensures ∙ c.in_ok-row.was) c.cell_in-cell.ensures)
