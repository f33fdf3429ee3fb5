-- `router_rows::set_open` meets its contract: the row that is found is the handler's. Assumes nothing.
use Rattle.std.proofs.Common.{sym, ◌∙◌, arith}
use borrow.Author.Tests.{eqb-true}
use Rattle.lists.proofs.Arrays.{here}
use Rattle.table.specs.Table.{unpack, is_at}
use Rattle.table.proofs.Cells.{opens, opens-none}
use Rattle.router_rows.proofs.set_open.Goals as goal

pub offset_bounds-cells-i : goal.offset_bounds-cells-i
offset_bounds-cells-i c =
    let a = c.args in
    let h = here unpack (is_at a.handler) a.cells.now a.count c.in-Some.i (sym c.in-Some.ensures) in
    omega (arith, h.inside, c.requires.few)

pub bounds-cells-i : goal.bounds-cells-i
bounds-cells-i c =
    let a = c.args in
    let h = here unpack (is_at a.handler) a.cells.now a.count c.in-Some.i (sym c.in-Some.ensures) in
    omega (arith, h.inside, c.requires.few)

pub returns-in-Some : goal.returns-in-Some
returns-in-Some c =
    let a = c.args in
    let h = here unpack (is_at a.handler) a.cells.now a.count c.in-Some.i (sym c.in-Some.ensures) in
    opens _ _ _ _ c.in-Some.i _ c.requires h.inside (sym c.in-Some.ensures) (eqb-true _ _ h.meets) c.from.ensures

pub returns-in_default : goal.returns-in_default
returns-in_default c = opens-none _ _ _ _ c.requires (sym c.row_of.ensures ∙ c.in_default.is)
