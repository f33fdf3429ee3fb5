use Rattle.std.proofs.Common.{arith, sym}
use Rattle.lists.proofs.Numbers.{find-inside}
use Rattle.lists.proofs.Arrays.{len}
use Rattle.table.specs.Table.{unpack, is_at, rows_of}
use Rattle.router_free.proofs.wipe.Goals as goal

-- a row that was found is one of the sixteen
pub wipe_row-requires : goal.wipe_row-requires
wipe_row-requires c =
    let a = c.args in
    omega (arith, c.requires, len unpack a.cells.now a.count, find-inside (is_at a.handler) (rows_of a.cells.now a.count) _ (sym c.in-Some.ensures))
