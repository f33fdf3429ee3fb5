-- `router_rows::row_of` meets its contract: what is found so far is what the rows passed tell. Assumes nothing.
use Rattle.std.proofs.Common.{◌≡◌, ◌/◌, take, get_or, arith}
use Rattle.std.proofs.lemmas.List.{get_or-take}
use borrow.Author.Tests.{eq-eqb, ne_eqb}
use Rattle.lists.proofs.Arrays.{find-hit, find-miss}
use Rattle.table.specs.Table.{unpack, is_at}
use Rattle.router_rows.proofs.row_of.Goals as goal
use Rattle.router_rows.proofs.row_of.Goals.{then-cell-wanted, else-cell-wanted}

pub loop-i-preserved : goal.loop-i-preserved
loop-i-preserved c =
    let l = c.args.cells.now in
    let i = c.loop-i.i in
    let g : get_or (take c.args.count l) i 0 ≡ get_or l i 0 = get_or-take c.args.count l i 0 (omega (arith, c.told-cells, c.requires)) in
    elim c.if-cell-wanted.branch [
      | then-cell-wanted w ↦ rw w.found-is (find-hit unpack (is_at c.args.handler) l i (eq-eqb (get_or l i 0 / 2) c.args.handler (cc)))
      | else-cell-wanted w ↦ rw w.found-is (find-miss unpack (is_at c.args.handler) l i c.loop-i.invariant (ne_eqb (get_or l i 0 / 2) c.args.handler (λ e. w.if-cell-wanted.false (cc))))
    ]
