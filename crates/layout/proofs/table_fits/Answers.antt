-- Row by row: a row that does not fit settles it.
use Rattle.std.proofs.Common.{◌+◌, ◌-◌, ◌*◌, ◌∙◌, sym, refl, arith}
use Rattle.layout.proofs.Tables.{rows_all, rows-bad, rows_end, rows_more}
use Rattle.layout.proofs.table_fits.Goals as goal

pub loop-i-init : goal.loop-i-init
loop-i-init c = rows_all c.args.img.now (14 + 0 * 3) (16 - 0) refl refl

pub returns-then-not-row_fits : goal.returns-then-not-row_fits
returns-then-not-row_fits c =
    sym (rows-bad c.args.img.now c.loop-i.i (omega arith) (sym c.if-not-row_fits.ensures)) ∙ c.loop-i.invariant

pub loop-i-preserved : goal.loop-i-preserved
loop-i-preserved c =
    rows_more c.args.img.now c.loop-i.i (omega arith) (sym c.if-not-row_fits.ensures) ∙ c.loop-i.invariant

pub returns : goal.returns
returns c = sym (rows_end c.args.img.now c.loop-i.i (omega arith)) ∙ c.loop-i.invariant
