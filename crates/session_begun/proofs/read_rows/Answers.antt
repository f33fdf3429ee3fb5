use Rattle.std.proofs.Common.{refl, sym, ap, arith}
use Rattle.run.specs.Start.{heading_of}
use Rattle.run.proofs.Rows.{inside-row, rows_from, rows-again, rows_end}
use Rattle.session_begun.proofs.read_rows.Goals as goal

pub loop-address-init : goal.loop-address-init
unfolding heading_of
loop-address-init c = (omega arith, omega arith, ap (λ t. rows_from c.args.input.now t 1 0) c.no_rows-rows.ensures)

pub overflow_add-number : goal.overflow_add-number
overflow_add-number c = omega (arith, c.loop-address.invariant.0, c.loop-address.invariant.1)

pub loop-address-smaller : goal.loop-address-smaller
loop-address-smaller c =
    let b = inside-row c.args.input.now c.loop-address.at _ (sym c.in-Row.ensures) in
    omega (arith, b.0, b.1)

pub loop-address-preserved : goal.loop-address-preserved
loop-address-preserved c =
    let e = sym c.in-Row.ensures in
    let b = inside-row c.args.input.now c.loop-address.at _ e in
    (b.1, omega (arith, b.0, c.loop-address.invariant.1), rows-again c.args.input.now c.loop-address.rows c.loop-address.number c.loop-address.at _ c.loop-address.invariant.2 _ _ _ _ e c.with_row-rows.ensures)

pub returns-in-Torn : goal.returns-in-Torn
returns-in-Torn c = rows_end c.args.input.now c.loop-address.rows c.loop-address.number c.loop-address.at _ c.loop-address.invariant.2 _ _ (sym c.in-Torn.ensures) refl

pub returns-in-Over : goal.returns-in-Over
returns-in-Over c = rows_end c.args.input.now c.loop-address.rows c.loop-address.number c.loop-address.at _ c.loop-address.invariant.2 _ _ (sym c.in-Over.ensures) refl
