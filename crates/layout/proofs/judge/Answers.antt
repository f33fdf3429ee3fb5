-- The checks are those of the definition, in their order.
use Rattle.std.proofs.Common.{true, false, sym, arith}
use Rattle.layout.proofs.Checks.{is_cut, is-foreign, is-judged, is-other, is-short, is-stub, is-summed}
use Rattle.layout.proofs.judge.Goals as goal

pub returns-then-not-agree : goal.returns-then-not-agree
returns-then-not-agree c = is-foreign _ (sym c.if-not-agree.ensures)

pub returns-then-img-lt14 : goal.returns-then-img-lt14
returns-then-img-lt14 c = is-stub c.args.img.now (sym c.if-not-agree.ensures) (omega arith)

pub returns-then-not-same : goal.returns-then-not-same
returns-then-not-same c = is-other c.args.img.now (sym c.if-not-agree.ensures) (omega arith) (sym c.if-not-same.ensures)

pub returns-then-img-lt68 : goal.returns-then-img-lt68
returns-then-img-lt68 c = is-short c.args.img.now (sym c.if-not-agree.ensures) (omega arith) (sym c.if-not-same.ensures) (omega arith)

pub returns-then-img-held : goal.returns-then-img-held
returns-then-img-held c =
    is_cut c.args.img.now (sym c.if-not-agree.ensures) (omega arith) (sym c.if-not-same.ensures) (omega arith) (λ e. omega arith)

pub returns-then-not-sum_fits : goal.returns-then-not-sum_fits
returns-then-not-sum_fits c =
    is-summed c.args.img.now (sym c.if-not-agree.ensures) (omega arith) (sym c.if-not-same.ensures) (omega arith) (omega arith) (sym c.if-not-sum_fits.ensures)

pub returns-then-not-is_fit : goal.returns-then-not-is_fit
returns-then-not-is_fit c =
    is-judged c.args.img.now (sym c.if-not-agree.ensures) (omega arith) (sym c.if-not-same.ensures) (omega arith) (omega arith) (sym c.if-not-sum_fits.ensures)
    false (sym c.if-not-is_fit.ensures)

pub returns : goal.returns
returns c =
    is-judged c.args.img.now (sym c.if-not-agree.ensures) (omega arith) (sym c.if-not-same.ensures) (omega arith) (omega arith) (sym c.if-not-sum_fits.ensures)
    true (sym c.if-not-is_fit.ensures)
