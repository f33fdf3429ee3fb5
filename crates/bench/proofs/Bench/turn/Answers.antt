-- A whole field lies in the input, and any other ends it.
use Rattle.std.proofs.Common.{rules, refl, sym, arith}
use Rattle.bench.specs.Bench.{Placed}
use Rattle.bench.proofs.Laws.{placed, stopped, long-fits}
use Rattle.bench.proofs.Bench.turn.Goals as goal

pub returns-then-input-gt-LONGEST : goal.returns-then-input-gt-LONGEST
returns-then-input-gt-LONGEST c = stopped _ _ _ _ _ refl (long-fits _ _ _ (search rules) c.long_line.ensures)

pub overflow_add-start : goal.overflow_add-start
overflow_add-start c =
    let p : Placed _ _ _ _ = placed c.args.input.now c.args.self _ _ _ c.if-input-gt-LONGEST.false (sym c.in-Field.ensures) in
    omega (arith, p.inside)

pub on_whole-requires-clause-placed : goal.on_whole-requires-clause-placed
on_whole-requires-clause-placed c = placed c.args.input.now c.args.self _ _ _ c.if-input-gt-LONGEST.false (sym c.in-Field.ensures)
