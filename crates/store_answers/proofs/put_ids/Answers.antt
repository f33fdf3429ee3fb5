-- One word a round.
use Rattle.std.proofs.Common.{◌<◌, arith}
use Rattle.store.proofs.Writes.{placed-more}
use Rattle.store_answers.proofs.put_ids.Goals as goal

pub loop-i-preserved : goal.loop-i-preserved
loop-i-preserved c =
    let l = c.loop-i in
    let a = c.args in
    let h : l.i < 16 = omega arith in (
      l.invariant.0,
      l.invariant.1,
      l.invariant.2,
      placed-more a.body.now a.ids.now l.body _ l.i l.invariant.1 l.invariant.2 h l.invariant.3 c.put_word.ensures.1,
    )
