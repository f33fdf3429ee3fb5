-- One character more: a step of the scan, or a byte.
use Rattle.std.proofs.Common.{arith}
use Rattle.hexes.proofs.Reading.{begins, goes, gains}
use Rattle.session_hex_reader.proofs.read.Goals as goal
use Rattle.session_hex_reader.proofs.read.Goals.{in-Go, in-Byte}

pub loop-i-init : goal.loop-i-init
loop-i-init c = begins _ _

pub loop-i-preserved : goal.loop-i-preserved
loop-i-preserved c =
    let l = c.loop-i in
    let text = c.args.text.now in
    let old = c.args.out.now in
    let step = c.judge.ensures in
    elim c.match-judge.branch [
      | in-Go w ↦ rw (w.to-is, w.mode-is, w.count-is) (goes text old _ _ _ _ l.i l.invariant (omega arith) c.judge.result step.value _ step.begun w.in-Go.is)
      | in-Byte w ↦ rw (w.to-is, w.mode-is, w.count-is) (gains text old _ _ _ _ l.i l.invariant (omega arith) c.judge.result step.value _ _ w.in-Byte.is w.put.ensures)
    ]
