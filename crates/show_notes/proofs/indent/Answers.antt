-- No word is set in; one byte more is; none is left, and the last line is closed.
use Rattle.std.proofs.Common.{arith}
use Rattle.text.proofs.Laws.{left_all}
use Rattle.blocks.specs.Words.{indented}
use Rattle.blocks.proofs.Indenting.{turn, closed}
use Rattle.show_notes.proofs.indent.Goals as goal

pub loop-byte-init : goal.loop-byte-init
unfolding indented
loop-byte-init c = left_all _ _

pub loop-byte-preserved : goal.loop-byte-preserved
loop-byte-preserved c =
    let l = c.loop-byte in
    turn l.fresh c.args.words.now l.byte-index l.invariant (omega arith) c.put_set_in.ensures

pub returns-else-not-fresh : goal.returns-else-not-fresh
returns-else-not-fresh c =
    let l = c.loop-byte in
    closed l.fresh c.args.words.now l.byte-index l.invariant (omega arith) c.if-not-fresh.false
