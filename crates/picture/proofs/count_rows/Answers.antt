-- A turn keeps the law, and leaves fewer items.
use borrow.Author.Tests.{not-false}
use Rattle.run.proofs.Left.{fewer-left}
use Rattle.picture.proofs.count_rows.Goals as goal

pub loop-turn-smaller : goal.loop-turn-smaller
loop-turn-smaller c = fewer-left c.args.input.now c.loop-turn.next c.next-turn.result c.next-turn.ensures (not-false _ c.if-not-turn.false)
