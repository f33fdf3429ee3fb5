-- A page that was full leaves fewer items.
use Rattle.std.proofs.Common.{rules}
use Rattle.blocks.proofs.Heads.{fewer}
use Rattle.explain.proofs.show.Goals as goal

pub loop-rt-smaller : goal.loop-rt-smaller
loop-rt-smaller c =
    fewer c.args.input.now c.loop-rt.session _ c.fill_page-filled.result c.fill_page-filled.ensures (search rules)
