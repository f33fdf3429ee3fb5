-- A page that was full leaves fewer lines.
use Rattle.std.proofs.Common.{rules}
use Rattle.pages.proofs.Text.{fewer}
use Rattle.printer.proofs.show.Goals as goal

pub loop-rt-smaller : goal.loop-rt-smaller
loop-rt-smaller c =
    fewer c.args.input.now c.loop-rt.session c.loop-rt.page _ c.fill_page-filled.result c.fill_page-filled.ensures (search rules) (search rules)
