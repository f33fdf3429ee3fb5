-- Each page leaves fewer items.
use borrow.Author.Tests.{not-false}
use Rattle.picture.proofs.Inked.{fewer}
use Rattle.ladder.proofs.show_rows.Goals as goal

pub loop-rt-smaller : goal.loop-rt-smaller
loop-rt-smaller c =
    let f = c.fill_page-filled in
    fewer c.args.input.now c.loop-rt.session c.args.sheet.now _ f.result f.ensures (not-false _ c.if-not-filled.false)
