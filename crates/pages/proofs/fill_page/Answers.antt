use borrow.Author.Tests.{not-true, not-false}
use Rattle.run.proofs.Left.{fewer-left}
use Rattle.pages.proofs.Filling.{going, page-turn, page-stop, page-full}
use Rattle.pages.proofs.fill_page.Goals as goal

pub loop-page-init : goal.loop-page-init
loop-page-init c = going c.args.input.now c.args.page.now c.args.session c.requires

-- nothing was left
pub returns-then-not-went : goal.returns-then-not-went
returns-then-not-went c =
    let a = c.args in
    rw c.session_of.ensures (page-stop a.input.now a.page.now a.session c.loop-page.page _ c.loop-page.used c.loop-page.invariant _ c.next_in-went.ensures c.loop-page-test.true (not-true _ c.if-not-went.true))

pub loop-page-smaller : goal.loop-page-smaller
loop-page-smaller c = fewer-left c.args.input.now _ _ c.next_in-went.ensures (not-false _ c.if-not-went.false)

pub loop-page-preserved : goal.loop-page-preserved
loop-page-preserved c =
    let a = c.args in
    page-turn a.input.now a.page.now a.session c.loop-page.page _ c.loop-page.used c.loop-page.invariant _ c.next_in-went.ensures c.loop-page-test.true _ _ (not-false _ c.if-not-went.false) c.put_line-used.ensures

-- no room for a line
pub returns : goal.returns
returns c =
    let a = c.args in
    rw c.session_of-2.ensures (page-full a.input.now a.page.now a.session c.loop-page.page _ c.loop-page.used c.loop-page.invariant c.loop-page-test.false)
