-- Each step of the loop keeps the law of the page (`Going`), and each return ends it.
use Rattle.std.proofs.Common.{arith}
use Rattle.ledger.proofs.Filling.{going, page-broken, page-full, page-long, page-over, page-parts, page-turn, turn-less}
use Rattle.ledger.proofs.Left.{next-inside}
use Rattle.ledger.specs.declared.Next.TheVariants.{Message}
use Rattle.store_lines.proofs.fill_page.Goals as goal

pub returns-then-input-gt65536 : goal.returns-then-input-gt65536
returns-then-input-gt65536 c =
    let a = c.args in
    rw c.page_of.ensures
    (page-long a.input.now a.page.now a.area.now a.b a.cursor.at a.cursor.number _ _ c.if-input-gt65536.true c.requires.0 c.requires.1 c.long_line-used.ensures)

pub loop-page-init : goal.loop-page-init
loop-page-init c =
    let a = c.args in
    going a.input.now a.page.now a.area.now a.b a.cursor.at a.cursor.number c.requires.0 c.requires.1

pub returns-in-Broken : goal.returns-in-Broken
returns-in-Broken c =
    rw c.page_of-in-Broken.ensures
    (page-broken c.loop-page.invariant c.if-input-gt65536.false c.loop-page-test.true _ _ c.in-Broken.ensures c.broken_line-used.ensures)

pub returns-in-End : goal.returns-in-End
returns-in-End c =
    rw c.page_of-in-End.ensures
    (page-over c.loop-page.invariant c.if-input-gt65536.false c.in-End.ensures)

-- a message is within the input
pub slice_bounds-may_change-end : goal.slice_bounds-may_change-end
slice_bounds-may_change-end c =
    let i = next-inside c.args.input.now c.loop-page.at (Message c.in-Message.start c.in-Message.next) c.in-Message.ensures in
    omega (arith, i.1, i.2)

pub returns-then-count-gt0 : goal.returns-then-count-gt0
returns-then-count-gt0 c =
    rw c.page_of-then-count-gt0.ensures
    (page-parts c.loop-page.invariant c.if-input-gt65536.false c.if-count-gt0.true)

pub slice_bounds-hear-end : goal.slice_bounds-hear-end
slice_bounds-hear-end c =
    let i = next-inside c.args.input.now c.loop-page.at (Message c.in-Message.start c.in-Message.next) c.in-Message.ensures in
    omega (arith, i.1, i.2)

pub loop-page-smaller : goal.loop-page-smaller
loop-page-smaller c = turn-less c.args.input.now c.loop-page.at _ _ c.in-Message.ensures

pub loop-page-preserved : goal.loop-page-preserved
loop-page-preserved c =
    page-turn c.loop-page.invariant c.if-input-gt65536.false c.loop-page-test.true _ _ _ c.in-Message.ensures _ c.hear-heard.result c.hear-heard.ensures

pub returns : goal.returns
returns c = rw c.page_of-2.ensures (page-full c.loop-page.invariant c.if-input-gt65536.false c.loop-page-test.false)
