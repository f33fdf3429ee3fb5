-- The page holds rows, from one state to the next.
use Rattle.run.proofs.Left.{fewer-left}
use Rattle.picture.proofs.Front.{going, page-turn, page-stop, page-full}
use Rattle.picture.proofs.fill_page.Goals as goal

pub loop-used-init : goal.loop-used-init
loop-used-init c = going c.args.input.now c.args.sheet.now c.args.page.now c.args.session c.requires

pub returns-then-not-turn : goal.returns-then-not-turn
returns-then-not-turn c =
    let a = c.args in
    let l = c.loop-used in
    page-stop a.input.now a.sheet.now a.page.now a.session l.page l.next l.used l.invariant c.next-turn.result c.next-turn.ensures c.loop-used-test.true c.if-not-turn.true

pub loop-used-smaller : goal.loop-used-smaller
loop-used-smaller c = fewer-left c.args.input.now c.loop-used.next c.next-turn.result c.next-turn.ensures c.if-not-turn.false

pub loop-used-preserved : goal.loop-used-preserved
loop-used-preserved c =
    let a = c.args in
    let l = c.loop-used in
    page-turn a.input.now a.sheet.now a.page.now a.session l.page l.next l.used l.invariant c.next-turn.result c.next-turn.ensures c.loop-used-test.true _ _ c.if-not-turn.false c.put_row-used.ensures

pub returns : goal.returns
returns c =
    let a = c.args in
    let l = c.loop-used in
    page-full a.input.now a.sheet.now a.page.now a.session l.page l.next l.used l.invariant c.loop-used-test.false
