-- Where the handler stands: each return is one of the three cases.
use Rattle.std.proofs.Common.{arith, sym, ◌∙◌, ◌||◌, ◌≡◌, ◌+◌, ◌-◌}
use Rattle.lists.specs.Lists.{some_of}
use Rattle.lists.proofs.Arrays.{some-here, some-past, met-here, met-past, walked}
use Rattle.places.specs.Places.{unpack, open_on, stands_on}
use Rattle.places.proofs.Leaves.{within, outside, empty}
use Rattle.router_walks.proofs.standing_of.Goals as goal
use Rattle.router_walks.proofs.standing_of.Goals.{then-open_on, else-open_on}

pub loop-newer-preserved : goal.loop-newer-preserved
loop-newer-preserved c =
    let a = c.args in
    let i = a.n - c.loop-newer.newer in
    let k : a.n - (c.loop-newer.newer + 1) ≡ a.n - c.loop-newer.newer - 1 = omega arith in (
      (omega arith, rw k (some-past unpack a.list.now i (omega arith) (stands_on a.thread a.handler) c.loop-newer.invariant.0.1 (sym c.has_on.ensures ∙ c.if-has_on.false))),
      elim c.if-open_on.branch [
        | then-open_on w ↦
            rw (k, w.waits-is) (met-here unpack a.list.now i (omega arith) (open_on a.thread) c.loop-newer.waits c.loop-newer.invariant.1 (sym c.open_on.ensures ∙ w.if-open_on.true))
        | else-open_on w ↦
            rw (k, w.waits-is) (met-past unpack a.list.now i (omega arith) (open_on a.thread) c.loop-newer.waits c.loop-newer.invariant.1 (sym c.open_on.ensures ∙ w.if-open_on.false))
      ],
    )

pub returns-then-has_on : goal.returns-then-has_on
returns-then-has_on c =
    let a = c.args in
    within _ _ _
    (sym (some-here unpack a.list.now (a.n - c.loop-newer.newer) (omega arith) (stands_on a.thread a.handler) c.loop-newer.invariant.0.1 (sym c.has_on.ensures ∙ c.if-has_on.true)))

pub returns-then-waits : goal.returns-then-waits
returns-then-waits c =
    let a = c.args in
    outside _ _ _
    (sym c.loop-newer.invariant.1 ∙ rw c.if-waits.true)
    (sym (walked unpack (some_of (stands_on a.thread a.handler)) _ (a.n - c.loop-newer.newer) (omega arith) c.loop-newer.invariant.0.1))

pub returns : goal.returns
returns c =
    let a = c.args in
    empty _ _ _
    (sym (walked unpack (λ ps. c.loop-newer.waits || some_of (open_on a.thread) ps) _ (a.n - c.loop-newer.newer) (omega arith) c.loop-newer.invariant.1) ∙ rw c.if-waits.false)
