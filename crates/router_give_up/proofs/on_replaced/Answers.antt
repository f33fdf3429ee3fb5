-- The checks in their order, then the mark and the owings.
use Rattle.std.proofs.Common.{sym, ◌∙◌}
use Rattle.tapa.specs.declared.Refusal.TheVariants.{NotInTable, StandsInAWait}
use Rattle.rules.proofs.Steps.{replaced-unlisted, replaced-stands, replaced-reset}
use Rattle.routing.proofs.Steps.{unmoved}
use Rattle.routing.proofs.Messages.{resets}
use Rattle.router_give_up.proofs.on_replaced.Goals as goal

pub returns-then-not-is_listed : goal.returns-then-not-is_listed
returns-then-not-is_listed c =
    unmoved _ _ c.requires.lawful _ _ c.requires.column _ NotInTable _ c.refuse.ensures
    (replaced-unlisted _ _ _ c.handler-handler.ensures (sym c.is_listed.ensures ∙ c.if-not-is_listed.true))

pub returns-then-stands_in : goal.returns-then-stands_in
returns-then-stands_in c =
    unmoved _ _ c.requires.lawful _ _ c.requires.column _ StandsInAWait _ c.refuse-then-stands_in.ensures
    (replaced-stands _ _ _ c.handler-handler.ensures (sym c.is_listed.ensures ∙ c.if-not-is_listed.false)
    (sym c.stands_in.ensures ∙ c.if-stands_in.true))

pub returns : goal.returns
returns c =
    let a = c.args in
    resets _ _ _ a.list.now a.len _ _ _ _
    (replaced-reset _ _ _ c.handler-handler.ensures (sym c.is_listed.ensures ∙ c.if-not-is_listed.false)
    (sym c.stands_in.ensures ∙ c.if-stands_in.false)) c.set_open.ensures c.drop_owed-less.ensures
