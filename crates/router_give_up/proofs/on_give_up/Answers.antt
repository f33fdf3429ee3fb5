-- The wait that asks the address is found, answered for and owed.
use Rattle.std.proofs.Common.{sym, ap, ◌∙◌}
use Rattle.tapa.specs.declared.Refusal.TheVariants.{ThreadAbove7, BufferTooSmall, NothingToGiveUp, HoldsAQuestion}
use Rattle.place.specs.declared.Place.{Place}
use Rattle.places.specs.Places.{places_of, asks_exactly}
use Rattle.lists.proofs.Numbers.{find_none}
use Rattle.places.proofs.Points.{here}
use Rattle.places.proofs.Leaves.{leaf-missing, leaf-holds, leaf-found}
use Rattle.rules.proofs.Steps.{give-up-small, give-up-thread, give-up-none, give-up-holding, give-up-given}
use Rattle.routing.proofs.Steps.{unwritten}
use Rattle.routing.proofs.Messages.{gives}
use Rattle.router_give_up.proofs.on_give_up.Goals as goal

pub returns-then-reply-lt10 : goal.returns-then-reply-lt10
returns-then-reply-lt10 c = λ rows.
    unwritten _ _ c.requires _ _ BufferTooSmall _ c.refuse.ensures (give-up-small _ _ _ _ c.if-reply-lt10.true)

pub returns-then-thread-gt7 : goal.returns-then-thread-gt7
returns-then-thread-gt7 c = λ rows.
    unwritten _ _ c.requires _ _ ThreadAbove7 _ c.refuse-then-thread-gt7.ensures
    (give-up-thread _ _ _ _ c.if-reply-lt10.false c.if-thread-gt7.true)

pub returns-in-Err-Missing : goal.returns-in-Err-Missing
returns-in-Err-Missing c = λ rows.
    let a = c.args in
    let q = asks_exactly a.asked a.thread in
    let ps = places_of a.list.now a.len in
    unwritten _ _ c.requires _ _ NothingToGiveUp _ c.refuse-in-Err-Missing.ensures
    (give-up-none _ _ a.thread a.asked c.if-reply-lt10.false c.if-thread-gt7.false
    (find_none q ps (leaf-missing a.asked a.thread ps (sym c.leaf_at.ensures ∙ (rw c.in-Err-Missing.field-0-is at c.in-Err-Missing.is)))))

pub returns-in-Err-Holds : goal.returns-in-Err-Holds
returns-in-Err-Holds c = λ rows.
    let a = c.args in
    let x = leaf-holds a.asked a.thread (places_of a.list.now a.len) (sym c.leaf_at.ensures ∙ (rw c.in-Err-Holds.field-0-is at c.in-Err-Holds.is)) in
    unwritten _ _ c.requires _ _ HoldsAQuestion _ c.refuse-in-Err-Holds.ensures
    (give-up-holding _ _ a.thread a.asked c.if-reply-lt10.false c.if-thread-gt7.false _
    (here (asks_exactly a.asked a.thread) a.list.now a.len _ x.2).it x.0)

pub returns : goal.returns
returns c = λ rows.
    let a = c.args in
    let x = leaf-found a.asked a.thread (places_of a.list.now a.len) _ (sym c.leaf_at.ensures ∙ c.in-Ok.is) in
    let k = c.if-reply-lt10.false in
    let p = ap (λ (w : Place). w.asker) c.place_at-wait.ensures in
    gives a.list.now a.len a.thread a.asked _ _ _ _ _ _ x.1 k c.owe.ensures
    (rw p (give-up-given _ _ a.thread a.asked k c.if-thread-gt7.false _ (here (asks_exactly a.asked a.thread) a.list.now a.len _ x.1).it x.0))
    c.respond.ensures
