-- By the code, the wait that its source answers, and its asker.
use Rattle.std.proofs.Common.{ℕ, ◌≡◌, List, sym, ap, ◌∙◌}
use Rattle.std.specs.Prelude.{Some}
use Rattle.lists.proofs.Numbers.{find_none}
use Rattle.tapa.specs.declared.Refusal.TheVariants.{NoResponseCode, StrayResponse, WrongAsker}
use Rattle.message.specs.declared.Head.{Head}
use Rattle.place.specs.declared.Place.{Place}
use Rattle.std.specs.Prelude.{Ok}
use Rattle.places.specs.Places.{place_at, places_of, asks_exactly, leaf_of}
use Rattle.places.proofs.Points.{here}
use Rattle.places.proofs.Leaves.{leaf-missing, leaf-holds, leaf-found}
use Rattle.rules.specs.Judge.{answerable}
use Rattle.rules.proofs.Steps.{response-missing, response-late, response-holding, response-wrong, response-answered}
use Rattle.routing.proofs.Steps.{unmoved}
use Rattle.routing.proofs.Responses.{late-moves, answers}
use Rattle.router_response.proofs.on_response.Goals as goal

-- the wait that `place_at` read is the one that the source answers
read-wait : (l : List ℕ) (n : ℕ) (h : Head) (i : ℕ) (w : Place) → leaf_of h.source h.thread (places_of l n) ≡ Ok i → w ≡ place_at l i
    → answerable (places_of l n) h.source h.thread ≡ Some w
read-wait l n h i w e p =
    (here (asks_exactly h.source h.thread) l n i (leaf-found h.source h.thread (places_of l n) i e).1).it ∙ ap Some (sym p)

pub returns-in_default : goal.returns-in_default
returns-in_default c =
    unmoved _ _ c.requires.lawful _ _ c.requires.column _ NoResponseCode _ c.refuse.ensures (response-missing _ _ _ c.in_default.is)

pub returns-then-wait-head : goal.returns-then-wait-head
returns-then-wait-head c =
    let a = c.args in
    let e = sym c.leaf_at.ensures ∙ c.in-Ok.is in
    unmoved _ _ c.requires.lawful _ _ c.requires.column _ WrongAsker _ c.refuse-then-wait-head.ensures
    (response-wrong _ _ _ _ c.in-Some.is _ (read-wait a.list.now a.len a.head _ _ e c.place_at-wait.ensures)
    (leaf-found a.head.source a.head.thread (places_of a.list.now a.len) _ e).0 c.if-wait-head.true)

pub returns-in-Err-Missing : goal.returns-in-Err-Missing
returns-in-Err-Missing c =
    let a = c.args in
    let ps = places_of a.list.now a.len in
    late-moves _ _ a.list.now a.len _ a.head _ _ _
    (response-late _ _ _ _ c.in-Some.is
    (find_none (asks_exactly a.head.source a.head.thread) ps (leaf-missing a.head.source a.head.thread ps (sym c.leaf_at.ensures ∙ (rw c.in-Err-Missing.field-0-is at c.in-Err-Missing.is)))))
    c.requires.column c.on_late.ensures

pub returns-in-Err-Holds : goal.returns-in-Err-Holds
returns-in-Err-Holds c =
    let a = c.args in
    let x = leaf-holds a.head.source a.head.thread (places_of a.list.now a.len) (sym c.leaf_at.ensures ∙ (rw c.in-Err-Holds.field-0-is at c.in-Err-Holds.is)) in
    unmoved _ _ c.requires.lawful _ _ c.requires.column _ StrayResponse _ c.refuse-in-Err-Holds.ensures
    (response-holding _ _ _ _ c.in-Some.is _ (here (asks_exactly a.head.source a.head.thread) a.list.now a.len _ x.2).it x.0)

pub returns : goal.returns
returns c =
    let a = c.args in
    let e = sym c.leaf_at.ensures ∙ c.in-Ok.is in
    let x = leaf-found a.head.source a.head.thread (places_of a.list.now a.len) _ e in
    let p = c.place_at-wait.ensures in
    answers _ _ a.list.now a.len _ _ _ _ _ _ _ _ _ _ c.answered-outcome.ensures
    (response-answered _ _ _ _ c.in-Some.is _ (read-wait a.list.now a.len a.head _ _ e p) x.0 c.if-wait-head.false) x.1
    (rw p at c.open_or_close.ensures) c.remove-less.ensures
