-- The owing that was found ends, or the response is a stray.
use Rattle.std.proofs.Common.{sym, ◌∙◌}
use Rattle.tapa.specs.declared.Refusal.TheVariants.{StrayResponse}
use Rattle.routing.proofs.Steps.{unplaced}
use Rattle.routing.proofs.Responses.{swallows, strays}
use Rattle.router_response.proofs.on_late.Goals as goal

pub returns : goal.returns
returns c =
    let a = c.args in
    swallows a.list.now a.len a.head _ _ _ (sym c.find_owed.ensures ∙ c.in-Some.is) c.remove-less.ensures

pub returns-in_default : goal.returns-in_default
returns-in_default c =
    let a = c.args in
    unplaced _ _ c.requires _ StrayResponse _ c.refuse.ensures (strays a.list.now a.len a.head (sym c.find_owed.ensures ∙ c.in_default.is))
