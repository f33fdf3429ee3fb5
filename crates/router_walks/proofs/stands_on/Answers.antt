-- Some place passes where the newest that does was found.
use Rattle.std.proofs.Common.{rules, arith, ap, ◌∙◌}
use Rattle.std.specs.Prelude.{is_some}
use Rattle.places.specs.Places.{unpack, places_of, stands_on}
use Rattle.lists.proofs.Walks.{newest}
use Rattle.router_walks.proofs.Found.{found-some}
use Rattle.router_walks.proofs.stands_on.Goals as goal

pub returns : goal.returns
returns c =
    let a = c.args in
    let u = c.rposition.ensures.runs.0 in
    let e = newest unpack (stands_on a.thread a.handler) a.list.now a.n _ (omega arith) (search rules) (λ x b k. search rules) u _ (c.iter.ensures.runs_back u u.seen) (search rules) _ (search rules) _ c.rposition.ensures.bound c.rposition.ensures.runs.2 in
    c.is_some.ensures ∙ ap (λ r. is_some r) e ∙ found-some (stands_on a.thread a.handler) (places_of a.list.now a.n)
