-- What was found is the newest that passes.
use Rattle.std.proofs.Common.{rules, arith}
use Rattle.lists.proofs.Walks.{newest}
use Rattle.places.specs.Places.{unpack, owes_exactly}
use Rattle.router_walks.proofs.find_owed.Goals as goal

pub returns : goal.returns
returns c =
    let a = c.args in
    let u = c.rposition.ensures.runs.0 in
    newest unpack (owes_exactly a.asked a.thread) a.list.now a.n _ (omega arith) (search rules) (λ x b k. search rules) u _ (c.iter.ensures.runs_back u u.seen) (search rules) _ (search rules) _ c.rposition.ensures.bound c.rposition.ensures.runs.2
