-- The counts, and what the list says is under way.
use Rattle.places.specs.Places.{places_of}
use Rattle.run.proofs.Turns.{sums}
use Rattle.session_turns.proofs.sum_up.Goals as goal

pub returns : goal.returns
returns c = sums c.args.tally (places_of c.args.list.now c.args.len) _ _ c.count_open.ensures c.count_owed.ensures
