-- It is the turn in place, with the session made anew.
use Rattle.session_turns.proofs.next.Goals as goal

pub returns : goal.returns
returns c = rw c.turn_of.ensures c.next_in-went.ensures
