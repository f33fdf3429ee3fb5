-- A queue of zeros holds nothing.
use Rattle.queue.proofs.Laws.{holds-none}
use Rattle.event_ring.proofs.fresh.Goals as goal

pub returns : goal.returns
returns c = holds-none
