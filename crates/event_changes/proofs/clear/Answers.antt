-- As of a fresh queue.
use Rattle.queue.proofs.Laws.{holds-none}
use Rattle.event_changes.proofs.clear.Goals as goal

pub returns : goal.returns
returns c = holds-none
