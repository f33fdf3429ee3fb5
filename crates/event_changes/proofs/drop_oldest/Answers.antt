-- The ring begins one place later, and no other number changes.
use Rattle.queue.proofs.Laws.{holds-rest}
use Rattle.event_changes.proofs.drop_oldest.Goals as goal

pub returns : goal.returns
returns c = rw c.place_from-queue.ensures (holds-rest c.args.queue.now c.requires.lawful c.requires.count_nonzero)
