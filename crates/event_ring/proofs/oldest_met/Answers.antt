-- The number that a walk found leads to the event.
use Rattle.std.proofs.Common.{arith, sym, ◌∙◌}
use Rattle.lists.proofs.Numbers.{find_none}
use Rattle.queue.specs.Events.{meets}
use Rattle.queue.specs.Places.{events_of}
use Rattle.queue.proofs.Laws.{met-inside, met-there}
use Rattle.event_ring.proofs.oldest_met.Goals as goal

pub returns-in_err-newer : goal.returns-in_err-newer
returns-in_err-newer c =
    c.from_residual.ensures ∙ sym (find_none (meets c.args.search) (events_of c.args.queue.now) (sym (c.in_err-newer.ensures)))

pub overflow_sub-queue-2 : goal.overflow_sub-queue-2
overflow_sub-queue-2 c = omega (arith, met-inside _ c.args.queue.now _ (sym (c.in_ok-newer.ensures)))

pub returns : goal.returns
returns c = rw c.event_after.ensures (sym (met-there _ c.args.queue.now _ (sym (c.in_ok-newer.ensures))))
