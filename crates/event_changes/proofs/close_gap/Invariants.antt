-- A gap moves up to the last place in use.
use Rattle.std.proofs.Common.{◌≡◌, ◌-◌, ◌≤◌}
use Rattle.lists.specs.Lists.{without_at}
use Rattle.queue.specs.Places.{events_of}
use Rattle.queue.proofs.Laws.{Moving}
use Rattle.event_changes.proofs.close_gap.Given as goal

abbrev pub invariant-loop-older : goal.invariant-loop-older
invariant-loop-older l =
    let q = l.fn.queue in
    record {
      start : l.queue.start ≡ q.start;
      inside : l.older ≤ q.count - 1;
      moving : Moving (without_at l.fn.newer (events_of q)) q.start q.count l.queue.places (q.count - 1 - l.older);
    }
