-- A walk from the oldest event: what is found among those not yet looked at is what is found among all.
use Rattle.std.proofs.Common.{◌≡◌, ◌-◌, ◌≤◌}
use Rattle.lists.specs.Lists.{find}
use Rattle.queue.specs.Events.{meets}
use Rattle.queue.specs.Places.{events_from}
use Rattle.event_ring.proofs.find.Given as goal

abbrev pub invariant-loop-older : goal.invariant-loop-older
invariant-loop-older l =
    let n = l.queue.count in
    let start = l.queue.start in
    record {
      inside : l.older ≤ n;
      ahead : find (meets l.search) (events_from l.queue.places start l.older (n - l.older)) ≡ find (meets l.search) (events_from l.queue.places start 0 n);
    }
