-- At each turn the places that stay of the first `seen` are the first `kept` (`Filtered`).
use Rattle.lists.proofs.Arrays.{Filtered}
use Rattle.places.specs.Places.{pack, unpack, not_owed_by}
use Rattle.router_changes.proofs.drop_owed.Given as goal

abbrev pub invariant-loop-seen : goal.invariant-loop-seen
invariant-loop-seen l = Filtered 48 pack unpack (not_owed_by l.handler) l.fn.list l.list l.kept l.seen
