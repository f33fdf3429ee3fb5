-- At each turn the places that are older, and the waits passed, give what all give.
use Rattle.std.proofs.Common.{◌≡◌, ◌||◌, ◌-◌}
use Rattle.lists.specs.Lists.{some_of}
use Rattle.lists.proofs.Arrays.{Below}
use Rattle.places.specs.Places.{unpack, places_of, open_on, stands_on}
use Rattle.router_walks.proofs.standing_of.Given as goal

abbrev pub invariant-loop-newer : goal.invariant-loop-newer
invariant-loop-newer l =
    Below unpack (some_of (stands_on l.thread l.handler)) l.list l.n (l.n - l.newer)
    × ((l.waits || some_of (open_on l.thread) (places_of l.list (l.n - l.newer))) ≡ some_of (open_on l.thread) (places_of l.list l.n))
