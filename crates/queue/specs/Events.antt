-- The event queue (section 13): the events that it holds, and what is asked of them. They stand oldest first.
use Rattle.std.specs.Prelude.{ℕ, Bool, false, ◌&&◌, cond, List, [], ◌∷◌, ◌++◌, eqb, ltb, leb, length, Option, Some, None}
use Rattle.lists.specs.Lists.{checks}
use Rattle.queue.specs.declared.Event.{Event}
use Rattle.queue.specs.declared.Search.{Search}

-- 'It holds at most 100 events'
abbrev pub most : ℕ
most = 100

-- 'oldest first'
abbrev pub oldest : List Event → Option Event
oldest [] = None
oldest (e ∷ es) = Some e

-- 'Add to a full queue drops the newcomer (house).'
abbrev pub added : Event → List Event → List Event
added e es = cond (ltb (length es) most) (es ++ (e ∷ [])) es

-- ---- the search, by the table Search Type Coding: bit 1 is by location, bit 2 by type, all others are reserved

abbrev pub by_location : ℕ
by_location = 1

abbrev pub by_type : ℕ
by_type = 2

abbrev pub by_both : ℕ
by_both = 3

unfoldable pub known_search : ℕ → Bool
known_search by = leb by_location by && leb by by_both

-- whether an event meets a search; none meets an unknown search type, and bytes that the type does not use are ignored
unfoldable pub meets : Search → Event → Bool
meets s e =
    checks
    ((eqb s.by by_location, eqb e.location s.wanted.location)
    ∷ (eqb s.by by_type, eqb e.kind s.wanted.kind)
    ∷ (eqb s.by by_both, eqb e.kind s.wanted.kind && eqb e.location s.wanted.location)
    ∷ [])
    false

-- the search for an event's like
abbrev pub like_of : Event → Search
like_of e = record { by = by_both; wanted = e }
