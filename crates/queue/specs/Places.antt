-- How the queue keeps its events: packed into numbers, in a ring. The oldest stands where the ring begins, the younger
-- ones follow it, and after the last place of the array comes its first. Free places are 0.
use Rattle.std.specs.Prelude.{ℕ, zero, suc, ◌+◌, ◌/◌, ◌%◌, ◌≤◌, ◌<◌, ◌≡◌, cond, List, [], ◌∷◌, length, get_or}
use Rattle.queue.specs.declared.Event.{Event}
use Rattle.queue.specs.declared.Queue.{Queue}
use Rattle.queue.specs.Events.{most, meets, like_of}

-- an event as one number: the type byte above the location
abbrev pub event_in : ℕ → Event
event_in x = record { kind = x / 65536 % 256; location = x % 65536 }

-- a number that keeps an event
pub record Packs (e : Event) (x : ℕ) : Type 0 where
  pub small : x < 16777216
  pub back : event_in x ≡ e

-- ---- the ring

-- the place that lies so many places after a start; where 100 is reached, the places go on from 0
abbrev pub place_from : ℕ → ℕ → ℕ
place_from start further = (start + further) % most

-- the number that stands there
abbrev pub number_at : List ℕ → ℕ → ℕ → ℕ
number_at places start further = get_or places (place_from start further) 0

-- n events, the first of them so many places after the start
abbrev pub events_from : List ℕ → ℕ → ℕ → ℕ → List Event
events_from places start further zero = []
events_from places start further (suc n) = event_in (number_at places start further) ∷ events_from places start (suc further) n

-- what a queue holds, oldest first
abbrev pub events_of : Queue → List Event
events_of q = events_from q.places q.start 0 q.count

-- the law of a queue: its events, and where its ring begins, are all that it is; places outside the ring's stretch are zeros
pub record Lawful (q : Queue) : Type 0 where
  pub few : q.count ≤ most
  pub begun : q.start < most
  pub long : length q.places ≡ most
  pub small : (i : ℕ) → get_or q.places i 0 < 16777216
  pub free : (i : ℕ) → q.count ≤ i → i < most → number_at q.places q.start i ≡ 0

-- a queue that holds these events
pub record Holds (q : Queue) (es : List Event) : Type 0 where
  pub events : events_of q ≡ es
  pub law : Lawful q

-- which places of an array hold events: from the ring's start on, so many
pub record Stretch : Type 0 where
  pub start : ℕ
  pub count : ℕ

-- the queue of an array, with the stretch of it that is in use
abbrev pub queue_of : List ℕ → Stretch → Queue
queue_of places s = record { places = places; start = s.start; count = s.count }

-- the stretch of a queue: with its array it is the queue again
abbrev pub stretch_of : Queue → Stretch
stretch_of q = record { start = q.start; count = q.count }

abbrev pub events_in : List ℕ → Stretch → List Event
events_in places s = events_of (queue_of places s)

-- ---- where the ring begins

-- the place of the oldest event; in an empty queue, of the next one that comes
abbrev pub start_of : Queue → ℕ
start_of q = q.start

-- once the oldest event of a type and location is taken: at the next place if it was the oldest of all, else where it began
abbrev pub start_without : Event → List Event → ℕ → ℕ
start_without e [] start = start
start_without e (x ∷ es) start = cond (meets (like_of e) x) (place_from start 1) start

-- a queue that holds these events in a ring that begins here
pub record HoldsAt (q : Queue) (es : List Event) (start : ℕ) : Type 0 where
  pub holds : Holds q es
  pub begins : start_of q ≡ start
