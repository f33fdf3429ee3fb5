-- A ring that goes over the array's end, computed: filled, 60 events taken, 60 added, one found on either side of the seam, flushed, and begun again.
use Prim.Native.Nat.{ℕ, zero, suc, ◌+◌, ◌<◌}
use mathlib.Core.Path.{◌≡◌, refl, ap, sym, ◌∙◌}
use mathlib.Core.List.{List, [], ◌∷◌, ◌++◌}
use native.Mathlib.Omega.{arith}
use lib.ListN.{get_or, length, replicate}
use Rattle.queue.specs.declared.Event.{Event}
use Rattle.queue.specs.declared.Queue.{Queue}
use Rattle.queue.specs.Events.{known_search, meets, by_location, by_type, by_both}
use Rattle.queue.specs.Places.{event_in, place_from, number_at, HoldsAt}
use Rattle.queue.proofs.Laws.{len}
use Rattle.queue.proofs.Once.{stands_at}
use Rattle.events.specs.declared.Command.{Command}
use Rattle.events.specs.declared.Command.TheVariants.{Add, Get, Find, Flush}
use Rattle.events.specs.Events.{judge, apply}
use Rattle.events.specs.Ring.{start_after}

-- ---- what is played

-- the event of a number, and n of them
abbrev event : ℕ → Event
event i = record { kind = i; location = 512 + i }

abbrev events : ℕ → ℕ → List Event
events i zero = []
events i (suc n) = event i ∷ events (suc i) n

abbrev adds : ℕ → ℕ → List Command
adds i zero = []
adds i (suc n) = Add (event i) ∷ adds (suc i) n

-- the events that are held, and where the ring begins
pub record Ring : Type 0 where
  pub held : List Event
  pub start : ℕ

abbrev ring : List Event → ℕ → Ring
ring es start = record { held = es; start = start }

-- after commands, one by one
abbrev after : List Command → Ring → Ring
after [] r = r
after (c ∷ cs) r = after cs (ring (apply (judge r.held c) r.held) (start_after (judge r.held c) r.held r.start))

abbrev by : ℕ → ℕ → Command
by way i = Find (record { by = way; wanted = event i })

-- ---- over the seam

pub fills : after (adds 0 100) (ring [] 0) ≡ ring (events 0 100) 0
unfolding judge apply start_after
fills = refl

pub takes-60 : after (replicate 60 Get) (ring (events 0 100) 0) ≡ ring (events 60 40) 60
unfolding judge apply start_after meets
takes-60 = refl

pub adds-60 : after (adds 100 60) (ring (events 60 40) 60) ≡ ring (events 60 100) 60
unfolding judge apply start_after
adds-60 = refl

-- the newcomer to a full ring is dropped
pub drops : after (adds 160 1) (ring (events 60 100) 60) ≡ ring (events 60 100) 60
unfolding judge apply start_after
drops = refl

-- the last event before the seam, the first after it, and the newest
pub finds : after (by by_location 99 ∷ by by_type 100 ∷ by by_both 159 ∷ []) (ring (events 60 100) 60) ≡ ring (events 60 39 ++ events 101 58) 60
unfolding judge apply start_after meets known_search
finds = refl

-- the oldest: the ring begins at the next place
pub finds-oldest : after (by by_both 60 ∷ []) (ring (events 60 39 ++ events 101 58) 60) ≡ ring (events 61 38 ++ events 101 58) 61
unfolding judge apply start_after meets known_search
finds-oldest = refl

-- 39 more, and the ring begins at place 0 again: the place after 99
pub goes_over : after (replicate 39 Get) (ring (events 61 38 ++ events 101 58) 61) ≡ ring (events 102 57) 0
unfolding judge apply start_after meets
goes_over = refl

-- Flush of the ring that went over the seam, as it was before those Gets
pub flushes : after (Flush ∷ []) (ring (events 61 38 ++ events 101 58) 61) ≡ ring [] 0
unfolding judge apply start_after
flushes = refl

pub adds_again : after (adds 7 1) (ring [] 0) ≡ ring (event 7 ∷ []) 0
unfolding judge apply start_after
adds_again = refl

-- ---- in the array

-- event 99 stands at place 99, event 100 at place 0, and the newest right before the oldest
pub stand-at : (q : Queue) → HoldsAt q (events 60 100) 60
    → (event_in (get_or q.places 99 0) ≡ event 99) × (event_in (get_or q.places 0 0) ≡ event 100) × (event_in (get_or q.places 59 0) ≡ event 159)
stand-at q k = (there 39 (omega (arith, count)), there 40 (omega (arith, count)), there 99 (omega (arith, count)))
  where
    count : q.count ≡ 100
    count = sym (len q.places q.start 0 q.count) ∙ ap length k.holds.events

    there : (j : ℕ) → j < q.count → event_in (get_or q.places (place_from 60 j) 0) ≡ get_or (events 60 100) j (event 0)
    there j h =
        ap (λ (s : ℕ). event_in (number_at q.places s j)) (sym k.begins)
        ∙ sym (stands_at q j (event 0) h)
        ∙ ap (λ (es : List Event). get_or es j (event 0)) k.holds.events
