-- What moves in the array. Where the oldest event is taken, or one is added, a single number changes; where another event is taken, the older ones stay.
use Prim.Native.Nat.{ℕ, suc, ◌+◌, ◌-◌, ◌<◌}
use Rattle.std.specs.Prelude.{Some}
use mathlib.Core.Path.{◌≡◌, sym, ap, ◌∙◌}
use mathlib.Core.List.{List, [], ◌∷◌, ◌++◌}
use native.Mathlib.Omega.{arith}
use lib.Dec.{ltb}
use lib.ListN.{length, get_or, set, length-append, get_or-append}
use lib.Seq.{get_or-set_same, get_or-set_other, get_or-append-add}
use borrow.Author.Tests.{ltb-true, ltb-false}
use Rattle.lists.specs.Lists.{without, find, without_at}
use Rattle.lists.proofs.Tests.{split}
use Rattle.lists.proofs.Numbers.{end-found}
use Rattle.queue.specs.declared.Event.{Event}
use Rattle.queue.specs.declared.Queue.{Queue}
use Rattle.queue.specs.Events.{most, oldest, added, meets, like_of}
use Rattle.queue.specs.Places.{event_in, Packs, place_from, number_at, events_from, events_of, Lawful, start_of, start_without, HoldsAt}
use Rattle.queue.proofs.Laws.{len, holds_more, holds-full, holds-rest, gap-starts, met-inside, added_more}
use Rattle.queue.proofs.Taking.{like-itself, some_left, rest-left, goes_on, stays-behind}
use Rattle.queue.proofs.Once.{one_number, event-at, stands_at, one-queue}

-- ---- the oldest is taken

module _ (q r : Queue) (w : Lawful q) (e : Event) (o : oldest (events_of q) ≡ Some e)
    (k : HoldsAt r (without (meets (like_of e)) (events_of q)) (start_without e (events_of q) (start_of q))) where
  one-freed : r ≡ record { places = set q.places q.start 0; start = place_from q.start 1; count = q.count - 1 }
  one-freed =
      let t = like-itself e in
      let n = len q.places q.start 0 q.count in
      let a : without (meets (like_of e)) (events_of q) ≡ without_at (q.count - 1) (events_of q)
      = rest-left e e q.start (events_of q) o t ∙ ap (λ (m : ℕ). without_at (m - 1) (events_of q)) n in
      let b : start_without e (events_of q) q.start ≡ place_from q.start 1 = goes_on e e q.start (events_of q) o t in
      let s = holds-rest q w (omega (arith, n, some_left e e 0 (events_of q) o)) in
      one-queue r _ _ _ k (record { holds = record { events = s.holds.events ∙ sym a; law = s.holds.law }; begins = sym b })

  -- 'taking the oldest moves no event': every number but one is as it was
  pub oldest-still : (i : ℕ) → (i ≡ start_of q → ⊥) → get_or r.places i 0 ≡ get_or q.places i 0
  oldest-still i d = ap (λ (p : Queue). get_or p.places i 0) one-freed ∙ get_or-set_other q.places q.start i 0 0 d

  -- and that one is free
  pub oldest-freed : get_or r.places (start_of q) 0 ≡ 0
  oldest-freed = ap (λ (p : Queue). get_or p.places (start_of q) 0) one-freed ∙ get_or-set_same q.places q.start 0 0 (omega (arith, w.begun, w.long))

-- ---- one is added

module _ (q r : Queue) (w : Lawful q) (e : Event) (k : HoldsAt r (added e (events_of q)) (start_of q)) where
  module _ (h : q.count < most) where
    more : events_of r ≡ events_of q ++ (e ∷ [])
    more = k.holds.events ∙ added_more e (events_of q) (omega (arith, len q.places q.start 0 q.count))

    one_more : q.count < r.count
    one_more =
        let n : length (events_of r) ≡ length (events_of q) + 1 = ap length more ∙ length-append (events_of q) (e ∷ []) in
        omega (arith, len q.places q.start 0 q.count, len r.places r.start 0 r.count)

    packed : Packs e (number_at r.places r.start q.count)
    packed = record {
      small = k.holds.law.small (place_from r.start q.count);
      back =
          let n : length (events_of q) + 0 ≡ q.count = omega (arith, len q.places q.start 0 q.count) in
          sym (stands_at r q.count e one_more)
          ∙ ap (λ (es : List Event). get_or es q.count e) more
          ∙ ap (λ (j : ℕ). get_or (events_of q ++ (e ∷ [])) j e) (sym n)
          ∙ get_or-append-add (events_of q) (e ∷ []) 0 e;
    }

  -- at most one place is written, the one after the newest: every other number is as it was
  pub added-still : (i : ℕ) → (i ≡ place_from (start_of q) q.count → ⊥) → get_or r.places i 0 ≡ get_or q.places i 0
  added-still i d =
      split (ltb q.count most)
      (λ p. let h : q.count < most = ltb-true q.count most p in
      ap (λ (s : Queue). get_or s.places i 0) (one-queue r _ _ _ k (holds_more q e _ w h (packed h)))
      ∙ get_or-set_other q.places (place_from q.start q.count) i _ 0 d)
      (λ p. ap (λ (s : Queue). get_or s.places i 0) (one-queue r q _ _ k (holds-full q e w (ltb-false q.count most p))))

-- ---- another event is taken

-- how many events are older than the one that has n younger ones
abbrev pub older_than : Queue → ℕ → ℕ
older_than q n = q.count - 1 - n

module _ (q r : Queue) (w : Lawful q) (e : Event) (n : ℕ) (f : find (meets (like_of e)) (events_of q) ≡ Some n)
    (k : HoldsAt r (without (meets (like_of e)) (events_of q)) (start_without e (events_of q) (start_of q))) where
  parted : events_of r ≡ events_from q.places q.start 0 (older_than q n) ++ events_from q.places q.start (suc (0 + older_than q n)) n
  parted =
      let c : q.count ≡ older_than q n + suc n = omega (arith, met-inside (meets (like_of e)) q n f) in
      k.holds.events
      ∙ sym (end-found (meets (like_of e)) (events_of q) n f)
      ∙ ap (λ (m : ℕ). without_at n (events_from q.places q.start 0 m)) c
      ∙ gap-starts q.places q.start 0 (older_than q n) n

  -- 'Find may still close a gap': only younger events move
  pub older-still : (j : ℕ) → j < older_than q n → number_at r.places (start_of q) j ≡ number_at q.places (start_of q) j
  older-still j h =
      let o = len q.places q.start 0 (older_than q n) in
      let c : length (events_of r) ≡ older_than q n + n
      = ap length parted ∙ length-append (events_from q.places q.start 0 (older_than q n)) (events_from q.places q.start (suc (0 + older_than q n)) n)
      ∙ rw (o, len q.places q.start (suc (0 + older_than q n)) n) in
      let b : r.start ≡ q.start = k.begins ∙ stays-behind e q.start (events_of q) n f (omega (arith, len q.places q.start 0 q.count)) in
      let z : 0 + j ≡ j = omega arith in
      ap (λ (s : ℕ). number_at r.places s j) (sym b)
      ∙ one_number (number_at r.places r.start j) (number_at q.places q.start j) (k.holds.law.small (place_from r.start j)) (w.small (place_from q.start j))
      (sym (stands_at r j e (omega (arith, len r.places r.start 0 r.count)))
      ∙ ap (λ (es : List Event). get_or es j e) parted
      ∙ get_or-append (events_from q.places q.start 0 (older_than q n)) (events_from q.places q.start (suc (0 + older_than q n)) n) e j (omega arith)
      ∙ event-at q.places q.start 0 (older_than q n) j e h
      ∙ ap (λ (i : ℕ). event_in (number_at q.places q.start i)) z)
