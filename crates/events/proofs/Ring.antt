-- Request 03, from what `handle` promises: where the ring then begins, and which numbers of the queue's array are as they were.
use Prim.Native.Nat.{ℕ}
use Rattle.std.specs.Prelude.{Ok, Option, Some, None}
use mathlib.Core.Path.{◌≡◌, refl, ap, ◌∙◌}
use mathlib.Core.Bool.{true, false}
use mathlib.Core.List.{List, [], ◌∷◌}
use lib.ListN.{length, get_or}
use Rattle.lists.specs.Lists.{first}
use Rattle.lists.proofs.Tests.{split, differ}
use Rattle.lists.proofs.First.{first-yes}
use Rattle.tapa.specs.Codes.{no_events, no_matching_events}
use Rattle.message.specs.declared.Head.{Head}
use Rattle.message.specs.Message.{part_of}
use Rattle.queue.specs.declared.Event.{Event}
use Rattle.queue.specs.declared.Queue.{Queue}
use Rattle.queue.specs.declared.Search.{Search}
use Rattle.queue.specs.Events.{oldest, known_search, meets, like_of}
use Rattle.queue.specs.Places.{place_from, events_of, Lawful, start_of, HoldsAt}
use Rattle.queue.proofs.Taking.{alike, like-itself, meets-known}
use Rattle.queue.proofs.Once.{one-queue}
use Rattle.queue.proofs.Still.{oldest-still, added-still}
use Rattle.events.specs.declared.Command.TheVariants.{Get, Find}
use Rattle.events.specs.declared.Outcome.{Outcome}
use Rattle.events.specs.declared.Outcome.TheVariants.{Added, Taken, Coded}
use Rattle.events.specs.declared.Handled.{Handled}
use Rattle.events.specs.Events.{checked, command_of, taken_or, judge, apply, handled}
use Rattle.events.specs.Ring.{start_after, start_handled, HandlingAt}
use Rattle.events.proofs.Judging.{one-filled}

-- ---- where the ring begins

-- taken by Get: at the next place
pub get-goes-on : (e : Event) (es : List Event) (start : ℕ) → start_after (judge (e ∷ es) Get) (e ∷ es) start ≡ place_from start 1
unfolding judge start_after
get-goes-on e es start = rw (like-itself e)

-- the oldest taken by Find: as Get
pub find-goes-on : (s : Search) (e : Event) (es : List Event) (start : ℕ) → meets s e ≡ true → start_after (judge (e ∷ es) (Find s)) (e ∷ es) start ≡ place_from start 1
unfolding judge start_after
find-goes-on s e es start m = rw (meets-known s e m, m, like-itself e)

-- another one taken by Find, or none: at the same place
pub find-stays : (s : Search) (x : Event) (es : List Event) (start : ℕ) → meets s x ≡ false → start_after (judge (x ∷ es) (Find s)) (x ∷ es) start ≡ start
unfolding judge start_after
find-stays s x es start n =
    split (known_search s.by) (λ t. rw (t, n) (found (first (meets s) es) refl)) (λ t. rw t)
  where
    found : (o : Option Event) → first (meets s) es ≡ o → start_after (taken_or no_matching_events o) (x ∷ es) start ≡ start
    found None f = refl
    found (Some e) f =
        split (meets (like_of e) x)
        (λ p. let y : meets s x ≡ true = ap (meets s) (alike e x p) ∙ first-yes (meets s) es e f in differ (cc))
        (λ p. rw p)

-- ---- which numbers are as they were

module _ (q : Queue) (w : Lawful q) (s before after : List ℕ) (h : Handled)
    (k : HandlingAt q s before after h)
    (head : Head) (passed : checked (length before) s ≡ Ok head) where
  came : (o : Outcome) → judge (events_of q) (command_of head.kind (part_of s)) ≡ o → HoldsAt h.next (apply o (events_of q)) (start_after o (events_of q) (start_of q))
  unfolding handled start_handled
  came o e = record { holds = rw (passed, e) at k.handling.next; begins = rw (passed, e) at k.begins }

  -- 'taking the oldest moves no event', whichever command takes it: every number but one is as it was
  pub oldest-taken-still : (e : Event) → judge (events_of q) (command_of head.kind (part_of s)) ≡ Taken e → oldest (events_of q) ≡ Some e
      → (i : ℕ) → (i ≡ start_of q → ⊥) → get_or h.next.places i 0 ≡ get_or q.places i 0
  unfolding apply start_after
  oldest-taken-still e j o i d = oldest-still q h.next w e o (came (Taken e) j) i d

  -- after a Get every number of the array but one is as it was, also where it finds none
  pub get-still : command_of head.kind (part_of s) ≡ Get → (i : ℕ) → (i ≡ start_of q → ⊥) → get_or h.next.places i 0 ≡ get_or q.places i 0
  unfolding judge apply start_after
  get-still g i d = go (events_of q) refl
    where
      go : (es : List Event) → events_of q ≡ es → get_or h.next.places i 0 ≡ get_or q.places i 0
      go [] z = ap (λ (p : Queue). get_or p.places i 0) (one-queue h.next q (events_of q) (start_of q) (came (Coded no_events) (rw (g, z))) (record { holds = record { events = refl; law = w }; begins = refl }))
      go (x ∷ es) z = oldest-taken-still x (rw (g, z)) (rw z) i d

  -- after a Find of the oldest too
  pub find-still : (search : Search) (e : Event) → command_of head.kind (part_of s) ≡ Find search
      → first (meets search) (events_of q) ≡ Some e → oldest (events_of q) ≡ Some e
      → (i : ℕ) → (i ≡ start_of q → ⊥) → get_or h.next.places i 0 ≡ get_or q.places i 0
  unfolding judge
  find-still search e g f o i d =
      let t = meets-known search e (first-yes (meets search) (events_of q) e f) in
      oldest-taken-still e (rw (g, t, one-filled (events_of q) e o, f)) o i d

  -- after an Add every number but that of the place after the newest is as it was
  pub add-still : (e : Event) → judge (events_of q) (command_of head.kind (part_of s)) ≡ Added e
      → (i : ℕ) → (i ≡ place_from (start_of q) q.count → ⊥) → get_or h.next.places i 0 ≡ get_or q.places i 0
  unfolding apply start_after
  add-still e j i d = added-still q h.next w e (came (Added e) j) i d
