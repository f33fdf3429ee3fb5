-- How far the contracts reach: a queue is known by its events and by where its ring begins.
use Prim.Native.Nat.{ℕ, zero, suc, ◌+◌, ◌-◌, ◌/◌, ◌%◌, ◌≤◌, ◌<◌}
use mathlib.Core.Path.{◌≡◌, refl, sym, ap, ◌∙◌}
use mathlib.Core.Bool.{Bool, true, false}
use mathlib.Core.List.{List}
use native.Mathlib.Nat.{not-suc-le-zero}
use native.Mathlib.Omega.{arith}
use lib.Dec.{ltb}
use lib.ListN.{length, get_or}
use lib.Seq.{ext_get_or}
use borrow.Author.Tests.{ltb-true, ltb-false}
use Rattle.queue.specs.declared.Event.{Event}
use Rattle.queue.specs.declared.Queue.{Queue}
use Rattle.queue.specs.Events.{most}
use Rattle.queue.specs.Places.{event_in, Packs, place_from, number_at, events_from, events_of, Stretch, queue_of, stretch_of, events_in, Lawful, HoldsAt}
use Rattle.queue.proofs.Laws.{len, reached}

-- 'It holds at most 100 events'
pub at_most : (q : Queue) → Lawful q → length (events_of q) ≤ 100
at_most q w = omega (arith, len q.places q.start 0 q.count, w.few)

-- ---- a queue is known by its events and its start

-- a number is known by the event in it
pub one_number : (x y : ℕ) → x < 16777216 → y < 16777216 → event_in x ≡ event_in y → x ≡ y
one_number x y hx hy e =
    let k : x / 65536 % 256 ≡ y / 65536 % 256 = ap (λ (v : Event). v.kind) e in
    let l : x % 65536 ≡ y % 65536 = ap (λ (v : Event). v.location) e in
    omega arith

pub event-at : (l : List ℕ) (s i n j : ℕ) (d : Event) → j < n → get_or (events_from l s i n) j d ≡ event_in (number_at l s (i + j))
event-at l s i zero j d h = absurd (not-suc-le-zero h)
event-at l s i (suc n) zero d h =
    let e : i ≡ i + 0 = omega arith in
    ap (λ (k : ℕ). event_in (number_at l s k)) e
event-at l s i (suc n) (suc j) d h =
    let e : suc i + j ≡ i + suc j = omega arith in
    event-at l s (suc i) n j d (omega arith) ∙ ap (λ (k : ℕ). event_in (number_at l s k)) e

-- the event so many places after the start
pub stands_at : (q : Queue) (j : ℕ) (d : Event) → j < q.count → get_or (events_of q) j d ≡ event_in (number_at q.places q.start j)
stands_at q j d h =
    let e : 0 + j ≡ j = omega arith in
    event-at q.places q.start 0 q.count j d h ∙ ap (λ (k : ℕ). event_in (number_at q.places q.start k)) e

same_queue : (l m : List ℕ) (s t i j : ℕ) → l ≡ m → s ≡ t → i ≡ j
    → ◌≡◌ {A = Queue} (record { places = l; start = s; count = i }) (record { places = m; start = t; count = j })
same_queue l m s t i j e f g = cc

module _ (p q : Queue) (hp : Lawful p) (hq : Lawful q) (e : events_of p ≡ events_of q) (f : p.start ≡ q.start) where
  same_count : p.count ≡ q.count
  same_count = sym (len p.places p.start 0 p.count) ∙ ap length e ∙ len q.places q.start 0 q.count

  -- the same numbers stand equally far after the start
  same_number : (j : ℕ) → j < most → number_at p.places p.start j ≡ number_at q.places q.start j
  same_number j h = go (ltb j p.count) refl
    where
      none : Event
      none = event_in 0

      go : (b : Bool) → ltb j p.count ≡ b → number_at p.places p.start j ≡ number_at q.places q.start j
      go true t =
          let k : j < p.count = ltb-true j p.count t in
          one_number (number_at p.places p.start j) (number_at q.places q.start j) (hp.small (place_from p.start j)) (hq.small (place_from q.start j))
          (sym (stands_at p j none k) ∙ ap (λ (es : List Event). get_or es j none) e ∙ stands_at q j none (omega (arith, same_count)))
      go false t =
          let k : p.count ≤ j = ltb-false j p.count t in
          hp.free j k h ∙ sym (hq.free j (omega (arith, same_count)) h)

  same_place : (i : ℕ) → i < most → get_or p.places i 0 ≡ get_or q.places i 0
  same_place i h =
      let j : ℕ = (i + most - p.start) % most in
      let r : place_from p.start j ≡ i = reached p.start i hp.begun h in
      let t : place_from q.start j ≡ i = ap (λ (s : ℕ). place_from s j) (sym f) ∙ r in
      ap (λ (k : ℕ). get_or p.places k 0) (sym r) ∙ same_number j (omega arith) ∙ ap (λ (k : ℕ). get_or q.places k 0) t

  pub determined : p ≡ q
  determined =
      same_queue p.places q.places p.start q.start p.count q.count
      (ext_get_or 0 p.places q.places (hp.long ∙ sym hq.long) (λ i h. same_place i (omega (arith, hp.long))))
      f
      same_count

-- so two calls that hand back a queue that holds these events in a ring that begins here hand back the same one
pub one-queue : (p q : Queue) (es : List Event) (s : ℕ) → HoldsAt p es s → HoldsAt q es s → p ≡ q
one-queue p q es s x y = determined p q x.holds.law y.holds.law (x.holds.events ∙ sym y.holds.events) (x.begins ∙ sym y.begins)

-- two numbers that keep the same event are the same
pub one-pack : (e : Event) (x y : ℕ) → Packs e x → Packs e y → x ≡ y
one-pack e x y p q = one_number x y p.small q.small (p.back ∙ sym q.back)

-- and so do two arrays with the stretches of them that are in use: the same stretch, and the same numbers
pub one_lent : (l m : List ℕ) (s t : Stretch) (es : List Event) (start : ℕ) → HoldsAt (queue_of l s) es start → HoldsAt (queue_of m t) es start → (s ≡ t) × (l ≡ m)
one_lent l m s t es start x y =
    let e = one-queue (queue_of l s) (queue_of m t) es start x y in
    (same-stretch s.start t.start s.count t.count (ap (λ (q : Queue). q.start) e) (ap (λ (q : Queue). q.count) e), ap (λ (q : Queue). q.places) e)
  where
    same-stretch : (a b i j : ℕ) → a ≡ b → i ≡ j → ◌≡◌ {A = Stretch} (record { start = a; count = i }) (record { start = b; count = j })
    same-stretch a b i j f g = cc

-- a queue is its array with its stretch, so the same is left of each lent one
pub lent-whole : (q : Queue) → (queue_of q.places (stretch_of q) ≡ q) × (events_in q.places (stretch_of q) ≡ events_of q)
lent-whole q = (refl, refl)
