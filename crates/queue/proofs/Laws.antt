-- Laws of the events that a ring keeps: read from its start on, one more at the end, one taken out.
use Prim.Native.Nat.{ℕ, zero, suc, ◌+◌, ◌*◌, ◌-◌, ◌/◌, ◌%◌, ◌≤◌, ◌<◌}
use Rattle.std.specs.Prelude.{Some}
use mathlib.Core.Path.{◌≡◌, refl, sym, ap, ◌∙◌}
use mathlib.Core.Bool.{Bool, true, false}
use mathlib.Core.List.{List, [], ◌∷◌, ◌++◌, append-nil}
use native.Mathlib.Numerals.{add-one}
use native.Mathlib.Omega.{arith}
use lib.Dec.{eqb, ltb}
use lib.ListN.{length, replicate, get_or, set, length-set, length-replicate, get_or-eq_default}
use lib.Seq.{append_snoc, get_or-set_same, get_or-set_other}
use borrow.Author.Tests.{lt-ltb, le-ltb, ltb-true, ltb-false, eq-eqb, ne_eqb, eqb-true, eqb-false}
use Rattle.lists.specs.Lists.{first, find, without_at}
use Rattle.lists.proofs.Tests.{split, differ}
use Rattle.lists.proofs.Numbers.{find-inside}
use Rattle.lists.proofs.Cells.{same-all, set-small}
use Rattle.queue.specs.declared.Event.{Event}
use Rattle.queue.specs.declared.Queue.{Queue}
use Rattle.queue.specs.Events.{most, oldest, added}
use Rattle.queue.specs.Places.{event_in, Packs, place_from, number_at, events_from, events_of, Lawful, HoldsAt}

-- ---- places of a ring

-- the start is its first place
pub begins : (s : ℕ) → s < most → place_from s 0 ≡ s
begins s h = omega arith

-- and none of the others is
further-on : (s i : ℕ) → s < most → suc i < most → place_from s (suc i) ≡ s → ⊥
further-on s i b h e = omega arith

-- one place further
pub one_further : (s i j : ℕ) → j ≡ suc i → place_from (place_from s i) 1 ≡ place_from s j
one_further s i j e = omega arith

-- every place lies some way after the start
pub reached : (s i : ℕ) → s < most → i < most → place_from s ((i + most - s) % most) ≡ i
reached s i b h = omega arith

module _ (l : List ℕ) (s p v : ℕ) (here : p < most) where
  -- what is stored so many places after the start is seen there, and nowhere else
  stored_there : length l ≡ most → number_at (set l (place_from s p) v) s p ≡ v
  stored_there long = get_or-set_same l (place_from s p) v 0 (omega arith)

  stored-elsewhere : (i : ℕ) → i < most → (i ≡ p → ⊥) → number_at (set l (place_from s p) v) s i ≡ number_at l s i
  stored-elsewhere i h d = get_or-set_other l (place_from s p) (place_from s i) v 0 (λ e. d (omega arith))

-- the last place in use is freed
freed : (l : List ℕ) (s p : ℕ) → p < most → length l ≡ most → ((i : ℕ) → p < i → i < most → number_at l s i ≡ 0)
    → (i : ℕ) → p ≤ i → i < most → number_at (set l (place_from s p) 0) s i ≡ 0
freed l s p b long free i g h =
    split (eqb i p) (λ e. rw (eqb-true i p e) (stored_there l s p 0 b long))
    (λ e. stored-elsewhere l s p 0 b i h (eqb-false i p e) ∙ free i (omega (arith, eqb-false i p e)) h)

-- ---- reading

pub len : (l : List ℕ) (s i n : ℕ) → length (events_from l s i n) ≡ n
len l s i zero = refl
len l s i (suc n) = ap suc (len l s (suc i) n)

pub oldest-there : (l : List ℕ) (s n : ℕ) → s < most → (n ≡ 0 → ⊥) → oldest (events_from l s 0 n) ≡ Some (event_in (get_or l s 0))
oldest-there l s n b h =
    let e : n ≡ suc (n - 1) = omega (arith, h) in
    ap (λ (k : ℕ). oldest (events_from l s 0 k)) e ∙ ap (λ (j : ℕ). Some (event_in (get_or l j 0))) (begins s b)

-- only the places that are read count
same : (l m : List ℕ) (s i n : ℕ) → ((j : ℕ) → i ≤ j → j < i + n → number_at l s j ≡ number_at m s j) → events_from l s i n ≡ events_from m s i n
same l m s i zero h = refl
same l m s i (suc n) h = rw (h i (omega arith) (omega arith), same l m s (suc i) n (λ j a b. h j (omega arith) (omega arith)))

stored-after : (l : List ℕ) (s p v i n : ℕ) → p < most → i + n ≤ p → events_from (set l (place_from s p) v) s i n ≡ events_from l s i n
stored-after l s p v i n b h = same _ l s i n (λ j a c. stored-elsewhere l s p v b j (omega arith) (λ e. omega arith))

stored-before : (l : List ℕ) (s p v i n : ℕ) → p < i → i + n ≤ most → events_from (set l (place_from s p) v) s i n ≡ events_from l s i n
stored-before l s p v i n h b = same _ l s i n (λ j a c. stored-elsewhere l s p v (omega arith) j (omega arith) (λ e. omega arith))

-- the newest stands last
last : (l : List ℕ) (s i n : ℕ) → events_from l s i (suc n) ≡ events_from l s i n ++ (event_in (number_at l s (i + n)) ∷ [])
last l s i zero =
    let e : i ≡ i + 0 = omega arith in
    ap (λ (j : ℕ). event_in (number_at l s j) ∷ []) e
last l s i (suc n) =
    let e : suc i + n ≡ i + suc n = omega arith in
    ap (λ (es : List Event). event_in (number_at l s i) ∷ es)
    (last l s (suc i) n ∙ ap (λ (j : ℕ). events_from l s (suc i) n ++ (event_in (number_at l s j) ∷ [])) e)

stored_last : (l : List ℕ) (s n v : ℕ) → n < most → length l ≡ most
    → events_from (set l (place_from s n) v) s 0 (suc n) ≡ events_from l s 0 n ++ (event_in v ∷ [])
stored_last l s n v h long =
    let e : 0 + n ≡ n = omega arith in
    last (set l (place_from s n) v) s 0 n
    ∙ ap (λ (j : ℕ). events_from (set l (place_from s n) v) s 0 n ++ (event_in (number_at (set l (place_from s n) v) s j) ∷ [])) e
    ∙ rw (stored_there l s n v h long, stored-after l s n v 0 n h (omega arith))

-- ---- an event as a number

pub packs : (e : Event) → e.kind < 256 → e.location < 65536 → Packs e (e.kind * 65536 + e.location)
packs e hk hl =
    let a : (e.kind * 65536 + e.location) / 65536 % 256 ≡ e.kind = omega arith in
    let b : (e.kind * 65536 + e.location) % 65536 ≡ e.location = omega arith in
    record { small = omega arith; back = rw (a, b) }

-- ---- a queue that holds nothing

holds-zeros : (l : List ℕ) → length l ≡ most → ((i : ℕ) → get_or l i 0 ≡ 0) → HoldsAt (record { places = l; start = 0; count = 0 }) [] 0
holds-zeros l long zeros = record {
  holds = record {
    events = refl;
    law = record {
      few = omega arith;
      begun = omega arith;
      long = long;
      small = λ i. omega (arith, zeros i);
      free = λ i h b. zeros (place_from 0 i);
    };
  };
  begins = refl;
}

pub holds-none : HoldsAt (record { places = replicate 100 0; start = 0; count = 0 }) [] 0
holds-none = holds-zeros (replicate 100 0) (length-replicate {A = ℕ} 100 0) (λ i. same-all 100 i 0)

-- ---- one event more

pub added_more : (e : Event) (es : List Event) → length es < most → added e es ≡ es ++ (e ∷ [])
added_more e es h = rw (lt-ltb (length es) most h)

added_none : (e : Event) (es : List Event) → most ≤ length es → added e es ≡ es
added_none e es h = rw (le-ltb (length es) most h)

pub holds_more : (q : Queue) (e : Event) (x : ℕ) → Lawful q → q.count < most → Packs e x
    → HoldsAt (record { places = set q.places (place_from q.start q.count) x; start = q.start; count = q.count + 1 }) (added e (events_of q)) q.start
holds_more q e x w h p = record {
  holds = record {
    events =
        rw (add-one q.count) (stored_last q.places q.start q.count x h w.long ∙ rw p.back)
        ∙ sym (added_more e (events_of q) (omega (arith, len q.places q.start 0 q.count)));
    law = record {
      few = omega arith;
      begun = w.begun;
      long = simp length-set w.long;
      small = set-small q.places (place_from q.start q.count) x 16777216 p.small w.small;
      free = λ i g b. stored-elsewhere q.places q.start q.count x h i b (λ z. omega arith) ∙ w.free i (omega arith) b;
    };
  };
  begins = refl;
}

pub holds-full : (q : Queue) (e : Event) → Lawful q → most ≤ q.count → HoldsAt q (added e (events_of q)) q.start
holds-full q e w h = record {
  holds = record { events = sym (added_none e (events_of q) (omega (arith, len q.places q.start 0 q.count))); law = w };
  begins = refl;
}

-- ---- the oldest event less: its place is freed, and the ring begins at the next one

module _ (l : List ℕ) (s v : ℕ) (b : s < most) where
  next-number : (i : ℕ) → suc i < most → number_at (set l s v) (place_from s 1) i ≡ number_at l s (suc i)
  next-number i h =
      let e : place_from (place_from s 1) i ≡ place_from s (suc i) = omega arith in
      rw e (get_or-set_other l s (place_from s (suc i)) v 0 (further-on s i b h))

  next-events : (i n : ℕ) → suc i + n ≤ most → events_from (set l s v) (place_from s 1) i n ≡ events_from l s (suc i) n
  next-events i zero h = refl
  next-events i (suc n) h = rw (next-number i (omega arith), next-events (suc i) n (omega arith))

-- taking out by number leaves a gap
pub gap-starts : (l : List ℕ) (s i h k : ℕ) → without_at k (events_from l s i (h + suc k)) ≡ events_from l s i h ++ events_from l s (suc (i + h)) k
gap-starts l s i zero k =
    let e : 0 + suc k ≡ suc k = omega arith in
    let f : i ≡ i + 0 = omega arith in
    ap (λ (n : ℕ). without_at k (events_from l s i n)) e
    ∙ rw (eq-eqb k (length (events_from l s (suc i) k)) (sym (len l s (suc i) k)))
    (ap (λ (j : ℕ). events_from l s (suc j) k) f)
gap-starts l s i (suc h) k =
    let e : suc h + suc k ≡ suc (h + suc k) = omega arith in
    let f : suc i + h ≡ i + suc h = omega arith in
    ap (λ (n : ℕ). without_at k (events_from l s i n)) e
    ∙ rw (ne_eqb k (length (events_from l s (suc i) (h + suc k))) (λ z. omega (arith, len l s (suc i) (h + suc k))))
    (ap (λ (es : List Event). event_in (number_at l s i) ∷ es)
    (gap-starts l s (suc i) h k ∙ ap (λ (j : ℕ). events_from l s (suc i) h ++ events_from l s (suc j) k) f))

pub holds-rest : (q : Queue) → Lawful q → 0 < q.count
    → HoldsAt (record { places = set q.places q.start 0; start = place_from q.start 1; count = q.count - 1 })
    (without_at (q.count - 1) (events_of q)) (place_from q.start 1)
holds-rest q w pos = record {
  holds = record {
    events =
        next-events l s 0 w.begun 0 (q.count - 1) (omega (arith, w.few))
        ∙ sym (gap-starts l s 0 0 (q.count - 1))
        ∙ ap (λ (n : ℕ). without_at (q.count - 1) (events_from l s 0 n)) e;
    law = record {
      few = omega (arith, w.few);
      begun = omega arith;
      long = simp length-set w.long;
      small = set-small l s 0 16777216 (omega arith) w.small;
      free = λ i g b. go i (ltb (suc i) most) refl g b;
    };
  };
  begins = refl;
}
  where
    l : List ℕ
    l = q.places

    s : ℕ
    s = q.start

    e : 0 + suc (q.count - 1) ≡ q.count
    e = omega arith

    go : (i : ℕ) (b : Bool) → ltb (suc i) most ≡ b → q.count - 1 ≤ i → i < most → number_at (set l s 0) (place_from s 1) i ≡ 0
    go i true t g h =
        let k : suc i < most = ltb-true (suc i) most t in
        next-number l s 0 w.begun i k ∙ w.free (suc i) (omega arith) k
    go i false t g h =
        let k : most ≤ suc i = ltb-false (suc i) most t in
        let f : place_from (place_from s 1) i ≡ s = omega (arith, w.begun) in
        rw f (get_or-set_same l s 0 0 (omega (arith, w.begun, w.long)))

-- ---- another event less: a gap moves up from its place

-- the events but that so many places after the start, after which there are k more
abbrev around : List ℕ → ℕ → ℕ → ℕ → List Event
around l s h k = events_from l s 0 h ++ events_from l s (suc h) k

gap-moves : (l : List ℕ) (s h k v : ℕ) → suc (suc h) + k ≤ most → length l ≡ most → v ≡ number_at l s (suc h)
    → around (set l (place_from s h) v) s (suc h) k ≡ around l s h (suc k)
gap-moves l s h k v g long e =
    ap (λ (es : List Event). es ++ events_from (set l (place_from s h) v) s (suc (suc h)) k) (stored_last l s h v (omega arith) long)
    ∙ rw (stored-before l s h v (suc (suc h)) k (omega arith) g, e) (append_snoc (events_from l s 0 h) (event_in (number_at l s (suc h))) (events_from l s (suc (suc h)) k))

-- what a loop that moves the gap keeps: n places were in use, the gap has k events after it
pub record Moving (es : List Event) (s n : ℕ) (l : List ℕ) (k : ℕ) : Type 0 where
  pub few : n ≤ most
  pub inside : k < n
  pub long : length l ≡ most
  pub small : (i : ℕ) → get_or l i 0 < 16777216
  pub free : (i : ℕ) → n ≤ i → i < most → number_at l s i ≡ 0
  pub events : around l s (n - 1 - k) k ≡ es

pub moving-starts : (q : Queue) (k : ℕ) → Lawful q → k < q.count → Moving (without_at k (events_of q)) q.start q.count q.places k
moving-starts q k w h =
    let e : q.count ≡ q.count - 1 - k + suc k = omega arith in
    let f : 0 + (q.count - 1 - k) ≡ q.count - 1 - k = omega arith in
    record {
      few = w.few;
      inside = h;
      long = w.long;
      small = w.small;
      free = w.free;
      events =
          sym
          (ap (λ (n : ℕ). without_at k (events_from q.places q.start 0 n)) e
          ∙ gap-starts q.places q.start 0 (q.count - 1 - k) k
          ∙ ap (λ (j : ℕ). events_from q.places q.start 0 (q.count - 1 - k) ++ events_from q.places q.start (suc j) k) f);
    }

pub moving-goes : (es : List Event) (s n : ℕ) (l : List ℕ) (k : ℕ) → 0 < k → Moving es s n l k
    → Moving es s n (set l (place_from s (n - 1 - k)) (number_at l s (n - k))) (k - 1)
moving-goes es s n l k pos m =
    let h : ℕ = n - 1 - k in
    let a : n - k ≡ suc h = omega (arith, m.inside) in
    let b : n - 1 - (k - 1) ≡ suc h = omega (arith, m.inside) in
    let d : k ≡ suc (k - 1) = omega arith in
    record {
      few = m.few;
      inside = omega (arith, m.inside);
      long = simp length-set m.long;
      small = set-small l (place_from s h) (number_at l s (n - k)) 16777216 (m.small (place_from s (n - k))) m.small;
      free = λ i g c. stored-elsewhere l s h (number_at l s (n - k)) (omega (arith, m.inside, m.few)) i c (λ z. omega (arith, m.inside)) ∙ m.free i g c;
      events =
          rw b (gap-moves l s h (k - 1) (number_at l s (n - k)) (omega (arith, m.inside, m.few)) m.long (ap (number_at l s) a)
          ∙ sym (ap (around l s h) d)
          ∙ m.events);
    }

pub moving-ends : (es : List Event) (s n : ℕ) (l : List ℕ) (k : ℕ) → s < most → k ≡ 0 → Moving es s n l k
    → HoldsAt (record { places = set l (place_from s (n - 1)) 0; start = s; count = n - 1 }) es s
moving-ends es s n l k b z m =
    let a : n - 1 - k ≡ n - 1 = omega arith in
    record {
      holds = record {
        events =
            stored-after l s (n - 1) 0 0 (n - 1) inner (omega arith)
            ∙ sym (append-nil (events_from l s 0 (n - 1)))
            ∙ sym (ap (λ (j : ℕ). around l s (n - 1) j) z)
            ∙ ap (λ (j : ℕ). around l s j k) (sym a)
            ∙ m.events;
        law = record {
          few = omega (arith, m.few);
          begun = b;
          long = simp length-set m.long;
          small = set-small l (place_from s (n - 1)) 0 16777216 (omega arith) m.small;
          free = freed l s (n - 1) inner m.long (λ i g c. m.free i (omega arith) c);
        };
      };
      begins = refl;
    }
  where
    inner : n - 1 < most
    inner = omega (arith, m.inside, m.few)

-- ---- a walk from the oldest; i events are looked at

module _ (q : Event → Bool) (l : List ℕ) (s n i : ℕ) (h : i < n) where
  next_one : events_from l s i (n - i) ≡ event_in (number_at l s i) ∷ events_from l s (i + 1) (n - (i + 1))
  next_one =
      let a : n - i ≡ suc (n - suc i) = omega arith in
      rw (add-one i) (ap (events_from l s i) a)

  pub find-here : q (event_in (number_at l s i)) ≡ true → find q (events_from l s i (n - i)) ≡ Some (n - 1 - i)
  find-here t =
      let e : n - (i + 1) ≡ n - 1 - i = omega arith in
      ap (find q) next_one ∙ rw (t, len l s (i + 1) (n - (i + 1)), e)

  pub find_past : q (event_in (number_at l s i)) ≡ false → find q (events_from l s i (n - i)) ≡ find q (events_from l s (i + 1) (n - (i + 1)))
  find_past t = ap (find q) next_one ∙ rw t

-- ---- from the number that a walk found to the event

met-from : (q : Event → Bool) (l : List ℕ) (s i n k : ℕ) → find q (events_from l s i n) ≡ Some k
    → first q (events_from l s i n) ≡ Some (event_in (number_at l s (i + (n - 1 - k))))
met-from q l s i zero k e = differ (cc)
met-from q l s i (suc n) k e =
    split (q (event_in (number_at l s i)))
    (λ p. let f : Some (length (events_from l s (suc i) n)) ≡ Some k = rw p at e in
    let z : length (events_from l s (suc i) n) ≡ k = cc in
    let y : i + (suc n - 1 - k) ≡ i = omega (arith, len l s (suc i) n) in
    rw (p, y))
    (λ p. let f : find q (events_from l s (suc i) n) ≡ Some k = rw p at e in
    let y : suc i + (n - 1 - k) ≡ i + (suc n - 1 - k) = omega (arith, find-inside q (events_from l s (suc i) n) k f, len l s (suc i) n) in
    rw p (met-from q l s (suc i) n k f ∙ ap (λ (j : ℕ). Some (event_in (number_at l s j))) y))

module _ (q : Event → Bool) (r : Queue) (k : ℕ) (e : find q (events_of r) ≡ Some k) where
  pub met-inside : k < r.count
  met-inside = omega (arith, find-inside q (events_of r) k e, len r.places r.start 0 r.count)

  pub met-there : first q (events_of r) ≡ Some (event_in (number_at r.places r.start (r.count - 1 - k)))
  met-there =
      let z : 0 + (r.count - 1 - k) ≡ r.count - 1 - k = omega arith in
      met-from q r.places r.start 0 r.count k e ∙ ap (λ (j : ℕ). Some (event_in (number_at r.places r.start j))) z
