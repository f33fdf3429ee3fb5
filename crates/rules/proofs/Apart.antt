-- How far a call sees and how far its outcome reaches, thread by thread. The outcome of a message or a give up touches places of one asked address
-- on one thread, or none. A give up looks at the places of its own thread; a message looks at the rows, too, and, where it is a command, at whether
-- the handler that it asks has a command under way. All of it holds in any view.
use Prim.Native.Nat.{ℕ}
use Rattle.std.specs.Prelude.{Some, None, Option}
use mathlib.Core.Path.{◌≡◌, refl, sym, ap, ap₂, ◌∙◌}
use mathlib.Core.Bool.{Bool, true, false, not, ◌||◌, cond}
use mathlib.Core.List.{List}
use lib.Dec.{eqb}
use borrow.Author.Tests.{eqb-true}
use Rattle.lists.specs.Lists.{some_of, keep, first, without, changed}
use Rattle.lists.proofs.Tests.{split, clash, and_yes, eqb_same}
use Rattle.lists.proofs.Kept.{some-within, first-within, without-within, without-apart, changed-within, changed-apart, keep-agrees}
use Rattle.lists.proofs.First.{some-changed}
use Rattle.tapa.specs.Address.{category_of, handler_of, till_driver, multi}
use Rattle.tapa.specs.Codes.{response}
use Rattle.message.specs.declared.Head.{Head}
use Rattle.place.specs.declared.Place.{Place}
use Rattle.places.specs.Places.{is_owed, on_thread, open_on, owed_on, asks_exactly, owes_exactly, asks, stands, holds_on, holding, on_slot, not_owed_by, owing}
use Rattle.rules.specs.View.{View}
use Rattle.rules.specs.declared.Outcome.{Outcome}
use Rattle.rules.specs.declared.Outcome.TheVariants.{Passed, Answered, Swallowed, Event, Turned, Given, Reset, Refused}
use Rattle.rules.specs.Judge.{answerable, late, reply, judge_response, is_add_event, may_ask, busy, judge_command, judge_kind, yields, judge_give_up}
use Rattle.rules.specs.Apply.{rows_after, places_after}
use Rattle.rules.proofs.Waits.{open-thread}

-- ---- what an outcome touches

-- a test of a place's asked address and thread
abbrev pub in_part : (ℕ → ℕ → Bool) → Place → Bool
in_part g x = g x.asked x.thread

-- the places that pass it, waits and owings
abbrev pub part : (ℕ → ℕ → Bool) → List Place → List Place
part g places = keep (in_part g) places

-- whether an outcome begins, ends or gives up a place that passes. A replaced call may end owings on every thread.
abbrev pub touches : (ℕ → ℕ → Bool) → Outcome → Bool
touches g (Passed asker asked kind t) = g asked t
touches g (Answered asked asker t k) = g asked t
touches g (Swallowed asked t) = g asked t
touches g Event = false
touches g (Turned asker asked t k) = false
touches g (Given asker asked t) = g asked t
touches g (Reset h) = true
touches g (Refused r) = false

module _ (g : ℕ → ℕ → Bool) where
  asked-there : (a t : ℕ) (x : Place) → asks_exactly a t x ≡ true → in_part g x ≡ g a t
  asked-there a t x p =
      let q = and_yes (open_on t x) (eqb x.asked a) p in
      rw (eqb-true x.asked a q.1, eqb-true x.thread t (open-thread t x q.0))

  owed-there : (a t : ℕ) (x : Place) → owes_exactly a t x ≡ true → in_part g x ≡ g a t
  owed-there a t x p =
      let q = and_yes (owed_on t x) (eqb x.asked a) p in
      rw (eqb-true x.asked a q.1, eqb-true x.thread t (and_yes (is_owed x) (on_thread t x) q.0).1)

  -- a part that an outcome does not touch is left as it was
  pub part_left : (o : Outcome) → touches g o ≡ false → (l : List Place) → part g (places_after o l) ≡ part g l
  part_left (Passed asker asked kind t) n l = rw n
  part_left (Answered a asker t k) n l = without-apart (asks_exactly a t) (in_part g) (λ x p. asked-there a t x p ∙ n) l
  part_left (Swallowed a t) n l = without-apart (owes_exactly a t) (in_part g) (λ x p. owed-there a t x p ∙ n) l
  part_left Event n l = refl
  part_left (Turned asker asked t k) n l = refl
  part_left (Given asker a t) n l = changed-apart (asks_exactly a t) (in_part g) (λ x p. asked-there a t x p ∙ n) owing (λ x. refl) l
  part_left (Reset h) n l = clash true refl n
  part_left (Refused r) n l = refl

  -- what an outcome makes of a part is told by that part alone
  module _ (l m : List Place) (e : part g l ≡ part g m) where
    part_without : (q : Place → Bool) (b : Bool) → ((x : Place) → q x ≡ true → in_part g x ≡ b) → part g (without q l) ≡ part g (without q m)
    part_without q true f = without-within q (in_part g) f l ∙ ap (without q) e ∙ sym (without-within q (in_part g) f m)
    part_without q false f = without-apart q (in_part g) f l ∙ e ∙ sym (without-apart q (in_part g) f m)

    part-given : (q : Place → Bool) (b : Bool) → ((x : Place) → q x ≡ true → in_part g x ≡ b) → part g (changed owing q l) ≡ part g (changed owing q m)
    part-given q true f =
        changed-within q (in_part g) f owing (λ x. refl) l ∙ ap (changed owing q) e ∙ sym (changed-within q (in_part g) f owing (λ x. refl) m)
    part-given q false f = changed-apart q (in_part g) f owing (λ x. refl) l ∙ e ∙ sym (changed-apart q (in_part g) f owing (λ x. refl) m)

    pub part_same : (o : Outcome) → part g (places_after o l) ≡ part g (places_after o m)
    part_same (Passed asker asked kind t) = split (g asked t) (λ p. rw (p, e)) (λ p. rw (p, e))
    part_same (Answered a asker t k) = part_without (asks_exactly a t) (g a t) (asked-there a t)
    part_same (Swallowed a t) = part_without (owes_exactly a t) (g a t) (owed-there a t)
    part_same Event = e
    part_same (Turned asker asked t k) = e
    part_same (Given asker a t) = part-given (asks_exactly a t) (g a t) (asked-there a t)
    part_same (Reset h) =
        keep-agrees (in_part g) (not_owed_by h) (not_owed_by h) (λ x p. refl) l
        ∙ ap (keep (not_owed_by h)) e
        ∙ sym (keep-agrees (in_part g) (not_owed_by h) (not_owed_by h) (λ x p. refl) m)
    part_same (Refused r) = e

-- ---- the parts that are looked at

-- the places of a thread
abbrev pub of_thread : ℕ → ℕ → ℕ → Bool
of_thread u a t = eqb t u

-- the places that ask a handler, on whatever thread
abbrev pub of_handler : ℕ → ℕ → ℕ → Bool
of_handler h a t = eqb (handler_of a) h

-- a test that only places of a thread pass has the same answer where the thread's places are the same
module _ (t : ℕ) (l m : List Place) (e : part (of_thread t) l ≡ part (of_thread t) m) where
  module _ (q : Place → Bool) (within : (x : Place) → q x ≡ true → on_thread t x ≡ true) where
    some_same : some_of q l ≡ some_of q m
    some_same = some-within q (on_thread t) within l ∙ ap (some_of q) e ∙ sym (some-within q (on_thread t) within m)

    first-same : first q l ≡ first q m
    first-same = first-within q (on_thread t) within l ∙ ap (first q) e ∙ sym (first-within q (on_thread t) within m)

  -- rule d
  pub may-same : (a : ℕ) → may_ask l t a ≡ may_ask m t a
  may-same a =
      ap₂ (λ (x y : Bool). cond x y (eqb (category_of a) till_driver)) (some_same _ (open-thread t))
      (some_same _ (λ x p. open-thread t x (and_yes (open_on t x) (stands (handler_of a) x) p).0))

  -- rule e, where the asked handler's slot is the same
  pub busy-same : (a h : ℕ) → some_of (on_slot h t) l ≡ some_of (on_slot h t) m → busy l a h t ≡ busy m a h t
  unfolding busy
  busy-same a h f =
      ap₂ (λ (x y : Bool). eqb h (handler_of a) || (x || y)) (some_same _ (λ x p. open-thread t x (and_yes (open_on t x) (stands h x) p).0)) f

  pub holding-same : (a : ℕ) → holding l a t ≡ holding m a t
  holding-same a = some_same (holds_on t (handler_of a)) (λ x p. open-thread t x (and_yes (open_on t x) (eqb (handler_of x.asker) (handler_of a)) p).0)

  pub answerable-same : (a : ℕ) → answerable l a t ≡ answerable m a t
  answerable-same a = first-same (asks_exactly a t) (λ x p. open-thread t x (and_yes (open_on t x) (eqb x.asked a) p).0)

  owed_same : (a : ℕ) → some_of (owes_exactly a t) l ≡ some_of (owes_exactly a t) m
  owed_same a = some_same (owes_exactly a t) (λ x p. (and_yes (is_owed x) (on_thread t x) (and_yes (owed_on t x) (eqb x.asked a) p).0).1)

  -- a multi handler's slot is looked at on the thread alone
  pub multi-same : (h : ℕ) → multi h ≡ true → some_of (on_slot h t) l ≡ some_of (on_slot h t) m
  multi-same h k = some_same (on_slot h t) (λ x p. rw k at (and_yes (asks h x) (not (multi h) || on_thread t x) p).1)

-- a handler's slot is told by the places that ask it
pub slot_same : (h t : ℕ) (l m : List Place) → part (of_handler h) l ≡ part (of_handler h) m → some_of (on_slot h t) l ≡ some_of (on_slot h t) m
slot_same h t l m e =
    let within : (x : Place) → on_slot h t x ≡ true → asks h x ≡ true = λ x p. (and_yes (asks h x) (not (multi h) || on_thread t x) p).0 in
    some-within (on_slot h t) (asks h) within l ∙ ap (some_of (on_slot h t)) e ∙ sym (some-within (on_slot h t) (asks h) within m)

-- and a wait that is given up takes it still, as an owing
pub slot-given : (h t a u : ℕ) (l : List Place) → some_of (on_slot h t) (changed owing (asks_exactly a u) l) ≡ some_of (on_slot h t) l
slot-given h t a u l = some-changed owing (on_slot h t) (asks_exactly a u) (λ x. refl) l

-- ---- what a call comes to, in two views

-- Give up
module _ (v w : View) (t : ℕ) (e : part (of_thread t) v.places ≡ part (of_thread t) w.places) where
  yields-same : (o : Option Place) (a : ℕ) → yields v.places o t a ≡ yields w.places o t a
  unfolding yields
  yields-same None a = refl
  yields-same (Some x) a = rw (holding-same t v.places w.places e a)

  pub give-up-same : (room a : ℕ) → judge_give_up v room t a ≡ judge_give_up w room t a
  unfolding judge_give_up
  give-up-same room a = rw (answerable-same t v.places w.places e a, yields-same (answerable w.places a t) a)

module _ (v w : View) (rows : v.rows ≡ w.rows) where
  -- the open marks after an outcome, where its thread's places are the same
  pub rows_same : (o : Outcome) → ((t : ℕ) → touches (of_thread t) o ≡ true → part (of_thread t) v.places ≡ part (of_thread t) w.places)
      → rows_after o v ≡ rows_after o w
  rows_same (Passed asker asked kind t) e = rows
  rows_same (Answered a asker t k) e = rw (answerable-same t v.places w.places (e t (eqb_same t)) a, rows)
  rows_same (Swallowed asked t) e = rows
  rows_same Event e = rows
  rows_same (Turned asker asked t k) e = rows
  rows_same (Given asker asked t) e = rows
  rows_same (Reset h) e = rw rows
  rows_same (Refused r) e = rows

  -- a message that was read
  module _ (h : Head) (e : part (of_thread h.thread) v.places ≡ part (of_thread h.thread) w.places) where
    -- Type 'FF'
    late-same : late v.places h ≡ late w.places h
    unfolding late
    late-same = rw (owed_same h.thread v.places w.places e h.source)

    reply-same : (o : Option Place) (code : ℕ) → reply v.places o h code ≡ reply w.places o h code
    unfolding reply
    reply-same None code = late-same
    reply-same (Some x) code = rw (holding-same h.thread v.places w.places e h.source)

    response-same : (code : Option ℕ) → judge_response v.places h code ≡ judge_response w.places h code
    unfolding judge_response
    response-same None = refl
    response-same (Some code) =
        rw (answerable-same h.thread v.places w.places e h.source, reply-same (answerable w.places h.source h.thread) code)

    abbrev pub SlotSame : Type 0
    SlotSame = some_of (on_slot (handler_of h.destination) h.thread) v.places ≡ some_of (on_slot (handler_of h.destination) h.thread) w.places

    -- any other type
    command-same : SlotSame → judge_command v h ≡ judge_command w h
    unfolding judge_command
    command-same f =
        rw (
          may-same h.thread v.places w.places e h.source,
          busy-same h.thread v.places w.places e h.source (handler_of h.destination) f,
          rows,
        )

    pub kind-same : (code : Option ℕ) → (eqb h.kind response ≡ false → is_add_event h ≡ false → SlotSame) → judge_kind v h code ≡ judge_kind w h code
    unfolding judge_kind
    kind-same code f =
        split (eqb h.kind response) (λ p. rw p (response-same code))
        (λ p. rw p (split (is_add_event h) (λ q. rw (q, rows)) (λ q. rw q (command-same (f p q)))))
