-- What each test of a place says, in plain conditions on its fields: `-where` they make it true, and it is true there only (`-only`).
-- And a place written out, with its number.
use Prim.Native.Nat.{ℕ, ◌/◌, ◌≤◌, ◌<◌}
use mathlib.Core.Path.{◌≡◌, refl}
use mathlib.Core.Bool.{Bool, true, false, not, ◌||◌, or-true}
use mathlib.Core.Logic.{◌⊎◌, inl, inr, ⊎_elim}
use native.Mathlib.Omega.{arith}
use lib.Dec.{eqb, leb}
use borrow.Author.Tests.{eq-eqb, eqb-true, le-leb, lt-leb, not-true}
use Rattle.lists.proofs.Tests.{split, clash, and_yes, or_left}
use Rattle.tapa.specs.Address.{handler_of, multi}
use Rattle.place.specs.declared.Place.{Place}
use Rattle.place.specs.Place.{pack, unpack, open_on, owed_on, asks_exactly, owes_exactly, stands, stands_on, holds_on, stands_in, on_slot, owed_by, not_owed_by, owing}

-- ---- a place and its number: the command `0202 0100 45 03` as a wait and, with bit 48 set, as an owing

abbrev command : Bool → Place
command owed = record { asker = 0x0100; asked = 0x0202; kind = 0x45; thread = 0x03; owed = owed }

pub wait-number : pack (command false) ≡ 0x0010002024503
wait-number = refl

pub owing-number : pack (command true) ≡ 0x1010002024503
owing-number = refl

pub number-wait : unpack 0x0010002024503 ≡ command false
number-wait = refl

pub number-owing : unpack 0x1010002024503 ≡ command true
number-owing = refl

-- 'An owing is a wait given up': the same command, with the mark
pub given-up : owing (command false) ≡ command true
given-up = refl

-- ---- waits and owings of a thread

module _ (t : ℕ) (x : Place) where
  pub open-where : x.owed ≡ false → x.thread ≡ t → open_on t x ≡ true
  open-where o e = rw (o, eq-eqb x.thread t e)

  pub open-only : open_on t x ≡ true → (x.owed ≡ false) × (x.thread ≡ t)
  open-only e = let p = and_yes _ _ e in (not-true x.owed p.0, eqb-true x.thread t p.1)

  pub owed-where : x.owed ≡ true → x.thread ≡ t → owed_on t x ≡ true
  owed-where o e = rw (o, eq-eqb x.thread t e)

  pub owed-only : owed_on t x ≡ true → (x.owed ≡ true) × (x.thread ≡ t)
  owed-only e = let p = and_yes _ _ e in (p.0, eqb-true x.thread t p.1)

  -- 'has exactly this source as its asked address': all sixteen bits, and the thread
  pub asks-where : (a : ℕ) → x.owed ≡ false → x.thread ≡ t → x.asked ≡ a → asks_exactly a t x ≡ true
  asks-where a o e f = rw (open-where o e, eq-eqb x.asked a f)

  pub asks-only : (a : ℕ) → asks_exactly a t x ≡ true → (x.owed ≡ false) × (x.thread ≡ t) × (x.asked ≡ a)
  asks-only a e = let p = and_yes _ _ e in let q = open-only p.0 in (q.0, q.1, eqb-true x.asked a p.1)

  -- 'this exact source is owed on this thread'
  pub owes-where : (a : ℕ) → x.owed ≡ true → x.thread ≡ t → x.asked ≡ a → owes_exactly a t x ≡ true
  owes-where a o e f = rw (owed-where o e, eq-eqb x.asked a f)

  pub owes-only : (a : ℕ) → owes_exactly a t x ≡ true → (x.owed ≡ true) × (x.thread ≡ t) × (x.asked ≡ a)
  owes-only a e = let p = and_yes _ _ e in let q = owed-only p.0 in (q.0, q.1, eqb-true x.asked a p.1)

-- ---- a handler and a place

module _ (h : ℕ) (x : Place) where
  stands-where : (handler_of x.asker ≡ h) ⊎ (handler_of x.asked ≡ h) → stands h x ≡ true
  stands-where e =
      ⊎_elim (λ k. rw (eq-eqb (handler_of x.asker) h k)) (λ k. rw (eq-eqb (handler_of x.asked) h k, or-true (eqb (handler_of x.asker) h))) e

  stands-only : stands h x ≡ true → (handler_of x.asker ≡ h) ⊎ (handler_of x.asked ≡ h)
  stands-only e =
      split (eqb (handler_of x.asked) h)
      (λ k. inr (eqb-true (handler_of x.asked) h k))
      (λ k. inl (eqb-true (handler_of x.asker) h (or_left _ _ e k)))

  -- 'handler stands in a wait as asker or asked'; one that only owes does not
  pub in-wait-where : x.owed ≡ false → (handler_of x.asker ≡ h) ⊎ (handler_of x.asked ≡ h) → stands_in h x ≡ true
  in-wait-where o e = rw (o, stands-where e)

  pub in-wait-only : stands_in h x ≡ true → (x.owed ≡ false) × ((handler_of x.asker ≡ h) ⊎ (handler_of x.asked ≡ h))
  in-wait-only e = let p = and_yes _ _ e in (not-true x.owed p.0, stands-only p.1)

  -- 'its owings end': those in which it is asked
  pub owed-by-where : x.owed ≡ true → handler_of x.asked ≡ h → owed_by h x ≡ true
  owed-by-where o e = rw (o, eq-eqb (handler_of x.asked) h e)

  pub owed-by-only : owed_by h x ≡ true → (x.owed ≡ true) × (handler_of x.asked ≡ h)
  owed-by-only e = let p = and_yes _ _ e in (p.0, eqb-true (handler_of x.asked) h p.1)

  pub stays-where : (x.owed ≡ true → handler_of x.asked ≡ h → ⊥) → not_owed_by h x ≡ true
  stays-where n = split (owed_by h x) (λ e. let p = owed-by-only e in absurd (n p.0 p.1)) (λ e. rw e)

  pub stays-only : not_owed_by h x ≡ true → x.owed ≡ true → handler_of x.asked ≡ h → ⊥
  stays-only s o e = clash (owed_by h x) (owed-by-where o e) (not-true (owed_by h x) s)

  module _ (t : ℕ) where
    -- 'stands in this thread's tree as asker or asked'
    pub in-tree-where : x.owed ≡ false → x.thread ≡ t → (handler_of x.asker ≡ h) ⊎ (handler_of x.asked ≡ h) → stands_on t h x ≡ true
    in-tree-where o e k = rw (open-where t x o e, stands-where k)

    pub in-tree-only : stands_on t h x ≡ true → (x.owed ≡ false) × (x.thread ≡ t) × ((handler_of x.asker ≡ h) ⊎ (handler_of x.asked ≡ h))
    in-tree-only e = let p = and_yes _ _ e in let q = open-only t x p.0 in (q.0, q.1, stands-only p.1)

    -- a question is held by the handler that asked it, on its thread, as long as it is a wait
    pub holds-where : x.owed ≡ false → x.thread ≡ t → handler_of x.asker ≡ h → holds_on t h x ≡ true
    holds-where o e k = rw (open-where t x o e, eq-eqb (handler_of x.asker) h k)

    pub holds-only : holds_on t h x ≡ true → (x.owed ≡ false) × (x.thread ≡ t) × (handler_of x.asker ≡ h)
    holds-only e = let p = and_yes _ _ e in let q = open-only t x p.0 in (q.0, q.1, eqb-true (handler_of x.asker) h p.1)

    -- '00 and 01 are multi (one command a thread), all others single (one altogether)': asked or owing, a single handler has its one
    -- slot taken on any thread, a multi one that of the place's own thread
    pub single-where : 0x0200 ≤ h → handler_of x.asked ≡ h → on_slot h t x ≡ true
    unfolding multi
    single-where s k = rw (eq-eqb (handler_of x.asked) h k, lt-leb (h / 256) 1 (omega arith))

    pub multi-where : x.thread ≡ t → handler_of x.asked ≡ h → on_slot h t x ≡ true
    multi-where e k = rw (eq-eqb (handler_of x.asked) h k, eq-eqb x.thread t e, or-true (not (multi h)))

    pub slot-only : on_slot h t x ≡ true → handler_of x.asked ≡ h
    slot-only e = eqb-true (handler_of x.asked) h (and_yes _ _ e).0

    pub multi-only : h < 0x0200 → on_slot h t x ≡ true → x.thread ≡ t
    unfolding multi
    multi-only s e =
        let m : leb (h / 256) 1 ≡ true = le-leb (h / 256) 1 (omega arith) in
        eqb-true x.thread t (rw m at (and_yes (eqb (handler_of x.asked) h) (not (leb (h / 256) 1) || eqb x.thread t) e).1)
