-- The page's types, lengths and codes, written out: what a data part asks, what is decided, and what a reply carries.
use Prim.Native.Nat.{ℕ, ◌+◌, ◌*◌, ◌/◌, ◌%◌, ◌≤◌, ◌<◌}
use Rattle.std.specs.Prelude.{Some, None}
use mathlib.Core.Path.{◌≡◌, refl}
use mathlib.Core.Bool.{true, false, cond}
use mathlib.Core.List.{List, [], ◌∷◌, ◌++◌}
use lib.Dec.{eqb}
use lib.ListN.{length, get_or}
use borrow.Author.Tests.{lt-ltb, le-ltb}
use Rattle.tapa.specs.Address.{handler_of}
use Rattle.message.specs.declared.Head.{Head}
use Rattle.queue.specs.declared.Event.{Event}
use Rattle.events.specs.declared.Command.TheVariants.{Add, WrongAdd, Get, Find, Flush, Wrong}
use Rattle.events.specs.declared.Outcome.TheVariants.{Added, Ignored, Taken, Emptied, Coded}
use Rattle.events.specs.Events.{elsewhere, command_of, judge, apply, carried}

-- ---- whose it is: 'destination handler not '0700' or type 'FF''

abbrev head : (destination kind : ℕ) → Head
head destination kind = record { destination = destination; source = 0x0100; kind = kind; thread = 3; length = 0 }

pub whose : (elsewhere (head 0x0700 0xC1) ≡ false) × (elsewhere (head 0x0780 0xC1) ≡ false)
    × (elsewhere (head 0x0701 0xC1) ≡ true) × (elsewhere (head 0x0500 0xC1) ≡ true) × (elsewhere (head 0x0700 0xFF) ≡ true)
unfolding elsewhere handler_of
whose = (refl, refl, refl, refl, refl)

-- ---- what is asked: 'a type outside 'C0' to 'C3', or a wrong data length (Add 3, Get 0, Find 4, Flush 0)'

module _ (part : List ℕ) where
  -- an event is its type and two bytes of location, the high one first
  pub add-of : command_of 0xC0 part ≡ cond (eqb (length part) 3) (Add (record { kind = get_or part 0 0; location = get_or part 1 0 * 256 + get_or part 2 0 })) WrongAdd
  unfolding command_of
  add-of = refl

  pub get-of : command_of 0xC1 part ≡ cond (eqb (length part) 0) Get Wrong
  unfolding command_of
  get-of = refl

  pub find-of : command_of 0xC2 part
      ≡ cond (eqb (length part) 4)
      (Find (record { by = get_or part 0 0; wanted = record { kind = get_or part 1 0; location = get_or part 2 0 * 256 + get_or part 3 0 } }))
      Wrong
  unfolding command_of
  find-of = refl

  pub flush-of : command_of 0xC3 part ≡ cond (eqb (length part) 0) Flush Wrong
  unfolding command_of
  flush-of = refl

  pub other-of : (kind : ℕ) → eqb kind 0xC0 ≡ false → eqb kind 0xC1 ≡ false → eqb kind 0xC2 ≡ false → eqb kind 0xC3 ≡ false → command_of kind part ≡ Wrong
  unfolding command_of
  other-of kind a b c d = rw (a, b, c, d)

-- ---- what is decided

pub decided : (es : List Event) (e : Event) → (judge es Wrong ≡ Coded 0xFFFB) × (judge es WrongAdd ≡ Ignored) × (judge [] Get ≡ Coded 0xFF72)
    × (judge (e ∷ es) Get ≡ Taken e) × (judge [] Flush ≡ Coded 0xFF72) × (judge (e ∷ es) Flush ≡ Emptied)
unfolding judge
decided es e = (refl, refl, refl, refl, refl, refl)

-- 'It holds at most 100 events', and 'Add to a full queue drops the newcomer (house).'
module _ (es : List Event) (e : Event) where
  pub add-under-100 : length es < 100 → (judge es (Add e) ≡ Added e) × (apply (Added e) es ≡ es ++ (e ∷ []))
  unfolding judge apply
  add-under-100 l = (rw (lt-ltb (length es) 100 l), rw (lt-ltb (length es) 100 l))

  pub add-to-100 : 100 ≤ length es → (judge es (Add e) ≡ Ignored) × (apply Ignored es ≡ es)
  unfolding judge apply
  add-to-100 l = (rw (le-ltb (length es) 100 l), refl)

-- ---- what a reply carries: 'type, location, '0000' (length '0005'); all others only the code'

pub carries : (e : Event) (code : ℕ) → (carried (Taken e) ≡ Some (e.kind ∷ e.location / 256 ∷ e.location % 256 ∷ 0x00 ∷ 0x00 ∷ []))
    × (carried Emptied ≡ Some (0x00 ∷ 0x00 ∷ [])) × (carried (Coded code) ≡ Some (code / 256 ∷ code % 256 ∷ []))
    × (carried (Added e) ≡ None) × (carried Ignored ≡ None)
carries e code = (refl, refl, refl, refl, refl)
