-- What the two orders leave can never be told apart: whatever calls come after, they have the same outcomes. So the order in which places of
-- different threads stand in the list, the one thing in which the two orders may differ, is looked at by no rule.
use Prim.Native.Nat.{ℕ}
use mathlib.Core.Path.{◌≡◌, refl}
use mathlib.Core.Bool.{Bool}
use mathlib.Core.List.{List, [], ◌∷◌}
use Rattle.lists.specs.Lists.{some_of}
use Rattle.lists.proofs.Keyed.{same_some}
use Rattle.tapa.specs.Address.{handler_of}
use Rattle.place.specs.declared.Place.{Place}
use Rattle.places.specs.Places.{stands_in, on_slot}
use Rattle.rules.specs.View.{View}
use Rattle.rules.specs.declared.Outcome.{Outcome}
use Rattle.rules.specs.Judge.{judge_replaced, Call, message, give_up, replaced, judge}
use Rattle.rules.specs.Apply.{applied}
use Rattle.rules.proofs.Apart.{part, of_thread, part_same, rows_same, give-up-same}
use Rattle.tills.specs.Tills.{Step, after, Premise}
use Rattle.tills.specs.Less.{Enough}
use Rattle.tills.specs.Later.{outcomes_of}
use Rattle.tills.proofs.Sees.{message-same}
use Rattle.tills.proofs.Less.{places_same, enough}
use Rattle.tills.proofs.Tills.{premise-enough}

-- the same rows, and on every thread the same places in the same order
record Alike (v w : View) : Type 0 where
  rows : v.rows ≡ w.rows
  places : (t : ℕ) → part (of_thread t) v.places ≡ part (of_thread t) w.places

module _ (v w : View) (a : Alike v w) where
  -- a test over all threads has the same answer
  some_alike : (q : Place → Bool) → some_of q v.places ≡ some_of q w.places
  some_alike q = same_some (λ (p : Place). p.thread) q v.places w.places a.places

  replaced-alike : (address : ℕ) → judge_replaced v address ≡ judge_replaced w address
  unfolding judge_replaced
  replaced-alike address = rw (some_alike (stands_in (handler_of address)), a.rows)

  judge-alike : (room : ℕ) (k : Call) → judge v room k ≡ judge w room k
  judge-alike room (message s) = message-same v w a.rows room s (λ t e. a.places t) (λ t e h i. some_alike (on_slot h t))
  judge-alike room (give_up t address) = give-up-same v w t (a.places t) room address
  judge-alike room (replaced address) = replaced-alike address

  next-alike : (o : Outcome) → Alike (applied o v) (applied o w)
  next-alike o = record { rows = rows_same v w a.rows o (λ t e. a.places t); places = λ t. part_same (of_thread t) v.places w.places (a.places t) o }

later-alike : (v w : View) → Alike v w → (ks : List (ℕ × Call)) → outcomes_of v ks ≡ outcomes_of w ks
later-alike v w a [] = refl
later-alike v w a (k ∷ ks) =
    let e = judge-alike v w a k.0 k.1 in
    let o : Outcome = judge w k.0 k.1 in
    rw (e, later-alike (applied o v) (applied o w) (next-alike v w a o) ks)

pub never-told : (v : View) (c d : Step) → Premise v c d → (ks : List (ℕ × Call)) → outcomes_of (after (after v c) d) ks ≡ outcomes_of (after (after v d) c) ks
never-told v c d p =
    let e : Enough v c d = premise-enough v c d p in
    later-alike (after (after v c) d) (after (after v d) c) (record { rows = (enough v c d e).left.marks; places = places_same v c d e })
