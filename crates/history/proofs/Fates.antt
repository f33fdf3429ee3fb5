-- What became of each passed command: it is open still, or was answered once, or given up once; and one given up is owed still, or was
-- swallowed once, or ended by one replaced call.
use Prim.Native.Nat.{◌+◌, ◌≤◌, ◌<◌}
use Rattle.std.specs.Prelude.{Option, Some, None}
use mathlib.Core.Path.{◌≡◌, refl, ap, ◌∙◌}
use mathlib.Core.Logic.{inl, inr}
use mathlib.Core.Bool.{Bool, true, false, ◌&&◌, cond}
use mathlib.Core.List.{List, [], ◌∷◌}
use native.Mathlib.Omega.{arith}
use lib.ListN.{length}
use borrow.Author.Tests.{not-true}
use Rattle.lists.specs.Lists.{one, In}
use Rattle.lists.proofs.Tests.{split, clash, and_yes, eqb_same}
use Rattle.lists.proofs.Members.{in_either, in_one, in_all}
use Rattle.place.specs.declared.Place.{Place}
use Rattle.places.specs.Places.{is_open, is_owed, asks, owing}
use Rattle.rules.specs.declared.Outcome.{Outcome}
use Rattle.rules.specs.declared.Outcome.TheVariants.{Passed, Answered, Swallowed, Event, Turned, Given, Reset, Refused}
use Rattle.rules.specs.Apply.{place}
use Rattle.places.proofs.Two.{asks-open, owes-owed}
use Rattle.history.specs.History.{Entry, Sent, starts, sent, lives, lives_on, standing, meets, ends, is_passed, is_answered, is_given, is_swallowed, is_reset, Named, named, times_ended, Fate}
use Rattle.history.proofs.Told.{sent-before, older, unsent}

-- ---- one outcome

is_open_lem : (p : Place) → is_open p ≡ true → (1 ≡ one (is_open p)) × (0 ≡ one (is_owed p))
is_open_lem p e = let n : is_owed p ≡ false = not-true (is_owed p) e in rw n (refl, refl)

is-owed : (p : Place) → is_owed p ≡ true → (0 ≡ one (is_open p)) × (1 ≡ one (is_owed p))
is-owed p e = rw e (refl, refl)

-- what is ended by a response to the asker was open; what is ended otherwise was owed
pub was : (o : Outcome) (p : Place) → ends o p ≡ true
    → (one (is_answered o) + one (is_given o) ≡ one (is_open p)) × (one (is_swallowed o) + one (is_reset o) ≡ one (is_owed p))
was (Passed asker asked kind t) p e = clash false e refl
was (Answered asked asker t k) p e = is_open_lem p (asks-open asked t p e)
was (Swallowed asked t) p e = is-owed p (owes-owed asked t p e)
was Event p e = clash false e refl
was (Turned asker asked t k) p e = clash false e refl
was (Given asker asked t) p e = is_open_lem p (asks-open asked t p e)
was (Reset h) p e = is-owed p (and_yes (is_owed p) (asks h p) e).0
was (Refused r) p e = clash false e refl

and_no : (b : Bool) → one (b && false) ≡ 0
and_no true = refl
and_no false = refl

and_one : (b : Bool) → one (b && true) ≡ one b
and_one true = refl
and_one false = refl

-- given up, it is owed; else it is done with
owes-on : (g : Bool) (p : Place)
    → (one (meets is_open (cond g (Some (owing p)) None)) ≡ 0) × (one (meets is_owed (cond g (Some (owing p)) None)) ≡ one g)
owes-on true p = (refl, refl)
owes-on false p = (refl, refl)

module _ (o : Outcome) (p : Place) where
  -- a wait goes on, or is answered, or is given up
  wait-goes : one (meets is_open (lives o p)) + (one (is_answered o && ends o p) + one (is_given o && ends o p)) ≡ one (is_open p)
  wait-goes =
      split (ends o p)
      (λ e. rw e (omega (arith, (was o p e).0, (owes-on (is_given o) p).0, and_one (is_answered o), and_one (is_given o))))
      (λ e. rw e (omega (arith, and_no (is_answered o), and_no (is_given o))))

  -- an owing begins, goes on, or is ended
  owing-goes : one (meets is_owed (lives o p)) + (one (is_swallowed o && ends o p) + one (is_reset o && ends o p)) ≡ one (is_owed p) + one (is_given o && ends o p)
  owing-goes =
      split (ends o p)
      (λ e. rw e (omega (arith, (was o p e).1, (owes-on (is_given o) p).1, and_one (is_swallowed o), and_one (is_reset o), and_one (is_given o))))
      (λ e. rw e (omega (arith, and_no (is_swallowed o), and_no (is_reset o), and_no (is_given o))))

-- ---- a history

-- nothing has ended a command that is not yet passed, nor does its own entry
none_yet : (q : Outcome → Bool) (h : List Entry) (c : Sent) → length h ≤ c.no + 1 → times_ended q h c ≡ 0
none_yet q [] c k = refl
none_yet q (e ∷ h) c k = rw (unsent h c (omega arith)) (omega (arith, and_no (q e.outcome), none_yet q h c (omega arith)))

-- the entry of the command itself
newest : (e : Entry) (h : List Entry) (c : Sent) → In c (starts (length h) e.outcome) → Fate (e ∷ h) c
newest e h c i = split (is_passed e.outcome) (λ p. rw (← in_one c new (rw p at i)) own) (λ p. absurd (rw p at i))
  where
    n : Named
    n = named e.outcome

    new : Sent
    new = record { no = length h; command = place n.asker n.asked n.kind n.thread }

    None : (q : Outcome → Bool) → times_ended q (e ∷ h) new ≡ 0
    None q = none_yet q (e ∷ h) new (omega arith)

    own : Fate (e ∷ h) new
    own = record {
      open-or-ended = rw (eqb_same (length h)) (omega (arith, None is_answered, None is_given));
      owed-or-ended = rw (eqb_same (length h)) (omega (arith, None is_swallowed, None is_reset, None is_given));
    }

-- an entry after it
goes_on : (e : Entry) (h : List Entry) (c : Sent) → c.no < length h → Fate h c → Fate (e ∷ h) c
goes_on e h c n f = go (standing h c) refl
  where
    here : standing (e ∷ h) c ≡ lives_on e.outcome (standing h c)
    here = older e h c n

    go : (o : Option Place) → standing h c ≡ o → Fate (e ∷ h) c
    go None k =
        let gone : standing (e ∷ h) c ≡ None = here ∙ ap (lives_on e.outcome) k in
        record {
          open-or-ended = rw (gone, k) (omega (arith, rw k at f.open-or-ended, and_no (is_answered e.outcome), and_no (is_given e.outcome)));
          owed-or-ended = rw (gone, k) (omega (arith, rw k at f.owed-or-ended, and_no (is_swallowed e.outcome), and_no (is_reset e.outcome), and_no (is_given e.outcome)));
        }
    go (Some p) k =
        let stands : standing (e ∷ h) c ≡ lives e.outcome p = here ∙ ap (lives_on e.outcome) k in
        record {
          open-or-ended = rw (stands, k) (omega (arith, rw k at f.open-or-ended, wait-goes e.outcome p));
          owed-or-ended = rw (stands, k) (omega (arith, rw k at f.owed-or-ended, owing-goes e.outcome p));
        }

-- of any history
pub fate : (h : List Entry) (c : Sent) → In c (sent h) → Fate h c
fate [] c i = absurd i
fate (e ∷ h) c i =
    elim (in_either c (starts (length h) e.outcome) (sent h) i)
    [ inl j ↦ newest e h c j | inr j ↦ goes_on e h c (in_all (λ (x : Sent). x.no < length h) c (sent h) (sent-before h) j) (fate h c j) ]
