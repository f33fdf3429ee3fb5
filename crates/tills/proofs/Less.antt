-- Two steps that leave alone what the other looks at: either order is the same.
use Prim.Native.Nat.{ℕ, ◌≤◌}
use Rattle.std.specs.Prelude.{Option, Some, None}
use mathlib.Core.Path.{◌≡◌, refl, sym, ap, ◌∙◌}
use mathlib.Core.Logic.{◌⊎◌, inl, inr, ⊎_elim}
use mathlib.Core.Bool.{Bool, true, false}
use mathlib.Core.List.{List}
use lib.Dec.{eqb}
use lib.ListN.{length}
use borrow.Author.Tests.{le-leb, eqb-true, eqb-false}
use Rattle.lists.specs.Lists.{keep, In}
use Rattle.lists.proofs.Tests.{split, clash, and_yes, differ}
use Rattle.lists.proofs.Kept.{keep-wider}
use Rattle.lists.proofs.Members.{in-or-not}
use Rattle.tapa.specs.Address.{category_of, multi}
use Rattle.place.specs.declared.Place.{Place}
use Rattle.places.specs.Places.{is_open, is_owed, on_thread, open_on, owed_on}
use Rattle.rules.specs.View.{View}
use Rattle.rules.specs.declared.Outcome.{Outcome}
use Rattle.rules.specs.declared.Outcome.TheVariants.{Passed, Answered, Swallowed, Event, Turned, Given, Reset, Refused}
use Rattle.rules.specs.Judge as rules
use Rattle.rules.specs.Apply.{rows_after, places_after}
use Rattle.rules.specs.Says.{GivesUp}
use Rattle.rules.specs.Words.{tree_of}
use Rattle.rules.proofs.Says.{says}
use Rattle.rules.proofs.Untouched.{give-up-rows}
use Rattle.rules.proofs.Apart.{part, of_thread, part_same, multi-same, rows_same, give-up-same}
use Rattle.tills.specs.Tills.{Step, give_up, outcome_of, after, shows, thread_of, DifferentThreads, owings_on, Undisturbed}
use Rattle.tills.specs.Less.{asks_of, moves_of, LeavesAlone, Enough}
use Rattle.tills.proofs.Reach.{thread-its, thread-left, busy-left}
use Rattle.tills.proofs.Sees.{BusySame, outcome-same}

-- 'in category 00 or 01': one command a thread
pub multi-by-category : (h : ℕ) → category_of h ≤ 1 → multi h ≡ true
unfolding category_of multi
multi-by-category h e = le-leb _ _ e

-- a thread is that of a step or not
thread-or-not : (o : Option ℕ) (t : ℕ) → (o ≡ Some t) ⊎ (o ≡ Some t → ⊥)
thread-or-not None t = inr (λ e. differ (cc))
thread-or-not (Some u) t =
    split (eqb u t) (λ p. inl (ap Some (eqb-true u t p))) (λ p. inr (λ e. eqb-false u t p (let z : u ≡ t = cc in z)))

-- ---- a thread's places tell its tree and its owings

module _ (t : ℕ) (l m : List Place) (e : part (of_thread t) l ≡ part (of_thread t) m) where
  kept_same : (q : Place → Bool) → ((x : Place) → q x ≡ true → on_thread t x ≡ true) → keep q l ≡ keep q m
  kept_same q within = sym (keep-wider q (on_thread t) within l) ∙ ap (keep q) e ∙ keep-wider q (on_thread t) within m

  pub tree-same : tree_of t l ≡ tree_of t m
  tree-same = kept_same (open_on t) (λ x p. (and_yes (is_open x) (on_thread t x) p).1)

  pub owings-same : owings_on t l ≡ owings_on t m
  owings-same = kept_same (owed_on t) (λ x p. (and_yes (is_owed x) (on_thread t x) p).1)

-- ---- the second step, after the first and without it

module _ (v : View) (c d : Step) (n : DifferentThreads c d) (l : LeavesAlone v c d) where
  its-thread : (t : ℕ) → thread_of d ≡ Some t → part (of_thread t) (after v c).places ≡ part (of_thread t) v.places
  its-thread t e = thread-left v c t (λ f. n t f e)

  as-busy : BusySame (after v c) v l.marks (thread_of d) (asks_of d)
  as-busy t e h i =
      ⊎_elim
      (λ (j : In h (moves_of (outcome_of v c))). multi-same t (after v c).places v.places (its-thread t e) h (multi-by-category h (l.slots h j i)))
      (λ (j : In h (moves_of (outcome_of v c)) → ⊥). busy-left v c h t j)
      (in-or-not h (moves_of (outcome_of v c)))

  pub second-same : outcome_of (after v c) d ≡ outcome_of v d
  second-same = outcome-same (after v c) v l.marks d its-thread as-busy

  -- the open marks after both are those after the second alone
  marks-both : (after (after v c) d).rows ≡ (after v d).rows
  marks-both =
      ap (λ (o : Outcome). rows_after o (after v c)) second-same
      ∙ rows_same (after v c) v l.marks (outcome_of v d) (λ t e. its-thread t (thread-its v d t e))

-- ---- either order

-- off the first step's thread, the places after both are those after the second alone
places-off : (v : View) (c d : Step) → outcome_of (after v c) d ≡ outcome_of v d
    → (t : ℕ) → (thread_of c ≡ Some t → ⊥) → part (of_thread t) (after (after v c) d).places ≡ part (of_thread t) (after v d).places
places-off v c d e t n =
    ap (λ (o : Outcome). part (of_thread t) (places_after o (after v c).places)) e
    ∙ part_same (of_thread t) (after v c).places v.places (thread-left v c t n) (outcome_of v d)

-- two steps that each have the same outcome first and second leave the same on every thread
module _ (v : View) (c d : Step) (n : DifferentThreads c d) (e : outcome_of (after v c) d ≡ outcome_of v d) (f : outcome_of (after v d) c ≡ outcome_of v c) where
  places-both : (t : ℕ) → part (of_thread t) (after (after v c) d).places ≡ part (of_thread t) (after (after v d) c).places
  places-both t =
      ⊎_elim
      (λ (p : thread_of d ≡ Some t). places-off v c d e t (λ q. n t q p) ∙ sym (thread-left (after v d) c t (λ q. n t q p)))
      (λ (p : thread_of d ≡ Some t → ⊥). thread-left (after v c) d t p ∙ sym (places-off v d c f t p))
      (thread-or-not (thread_of d) t)

  both-orders : (after (after v c) d).rows ≡ (after (after v d) c).rows → Undisturbed v c d
  both-orders marks = record {
    first = ap (shows c) (sym f);
    second = ap (shows d) e;
    left = record {
      trees = λ t. tree-same t (after (after v c) d).places (after (after v d) c).places (places-both t);
      marks = marks;
      owings = λ t. owings-same t (after (after v c) d).places (after (after v d) c).places (places-both t);
    };
  }

module _ (v : View) (c d : Step) (e : Enough v c d) where
  round : DifferentThreads d c
  round t p q = e.threads t q p

  pub places_same : (t : ℕ) → part (of_thread t) (after (after v c) d).places ≡ part (of_thread t) (after (after v d) c).places
  places_same = places-both v c d e.threads (second-same v c d e.threads e.first) (second-same v d c round e.second)

  pub enough : Undisturbed v c d
  enough =
      both-orders v c d e.threads (second-same v c d e.threads e.first) (second-same v d c round e.second)
      (marks-both v c d e.threads e.first ∙ e.second.marks ∙ sym e.first.marks ∙ sym (marks-both v d c round e.second))

-- ---- a give up and a step on another thread do not disturb one another, whoever is named: who is given up stays as busy as before, and a give up
-- looks at its own thread alone

given-moves : (t a : ℕ) (o : Outcome) → GivesUp t a o → (h : ℕ) → In h (moves_of o) → ⊥
given-moves t a (Passed asker asked kind u) (inl e) h i = clash false e refl
given-moves t a (Answered asked asker u k) (inl e) h i = clash false e refl
given-moves t a (Swallowed asked u) (inl e) h i = clash false e refl
given-moves t a Event (inl e) h i = i
given-moves t a (Turned asker asked u k) (inl e) h i = i
given-moves t a (Given asker asked u) (inl e) h i = i
given-moves t a (Reset x) (inl e) h i = clash false e refl
given-moves t a (Refused r) (inl e) h i = i
given-moves t a o (inr s) h i = let z : In h (moves_of (Given s.0 a t)) = rw s.1 at i in z

pub give-up-free : (v : View) (t a : ℕ) (buffer : List ℕ) (d : Step) → DifferentThreads (give_up t a buffer) d → Undisturbed v (give_up t a buffer) d
give-up-free v t a buffer d n =
    let g : Step = give_up t a buffer in
    let moves : (h : ℕ) → In h (moves_of (outcome_of v g)) → ⊥ = given-moves t a _ (says v (length buffer) (rules.give_up t a)) in
    let l : LeavesAlone v g d = record { marks = sym (give-up-rows v (length buffer) t a); slots = λ h i j. absurd (moves h i) } in
    let e : outcome_of (after v d) g ≡ outcome_of v g = give-up-same (after v d) v t (thread-left v d t (λ f. n t refl f)) (length buffer) a in
    both-orders v g d n (second-same v g d n l) e (marks-both v g d n l ∙ give-up-rows (after v d) (length buffer) t a)
