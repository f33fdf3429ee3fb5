-- How far a step reaches: what its outcome touches is on the step's thread, and asked of a handler that the step names.
use Prim.Native.Nat.{ℕ}
use Rattle.tapa.specs.declared.Refusal.{Refusal}
use Rattle.message.specs.declared.Head.{Head}
use Rattle.std.specs.Prelude.{Result, Ok, Err, Option, Some, None}
use mathlib.Core.Path.{◌≡◌, refl, ap, ◌∙◌}
use mathlib.Core.Logic.{◌⊎◌, inl, inr}
use mathlib.Core.Bool.{true, false, ◌||◌}
use mathlib.Core.List.{List, [], ◌∷◌}
use lib.Dec.{eqb}
use borrow.Author.Tests.{eqb-true, ne_eqb}
use lib.ListN.{length}
use Rattle.lists.specs.Lists.{some_of, In}
use Rattle.lists.proofs.Tests.{split, clash, or_no}
use Rattle.lists.proofs.Members.{in_one}
use Rattle.tapa.specs.Address.{handler_of}
use Rattle.tapa.specs.Codes.{response, successful, open_handler, close_handler}
use Rattle.message.specs.Message.{read_of, part_of, code_of}
use Rattle.table.specs.declared.Row.{Row}
use Rattle.place.specs.declared.Place.{Place}
use Rattle.places.specs.Places.{on_slot}
use Rattle.rules.specs.View.{View}
use Rattle.rules.specs.declared.Outcome.{Outcome}
use Rattle.rules.specs.declared.Outcome.TheVariants.{Passed, Answered, Swallowed, Event, Turned, Given, Reset, Refused}
use Rattle.rules.specs.Judge as rules
use Rattle.rules.specs.Judge.{answerable, is_add_event}
use Rattle.rules.specs.Apply.{answered_rows, rows_after, places_after}
use Rattle.rules.specs.Says.{ReadSays, GivesUp}
use Rattle.rules.specs.Said.{is_refused}
use Rattle.rules.proofs.Says.{says}
use Rattle.rules.proofs.Apart.{touches, of_thread, of_handler, part, part_left, slot_same, slot-given}
use Rattle.tills.specs.Tills.{Step, message, give_up, outcome_of, after, read_thread, thread_of, read_names, given_names, gives_of, names_of, wait_commands, answers_one, Steady}
use Rattle.tills.specs.Less.{read_asks, asks_of, moves_of}

-- ---- what the outcome of a step is about: a wait or an owing of the step's thread, asked of a handler that it names or gives up, or none at all

abbrev About : (thread : Option ℕ) (names gives : List ℕ) → Outcome → Type 0
About t names gives (Passed asker asked kind u) = (t ≡ Some u) × In (handler_of asked) names
About t names gives (Answered asked asker u k) = (t ≡ Some u) × In (handler_of asked) names
About t names gives (Swallowed asked u) = (t ≡ Some u) × In (handler_of asked) names
About t names gives Event = Unit {0}
About t names gives (Turned asker asked u k) = Unit {0}
About t names gives (Given asker asked u) = (t ≡ Some u) × In (handler_of asked) gives
About t names gives (Reset h) = ⊥
About t names gives (Refused r) = Unit {0}

refused-about : (t : Option ℕ) (names gives : List ℕ) (o : Outcome) → is_refused o ≡ true → About t names gives o
refused-about t names gives (Passed asker asked kind u) e = clash false e refl
refused-about t names gives (Answered asked asker u k) e = clash false e refl
refused-about t names gives (Swallowed asked u) e = clash false e refl
refused-about t names gives Event e = tt
refused-about t names gives (Turned asker asked u k) e = tt
refused-about t names gives (Given asker asked u) e = clash false e refl
refused-about t names gives (Reset h) e = clash false e refl
refused-about t names gives (Refused r) e = tt

read-about : (r : Result Head Refusal) (code : Option ℕ) (o : Outcome) → ReadSays r code o → About (read_thread r) (read_names r) [] o
read-about (Err z) code o s = refused-about None [] [] o s
read-about (Ok h) code (Passed asker asked kind u) s = (ap Some s.3, inr (inl (ap handler_of s.1)))
read-about (Ok h) code (Answered asked asker u k) s = (ap Some s.3, inl (ap handler_of s.1))
read-about (Ok h) code (Swallowed asked u) s = (ap Some s.2, inl (ap handler_of s.1))
read-about (Ok h) code Event s = tt
read-about (Ok h) code (Turned asker asked u k) s = tt
read-about (Ok h) code (Given asker asked u) s = absurd s
read-about (Ok h) code (Reset a) s = absurd s
read-about (Ok h) code (Refused z) s = tt

given-about : (t a : ℕ) (o : Outcome) → GivesUp t a o → About (Some t) (given_names o) (given_names o) o
given-about t a o (inl e) = refused-about (Some t) (given_names o) (given_names o) o e
given-about t a o (inr s) = rw s.1 (refl, inr (inl refl))

about : (v : View) (c : Step) → About (thread_of c) (names_of v c) (gives_of v c) (outcome_of v c)
about v (message s buffer) = read-about (read_of s) (code_of (part_of s)) _ (says v (length buffer) (rules.message s))
about v (give_up t a buffer) = given-about t a _ (says v (length buffer) (rules.give_up t a))

-- ---- and so what it touches

answered-rows : (w : Option Place) (k : ℕ) (rows : List Row) → wait_commands w ≡ false → answered_rows w k rows ≡ rows
unfolding answered_rows
answered-rows None k rows n = refl
answered-rows (Some w) k rows n =
    let f = or_no (eqb w.kind open_handler) (eqb w.kind close_handler) n in
    rw (f.0, f.1) (split (eqb k successful) (λ p. rw p) (λ p. rw p))

module _ (t : Option ℕ) (names gives : List ℕ) where
  -- a thread that it touches is the step's
  thread-is : (o : Outcome) → About t names gives o → (u : ℕ) → touches (of_thread u) o ≡ true → t ≡ Some u
  thread-is (Passed asker asked kind x) s u e = s.0 ∙ ap Some (eqb-true x u e)
  thread-is (Answered asked asker x k) s u e = s.0 ∙ ap Some (eqb-true x u e)
  thread-is (Swallowed asked x) s u e = s.0 ∙ ap Some (eqb-true x u e)
  thread-is Event s u e = clash false e refl
  thread-is (Turned asker asked x k) s u e = clash false e refl
  thread-is (Given asker asked x) s u e = s.0 ∙ ap Some (eqb-true x u e)
  thread-is (Reset h) s u e = absurd s
  thread-is (Refused r) s u e = clash false e refl

  -- a handler that it touches is made busy, freed or given up
  handler-is : (o : Outcome) → About t names gives o → (h : ℕ) → touches (of_handler h) o ≡ true → In h (moves_of o) ⊎ In h gives
  handler-is (Passed asker asked kind x) s h e = inl (inl (eqb-true (handler_of asked) h e))
  handler-is (Answered asked asker x k) s h e = inl (inl (eqb-true (handler_of asked) h e))
  handler-is (Swallowed asked x) s h e = inl (inl (eqb-true (handler_of asked) h e))
  handler-is Event s h e = clash false e refl
  handler-is (Turned asker asked x k) s h e = clash false e refl
  handler-is (Given asker asked x) s h e = inr (rw (eqb-true (handler_of asked) h e) at s.1)
  handler-is (Reset a) s h e = absurd s
  handler-is (Refused r) s h e = clash false e refl

  named : (h a : ℕ) → In (handler_of a) names → In h (handler_of a ∷ []) → In h names
  named h a i j = rw (in_one h (handler_of a) j) at i

  -- whom it makes busy or frees is named
  moves-are : (o : Outcome) → About t names gives o → (h : ℕ) → In h (moves_of o) → In h names
  moves-are (Passed asker asked kind x) s h i = named h asked s.1 i
  moves-are (Answered asked asker x k) s h i = named h asked s.1 i
  moves-are (Swallowed asked x) s h i = named h asked s.1 i
  moves-are Event s h i = absurd i
  moves-are (Turned asker asked x k) s h i = absurd i
  moves-are (Given asker asked x) s h i = absurd i
  moves-are (Reset a) s h i = absurd s
  moves-are (Refused r) s h i = absurd i

  -- no open mark is moved but by an answer to Open Handler or Close Handler
  rows_left : (v : View) (o : Outcome) → About t names gives o → answers_one v o ≡ false → rows_after o v ≡ v.rows
  rows_left v (Passed asker asked kind x) s e = refl
  rows_left v (Answered asked asker x k) s e = answered-rows (answerable v.places asked x) k v.rows e
  rows_left v (Swallowed asked x) s e = refl
  rows_left v Event s e = refl
  rows_left v (Turned asker asked x k) s e = refl
  rows_left v (Given asker asked x) s e = refl
  rows_left v (Reset h) s e = absurd s
  rows_left v (Refused r) s e = refl

-- ---- whom it does not make busy or free is as busy as before

module _ (h t : ℕ) (l : List Place) where
  by_part : (o : Outcome) → touches (of_handler h) o ≡ false → some_of (on_slot h t) (places_after o l) ≡ some_of (on_slot h t) l
  by_part o n = slot_same h t (places_after o l) l (part_left (of_handler h) o n l)

  not-moved : (a : ℕ) → (In h (handler_of a ∷ []) → ⊥) → eqb (handler_of a) h ≡ false
  not-moved a n = ne_eqb (handler_of a) h (λ e. n (inl e))

  slot-left : (u : Option ℕ) (names gives : List ℕ) (o : Outcome) → About u names gives o → (In h (moves_of o) → ⊥) → some_of (on_slot h t) (places_after o l) ≡ some_of (on_slot h t) l
  slot-left u names gives (Passed asker asked kind x) s n = by_part (Passed asker asked kind x) (not-moved asked n)
  slot-left u names gives (Answered asked asker x k) s n = by_part (Answered asked asker x k) (not-moved asked n)
  slot-left u names gives (Swallowed asked x) s n = by_part (Swallowed asked x) (not-moved asked n)
  slot-left u names gives Event s n = refl
  slot-left u names gives (Turned asker asked x k) s n = refl
  slot-left u names gives (Given asker asked x) s n = slot-given h t asked x l
  slot-left u names gives (Reset a) s n = absurd s
  slot-left u names gives (Refused r) s n = refl

-- ---- whom a step asks or gives up, it names

pub asks-named : (v : View) (d : Step) (h : ℕ) → In h (asks_of d) → In h (names_of v d)
asks-named v (message s buffer) h i = go (read_of s) i
  where
    go : (r : Result Head Refusal) → In h (read_asks r) → In h (read_names r)
    go (Ok x) j =
        split (eqb x.kind response || is_add_event x) (λ p. let z : In h [] = rw p at j in absurd z)
        (λ p. let z : In h (handler_of x.destination ∷ []) = rw p at j in inr z)
    go (Err r) j = j
asks-named v (give_up t a buffer) h i = absurd i

pub gives-named : (v : View) (d : Step) (h : ℕ) → In h (gives_of v d) → In h (names_of v d)
gives-named v (message s buffer) h i = absurd i
gives-named v (give_up t a buffer) h i = i

-- ---- all of it of a step

module _ (v : View) (c : Step) where
  -- a thread that it touches is its own
  pub thread-its : (u : ℕ) → touches (of_thread u) (outcome_of v c) ≡ true → thread_of c ≡ Some u
  thread-its u e = thread-is (thread_of c) (names_of v c) (gives_of v c) (outcome_of v c) (about v c) u e

  -- a handler that it touches is made busy, freed or given up
  pub handler-its : (h : ℕ) → touches (of_handler h) (outcome_of v c) ≡ true → In h (moves_of (outcome_of v c)) ⊎ In h (gives_of v c)
  handler-its h e = handler-is (thread_of c) (names_of v c) (gives_of v c) (outcome_of v c) (about v c) h e

  -- whom it makes busy or frees, it names
  pub moves-named : (h : ℕ) → In h (moves_of (outcome_of v c)) → In h (names_of v c)
  moves-named h i = moves-are (thread_of c) (names_of v c) (gives_of v c) (outcome_of v c) (about v c) h i

  -- a step that is steady moves no open mark
  pub steady-rows : Steady v c → (after v c).rows ≡ v.rows
  steady-rows s = rows_left (thread_of c) (names_of v c) (gives_of v c) v (outcome_of v c) (about v c) s.1

  -- the places of another thread are left
  pub thread-left : (u : ℕ) → (thread_of c ≡ Some u → ⊥) → part (of_thread u) (after v c).places ≡ part (of_thread u) v.places
  thread-left u n =
      part_left (of_thread u) (outcome_of v c) (split (touches (of_thread u) (outcome_of v c)) (λ p. absurd (n (thread-its u p))) (λ p. p)) v.places

  -- and a handler that it does not make busy or free is as busy as before
  pub busy-left : (h t : ℕ) → (In h (moves_of (outcome_of v c)) → ⊥) → some_of (on_slot h t) (after v c).places ≡ some_of (on_slot h t) v.places
  busy-left h t n = slot-left h t v.places (thread_of c) (names_of v c) (gives_of v c) (outcome_of v c) (about v c) n
