-- Two desks that share the security module '0001', computed: the premise holds, and either order is the same.
use Prim.Native.Nat.{ℕ, ◌≤◌}
use Rattle.std.specs.Prelude.{Some}
use mathlib.Core.Path.{◌≡◌, refl, sym, ◌∙◌}
use mathlib.Core.Logic.{inl, inr}
use mathlib.Core.Bool.{Bool, true, false, not}
use mathlib.Core.List.{List, [], ◌∷◌}
use native.Mathlib.Omega.{arith}
use lib.Dec.{eqb, ltb}
use lib.ListN.{replicate}
use Rattle.lists.specs.Lists.{some_of, In}
use Rattle.lists.proofs.Tests.{clash}
use Rattle.lists.proofs.Members.{some_in}
use Rattle.tapa.specs.Address.{category_of, handler_of, multi}
use Rattle.known_types.specs.Types.{own, common}
use Rattle.message.specs.Message.{read_of, part_of, code_of, message_of, response_of}
use Rattle.table.specs.declared.Row.{Row}
use Rattle.places.specs.Places.{owing}
use Rattle.rules.specs.View.{View, fresh}
use Rattle.rules.specs.declared.Outcome.TheVariants.{Passed}
use Rattle.rules.specs.Judge.{busy, judge_command, judge_kind, judge_read, judge_message, yields, judge_give_up}
use Rattle.rules.specs.Apply.{place}
use Rattle.rules.specs.Words.{tree_of}
use Rattle.rules.proofs.Sums.{row}
use Rattle.tills.specs.Tills.{Step, message, give_up, outcome_of, after, shown, shows, thread_of, names_of, Steady, Premise, owings_on}
use Rattle.tills.specs.Less.{asks_of, moves_of, Enough}
use Rattle.tills.specs.Desks.{Desk, Separate, OfDesk, KeepsTo, Throughout, after_all, Turn, at_one, at-two, ones, twos, AsAlone}
use Rattle.tills.proofs.Desks.{kept-alone, as-alone}

-- ---- the kiosk: a till and a card reader at each desk, one security module, the event queue

abbrev pub rows : List Row
rows = row 0x0100 true ∷ row 0x0101 true ∷ row 0x0001 true ∷ row 0x0202 true ∷ row 0x0204 true ∷ row 0x0700 true ∷ []

-- ten bytes, as a reply buffer must have
abbrev pub ten : List ℕ
ten = replicate 10 0

-- a message without data: to whom, from whom, of which type, on which thread
abbrev pub says : (destination source kind thread : ℕ) → Step
says d s kind t = message (message_of d s kind t []) ten

-- on thread 3 the one till has asked the module; on thread 4 the other has, and the module has asked the reader '0204'
abbrev before : View
before = record { rows = rows; places = place 0x0001 0x0204 0x45 4 ∷ place 0x0101 0x0001 0x42 4 ∷ place 0x0100 0x0001 0x42 3 ∷ [] }

pub reached : after_all (fresh rows) (says 0x0001 0x0100 0x42 3 ∷ says 0x0001 0x0101 0x42 4 ∷ says 0x0204 0x0001 0x45 4 ∷ []) ≡ before
unfolding read_of part_of code_of message_of category_of handler_of multi own common busy judge_command judge_kind judge_read judge_message
reached = refl

-- now the module asks the reader '0202' on thread 3, and the reader '0204' is given up on thread 4
abbrev asking : Step
asking = says 0x0202 0x0001 0x45 3

abbrev giving : Step
giving = give_up 4 0x0204 ten

pub two-threads : (t : ℕ) → Some 3 ≡ Some t → Some 4 ≡ Some t → ⊥
two-threads t p q = let e : ◌≡◌ {A = ℕ} 3 t = cc in let f : ◌≡◌ {A = ℕ} 4 t = cc in omega arith

-- the module is the only one that both name
pub share-module : Premise before asking giving
unfolding read_of part_of code_of message_of category_of handler_of multi own common busy judge_command judge_kind judge_read judge_message yields judge_give_up
share-module = record { threads = two-threads; shared = only-module; steady = ((refl, refl), (refl, refl)) }
  where
    only-module : (h : ℕ) → In h (0x0001 ∷ 0x0202 ∷ []) → In h (0x0001 ∷ 0x0204 ∷ []) → category_of h ≤ 1
    only-module h (inl e) j = let f : ◌≡◌ {A = ℕ} 1 h = e in omega arith
    only-module h (inr (inl e)) (inl f) = let p : ◌≡◌ {A = ℕ} 0x0202 h = e in let q : ◌≡◌ {A = ℕ} 1 h = f in absurd (omega arith)
    only-module h (inr (inl e)) (inr (inl f)) = let p : ◌≡◌ {A = ℕ} 0x0202 h = e in let q : ◌≡◌ {A = ℕ} 0x0204 h = f in absurd (omega arith)
    only-module h (inr (inl e)) (inr (inr j)) = absurd j
    only-module h (inr (inr i)) j = absurd i

-- what each step shows and what the two leave, in the one order and in the other
pub record Computed : Type 0 where
  pub first : shown before asking ≡ shows asking (Passed 0x0001 0x0202 0x45 3)
  pub first_out : (shown before asking).out ≡ message_of 0x0202 0x0001 0x45 3 []
  pub first_then : shown (after before giving) asking ≡ shows asking (Passed 0x0001 0x0202 0x45 3)
  pub second : (shown before giving).buffer ≡ response_of 0x0001 0x0204 4 0xFFF3
  pub second-out : (shown before giving).out ≡ response_of 0x0001 0x0204 4 0xFFF3
  pub second-then : shown (after before asking) giving ≡ shown before giving
  pub tree-3 : tree_of 3 (after (after before asking) giving).places ≡ place 0x0001 0x0202 0x45 3 ∷ place 0x0100 0x0001 0x42 3 ∷ []
  pub tree-3-then : tree_of 3 (after (after before giving) asking).places ≡ place 0x0001 0x0202 0x45 3 ∷ place 0x0100 0x0001 0x42 3 ∷ []
  pub tree-4 : tree_of 4 (after (after before asking) giving).places ≡ place 0x0101 0x0001 0x42 4 ∷ []
  pub tree-4-then : tree_of 4 (after (after before giving) asking).places ≡ place 0x0101 0x0001 0x42 4 ∷ []
  pub owed-4 : owings_on 4 (after (after before asking) giving).places ≡ owing (place 0x0001 0x0204 0x45 4) ∷ []
  pub owed-4-then : owings_on 4 (after (after before giving) asking).places ≡ owing (place 0x0001 0x0204 0x45 4) ∷ []
  pub marks : (after (after before asking) giving).rows ≡ (after (after before giving) asking).rows

pub either_way : Computed
unfolding read_of part_of code_of message_of response_of category_of handler_of multi own common busy judge_command judge_kind judge_read judge_message yields judge_give_up
either_way = record {
  first = refl;
  first_out = refl;
  first_then = refl;
  second = refl;
  second-out = refl;
  second-then = refl;
  tree-3 = refl;
  tree-3-then = refl;
  tree-4 = refl;
  tree-4-then = refl;
  owed-4 = refl;
  owed-4-then = refl;
  marks = refl;
}

-- ---- less than the premise: both readers report an event to '0700', which is single, so the premise does not let them share it; but neither makes it
-- busy

abbrev reporting : ℕ → ℕ → Step
reporting reader t = says 0x0700 reader 0xC0 t

pub record Weaker : Type 0 where
  pub enough : Enough (fresh rows) (reporting 0x0202 3) (reporting 0x0204 4)
  pub not-premise : Premise (fresh rows) (reporting 0x0202 3) (reporting 0x0204 4) → ⊥

pub both-report : Weaker
unfolding read_of part_of code_of message_of category_of handler_of multi own common busy judge_command judge_kind judge_read judge_message
both-report = record {
  enough = record {
    threads = two-threads;
    first = record { marks = refl; slots = λ h i j. absurd i };
    second = record { marks = refl; slots = λ h i j. absurd i };
  };
  not-premise = λ a. let k : category_of 0x0700 ≤ 1 = a.shared 0x0700 (inr (inl refl)) (inr (inl refl)) in absurd (omega arith);
}

-- ---- two desks with two steps each: what is asked of them can be met

abbrev one_of : List ℕ → ℕ → Bool
one_of l h = some_of (λ x. eqb x h) l

-- desk one has the threads 0 to 3, desk two 4 to 7
abbrev desk-one : Desk
desk-one = record { threads = λ t. ltb t 4; handlers = one_of (0x0100 ∷ 0x0001 ∷ 0x0202 ∷ []) }

abbrev desk-two : Desk
desk-two = record { threads = λ t. not (ltb t 4); handlers = one_of (0x0101 ∷ 0x0001 ∷ 0x0204 ∷ []) }

-- at each desk the till asks the module and the module asks the desk's reader, by turns
abbrev turns : List Turn
turns =
    at_one (says 0x0001 0x0100 0x42 3)
    ∷ at-two (says 0x0001 0x0101 0x42 4)
    ∷ at_one (says 0x0202 0x0001 0x45 3)
    ∷ at-two (says 0x0204 0x0001 0x45 4)
    ∷ []

separate : Separate desk-one desk-two
unfolding category_of
separate = record { threads = λ t p q. halves (ltb t 4) p q; handlers = λ h p q. shared h (some_in (0x0100 ∷ 0x0001 ∷ 0x0202 ∷ []) h p) q }
  where
    halves : (b : Bool) → b ≡ true → not b ≡ true → ⊥
    halves true p q = clash false q refl
    halves false p q = clash false p refl

    shared : (h : ℕ) → In h (0x0100 ∷ 0x0001 ∷ 0x0202 ∷ []) → desk-two.handlers h ≡ true → category_of h ≤ 1
    shared h (inl e) q = let f : ◌≡◌ {A = ℕ} 0x0100 h = e in omega arith
    shared h (inr (inl e)) q = let f : ◌≡◌ {A = ℕ} 1 h = e in omega arith
    shared h (inr (inr (inl e))) q = clash false (rw (← e) at q) refl
    shared h (inr (inr (inr i))) q = absurd i

-- a step is of a desk, where its thread, its source and its destination are
module _ (desk : Desk) (v : View) (d s kind t : ℕ) where
  of-desk : (thread_of (says d s kind t) ≡ Some t) × (names_of v (says d s kind t) ≡ s ∷ d ∷ []) → desk.threads t ≡ true
      → (desk.handlers s ≡ true) × (desk.handlers d ≡ true) → Steady v (says d s kind t) → OfDesk desk v (says d s kind t)
  of-desk told p q z = record {
    thread = λ u e. let f : Some t ≡ Some u = sym told.0 ∙ e in let g : t ≡ u = cc in rw (← g) p;
    names = λ h i. named h (rw told.1 at i);
    steady = z;
  }
    where
      named : (h : ℕ) → In h (s ∷ d ∷ []) → desk.handlers h ≡ true
      named h (inl e) = rw (← e) q.0
      named h (inr (inl e)) = rw (← e) q.1
      named h (inr (inr i)) = absurd i

pub record ByTurns : Type 0 where
  pub one-its : Throughout (OfDesk desk-one) (fresh rows) (ones turns)
  pub two-its : Throughout (OfDesk desk-two) (fresh rows) (twos turns)
  pub alone : AsAlone desk-one desk-two (fresh rows) turns

pub by-turns : ByTurns
unfolding read_of part_of code_of message_of category_of handler_of multi own common busy judge_command judge_kind judge_read judge_message
by-turns = record { one-its = one-its; two-its = two-its; alone = as-alone desk-one desk-two separate (fresh rows) turns one-its two-its }
  where
    one-its : Throughout (OfDesk desk-one) (fresh rows) (ones turns)
    one-its = (
      of-desk desk-one _ 0x0001 0x0100 0x42 3 (refl, refl) refl (refl, refl) (refl, refl),
      (of-desk desk-one _ 0x0202 0x0001 0x45 3 (refl, refl) refl (refl, refl) (refl, refl), tt),
    )

    two-its : Throughout (OfDesk desk-two) (fresh rows) (twos turns)
    two-its = (
      of-desk desk-two _ 0x0001 0x0101 0x42 4 (refl, refl) refl (refl, refl) (refl, refl),
      (of-desk desk-two _ 0x0204 0x0001 0x45 4 (refl, refl) refl (refl, refl) (refl, refl), tt),
    )

-- and both desks may report events, though '0700' is of neither category: such a step asks nobody, and makes nobody busy
keeps-to : (desk : Desk) (reader t : ℕ) → desk.threads t ≡ true → thread_of (reporting reader t) ≡ Some t → asks_of (reporting reader t) ≡ []
    → moves_of (outcome_of (fresh rows) (reporting reader t)) ≡ [] → (after (fresh rows) (reporting reader t)).rows ≡ rows → KeepsTo desk (fresh rows) (reporting reader t)
keeps-to desk reader t p k a m r = record {
  thread = λ u e. let f : Some t ≡ Some u = sym k ∙ e in let g : t ≡ u = cc in rw (← g) p;
  asks = λ h i. absurd (nobody (asks_of (reporting reader t)) a h i);
  moves = λ h i. absurd (nobody (moves_of (outcome_of (fresh rows) (reporting reader t))) m h i);
  gives = λ h i. absurd i;
  marks = r;
}
  where
    nobody : (l : List ℕ) → l ≡ [] → (h : ℕ) → In h l → ⊥
    nobody l e h i = rw e at i

pub both-desks-report : AsAlone desk-one desk-two (fresh rows) (at_one (reporting 0x0202 3) ∷ at-two (reporting 0x0204 4) ∷ [])
unfolding read_of part_of code_of message_of category_of handler_of multi own common busy judge_command judge_kind judge_read judge_message
both-desks-report =
    kept-alone desk-one desk-two separate (fresh rows) (at_one (reporting 0x0202 3) ∷ at-two (reporting 0x0204 4) ∷ [])
    (keeps-to desk-one 0x0202 3 refl refl refl refl refl, tt) (keeps-to desk-two 0x0204 4 refl refl refl refl refl, tt)
