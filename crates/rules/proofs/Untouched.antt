-- What an outcome leaves as it was.
use Prim.Native.Nat.{ℕ}
use Rattle.std.specs.Prelude.{Some, None, Option}
use mathlib.Core.Path.{◌≡◌, refl}
use mathlib.Core.List.{List, []}
use lib.Dec.{eqb, ltb}
use lib.ListN.{take}
use Rattle.lists.specs.Lists.{some_of}
use Rattle.lists.proofs.Tests.{split}
use Rattle.tapa.specs.declared.Refusal.{Refusal}
use Rattle.message.specs.declared.Head.{Head}
use Rattle.place.specs.declared.Place.{Place}
use Rattle.places.specs.Places.{owes_exactly, holding}
use Rattle.rules.specs.View.{View}
use Rattle.rules.specs.declared.Outcome.{Outcome}
use Rattle.rules.specs.declared.Outcome.TheVariants.{Passed, Answered, Swallowed, Event, Turned, Given, Reset, Refused}
use Rattle.rules.specs.Judge.{answerable, late, reply, judge_response, judge_command, yields, judge_give_up}
use Rattle.rules.proofs.Steps.{command-is}
use Rattle.rules.specs.Apply.{applied, rows_after, written, sent}

-- 'Other outcomes of a message leave the reply buffer untouched.'
pub record Untouched (buffer : List ℕ) : Type 0 where
  pub passed : (asker asked kind t : ℕ) → written (Passed asker asked kind t) buffer ≡ buffer
  pub answered : (asked asker t k : ℕ) → written (Answered asked asker t k) buffer ≡ buffer
  pub swallowed : (asked t : ℕ) → written (Swallowed asked t) buffer ≡ buffer
  pub event : written Event buffer ≡ buffer
  pub refused : (r : Refusal) → written (Refused r) buffer ≡ buffer

pub untouched : (buffer : List ℕ) → Untouched buffer
untouched buffer = record {
  passed = λ asker asked kind t. refl;
  answered = λ asked asker t k. refl;
  swallowed = λ asked t. refl;
  event = refl;
  refused = λ r. refl;
}

-- 'When a message goes on, the bytes to send are a part of the incoming buffer or of the reply buffer': the message as it came, or the ten bytes
-- that the router wrote. What is swallowed, refused or reset goes nowhere.
pub record Sends (message buffer : List ℕ) : Type 0 where
  pub passed : (asker asked kind t : ℕ) → sent (Passed asker asked kind t) message buffer ≡ message
  pub answered : (asked asker t k : ℕ) → sent (Answered asked asker t k) message buffer ≡ message
  pub event : sent Event message buffer ≡ message
  pub turned : (asker asked t k : ℕ) → sent (Turned asker asked t k) message buffer ≡ take 10 buffer
  pub given : (asker asked t : ℕ) → sent (Given asker asked t) message buffer ≡ take 10 buffer
  pub swallowed : (asked t : ℕ) → sent (Swallowed asked t) message buffer ≡ []
  pub reset : (h : ℕ) → sent (Reset h) message buffer ≡ []
  pub refused : (r : Refusal) → sent (Refused r) message buffer ≡ []

pub sends : (message buffer : List ℕ) → Sends message buffer
sends message buffer = record {
  passed = λ asker asked kind t. refl;
  answered = λ asked asker t k. refl;
  event = refl;
  turned = λ asker asked t k. refl;
  given = λ asker asked t. refl;
  swallowed = λ asked t. refl;
  reset = λ h. refl;
  refused = λ r. refl;
}

-- 'A refusal returns its number only and changes nothing'; 'event, no state change'
pub refused-stays : (v : View) (r : Refusal) → applied (Refused r) v ≡ v
refused-stays v r = refl

pub event-stays : (v : View) → applied Event v ≡ v
event-stays v = refl

-- only an answered response opens or closes: a swallowed one leaves every mark
pub swallowed-marks : (v : View) (asked t : ℕ) → (applied (Swallowed asked t) v).rows ≡ v.rows
swallowed-marks v asked t = refl

-- ---- what a kind of message leaves

-- a command opens and closes nothing
pub command-rows : (v : View) (h : Head) → v.rows ≡ rows_after (judge_command v h) v
command-rows v h = command-is v h (λ (o : Outcome). v.rows ≡ rows_after o v) (λ code r. refl) (λ n. refl)

-- neither does a late response
pub late-rows : (v : View) (h : Head) → v.rows ≡ rows_after (late v.places h) v
unfolding late
late-rows v h = split (some_of (owes_exactly h.source h.thread) v.places) (λ p. rw p) (λ p. rw p)

-- nor a give up
pub give-up-rows : (v : View) (room t a : ℕ) → v.rows ≡ rows_after (judge_give_up v room t a) v
unfolding judge_give_up yields
give-up-rows v room t a =
    split (ltb room 10) (λ p. rw p)
    (λ p. rw p (split (ltb 7 t) (λ q. rw q) (λ q. rw q (go (answerable v.places a t)))))
  where
    go : (o : Option Place) → v.rows ≡ rows_after (yields v.places o t a) v
    go None = refl
    go (Some w) = split (holding v.places a t) (λ p. rw p) (λ p. rw p)

-- a response writes nothing
pub response-writes : (places : List Place) (h : Head) (coded : Option ℕ) (buffer : List ℕ) → buffer ≡ written (judge_response places h coded) buffer
unfolding judge_response reply late
response-writes places h coded buffer = go coded
  where
    goes : (o : Option Place) (code : ℕ) → buffer ≡ written (reply places o h code) buffer
    goes None code = split (some_of (owes_exactly h.source h.thread) places) (λ p. rw p) (λ p. rw p)
    goes (Some w) code =
        split (holding places h.source h.thread) (λ b. rw b)
        (λ b. rw b (split (eqb w.asker h.destination) (λ p. rw p) (λ p. rw p)))

    go : (k : Option ℕ) → buffer ≡ written (judge_response places h k) buffer
    go None = refl
    go (Some code) = goes (answerable places h.source h.thread) code
