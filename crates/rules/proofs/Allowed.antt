-- What the view was like where a call had an outcome. Every theorem about a step is drawn from here, and not from the text of `judge`.
use Prim.Native.Nat.{ℕ, ◌≤◌}
use Rattle.tapa.specs.declared.Refusal.{Refusal}
use Rattle.std.specs.Prelude.{Some, None, Result, Ok, Err, Option}
use mathlib.Core.Path.{◌≡◌, refl}
use mathlib.Core.Bool.{true, false, not}
use mathlib.Core.List.{List, [], ◌∷◌}
use lib.Dec.{eqb, ltb}
use borrow.Author.Tests.{not-false, ltb-false, eqb-true}
use Rattle.lists.specs.Lists.{some_of, first, In}
use Rattle.lists.proofs.Tests.{split, and_yes, checks-are}
use Rattle.lists.proofs.First.{first-yes}
use Rattle.tapa.specs.Address.{handler_of}
use Rattle.tapa.specs.Codes.{response, event_handler}
use Rattle.tapa.specs.declared.Refusal.TheVariants.{NotInTable, StandsInAWait, HoldsAQuestion}
use Rattle.message.specs.declared.Head.{Head}
use Rattle.message.specs.Message.{read_of, part_of, code_of}
use Rattle.table.specs.Table.{listed, opened_at}
use Rattle.place.specs.declared.Place.{Place}
use Rattle.places.specs.Places.{open_on, asks_exactly, owes_exactly, stands_in, holding}
use Rattle.rules.specs.View.{View}
use Rattle.rules.specs.declared.Outcome.{Outcome}
use Rattle.rules.specs.declared.Outcome.TheVariants.{Passed, Answered, Swallowed, Event, Turned, Given, Reset, Refused}
use Rattle.rules.specs.Judge.{answerable, reply_tests, late, reply, judge_response, is_add_event, judge_event, judge_command}
use Rattle.rules.specs.Judge.{common_tests, judge_kind, judge_read, judge_message, yields, judge_give_up, judge_replaced, Call, message, give_up, replaced, judge}
use Rattle.rules.specs.Words.{turn_codes}
use Rattle.rules.proofs.Steps.{NoRule, command-is}

-- ---- an outcome, and what was so

-- a passed command met every rule, a to e
pub record Fit (v : View) (asker asked kind t : ℕ) : Type 0 where
  pub asker-listed : listed (handler_of asker) v.rows ≡ true
  pub thread-small : t ≤ 7
  pub met : NoRule v asker asked kind t

-- the wait of thread t that asks exactly this address, for this asker, and whose handler holds no question there: a leaf of the tree
pub record Leaf (v : View) (asker asked t : ℕ) : Type 0 where
  pub it : Place
  pub found : first (asks_exactly asked t) v.places ≡ Some it
  pub its-asked : it.asked ≡ asked
  pub its-asker : it.asker ≡ asker
  pub holds-none : holding v.places asked t ≡ false
  pub thread-small : t ≤ 7

-- a replaced handler is in the table, and stands in no wait
pub record Idle (v : View) (h : ℕ) : Type 0 where
  pub in_table : listed h v.rows ≡ true
  pub no-wait : some_of (stands_in h) v.places ≡ false

abbrev pub Allowed : View → Outcome → Type 0
Allowed v (Passed asker asked kind t) = Fit v asker asked kind t
Allowed v (Answered asked asker t k) = Leaf v asker asked t
Allowed v (Swallowed asked t) = (some_of (owes_exactly asked t) v.places ≡ true) × (t ≤ 7)
Allowed v Event = opened_at event_handler v.rows ≡ true
Allowed v (Turned asker asked t k) = (listed (handler_of asker) v.rows ≡ true) × (t ≤ 7) × In k turn_codes
Allowed v (Given asker asked t) = Leaf v asker asked t
Allowed v (Reset h) = Idle v h
Allowed v (Refused r) = Unit {0}

-- ---- a leaf

leaf-is : (v : View) (w : Place) (asker asked t : ℕ) → answerable v.places asked t ≡ Some w → w.asker ≡ asker → holding v.places asked t ≡ false → t ≤ 7
    → Leaf v asker asked t
leaf-is v w asker asked t e q n small = record {
  it = w;
  found = e;
  its-asked = eqb-true w.asked asked (and_yes (open_on t w) (eqb w.asked asked) (first-yes (asks_exactly asked t) v.places w e)).1;
  its-asker = q;
  holds-none = n;
  thread-small = small;
}

-- ---- Type 'FF'

late_is : (v : View) (h : Head) → h.thread ≤ 7 → Allowed v (late v.places h)
unfolding late
late_is v h small = split (some_of (owes_exactly h.source h.thread) v.places) (λ p. rw p (p, small)) (λ p. rw p tt)

reply-is : (v : View) (o : Option Place) (h : Head) (code : ℕ) → answerable v.places h.source h.thread ≡ o → h.thread ≤ 7
    → Allowed v (reply v.places o h code)
unfolding reply
reply-is v None h code e small = late_is v h small
reply-is v (Some w) h code e small =
    checks-are (Allowed v) (reply_tests v.places w h) (Answered h.source h.destination h.thread code) (tt, (tt, tt))
    (λ p. leaf-is v w h.destination h.source h.thread e (eqb-true w.asker h.destination (not-false _ p.1.0)) p.0 small)

response-is : (v : View) (h : Head) (code : Option ℕ) → h.thread ≤ 7 → Allowed v (judge_response v.places h code)
unfolding judge_response
response-is v h None small = tt
response-is v h (Some code) small = reply-is v (answerable v.places h.source h.thread) h code refl small

-- ---- a command

event-is : (v : View) → Allowed v (judge_event v.rows)
event-is v = split (opened_at event_handler v.rows) (λ p. rw p p) (λ p. rw p tt)

command-allowed : (v : View) (h : Head) → listed (handler_of h.source) v.rows ≡ true → h.thread ≤ 7 → Allowed v (judge_command v h)
command-allowed v h there small =
    command-is v h (Allowed v) (λ code r. (there, small, r)) (λ n. record { asker-listed = there; thread-small = small; met = n })

-- ---- a message

kind-is : (v : View) (h : Head) (code : Option ℕ) → listed (handler_of h.source) v.rows ≡ true → h.thread ≤ 7 → Allowed v (judge_kind v h code)
unfolding judge_kind
kind-is v h code known small =
    split (eqb h.kind response) (λ p. rw p (response-is v h code small))
    (λ p. rw p (split (is_add_event h) (λ q. rw q (event-is v)) (λ q. rw q (command-allowed v h known small))))

read_is : (v : View) (r : Result Head Refusal) (code : Option ℕ) → Allowed v (judge_read v r code)
unfolding judge_read
read_is v (Err r) code = tt
read_is v (Ok h) code =
    checks-are (Allowed v) (common_tests v.rows h) (judge_kind v h code) (tt, (tt, tt))
    (λ a. kind-is v h code (not-false _ a.0) (ltb-false 7 h.thread a.1.0))

message-is : (v : View) (room : ℕ) (s : List ℕ) → Allowed v (judge_message v room s)
unfolding judge_message
message-is v room s = split (ltb room 10) (λ p. rw p tt) (λ p. rw p (read_is v (read_of s) (code_of (part_of s))))

-- ---- Give up

yields-is : (v : View) (t a : ℕ) (o : Option Place) → answerable v.places a t ≡ o → t ≤ 7 → Allowed v (yields v.places o t a)
unfolding yields
yields-is v t a None e small = tt
yields-is v t a (Some w) e small =
    checks-are (Allowed v) ((holding v.places a t, Refused HoldsAQuestion) ∷ []) (Given w.asker a t) (tt, tt)
    (λ p. leaf-is v w w.asker a t e refl p.0 small)

give-up-is : (v : View) (room t a : ℕ) → Allowed v (judge_give_up v room t a)
unfolding judge_give_up
give-up-is v room t a =
    split (ltb room 10) (λ p. rw p tt)
    (λ p. rw p (split (ltb 7 t) (λ q. rw q tt) (λ q. rw q (yields-is v t a (answerable v.places a t) refl (ltb-false 7 t q)))))

-- ---- Replaced

replaced-is : (v : View) (a : ℕ) → Allowed v (judge_replaced v a)
unfolding judge_replaced
replaced-is v a =
    checks-are (Allowed v)
    ((not (listed (handler_of a) v.rows), Refused NotInTable) ∷ (some_of (stands_in (handler_of a)) v.places, Refused StandsInAWait) ∷ [])
    (Reset (handler_of a)) (tt, (tt, tt)) (λ p. record { in_table = not-false _ p.0; no-wait = p.1.0 })

-- ---- any call, in any view
pub allowed : (v : View) (room : ℕ) (c : Call) → Allowed v (judge v room c)
allowed v room (message s) = message-is v room s
allowed v room (give_up t a) = give-up-is v room t a
allowed v room (replaced a) = replaced-is v a
