-- No response and no Add Event is ever passed, and Add Event is an event or 10.
use Prim.Native.Nat.{ℕ}
use Rattle.tapa.specs.declared.Refusal.{Refusal}
use Rattle.std.specs.Prelude.{Some, None, Result, Ok, Err, Option}
use mathlib.Core.Path.{◌≡◌, refl, sym, ap, ◌∙◌}
use mathlib.Core.Logic.{inl, inr, ⊎_elim}
use mathlib.Core.Bool.{true, false}
use mathlib.Core.List.{List, [], ◌∷◌}
use lib.Dec.{eqb, ltb}
use lib.ListN.{get_or}
use borrow.Author.Tests.{eq-eqb}
use Rattle.lists.specs.Lists.{In, All, some_of}
use Rattle.lists.proofs.Counts.{All-keep}
use Rattle.lists.proofs.First.{All-without, All-changed}
use Rattle.lists.proofs.Tests.{split, clash, differ, checks-are}
use Rattle.tapa.specs.Address.{handler_of}
use Rattle.tapa.specs.Codes.{response, event_handler}
use Rattle.tapa.specs.Numbers.{word_at}
use Rattle.tapa.specs.declared.Refusal.TheVariants.{HoldsAQuestion}
use Rattle.message.specs.declared.Head.{Head}
use Rattle.message.specs.Message.{head_of, read_checks, read_of, part_of, code_of}
use Rattle.message.proofs.Laws.{whole}
use Rattle.place.specs.declared.Place.{Place}
use Rattle.places.specs.Places.{asks_exactly, owes_exactly, not_owed_by, holding, stands_in, owing}
use Rattle.table.specs.declared.Row.{Row}
use Rattle.table.specs.Table.{listed, opened_at}
use Rattle.rules.specs.View.{View}
use Rattle.rules.specs.declared.Outcome.{Outcome}
use Rattle.rules.specs.declared.Outcome.TheVariants.{Passed, Answered, Swallowed, Event, Turned, Given, Reset, Refused}
use Rattle.rules.specs.Apply.{place, places_after}
use Rattle.rules.specs.Judge.{answerable, reply_tests, late, reply, judge_response, is_add_event, judge_command, common_tests, judge_kind, judge_read, judge_message, yields, judge_give_up, judge_replaced, Call, message, give_up, replaced, judge}
use Rattle.rules.specs.Said.{said_outcome}
use Rattle.rules.specs.Says.{ReadSays, Says}
use Rattle.rules.proofs.Says.{says}
use Rattle.rules.proofs.Steps.{command-is}
use Rattle.history.specs.History.{Step, entry, view_after, is_passed, Sent, starts}
use Rattle.history.specs.Never.{ToQueue, AddsEvent, event_answers, EventOr10, IsCommand, SentAs, Answerable}

-- ---- Add Event

queue-handler : (a : ℕ) → ToQueue a → handler_of a ≡ 0x0700
unfolding handler_of
queue-handler a t = ⊎_elim (λ e. rw e) (λ e. rw e) t

abbrev Told : Outcome → Type 0
Told o = In (said_outcome o) event_answers

module _ (v : View) (code : Option ℕ) where
  kind-told : (h : Head) → h.kind ≡ 0xC0 → ToQueue h.destination → Told (judge_kind v h code)
  unfolding judge_kind
  kind-told h k t =
      rw (k, queue-handler h.destination t)
      (split (opened_at event_handler v.rows) (λ b. rw b (inl refl)) (λ b. rw b (inr (inl refl))))

  read_told : (s : List ℕ) → AddsEvent s → Told (judge_read v (read_of s) code)
  unfolding read_of judge_read
  read_told s a =
      checks-are (λ (r : Result Head Refusal). Told (judge_read v r code)) (read_checks s) (Ok (head_of s))
      (inr (inr (inr (inl refl))), (inr (inr (inr (inr (inl refl)))), (inr (inr (inr (inr (inr (inl refl))))), (inr (inr (inr (inr (inr (inr (inl refl)))))), tt))))
      (λ _.
      checks-are Told (common_tests v.rows (head_of s)) (judge_kind v (head_of s) code)
      (inr (inr (inr (inr (inr (inr (inr (inl refl))))))), (inr (inr (inr (inr (inr (inr (inr (inr (inl refl)))))))), tt))
      (λ _. kind-told (head_of s) a.kind a.to))

message-told : (v : View) (room : ℕ) (s : List ℕ) → AddsEvent s → Told (judge_message v room s)
unfolding judge_message
message-told v room s a = split (ltb room 10) (λ p. rw p (inr (inr (inl refl)))) (λ p. rw p (read_told v (code_of (part_of s)) s a))

pub event-or-10 : (v : View) (s : Step) → EventOr10 (entry s (judge v s.room s.call))
event-or-10 v s bytes e a = rw e (message-told v s.room bytes a)

-- ---- what is passed

-- what is passed has not the type 'FF', and adds no event
abbrev Passing : Outcome → Type 0
Passing (Passed asker asked kind t) = (kind ≡ 0xFF → ⊥) × (kind ≡ 0xC0 → ToQueue asked → ⊥)
Passing (Answered asked asker t k) = Unit {0}
Passing (Swallowed asked t) = Unit {0}
Passing Event = Unit {0}
Passing (Turned asker asked t k) = Unit {0}
Passing (Given asker asked t) = Unit {0}
Passing (Reset h) = Unit {0}
Passing (Refused r) = Unit {0}

response-passing : (places : List Place) (h : Head) (coded : Option ℕ) → Passing (judge_response places h coded)
unfolding judge_response reply late
response-passing places h None = tt
response-passing places h (Some code) = go (answerable places h.source h.thread)
  where
    go : (o : Option Place) → Passing (reply places o h code)
    go None = split (some_of (owes_exactly h.source h.thread) places) (λ p. rw p tt) (λ p. rw p tt)
    go (Some w) = checks-are Passing (reply_tests places w h) (Answered h.source h.destination h.thread code) (tt, (tt, tt)) (λ _. tt)

module _ (v : View) (h : Head) where
  command-passing : eqb h.kind response ≡ false → is_add_event h ≡ false → Passing (judge_command v h)
  command-passing n m =
      command-is v h Passing (λ code i. tt)
      (λ _. (λ e. clash (eqb h.kind response) (eq-eqb h.kind response e) n, λ e t. clash (is_add_event h) (rw (e, queue-handler h.destination t)) m))

  kind-passing : (code : Option ℕ) → Passing (judge_kind v h code)
  unfolding judge_kind
  kind-passing code =
      split (eqb h.kind response) (λ p. rw p (response-passing v.places h code))
      (λ p. rw p (split (is_add_event h)
      (λ q. rw q (split (opened_at event_handler v.rows) (λ b. rw b tt) (λ b. rw b tt)))
      (λ q. rw q (command-passing p q))))

read-passing : (v : View) (r : Result Head Refusal) (code : Option ℕ) → Passing (judge_read v r code)
unfolding judge_read
read-passing v (Err r) code = tt
read-passing v (Ok h) code = checks-are Passing (common_tests v.rows h) (judge_kind v h code) (tt, (tt, tt)) (λ _. kind-passing v h code)

message-passing : (v : View) (room : ℕ) (s : List ℕ) → Passing (judge_message v room s)
unfolding judge_message
message-passing v room s = split (ltb room 10) (λ p. rw p tt) (λ p. rw p (read-passing v (read_of s) (code_of (part_of s))))

-- a give up and a replaced call pass nothing
yields-passing : (places : List Place) (o : Option Place) (t a : ℕ) → Passing (yields places o t a)
unfolding yields
yields-passing places None t a = tt
yields-passing places (Some w) t a = checks-are Passing ((holding places a t, Refused HoldsAQuestion) ∷ []) (Given w.asker a t) (tt, tt) (λ _. tt)

passing : (v : View) (room : ℕ) (c : Call) → Passing (judge v room c)
unfolding judge_give_up judge_replaced
passing v room (message s) = message-passing v room s
passing v room (give_up t a) =
    split (ltb room 10) (λ p. rw p tt)
    (λ p. rw p (split (ltb 7 t) (λ q. rw q tt) (λ q. rw q (yields-passing v.places (answerable v.places a t) t a))))
passing v room (replaced a) =
    split (listed (handler_of a) v.rows) (λ p. rw p (split (some_of (stands_in (handler_of a)) v.places) (λ q. rw q tt) (λ q. rw q tt))) (λ p. rw p tt)

-- ---- in a history

-- of the message's bytes
read-passed : (s : List ℕ) (asker asked kind t : ℕ) (r : Result Head Refusal) → read_of s ≡ r → ReadSays r (code_of (part_of s)) (Passed asker asked kind t)
    → (get_or s 4 0 ≡ kind) × (word_at s 0 ≡ asked)
read-passed s asker asked kind t (Err r) e y = clash false y refl
read-passed s asker asked kind t (Ok h) e y =
    let k = (whole s h e).head in (ap (λ (x : Head). x.kind) (sym k) ∙ y.2, ap (λ (x : Head). x.destination) (sym k) ∙ y.1)

-- an entry of a call with a passed outcome is a message that may be passed
is-command : (s : Step) (c : Call) (o : Outcome) → s.call ≡ c → Says c o → Passing o → is_passed o ≡ true → IsCommand (entry s o)
is-command s (message b) (Passed asker asked kind t) e y p w =
    let k = read-passed b asker asked kind t (read_of b) refl y in record {
      bytes = b;
      call = e;
      no-response = λ f. p.0 (sym k.0 ∙ f);
      no-event = λ a. p.1 (sym k.0 ∙ a.kind) (rw k.1 at a.to);
    }
is-command s (give_up u a) (Passed asker asked kind t) e (inl z) p w = clash false z refl
is-command s (give_up u a) (Passed asker asked kind t) e (inr z) p w = let q = z.1 in differ (cc)
is-command s (replaced a) (Passed asker asked kind t) e (inl z) p w = clash false z refl
is-command s (replaced a) (Passed asker asked kind t) e (inr z) p w = differ (cc)
is-command s c (Answered asked asker t k) e y p w = clash false w refl
is-command s c (Swallowed asked t) e y p w = clash false w refl
is-command s c Event e y p w = clash false w refl
is-command s c (Turned asker asked t k) e y p w = clash false w refl
is-command s c (Given asker asked t) e y p w = clash false w refl
is-command s c (Reset h) e y p w = clash false w refl
is-command s c (Refused r) e y p w = clash false w refl

pub passed_is : (v : View) (s : Step) → is_passed (judge v s.room s.call) ≡ true → IsCommand (entry s (judge v s.room s.call))
passed_is v s w = is-command s s.call (judge v s.room s.call) refl (says v s.room s.call) (passing v s.room s.call) w

-- and it is sent as its bytes say
sent-so : (s : Step) (b : List ℕ) (asker asked kind t n : ℕ) (r : Result Head Refusal) → s.call ≡ message b → read_of b ≡ r
    → ReadSays r (code_of (part_of b)) (Passed asker asked kind t)
    → SentAs (entry s (Passed asker asked kind t)) n (record { no = n; command = place asker asked kind t })
sent-so s b asker asked kind t n (Err r) c e y = clash false y refl
sent-so s b asker asked kind t n (Ok h) c e y =
    let k = (whole b h e).head in record {
      bytes = b;
      call = c;
      asker = sym y.0 ∙ ap (λ (x : Head). x.source) k;
      asked = sym y.1 ∙ ap (λ (x : Head). x.destination) k;
      kind = sym y.2 ∙ ap (λ (x : Head). x.kind) k;
      thread = sym y.3 ∙ ap (λ (x : Head). x.thread) k;
      waits = refl;
      numbered = refl;
    }

sent-by : (s : Step) (c : Call) (o : Outcome) (n : ℕ) → s.call ≡ c → Says c o → (d : Sent) → In d (starts n o) → SentAs (entry s o) n d
sent-by s (message b) (Passed asker asked kind t) n e y d (inl i) = rw (← i) (sent-so s b asker asked kind t n (read_of b) e refl y)
sent-by s (message b) (Passed asker asked kind t) n e y d (inr i) = absurd i
sent-by s (give_up u a) (Passed asker asked kind t) n e (inl z) d i = clash false z refl
sent-by s (give_up u a) (Passed asker asked kind t) n e (inr z) d i = let q = z.1 in differ (cc)
sent-by s (replaced a) (Passed asker asked kind t) n e (inl z) d i = clash false z refl
sent-by s (replaced a) (Passed asker asked kind t) n e (inr z) d i = differ (cc)
sent-by s c (Answered asked asker t k) n e y d i = absurd i
sent-by s c (Swallowed asked t) n e y d i = absurd i
sent-by s c Event n e y d i = absurd i
sent-by s c (Turned asker asked t k) n e y d i = absurd i
sent-by s c (Given asker asked t) n e y d i = absurd i
sent-by s c (Reset h) n e y d i = absurd i
sent-by s c (Refused r) n e y d i = absurd i

pub sent-as : (v : View) (s : Step) (n : ℕ) (d : Sent) → In d (starts n (judge v s.room s.call)) → SentAs (entry s (judge v s.room s.call)) n d
sent-as v s n d i = sent-by s s.call (judge v s.room s.call) n refl (says v s.room s.call) d i

-- and so is every place
stays-answerable : (o : Outcome) (places : List Place) → Passing o → All Answerable places → All Answerable (places_after o places)
stays-answerable (Passed asker asked kind t) places p a = (record { no-response = p.0; no-event = p.1 }, a)
stays-answerable (Answered asked asker t k) places p a = All-without Answerable (asks_exactly asked t) places a
stays-answerable (Swallowed asked t) places p a = All-without Answerable (owes_exactly asked t) places a
stays-answerable Event places p a = a
stays-answerable (Turned asker asked t k) places p a = a
stays-answerable (Given asker asked t) places p a =
    All-changed Answerable owing (asks_exactly asked t) (λ x y. record { no-response = y.no-response; no-event = y.no-event }) places a
stays-answerable (Reset h) places p a = All-keep Answerable (not_owed_by h) places a
stays-answerable (Refused r) places p a = a

pub all-answerable : (rows : List Row) (steps : List Step) → All Answerable (view_after rows steps).places
all-answerable rows [] = tt
all-answerable rows (s ∷ steps) =
    let v = view_after rows steps in
    stays-answerable (judge v s.room s.call) v.places (passing v s.room s.call) (all-answerable rows steps)
