-- Two steps on different threads: 'Desk one and desk two run on different threads, and trainers want to say that one cannot disturb the other.'
use Rattle.std.specs.Prelude.{ℕ, ◌≤◌, ◌≡◌, Bool, false, ◌||◌, ◌&&◌, List, [], ◌∷◌, eqb, length, Result, Ok, Err, Option, Some, None}
use Rattle.tapa.specs.declared.Refusal.{Refusal}
use Rattle.message.specs.declared.Head.{Head}
use Rattle.lists.specs.Lists.{keep, In}
use Rattle.tapa.specs.Address.{category_of, handler_of}
use Rattle.tapa.specs.Codes.{open_handler, close_handler}
use Rattle.message.specs.Message.{read_of}
use Rattle.place.specs.declared.Place.{Place}
use Rattle.places.specs.Places.{owed_on}
use Rattle.rules.specs.View.{View}
use Rattle.rules.specs.declared.Outcome.{Outcome}
use Rattle.rules.specs.declared.Outcome.TheVariants.{Passed, Answered, Swallowed, Event, Turned, Given, Reset, Refused}
use Rattle.rules.specs.Judge.{answerable, judge}
use Rattle.rules.specs.Judge as rules
use Rattle.rules.specs.Apply.{applied, written, sent}
use Rattle.rules.specs.Words.{tree_of}

-- ---- a step

-- 'two steps, each a message or a give-up': the bytes of a message, the thread and the address of a give up. 'Each step has its own reply buffer':
-- what stands in it before the step.
pub data Step : Type 0 where
  message : (bytes buffer : List ℕ) → Step
  give_up : (thread address : ℕ) (buffer : List ℕ) → Step

abbrev pub call_of : Step → rules.Call
call_of (message s buffer) = rules.message s
call_of (give_up t a buffer) = rules.give_up t a

abbrev pub buffer_of : Step → List ℕ
buffer_of (message s buffer) = buffer
buffer_of (give_up t a buffer) = buffer

abbrev pub bytes_of : Step → List ℕ
bytes_of (message s buffer) = s
bytes_of (give_up t a buffer) = []

-- what a step comes to in a view, and the view after it
abbrev pub outcome_of : View → Step → Outcome
outcome_of v c = judge v (length (buffer_of c)) (call_of c)

abbrev pub after : View → Step → View
after v c = applied (outcome_of v c) v

-- what whoever took the step gets to see: the outcome, the bytes in its reply buffer, and the bytes that go out
pub record Shown : Type 0 where
  pub outcome : Outcome
  pub buffer : List ℕ
  pub out : List ℕ

abbrev pub shows : Step → Outcome → Shown
shows c o = record { outcome = o; buffer = written o (buffer_of c); out = sent o (bytes_of c) (written o (buffer_of c)) }

abbrev pub shown : View → Step → Shown
shown v c = shows c (outcome_of v c)

-- ---- the premise: different threads

-- bytes that do not read as a message are on no thread
abbrev pub read_thread : Result Head Refusal → Option ℕ
read_thread (Ok h) = Some h.thread
read_thread (Err r) = None

abbrev pub thread_of : Step → Option ℕ
thread_of (message s buffer) = read_thread (read_of s)
thread_of (give_up t a buffer) = Some t

-- 'on different threads': no thread is that of both
abbrev pub DifferentThreads : Step → Step → Type 0
DifferentThreads c d = (t : ℕ) → thread_of c ≡ Some t → thread_of d ≡ Some t → ⊥

-- ---- the premise: who is named

-- 'as source or destination'; bytes that do not read as a message name nobody
abbrev pub read_names : Result Head Refusal → List ℕ
read_names (Ok h) = handler_of h.source ∷ handler_of h.destination ∷ []
read_names (Err r) = []

-- 'as asker or asked of the wait given up'; a give up that is refused names nobody
abbrev pub given_names : Outcome → List ℕ
given_names (Passed asker asked kind t) = []
given_names (Answered asked asker t k) = []
given_names (Swallowed asked t) = []
given_names Event = []
given_names (Turned asker asked t k) = []
given_names (Given asker asked t) = handler_of asker ∷ handler_of asked ∷ []
given_names (Reset h) = []
given_names (Refused r) = []

-- the two handlers of the wait that a step gives up
abbrev pub gives_of : View → Step → List ℕ
gives_of v (message s buffer) = []
gives_of v (give_up t a buffer) = given_names (outcome_of v (give_up t a buffer))

-- the handlers that a step names
abbrev pub names_of : View → Step → List ℕ
names_of v (message s buffer) = read_names (read_of s)
names_of v (give_up t a buffer) = gives_of v (give_up t a buffer)

-- 'any handler that both steps name .. is in category 00 or 01'
abbrev pub SharesOnlyMulti : View → Step → Step → Type 0
SharesOnlyMulti v c d = (h : ℕ) → In h (names_of v c) → In h (names_of v d) → category_of h ≤ 1

-- ---- the premise: nobody is opened or closed

abbrev pub opens_or_closes : ℕ → Bool
opens_or_closes kind = eqb kind open_handler || eqb kind close_handler

-- 'an Open or Close Handler command', whatever becomes of it
abbrev pub read_commands : Result Head Refusal → Bool
read_commands (Ok h) = opens_or_closes h.kind
read_commands (Err r) = false

abbrev pub wait_commands : Option Place → Bool
wait_commands None = false
wait_commands (Some w) = opens_or_closes w.kind

-- 'or answers one', whatever code it answers with
abbrev pub answers_one : View → Outcome → Bool
answers_one v (Passed asker asked kind t) = false
answers_one v (Answered asked asker t k) = wait_commands (answerable v.places asked t)
answers_one v (Swallowed asked t) = false
answers_one v Event = false
answers_one v (Turned asker asked t k) = false
answers_one v (Given asker asked t) = false
answers_one v (Reset h) = false
answers_one v (Refused r) = false

abbrev pub commands_one : Step → Bool
commands_one (message s buffer) = read_commands (read_of s)
commands_one (give_up t a buffer) = false

-- 'neither step is an Open or Close Handler command or answers one': of one step
abbrev pub Steady : View → Step → Type 0
Steady v c = (commands_one c ≡ false) × (answers_one v (outcome_of v c) ≡ false)

-- ---- the whole premise, all of it in the view from which both orders start

pub record Premise (v : View) (c d : Step) : Type 0 where
  pub threads : DifferentThreads c d
  pub shared : SharesOnlyMulti v c d
  pub steady : Steady v c × Steady v d

-- ---- the conclusion

-- a thread's owings, the newest first
abbrev pub owings_on : ℕ → List Place → List Place
owings_on t places = keep (owed_on t) places

-- 'the same trees, open marks and set of owings': the trees and the owings thread by thread. That then every owing stands in both as often
-- (`is_it` counts one) is proved: proofs/AsOften.antt.
pub record Same (v w : View) : Type 0 where
  pub trees : (t : ℕ) → tree_of t v.places ≡ tree_of t w.places
  pub marks : v.rows ≡ w.rows
  pub owings : (t : ℕ) → owings_on t v.places ≡ owings_on t w.places

-- the owing x is the owing p
abbrev pub is_it : (p x : Place) → Bool
is_it p x = eqb x.asker p.asker && (eqb x.asked p.asked && (eqb x.kind p.kind && eqb x.thread p.thread))

-- 'either order gives each step the same outcome and the same bytes, and leaves the same trees, open marks and set of owings'
pub record Undisturbed (v : View) (c d : Step) : Type 0 where
  pub first : shown v c ≡ shown (after v d) c
  pub second : shown (after v c) d ≡ shown v d
  pub left : Same (after (after v c) d) (after (after v d) c)
