-- Routing one message: which outcome a call has. Nothing is changed here.
use Rattle.std.specs.Prelude.{ℕ, Bool, not, ◌&&◌, ◌||◌, cond, List, [], ◌∷◌, eqb, ltb, Some, None, Result, Ok, Err, Option}
use Rattle.tapa.specs.declared.Refusal.{Refusal}
use Rattle.lists.specs.Lists.{checks, some_of, first}
use Rattle.tapa.specs.Address.{category_of, handler_of, till_driver}
use Rattle.tapa.specs.Codes.{invalid_destination, handler_error, handler_busy, must_be_opened, unsupported_operation, response, add_event, open_handler, event_handler}
use Rattle.known_types.specs.Types.{known}
use Rattle.tapa.specs.declared.Refusal.TheVariants.{NotInTable, ThreadAbove7, NoResponseCode, StrayResponse, WrongAsker, BufferTooSmall, EventCannotBeTaken, NothingToGiveUp, StandsInAWait, HoldsAQuestion}
use Rattle.message.specs.declared.Head.{Head}
use Rattle.message.specs.Message.{read_of, part_of, code_of}
use Rattle.table.specs.declared.Row.{Row}
use Rattle.table.specs.Table.{listed, opened_at}
use Rattle.place.specs.declared.Place.{Place}
use Rattle.places.specs.Places.{open_on, asks_exactly, owes_exactly, stands_on, stands_in, on_slot, holding}
use Rattle.rules.specs.View.{View}
use Rattle.rules.specs.declared.Outcome.{Outcome}
use Rattle.rules.specs.declared.Outcome.TheVariants.{Passed, Answered, Swallowed, Event, Turned, Given, Reset, Refused}

-- ---- Type 'FF'

-- the wait of a thread that has exactly this asked address: what a response from it can answer, and what a give up names
abbrev pub answerable : List Place → ℕ → ℕ → Option Place
answerable places a t = first (asks_exactly a t) places

-- 'A response answers its wait only if the answering handler holds no open question itself on that thread': 'a response to the wait of such a
-- handler is 7, before 8'; 'a destination other than its asker is refused (8)'
abbrev pub reply_tests : List Place → Place → Head → List (Bool × Outcome)
reply_tests places w h =
    (holding places h.source h.thread, Refused StrayResponse)
    ∷ (not (eqb w.asker h.destination), Refused WrongAsker)
    ∷ []

-- 'Else, if this exact source is owed on this thread, the message is swallowed ... Else 7.'
unfoldable pub late : List Place → Head → Outcome
late places h = cond (some_of (owes_exactly h.source h.thread) places) (Swallowed h.source h.thread) (Refused StrayResponse)

unfoldable pub reply : List Place → Option Place → Head → ℕ → Outcome
reply places None h code = late places h
reply places (Some w) h code = checks (reply_tests places w h) (Answered h.source h.destination h.thread code)

-- 'Data length under 2 (6).'
unfoldable pub judge_response : List Place → Head → Option ℕ → Outcome
judge_response places h None = Refused NoResponseCode
judge_response places h (Some code) = reply places (answerable places h.source h.thread) h code

-- ---- Type 'C0' to handler '0700'

abbrev pub is_add_event : Head → Bool
is_add_event h = eqb h.kind add_event && eqb (handler_of h.destination) event_handler

-- 'event, no state change, or 10 if '0700' is missing or closed'
abbrev pub judge_event : List Row → Outcome
judge_event rows = cond (opened_at event_handler rows) Event (Refused EventCannotBeTaken)

-- ---- Any other type

-- rule c: 'asked handler closed, and not Open Handler'
abbrev pub closed_to : List Row → (handler kind : ℕ) → Bool
closed_to rows h kind = not (opened_at h rows) && not (eqb kind open_handler)

-- rule d: the asker stands in the thread's tree or, 'for an empty tree', is of category 01. Every asker of a tree is its root or asked in it, so
-- these are 'the root or an asked handler of the tree': proofs/Words.antt shows it.
abbrev pub may_ask : List Place → ℕ → ℕ → Bool
may_ask places t a = cond (some_of (open_on t) places) (some_of (stands_on t (handler_of a)) places) (eqb (category_of a) till_driver)

-- rule e, for the handler h: it is the asker, stands in the thread's tree, or has a command under way, open or owed, that takes its slot.
-- proofs/Words.antt shows that this is the page's sentence.
unfoldable pub busy : List Place → (asker h thread : ℕ) → Bool
busy places asker h t = eqb h (handler_of asker) || (some_of (stands_on t h) places || some_of (on_slot h t) places)

abbrev pub turned : Head → ℕ → Outcome
turned h code = Turned h.source h.destination h.thread code

-- 'The first that applies is turned back with its code', a to e
abbrev pub rules : View → Head → List (Bool × Outcome)
rules v h =
    (not (listed (handler_of h.destination) v.rows), turned h invalid_destination)
    ∷ (not (known (category_of h.destination) h.kind), turned h unsupported_operation)
    ∷ (closed_to v.rows (handler_of h.destination) h.kind, turned h must_be_opened)
    ∷ (not (may_ask v.places h.thread h.source), turned h handler_error)
    ∷ (busy v.places h.source (handler_of h.destination) h.thread, turned h handler_busy)
    ∷ []

-- 'Otherwise it is passed and becomes' a wait of the thread's tree.
unfoldable pub judge_command : View → Head → Outcome
judge_command v h = checks (rules v h) (Passed h.source h.destination h.kind h.thread)

-- ---- a message

-- a message that was read: 'source handler not in the table (4); thread above 7 (5)', and then by its type
abbrev pub common_tests : List Row → Head → List (Bool × Outcome)
common_tests rows h = (not (listed (handler_of h.source) rows), Refused NotInTable) ∷ (ltb 7 h.thread, Refused ThreadAbove7) ∷ []

unfoldable pub judge_kind : View → Head → Option ℕ → Outcome
judge_kind v h code =
    cond (eqb h.kind response)
    (judge_response v.places h code)
    (cond (is_add_event h) (judge_event v.rows) (judge_command v h))

unfoldable pub judge_read : View → Result Head Refusal → Option ℕ → Outcome
judge_read v (Err r) code = Refused r
judge_read v (Ok h) code = checks (common_tests v.rows h) (judge_kind v h code)

-- 'Common checks, in order: reply buffer under 10 bytes (9)', then the reader's own, 1, 2, 3 and 19
unfoldable pub judge_message : View → (room : ℕ) → List ℕ → Outcome
judge_message v room s = checks ((ltb room 10, Refused BufferTooSmall) ∷ []) (judge_read v (read_of s) (code_of (part_of s)))

-- ---- Give up

-- 'give up of an address with no wait is 14; of one that still holds a question on that thread is 20, after 14'
unfoldable pub yields : List Place → Option Place → (thread address : ℕ) → Outcome
yields places None t a = Refused NothingToGiveUp
yields places (Some w) t a = checks ((holding places a t, Refused HoldsAQuestion) ∷ []) (Given w.asker a t)

-- 'Give up takes a thread and an exact asked address': 9, 5, then 14, 20
unfoldable pub judge_give_up : View → (room thread address : ℕ) → Outcome
judge_give_up v room t a =
    checks
    ((ltb room 10, Refused BufferTooSmall) ∷ (ltb 7 t, Refused ThreadAbove7) ∷ [])
    (yields v.places (answerable v.places a t) t a)

-- ---- Replaced

-- 'Handler not in table (4); handler stands in a wait as asker or asked (16).'
unfoldable pub judge_replaced : View → (address : ℕ) → Outcome
judge_replaced v a =
    checks
    ((not (listed (handler_of a) v.rows), Refused NotInTable)
    ∷ (some_of (stands_in (handler_of a)) v.places, Refused StandsInAWait)
    ∷ [])
    (Reset (handler_of a))

-- ---- one call of the router

pub data Call : Type 0 where
  message : (bytes : List ℕ) → Call
  give_up : (thread address : ℕ) → Call
  replaced : (address : ℕ) → Call

-- the outcome of a call, with a reply buffer of so many bytes (a replaced call has none)
abbrev pub judge : View → (room : ℕ) → Call → Outcome
judge v room (message s) = judge_message v room s
judge v room (give_up t a) = judge_give_up v room t a
judge v room (replaced a) = judge_replaced v a
