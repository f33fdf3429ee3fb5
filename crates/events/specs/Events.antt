-- The event queue (section 13): what a message asks of it, what is decided, and what that does. Events stand oldest first.
use Rattle.std.specs.Prelude.{ℕ, ◌+◌, ◌≡◌, Bool, true, false, not, ◌||◌, cond, List, [], ◌∷◌, ◌++◌, eqb, ltb, length, get_or, Result, Ok, Err, Option, Some, None}
use Rattle.lists.specs.Lists.{checks, first, without}
use Rattle.tapa.specs.Address.{handler_of}
use Rattle.tapa.specs.Codes.{successful, unsupported_operation, no_events, no_matching_events, response, add_event, get_event, find_event, flush_queue, event_handler}
use Rattle.tapa.specs.Numbers.{word_at, two_bytes}
use Rattle.tapa.specs.declared.Refusal.{Refusal}
use Rattle.message.specs.declared.Head.{Head}
use Rattle.message.specs.Message.{part_of}
use Rattle.replies.specs.Checked.{opened, owned}
use Rattle.replies.specs.Replies.{answer_of, replied}
use Rattle.queue.specs.declared.Event.{Event}
use Rattle.queue.specs.declared.Search.{Search}
use Rattle.queue.specs.Events.{most, oldest, added, known_search, meets, like_of}
use Rattle.queue.specs.Places.{Holds}
use Rattle.events.specs.declared.Command.{Command}
use Rattle.events.specs.declared.Command.TheVariants.{Add, WrongAdd, Get, Find, Flush, Wrong}
use Rattle.events.specs.declared.Outcome.{Outcome}
use Rattle.events.specs.declared.Outcome.TheVariants.{Added, Ignored, Taken, Emptied, Coded}
use Rattle.events.specs.declared.Handled.{Handled}

-- ---- the checks

-- 'destination handler not '0700' or type 'FF''
unfoldable pub elsewhere : Head → Bool
elsewhere h = not (eqb (handler_of h.destination) event_handler) || eqb h.kind response

-- 'Checks: reply buffer under 13 (9), then 1, 2, 3, then destination handler not '0700' or type 'FF' (15).'
abbrev pub checked : ℕ → List ℕ → Result Head Refusal
checked room message = owned elsewhere (opened 13 room message)

-- ---- what is asked

-- 'each a type byte and a two-byte location'
abbrev pub event_at : List ℕ → ℕ → Event
event_at part i = record { kind = get_or part i 0; location = word_at part (i + 1) }

-- Table 162: Search Type, Event Type Code, Event Location
abbrev pub search_in : List ℕ → Search
search_in part = record { by = get_or part 0 0; wanted = event_at part 1 }

-- 'A type outside 'C0' to 'C3', or a wrong data length (Add 3, Get 0, Find 4, Flush 0)'
unfoldable pub command_of : ℕ → List ℕ → Command
command_of kind part =
    checks
    ((eqb kind add_event, cond (eqb (length part) 3) (Add (event_at part 0)) WrongAdd)
    ∷ (eqb kind get_event, cond (eqb (length part) 0) Get Wrong)
    ∷ (eqb kind find_event, cond (eqb (length part) 4) (Find (search_in part)) Wrong)
    ∷ (eqb kind flush_queue, cond (eqb (length part) 0) Flush Wrong)
    ∷ [])
    Wrong

-- ---- what is decided

abbrev pub is_empty : List Event → Bool
is_empty [] = true
is_empty (e ∷ es) = false

-- an event is taken where there is one, else the answer is this code
abbrev pub taken_or : ℕ → Option Event → Outcome
taken_or code None = Coded code
taken_or code (Some e) = Taken e

unfoldable pub judge : List Event → Command → Outcome
-- 'Add to a full queue drops the newcomer'
judge es (Add e) = cond (ltb (length es) most) (Added e) Ignored
-- 'a wrong Add changes nothing and has no reply'
judge es WrongAdd = Ignored
-- 'Get takes the oldest, or 'FF72'.'
judge es Get = taken_or no_events (oldest es)
-- 'Find takes the oldest that meets its search type (Search Type Coding table): unknown type 'FFFB', empty 'FF72', no match 'FF73', in that order.'
judge es (Find s) =
    checks
    ((not (known_search s.by), Coded unsupported_operation)
    ∷ (is_empty es, Coded no_events)
    ∷ [])
    (taken_or no_matching_events (first (meets s) es))
-- 'Flush answers '0000' and empties the queue'; of an empty one request 01 has: 'it answers 'FF72' and stays empty'
judge es Flush = cond (is_empty es) (Coded no_events) Emptied
-- 'gives 'FFFB''
judge es Wrong = Coded unsupported_operation

-- ---- what that does

-- to the queue; a taken event is the oldest of its like, and the gap closes
unfoldable pub apply : Outcome → List Event → List Event
apply (Added e) es = added e es
apply Ignored es = es
apply (Taken e) es = without (meets (like_of e)) es
apply Emptied es = []
apply (Coded code) es = es

-- 'A found event's response carries type, location, '0000' (length '0005'); all others only the code.'
abbrev pub carried : Outcome → Option (List ℕ)
carried (Added e) = None
carried Ignored = None
carried (Taken e) = Some (e.kind ∷ (two_bytes e.location ++ two_bytes successful))
carried Emptied = Some (two_bytes successful)
carried (Coded code) = Some (two_bytes code)

-- ---- all of it

-- what a message comes to: the answer, the events that the queue then holds, and the whole lent buffer
pub record Answered : Type 0 where
  pub answer : Result (Option ℕ) Refusal
  pub events : List Event
  pub reply : List ℕ

-- 'A refusal returns its number only and changes nothing'
abbrev pub refuses : Refusal → List Event → List ℕ → Answered
refuses r es reply = record { answer = Err r; events = es; reply = reply }

abbrev pub does : Head → Outcome → List Event → List ℕ → Answered
does h o es reply = record { answer = answer_of (carried o); events = apply o es; reply = replied h (carried o) reply }

abbrev pub obeys : Result Head Refusal → List Event → List ℕ → List ℕ → Answered
obeys (Err r) es part reply = refuses r es reply
obeys (Ok h) es part reply = does h (judge es (command_of h.kind part)) es reply

unfoldable pub handled : List Event → List ℕ → List ℕ → Answered
handled es message reply = obeys (checked (length reply) message) es (part_of message) reply

-- ---- what the functions promise

-- a call that came to this: its answer and next queue, and what the lent buffer then holds
pub record Handling (w : Answered) (after : List ℕ) (h : Handled) : Type 0 where
  pub answer : h.answer ≡ w.answer
  pub next : Holds h.next w.events
  pub reply : after ≡ w.reply
