-- How far each contract reaches: 'Demand 3's history lists all calls since the fresh router, with bytes and outcomes.'
use Rattle.std.specs.Prelude.{ℕ, ◌+◌, ◌≡◌, Bool, true, false, ◌&&◌, ◌||◌, cond, List, [], ◌∷◌, ◌++◌, map, eqb, length, replicate, Some, Ok, Option, None}
use Rattle.lists.specs.Lists.{one, count, keep}
use Rattle.tapa.specs.Address.{handler_of}
use Rattle.tapa.specs.Codes.{response, handler_error}
use Rattle.tapa.specs.Said.{has_word, passed, answered, swallowed, turned, given, reset}
use Rattle.message.specs.declared.Head.{Head}
use Rattle.message.specs.Message.{read_of, part_of, code_of}
use Rattle.table.specs.declared.Row.{Row}
use Rattle.place.specs.declared.Place.{Place}
use Rattle.places.specs.Places.{is_open, is_owed, asks_exactly, owes_exactly, owed_by, owing}
use Rattle.rules.specs.View.{View, fresh}
use Rattle.rules.specs.declared.Outcome.{Outcome}
use Rattle.rules.specs.declared.Outcome.TheVariants.{Passed, Answered, Swallowed, Event, Turned, Given, Reset, Refused}
use Rattle.rules.specs.Said.{said_outcome}
use Rattle.rules.specs.Judge.{Call, message, give_up, replaced, judge}
use Rattle.rules.specs.Apply.{place, applied, written, sent as to_send}

-- ---- a run of the router

-- a call, with the size of the reply buffer that goes with it
pub record Step : Type 0 where
  pub room : ℕ
  pub call : Call

-- a call, its outcome, and the bytes that went out
pub record Entry : Type 0 where
  pub step : Step
  pub outcome : Outcome
  pub out : List ℕ

-- the bytes of a call
abbrev pub bytes_of : Call → List ℕ
bytes_of (message s) = s
bytes_of (give_up t a) = []
bytes_of (replaced a) = []

-- 'the bytes to send are a part of the incoming buffer or of the reply buffer'; what stood in the reply buffer before does not show
abbrev pub goes_out : Step → Outcome → List ℕ
goes_out s o = to_send o (bytes_of s.call) (written o (replicate s.room 0))

abbrev pub entry : Step → Outcome → Entry
entry s o = record { step = s; outcome = o; out = goes_out s o }

-- the view after some steps from the fresh router, the newest step first
abbrev pub view_after : List Row → List Step → View
view_after rows [] = fresh rows
view_after rows (s ∷ steps) = applied (judge (view_after rows steps) s.room s.call) (view_after rows steps)

-- the history of those steps
abbrev pub history : List Row → List Step → List Entry
history rows [] = []
history rows (s ∷ steps) = entry s (judge (view_after rows steps) s.room s.call) ∷ history rows steps

-- what holds of every entry of a history, with the older ones before it
abbrev pub Each : (List Entry → Entry → Type 0) → List Entry → Type 0
Each P [] = Unit {0}
Each P (e ∷ h) = P h e × Each P h

-- ---- the outcomes by their words

abbrev pub is_passed : Outcome → Bool
is_passed o = has_word passed (said_outcome o)

abbrev pub is_answered : Outcome → Bool
is_answered o = has_word answered (said_outcome o)

abbrev pub is_given : Outcome → Bool
is_given o = has_word given (said_outcome o)

abbrev pub is_swallowed : Outcome → Bool
is_swallowed o = has_word swallowed (said_outcome o)

abbrev pub is_reset : Outcome → Bool
is_reset o = has_word reset (said_outcome o)

-- a response that the asker of a command gets
abbrev pub ends_wait : Outcome → Bool
ends_wait o = is_answered o || is_given o

-- an outcome that is to end exactly one: 'Each answered, given or swallowed outcome'
abbrev pub ends_one : Outcome → Bool
ends_one o = ends_wait o || is_swallowed o

-- an outcome with which a response goes out, to the asker of a command
abbrev pub replies : Outcome → Bool
replies o = ends_wait o || has_word turned (said_outcome o)

-- what an outcome names of a command, and of the response that goes out; 0 where it names nothing
pub record Named : Type 0 where
  pub asker : ℕ
  pub asked : ℕ
  pub kind : ℕ
  pub thread : ℕ
  pub code : ℕ

abbrev pub naming : (asker asked kind thread code : ℕ) → Named
naming asker asked kind t k = record { asker = asker; asked = asked; kind = kind; thread = t; code = k }

abbrev pub named : Outcome → Named
named (Passed asker asked kind t) = naming asker asked kind t 0
named (Answered asked asker t k) = naming asker asked 0 t k
named (Swallowed asked t) = naming 0 asked 0 t 0
named Event = naming 0 0 0 0 0
named (Turned asker asked t k) = naming asker asked 0 t k
named (Given asker asked t) = naming asker asked 0 t handler_error
named (Reset h) = naming 0 h 0 0 0
named (Refused r) = naming 0 0 0 0 0

-- ---- the commands of a history

-- a passed command, by its number: how many entries are older than its own
pub record Sent : Type 0 where
  pub no : ℕ
  pub command : Place

abbrev pub starts : ℕ → Outcome → List Sent
starts n o =
    cond (is_passed o)
    (record { no = n; command = place (named o).asker (named o).asked (named o).kind (named o).thread } ∷ [])
    []

-- every passed command, the newest first
abbrev pub sent : List Entry → List Sent
sent [] = []
sent (e ∷ h) = starts (length h) e.outcome ++ sent h

-- whether an outcome ends a wait or an owing.
-- 'a command is open from its passed outcome until the next answered or given one on its thread from its exact asked address; if given, it is
-- then owed until the next swallowed one from that address on that thread, or the next accepted replaced call of its handler'
abbrev pub ends : Outcome → Place → Bool
ends o p =
    cond (ends_wait o)
    (asks_exactly (named o).asked (named o).thread p)
    (cond (is_swallowed o) (owes_exactly (named o).asked (named o).thread p) (is_reset o && owed_by (named o).asked p))

-- what an outcome makes of a command that is open or owed; none: it is done with
abbrev pub lives : Outcome → Place → Option Place
lives o p = cond (ends o p) (cond (is_given o) (Some (owing p)) None) (Some p)

abbrev pub lives_on : Outcome → Option Place → Option Place
lives_on o None = None
lives_on o (Some p) = lives o p

-- how a command stands at the end of a history: open, owed, or none
abbrev pub standing : List Entry → Sent → Option Place
standing [] c = None
standing (e ∷ h) c = cond (eqb c.no (length h)) (Some c.command) (lives_on e.outcome (standing h c))

abbrev pub meets : (Place → Bool) → Option Place → Bool
meets q None = false
meets q (Some p) = q p

-- the open commands and the owed ones, the newest first
abbrev pub open_in : List Entry → List Sent
open_in h = keep (λ (c : Sent). meets is_open (standing h c)) (sent h)

abbrev pub owed_in : List Entry → List Sent
owed_in h = keep (λ (c : Sent). meets is_owed (standing h c)) (sent h)

-- as places: what is open is a wait, what is owed an owing
abbrev pub as_waits : List Sent → List Place
as_waits cs = map (λ (c : Sent). c.command) cs

abbrev pub as_owings : List Sent → List Place
as_owings cs = map (λ (c : Sent). owing c.command) cs

-- the commands whose wait or owing an outcome ends
abbrev pub ended : List Entry → Outcome → List Sent
ended h o = keep (λ (c : Sent). meets (ends o) (standing h c)) (sent h)

-- ---- what became of one command

-- how often a history ended a command's wait or owing by an outcome of some kind
abbrev pub times_ended : (Outcome → Bool) → List Entry → Sent → ℕ
times_ended q [] c = 0
times_ended q (e ∷ h) c = one (q e.outcome && meets (ends e.outcome) (standing h c)) + times_ended q h c

-- (What an answered, given or swallowed outcome ends is exactly one command: `EndsOne` of specs/Promise.antt gives this its content.)
-- a command is open still, or was answered once, or given up once; one that was given up is owed still, or was swallowed once, or ended by one
-- accepted replaced call
pub record Fate (h : List Entry) (c : Sent) : Type 0 where
  pub open-or-ended : one (meets is_open (standing h c)) + (times_ended is_answered h c + times_ended is_given h c) ≡ 1
  pub owed-or-ended : one (meets is_owed (standing h c)) + (times_ended is_swallowed h c + times_ended is_reset h c) ≡ times_ended is_given h c

-- ---- what went out

-- bytes that are a response: to the asker, from the asked address, on the thread, with the code
pub record Reply (bytes : List ℕ) (asker asked t code : ℕ) : Type 0 where
  pub head : Head
  pub read : read_of bytes ≡ Ok head
  pub to-asker : head.destination ≡ asker
  pub from-asked : head.source ≡ asked
  pub kind : head.kind ≡ response
  pub on-thread : head.thread ≡ t
  pub with_code : code_of (part_of bytes) ≡ Some code

-- an entry's bytes are the part to send; an answered reply's, a give up's and a turned command's are the response that the outcome names
pub record Went (e : Entry) : Type 0 where
  pub part : e.out ≡ goes_out e.step e.outcome
  pub reply : replies e.outcome ≡ true
      → Reply e.out (named e.outcome).asker (named e.outcome).asked (named e.outcome).thread (named e.outcome).code

-- what an entry says of a command that it ends: 'the reply went to its asker with its thread'; a late response comes from its exact asked
-- address, on its thread; a replaced call is of its asked handler
pub record Concerns (e : Entry) (c : Sent) : Type 0 where
  pub its-reply : ends_wait e.outcome ≡ true
      → Reply e.out c.command.asker c.command.asked c.command.thread (named e.outcome).code
  pub its-asker : ends_wait e.outcome ≡ true → c.command.asker ≡ (named e.outcome).asker
  pub its-asked : ends_one e.outcome ≡ true → c.command.asked ≡ (named e.outcome).asked
  pub its-thread : ends_one e.outcome ≡ true → c.command.thread ≡ (named e.outcome).thread
  pub its-handler : is_reset e.outcome ≡ true → handler_of c.command.asked ≡ (named e.outcome).asked

-- ---- totals

-- how many outcomes of a history pass a test
abbrev pub total : (Outcome → Bool) → List Entry → ℕ
total q h = count (λ (e : Entry). q e.outcome) h
