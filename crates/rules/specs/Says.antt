-- What an outcome says of its call: the addresses, the type and the thread that it carries are those of the call.
use Rattle.std.specs.Prelude.{ℕ, ◌≡◌, ◌⊎◌, true, Option, Some, Result, Ok, Err}
use Rattle.tapa.specs.declared.Refusal.{Refusal}
use Rattle.tapa.specs.Address.{handler_of}
use Rattle.tapa.specs.Codes.{response}
use Rattle.message.specs.declared.Head.{Head}
use Rattle.message.specs.Message.{read_of, part_of, code_of}
use Rattle.rules.specs.declared.Outcome.{Outcome}
use Rattle.rules.specs.declared.Outcome.TheVariants.{Passed, Answered, Swallowed, Event, Turned, Given, Reset, Refused}
use Rattle.rules.specs.Said.{is_refused}
use Rattle.rules.specs.Judge.{is_add_event, Call, message, give_up, replaced}

-- what a message with this head and this code can come to
abbrev pub Spoken : Head → Option ℕ → Outcome → Type 0
Spoken h code (Passed asker asked kind t) = (h.source ≡ asker) × (h.destination ≡ asked) × (h.kind ≡ kind) × (h.thread ≡ t)
Spoken h code (Answered asked asker t k) = (h.kind ≡ response) × (h.source ≡ asked) × (h.destination ≡ asker) × (h.thread ≡ t) × (code ≡ Some k)
Spoken h code (Swallowed asked t) = (h.kind ≡ response) × (h.source ≡ asked) × (h.thread ≡ t)
Spoken h code Event = is_add_event h ≡ true
Spoken h code (Turned asker asked t k) = (h.source ≡ asker) × (h.destination ≡ asked) × (h.thread ≡ t)
Spoken h code (Given asker asked t) = ⊥
Spoken h code (Reset a) = ⊥
Spoken h code (Refused r) = Unit {0}

-- bytes that are no message come to a refusal
abbrev pub ReadSays : Result Head Refusal → Option ℕ → Outcome → Type 0
ReadSays (Ok h) code o = Spoken h code o
ReadSays (Err r) code o = is_refused o ≡ true

-- a give up of the address a on thread t is refused, or gives up a wait of exactly that address on that thread
abbrev pub GivesUp : ℕ → ℕ → Outcome → Type 0
GivesUp t a o = (is_refused o ≡ true) ⊎ ((asker : ℕ) × (o ≡ Given asker a t))

-- a replaced call of the address a is refused, or resets its handler
abbrev pub Replaces : ℕ → Outcome → Type 0
Replaces a o = (is_refused o ≡ true) ⊎ (o ≡ Reset (handler_of a))

abbrev pub Says : Call → Outcome → Type 0
Says (message s) o = ReadSays (read_of s) (code_of (part_of s)) o
Says (give_up t a) o = GivesUp t a o
Says (replaced a) o = Replaces a o
