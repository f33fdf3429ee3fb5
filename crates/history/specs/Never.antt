-- What is never passed, over every history: no response, and no Add Event. So none of them is ever waited for.
use Rattle.std.specs.Prelude.{ℕ, ◌≡◌, ◌⊎◌, false, List, [], ◌∷◌, get_or}
use Rattle.lists.specs.Lists.{In}
use Rattle.tapa.specs.Numbers.{word_at}
use Rattle.tapa.specs.Said.{Said, refused, says, event}
use Rattle.place.specs.declared.Place.{Place}
use Rattle.rules.specs.Judge.{message}
use Rattle.rules.specs.Said.{said_outcome}
use Rattle.history.specs.History.{Entry, Sent}

-- the handler '0700', by either of its addresses
abbrev pub ToQueue : ℕ → Type 0
ToQueue a = (a ≡ 0x0700) ⊎ (a ≡ 0x0780)

-- 'Type 'C0' to handler '0700'': the type is byte 4, the destination the first two
pub record AddsEvent (s : List ℕ) : Type 0 where
  pub kind : get_or s 4 0 ≡ 0xC0
  pub to : ToQueue (word_at s 0)

-- 'event, no state change, or 10', once the common checks have let it through: 9, 1, 2, 3 and 19, 4, 5. Nothing else
abbrev pub event_answers : List Said
event_answers = says event [] ∷ refused 10 ∷ refused 9 ∷ refused 1 ∷ refused 2 ∷ refused 3 ∷ refused 19 ∷ refused 4 ∷ refused 5 ∷ []

abbrev pub EventOr10 : Entry → Type 0
EventOr10 e = (s : List ℕ) → e.step.call ≡ message s → AddsEvent s → In (said_outcome e.outcome) event_answers

-- a message that may be passed: its type is not 'FF', and it adds no event
pub record IsCommand (e : Entry) : Type 0 where
  pub bytes : List ℕ
  pub call : e.step.call ≡ message bytes
  pub no-response : get_or bytes 4 0 ≡ 0xFF → ⊥
  pub no-event : AddsEvent bytes → ⊥

-- 'A wait is an accepted command: exact asker address, exact asked address, type, thread': a passed command is what its message's bytes say, with the
-- number of its entry
pub record SentAs (e : Entry) (number : ℕ) (c : Sent) : Type 0 where
  pub bytes : List ℕ
  pub call : e.step.call ≡ message bytes
  pub asker : c.command.asker ≡ word_at bytes 2
  pub asked : c.command.asked ≡ word_at bytes 0
  pub kind : c.command.kind ≡ get_or bytes 4 0
  pub thread : c.command.thread ≡ get_or bytes 5 0
  pub waits : c.command.owed ≡ false
  pub numbered : c.no ≡ number

-- a place that is no question without an answer
pub record Answerable (p : Place) : Type 0 where
  pub no-response : p.kind ≡ 0xFF → ⊥
  pub no-event : p.kind ≡ 0xC0 → ToQueue p.asked → ⊥
