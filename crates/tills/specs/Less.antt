-- Less than the request's premise: what it is enough for two steps to leave alone.
use Rattle.std.specs.Prelude.{ℕ, ◌≤◌, ◌≡◌, ◌||◌, cond, List, [], ◌∷◌, eqb, Result, Ok, Err}
use Rattle.tapa.specs.declared.Refusal.{Refusal}
use Rattle.message.specs.declared.Head.{Head}
use Rattle.lists.specs.Lists.{In}
use Rattle.tapa.specs.Address.{category_of, handler_of}
use Rattle.tapa.specs.Codes.{response}
use Rattle.message.specs.Message.{read_of}
use Rattle.rules.specs.View.{View}
use Rattle.rules.specs.declared.Outcome.{Outcome}
use Rattle.rules.specs.declared.Outcome.TheVariants.{Passed, Answered, Swallowed, Event, Turned, Given, Reset, Refused}
use Rattle.rules.specs.Judge.{is_add_event}
use Rattle.tills.specs.Tills.{Step, message, give_up, outcome_of, after, DifferentThreads}

-- the handler that a command asks; a response asks nobody, nor does Add Event, nor do bytes that are no message
abbrev pub read_asks : Result Head Refusal → List ℕ
read_asks (Ok h) = cond (eqb h.kind response || is_add_event h) [] (handler_of h.destination ∷ [])
read_asks (Err r) = []

abbrev pub asks_of : Step → List ℕ
asks_of (message s buffer) = read_asks (read_of s)
asks_of (give_up t a buffer) = []

-- the handler that an outcome makes busy or frees. One that is given up stays busy, since it owes its late reply.
abbrev pub moves_of : Outcome → List ℕ
moves_of (Passed asker asked kind t) = handler_of asked ∷ []
moves_of (Answered asked asker t k) = handler_of asked ∷ []
moves_of (Swallowed asked t) = handler_of asked ∷ []
moves_of Event = []
moves_of (Turned asker asked t k) = []
moves_of (Given asker asked t) = []
moves_of (Reset h) = h ∷ []
moves_of (Refused r) = []

-- the first step leaves alone what the second looks at: it moves no open mark, and makes no handler busy or free that the second asks, but of
-- category 00 and 01
pub record LeavesAlone (v : View) (c d : Step) : Type 0 where
  pub marks : (after v c).rows ≡ v.rows
  pub slots : (h : ℕ) → In h (moves_of (outcome_of v c)) → In h (asks_of d) → category_of h ≤ 1

pub record Enough (v : View) (c d : Step) : Type 0 where
  pub threads : DifferentThreads c d
  pub first : LeavesAlone v c d
  pub second : LeavesAlone v d c
