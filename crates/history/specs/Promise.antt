-- Demand 3 as one promise: what holds of every history, and of the view that it leads to.
use Rattle.std.specs.Prelude.{ℕ, ◌+◌, ◌*◌, ◌≤◌, ◌≡◌, true, List, [], ◌∷◌, length}
use Rattle.lists.specs.Lists.{In, All}
use Rattle.message.specs.declared.Head.{Head}
use Rattle.table.specs.declared.Row.{Row}
use Rattle.table.specs.Table.{Proper}
use Rattle.places.specs.Places.{waits, owings}
use Rattle.rules.specs.View.{View, fresh}
use Rattle.rules.specs.declared.Outcome.{Outcome}
use Rattle.rules.specs.Judge.{judge_command, judge}
use Rattle.rules.specs.Apply.{applied}
use Rattle.rules.specs.Old.{old_command}
use Rattle.rules.specs.Says.{Says}
use Rattle.rules.specs.Words.{Worded, singles, multis}
use Rattle.history.specs.History.{Step, Entry, goes_out, Each, Sent, starts, sent, open_in, owed_in, as_waits, as_owings, ended, ends_one, is_passed, is_answered, is_given, Fate, Went, Concerns, total}
use Rattle.history.specs.Marks.{Bears}
use Rattle.history.specs.Never.{EventOr10, IsCommand, SentAs, Answerable}

-- calls that were made one after the other, from a fresh router over these rows, each with its outcome, with what went out, and with the next state's view: what
-- the contracts of the router's methods tell of a run of the code
pub data Ran (rows : List Row) : List Entry → View → Type 0 where
  begun : (v : View) → v ≡ fresh rows → Ran rows [] v
  going : (h : List Entry) (v : View) → Ran rows h v
      → (s : Step) (o : Outcome) (b : List ℕ) (w : View) → o ≡ judge v s.room s.call → b ≡ goes_out s o → w ≡ applied o v
      → Ran rows (record { step = s; outcome = o; out = b } ∷ h) w

-- 'Each answered, given or swallowed outcome is shown to end exactly one.'
abbrev pub EndsOne : List Entry → Entry → Type 0
EndsOne h e = ends_one e.outcome ≡ true → (d : Sent) × (ended h e.outcome ≡ d ∷ [])

-- and it concerns that one: a response goes to its asker, from its asked address, on its thread
abbrev pub ConcernsIt : List Entry → Entry → Type 0
ConcernsIt h e = (d : Sent) → In d (ended h e.outcome) → Concerns e d

-- 'an answered or swallowed response bears the mark of the wait or owing it ends'
abbrev pub EachBears : (mark : ℕ → ℕ) → List Entry → Type 0
EachBears mark h = Each (λ older e. Bears mark older e.outcome) h

pub record Promise (h : List Entry) (v : View) : Type 0 where
  -- the law, in the page's words
  pub law : Worded v
  -- the waits are the open commands, and the owings the owed ones, in order
  pub opens : waits v.places ≡ as_waits (open_in h)
  pub owes : owings v.places ≡ as_owings (owed_in h)
  -- what became of every passed command
  pub fates : (c : Sent) → In c (sent h) → Fate h c
  pub ends-one : Each EndsOne h
  pub to-asker : Each ConcernsIt h
  -- what went out, a turned command's response too
  pub went : Each (λ older e. Went e) h
  -- the outcomes carry what the calls' bytes say
  pub bytes : Each (λ older e. Says e.step.call e.outcome) h
  -- Add Event, 'which has no response table', is an event or 10; a passed command is its message, and that is no response and no Add Event; nor does
  -- one stand among the places
  pub event-or-10 : Each (λ older e. EventOr10 e) h
  pub sent-as : Each (λ older e. (c : Sent) → In c (starts (length older) e.outcome) → SentAs e (length older) c) h
  pub passed_is : Each (λ older e. is_passed e.outcome ≡ true → IsCommand e) h
  pub answerable : All Answerable v.places
  -- accepted = answered + given up + waiting, all counted from the history
  pub balance : total is_passed h ≡ total is_answered h + total is_given h + length (open_in h)

-- and over an accepted table: the open commands and the owed ones 'never exceed the single handlers plus eight times the rest', and so
-- are at most 44. So there is room for every command that a to e pass, and they decide what a to f decided
pub record Bounded (rows : List Row) (h : List Entry) (v : View) : Type 0 where
  pub table : Proper v.rows
  pub bound : length (open_in h) + length (owed_in h) ≤ singles rows + 8 * multis rows
  pub few : length v.places ≤ 44
  pub without-f : (command : Head) → old_command v command ≡ judge_command v command
