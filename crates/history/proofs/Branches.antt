-- Two questions at once, computed: trees that grow and shrink, who is held back, and a root's late reply. Each list of steps has the newest first.
use Prim.Native.Nat.{ℕ}
use mathlib.Core.Path.{◌≡◌, refl}
use mathlib.Core.Bool.{true}
use mathlib.Core.List.{List, [], ◌∷◌, map}
use Rattle.tapa.specs.Address.{category_of, handler_of, multi}
use Rattle.tapa.specs.Codes.{handler_error, handler_busy}
use Rattle.tapa.specs.declared.Refusal.TheVariants.{StrayResponse, WrongAsker, NothingToGiveUp, HoldsAQuestion}
use Rattle.known_types.specs.Types.{own, common}
use Rattle.message.specs.Message.{read_of, part_of, code_of}
use Rattle.table.specs.declared.Row.{Row}
use Rattle.rules.specs.declared.Outcome.{Outcome}
use Rattle.rules.specs.declared.Outcome.TheVariants.{Passed, Answered, Swallowed, Turned, Given, Refused}
use Rattle.rules.specs.Judge.{message, give_up, late, reply, judge_response, busy, judge_command, judge_kind, judge_read, judge_message, yields, judge_give_up}
use Rattle.rules.specs.Apply.{place, answered_rows}
use Rattle.rules.specs.Words.{tree_of}
use Rattle.rules.proofs.Sums.{row}
use Rattle.history.specs.History.{Step, Entry, view_after, history}
use Rattle.history.proofs.Example.{step}

-- two till drivers, the security module, the PIN pad and the customer's display, all open
abbrev rows : List Row
rows = row 0x0100 true ∷ row 0x0101 true ∷ row 0x0001 true ∷ row 0x0301 true ∷ row 0x0304 true ∷ []

-- a command without data, and a response with '0000', on thread 3: the high and low bytes of destination and source
abbrev asks : (d e b c kind : ℕ) → Step
asks d e b c kind = step (message (d ∷ e ∷ b ∷ c ∷ kind ∷ 3 ∷ 0 ∷ 0 ∷ []))

abbrev answers : (d e b c : ℕ) → Step
answers d e b c = step (message (d ∷ e ∷ b ∷ c ∷ 0xFF ∷ 3 ∷ 0 ∷ 2 ∷ 0 ∷ 0 ∷ []))

abbrev outcomes_of : List Step → List Outcome
outcomes_of steps = map (λ (e : Entry). e.outcome) (history rows steps)

-- ---- the PIN pad waits (Get PIN), and the module puts "enter PIN" on the display (Display Message)

abbrev two-asked : List Step
two-asked = asks 0x03 0x04 0x00 0x01 0x61 ∷ asks 0x03 0x01 0x00 0x01 0x6A ∷ asks 0x00 0x01 0x01 0x00 0x42 ∷ []

abbrev two-passed : List Outcome
two-passed = Passed 0x0001 0x0304 0x61 3 ∷ Passed 0x0001 0x0301 0x6A 3 ∷ Passed 0x0100 0x0001 0x42 3 ∷ []

-- the responses of the three that were asked
abbrev display : Step
display = answers 0x00 0x01 0x03 0x04

abbrev pin-pad : Step
pin-pad = answers 0x00 0x01 0x03 0x01

abbrev its_own : Step
its_own = answers 0x01 0x00 0x00 0x01

pub record TwoAtOnce : Type 0 where
  -- the module holds two questions
  pub tree : tree_of 3 (view_after rows two-asked).places ≡ place 0x0001 0x0304 0x61 3 ∷ place 0x0001 0x0301 0x6A 3 ∷ place 0x0100 0x0001 0x42 3 ∷ []
  -- both answered, in either order; a module that answers before its questions are answered gets 7
  pub display-first : outcomes_of (its_own ∷ pin-pad ∷ its_own ∷ display ∷ its_own ∷ two-asked)
      ≡ Answered 0x0001 0x0100 3 0 ∷ Answered 0x0301 0x0001 3 0 ∷ Refused StrayResponse ∷ Answered 0x0304 0x0001 3 0 ∷ Refused StrayResponse ∷ two-passed
  pub pin-pad-first : outcomes_of (its_own ∷ display ∷ its_own ∷ pin-pad ∷ its_own ∷ two-asked)
      ≡ Answered 0x0001 0x0100 3 0 ∷ Answered 0x0304 0x0001 3 0 ∷ Refused StrayResponse ∷ Answered 0x0301 0x0001 3 0 ∷ Refused StrayResponse ∷ two-passed
  -- 7 before 8: to a wrong asker, first with its questions open, then without
  pub wrong-asker : outcomes_of (answers 0x01 0x01 0x00 0x01 ∷ pin-pad ∷ display ∷ answers 0x01 0x01 0x00 0x01 ∷ two-asked)
      ≡ Refused WrongAsker ∷ Answered 0x0301 0x0001 3 0 ∷ Answered 0x0304 0x0001 3 0 ∷ Refused StrayResponse ∷ two-passed

pub two_at_once : TwoAtOnce
unfolding read_of part_of code_of category_of handler_of multi own common late reply judge_response busy judge_command judge_kind judge_read judge_message answered_rows
two_at_once = record { tree = refl; display-first = refl; pin-pad-first = refl; wrong-asker = refl }

-- ---- who may ask, and who is asked again: another till driver and a handler that was not asked are strangers (d); who stands in the tree is busy (e)

abbrev turned : (asker asked code : ℕ) → Outcome
turned asker asked code = Turned asker asked 3 code

pub record WhoAsks : Type 0 where
  -- a till driver begins several; nobody else begins one
  pub several : outcomes_of (asks 0x03 0x01 0x01 0x00 0x6A ∷ asks 0x03 0x04 0x01 0x00 0x61 ∷ asks 0x03 0x04 0x03 0x01 0x61 ∷ [])
      ≡ Passed 0x0100 0x0301 0x6A 3 ∷ Passed 0x0100 0x0304 0x61 3 ∷ turned 0x0301 0x0304 handler_error ∷ []
  -- a second root, and an asker from outside the tree
  pub strangers : outcomes_of (asks 0x03 0x04 0x03 0x01 0x61 ∷ asks 0x03 0x04 0x01 0x01 0x61 ∷ asks 0x00 0x01 0x01 0x00 0x42 ∷ [])
      ≡ turned 0x0301 0x0304 handler_error ∷ turned 0x0101 0x0304 handler_error ∷ Passed 0x0100 0x0001 0x42 3 ∷ []
  -- the root, the module and the display, each asked again in the tree
  pub members : outcomes_of (asks 0x03 0x84 0x03 0x01 0x61 ∷ asks 0x00 0x01 0x03 0x01 0x42 ∷ asks 0x01 0x00 0x03 0x01 0xF3 ∷ two-asked)
      ≡ turned 0x0301 0x0384 handler_busy ∷ turned 0x0301 0x0001 handler_busy ∷ turned 0x0301 0x0100 handler_busy ∷ two-passed

pub who-asks : WhoAsks
unfolding read_of part_of code_of category_of handler_of multi own common late reply judge_response busy judge_command judge_kind judge_read judge_message answered_rows
who-asks = record { several = refl; strangers = refl; members = refl }

-- ---- give up: the address of a leaf, then of its asker

abbrev gives : (address : ℕ) → Step
gives a = step (give_up 3 a)

pub record GivenUp : Type 0 where
  -- 20 while it holds a question, 14 where no wait asks exactly that address; at last the late replies come
  pub leaf_first : outcomes_of (its_own ∷ pin-pad ∷ display ∷ gives 0x0001 ∷ gives 0x0301 ∷ gives 0x0001 ∷ gives 0x0304 ∷ gives 0x0384 ∷ gives 0x0100 ∷ gives 0x0001 ∷ two-asked)
      ≡ Swallowed 0x0001 3
      ∷ Swallowed 0x0301 3
      ∷ Swallowed 0x0304 3
      ∷ Given 0x0100 0x0001 3
      ∷ Given 0x0001 0x0301 3
      ∷ Refused HoldsAQuestion
      ∷ Given 0x0001 0x0304 3
      ∷ Refused NothingToGiveUp
      ∷ Refused NothingToGiveUp
      ∷ Refused HoldsAQuestion
      ∷ two-passed
  -- the tree that is left when the display was given up: the older question stays
  pub left : tree_of 3 (view_after rows (gives 0x0304 ∷ two-asked)).places ≡ place 0x0001 0x0301 0x6A 3 ∷ place 0x0100 0x0001 0x42 3 ∷ []
  -- and when the older one was
  pub left-too : tree_of 3 (view_after rows (gives 0x0301 ∷ two-asked)).places ≡ place 0x0001 0x0304 0x61 3 ∷ place 0x0100 0x0001 0x42 3 ∷ []

pub given-up : GivenUp
unfolding read_of part_of code_of category_of handler_of multi own common late reply judge_response busy judge_command judge_kind judge_read judge_message yields judge_give_up answered_rows
given-up = record { leaf_first = refl; left = refl; left-too = refl }

-- ---- 'A root's late reply that is owed is swallowed as before': '0100' was asked and given up, begins a tree of its own, and then replies

pub root-swallowed : outcomes_of
    (answers 0x01 0x01 0x01 0x00 ∷ asks 0x03 0x04 0x01 0x00 0x61 ∷ gives 0x0100 ∷ asks 0x01 0x00 0x01 0x01 0xF3 ∷ [])
    ≡ Swallowed 0x0100 3 ∷ Passed 0x0100 0x0304 0x61 3 ∷ Given 0x0101 0x0100 3 ∷ Passed 0x0101 0x0100 0xF3 3 ∷ []
unfolding read_of part_of code_of category_of handler_of multi own common late reply judge_response busy judge_command judge_kind judge_read judge_message yields judge_give_up answered_rows
root-swallowed = refl
