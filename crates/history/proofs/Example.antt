-- The page's session as a history, with the late response that is still owed: what is open and owed in it, and marks that meet the premises.
use Prim.Native.Nat.{ℕ}
use mathlib.Core.Path.{◌≡◌, refl}
use mathlib.Core.Logic.{inl, inr}
use mathlib.Core.Bool.{true, false, cond}
use mathlib.Core.List.{List, [], ◌∷◌, map}
use lib.Dec.{eqb}
use Rattle.lists.proofs.Tests.{clash}
use Rattle.tapa.specs.Address.{category_of, handler_of, multi}
use Rattle.known_types.specs.Types.{own, common}
use Rattle.message.specs.Message.{read_of, part_of, code_of}
use Rattle.table.specs.declared.Row.{Row}
use Rattle.rules.specs.declared.Outcome.TheVariants.{Passed, Answered, Swallowed, Given, Reset}
use Rattle.rules.specs.Judge.{Call, message, give_up, replaced, late, reply, judge_response, busy, judge_command, judge_kind, judge_read, judge_message, yields, judge_give_up, judge_replaced}
use Rattle.rules.specs.Apply.{place, answered_rows}
use Rattle.rules.proofs.Sums.{rows, first-call, second_call, third-call, fourth-call}
use Rattle.history.specs.History.{Step, Entry, history, open_in, owed_in, is_passed, is_answered, is_given, total}
use Rattle.history.specs.Marks.{Honest, Bears}
use Rattle.history.proofs.Marks.{marks}

abbrev pub step : Call → Step
step c = record { room = 10; call = c }

-- the response of '0001' that comes after its wait was given up
abbrev late-call : Call
late-call = message (0x01 ∷ 0x00 ∷ 0x00 ∷ 0x01 ∷ 0xFF ∷ 0x03 ∷ 0x00 ∷ 0x02 ∷ 0x00 ∷ 0x00 ∷ [])

abbrev session : List Step
session = step fourth-call ∷ step third-call ∷ step second_call ∷ step first-call ∷ []

abbrev longer : List Step
longer = step late-call ∷ session

pub outcomes : map (λ (e : Entry). e.outcome) (history rows longer)
    ≡ Swallowed 0x0001 3 ∷ Given 0x0100 0x0001 3 ∷ Answered 0x0202 0x0001 3 0xFF24 ∷ Passed 0x0001 0x0202 0x45 3 ∷ Passed 0x0100 0x0001 0x42 3 ∷ []
unfolding read_of part_of code_of category_of handler_of multi own common late reply judge_response busy judge_command judge_kind judge_read judge_message yields judge_give_up answered_rows
outcomes = refl

-- at the session's end its first command is owed, none is open; after the late response none is owed
pub record Ends : Type 0 where
  pub none_open : open_in (history rows session) ≡ []
  pub one-owed : owed_in (history rows session) ≡ record { no = 0; command = place 0x0100 0x0001 0x42 3 } ∷ []
  pub none-owed : owed_in (history rows longer) ≡ []
  pub accepted : total is_passed (history rows session) ≡ 2
  pub answered : total is_answered (history rows session) ≡ 1
  pub given-up : total is_given (history rows session) ≡ 1

pub ends : Ends
unfolding read_of part_of code_of category_of handler_of multi own common late reply judge_response busy judge_command judge_kind judge_read judge_message yields judge_give_up answered_rows
ends = record { none_open = refl; one-owed = refl; none-owed = refl; accepted = refl; answered = refl; given-up = refl }

-- the premises of `marks` can be met: the answered response replies to the second command, the swallowed one to the first
abbrev mark : ℕ → ℕ
mark n = cond (eqb n 2) 1 0

pub honest : Honest mark (history rows longer)
unfolding read_of part_of code_of category_of handler_of multi own common late reply judge_response busy judge_command judge_kind judge_read judge_message yields judge_give_up answered_rows
honest = (
  λ e. record {
    of-it = record { no = 0; command = place 0x0100 0x0001 0x42 3 };
    numbered = refl;
    passed-before = inr (inl refl);
    meets = (refl, refl, refl);
  },
  (
    λ (e : false ≡ true). clash false e refl,
    (
      λ e. record {
        of-it = record { no = 1; command = place 0x0001 0x0202 0x45 3 };
        numbered = refl;
        passed-before = inl refl;
        meets = (refl, refl, refl);
      },
      (λ (e : false ≡ true). clash false e refl, (λ (e : false ≡ true). clash false e refl, tt)),
    ),
  ),
)

-- and so the late response is known to be the first command's
pub late-bears : Bears mark (history rows session) (Swallowed 0x0001 3)
unfolding read_of part_of code_of category_of handler_of multi own common late reply judge_response busy judge_command judge_kind judge_read judge_message yields judge_give_up answered_rows
late-bears = marks mark rows session (step late-call) honest

-- ---- and over a replaced call: the reader gives no reply, is given up, exchanged and opened; the response that then comes replies to Open Handler

abbrev pub lent : List Row
lent = record { address = 0x0100; opened = true } ∷ record { address = 0x0202; opened = true } ∷ []

abbrev pub ask : Call
ask = message (0x02 ∷ 0x02 ∷ 0x01 ∷ 0x00 ∷ 0x45 ∷ 0x03 ∷ 0x00 ∷ 0x00 ∷ [])

abbrev pub answer : Call
answer = message (0x01 ∷ 0x00 ∷ 0x02 ∷ 0x02 ∷ 0xFF ∷ 0x03 ∷ 0x00 ∷ 0x02 ∷ 0x00 ∷ 0x00 ∷ [])

abbrev pub replaced-run : List Step
replaced-run =
    step answer
    ∷ step (message (0x02 ∷ 0x02 ∷ 0x01 ∷ 0x00 ∷ 0xF0 ∷ 0x03 ∷ 0x00 ∷ 0x00 ∷ []))
    ∷ step (replaced 0x0202)
    ∷ step (give_up 3 0x0202)
    ∷ step ask
    ∷ []

pub replaced-outcomes : map (λ (e : Entry). e.outcome) (history lent replaced-run)
    ≡ Answered 0x0202 0x0100 3 0 ∷ Passed 0x0100 0x0202 0xF0 3 ∷ Reset 0x0202 ∷ Given 0x0100 0x0202 3 ∷ Passed 0x0100 0x0202 0x45 3 ∷ []
unfolding read_of part_of code_of category_of handler_of multi own common late reply judge_response busy judge_command judge_kind judge_read judge_message yields judge_give_up judge_replaced answered_rows
replaced-outcomes = refl

pub honest-replaced : Honest (λ (n : ℕ). 3) (history lent replaced-run)
unfolding read_of part_of code_of category_of handler_of multi own common late reply judge_response busy judge_command judge_kind judge_read judge_message yields judge_give_up judge_replaced answered_rows
honest-replaced = (
  λ e. record {
    of-it = record { no = 3; command = place 0x0100 0x0202 0xF0 3 };
    numbered = refl;
    passed-before = inl refl;
    meets = (refl, refl, refl);
  },
  (λ (e : false ≡ true). clash false e refl, (λ (e : false ≡ true). clash false e refl, (λ (e : false ≡ true). clash false e refl, (λ (e : false ≡ true). clash false e refl, tt)))),
)
