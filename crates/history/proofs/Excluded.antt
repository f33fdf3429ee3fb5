-- What the promise on histories shuts out, so that none of its parts says less than its sentence.
use Prim.Native.Nat.{ℕ}
use mathlib.Core.Path.{refl, ap}
use mathlib.Core.List.{List, [], ◌∷◌}
use native.Mathlib.Omega.{arith}
use lib.ListN.{length}
use Rattle.tapa.specs.Address.{category_of, handler_of, multi}
use Rattle.known_types.specs.Types.{own, common}
use Rattle.message.specs.Message.{read_of, part_of, code_of, message_of, response_of}
use Rattle.rules.specs.declared.Outcome.{Outcome}
use Rattle.rules.specs.declared.Outcome.TheVariants.{Answered, Swallowed, Given, Turned}
use Rattle.rules.specs.Judge.{late, reply, judge_response, busy, judge_command, judge_kind, judge_read, judge_message, yields, judge_give_up}
use Rattle.rules.specs.Apply.{place, answered_rows}
use Rattle.rules.proofs.Sums.{rows, first-call, second_call, third-call, fourth-call}
use Rattle.history.specs.History.{Entry, history, Sent, Fate, Concerns, Went}
use Rattle.history.specs.Marks.{Bears}
use Rattle.history.specs.Promise.{EndsOne}
use Rattle.history.proofs.Example.{step}

-- an entry that says so, whatever was called, and sent nothing
abbrev says : Outcome → Entry
says o = record { step = step fourth-call; outcome = o; out = [] }

abbrev command : Sent
command = record { no = 0; command = place 0x0180 0x0282 0x45 3 }

-- the number of the first command
abbrev number : List Sent → ℕ
number [] = 0
number (c ∷ cs) = c.no

pub record Excluded : Type 0 where
  -- 'an answered or swallowed response bears the mark of the wait or owing it ends', and no other: the page's session, its third line, and a late reply
  pub answered-mark : Bears (λ n. 0) (history rows (step second_call ∷ step first-call ∷ [])) (Answered 0x0202 0x0001 3 0xFF24) → ⊥
  pub swallowed-mark : Bears (λ n. 1) (history rows (step fourth-call ∷ step third-call ∷ step second_call ∷ step first-call ∷ [])) (Swallowed 0x0001 3) → ⊥
  -- 'Each answered, given or swallowed outcome' ends one
  pub answers-none : EndsOne [] (says (Answered 0x0202 0x0100 3 0)) → ⊥
  pub gives_none : EndsOne [] (says (Given 0x0100 0x0202 3)) → ⊥
  pub swallows-none : EndsOne [] (says (Swallowed 0x0202 3)) → ⊥
  -- a command is open, or was answered or given up once
  pub no_fate : Fate [] command → ⊥
  -- a reply goes to exactly its asker, from exactly its asked address, on its thread; a late one comes from there
  pub another-asker : Concerns (says (Answered 0x0282 0x0100 3 0)) command → ⊥
  pub another-asked : Concerns (says (Given 0x0180 0x0202 3)) command → ⊥
  pub another-thread : Concerns (says (Swallowed 0x0282 4)) command → ⊥
  -- the response that the router makes goes out
  pub nothing-sent : Went (says (Turned 0x0180 0x0282 3 0xFFF5)) → ⊥

pub excluded : Excluded
unfolding read_of part_of code_of message_of response_of category_of handler_of multi own common late reply judge_response busy judge_command judge_kind judge_read judge_message yields judge_give_up answered_rows
excluded = record {
  answered-mark = λ b. let x = b refl in absurd (omega (arith, ap number x.1, x.2));
  swallowed-mark = λ b. let x = b refl in absurd (omega (arith, ap number x.1, x.2));
  answers-none = λ f. let x = f refl in absurd (omega (arith, ap (λ (l : List Sent). length l) x.1));
  gives_none = λ f. let x = f refl in absurd (omega (arith, ap (λ (l : List Sent). length l) x.1));
  swallows-none = λ f. let x = f refl in absurd (omega (arith, ap (λ (l : List Sent). length l) x.1));
  no_fate = λ f. absurd (omega (arith, f.open-or-ended));
  another-asker = λ c. absurd (omega (arith, c.its-asker refl));
  another-asked = λ c. absurd (omega (arith, c.its-asked refl));
  another-thread = λ c. absurd (omega (arith, c.its-thread refl));
  nothing-sent = λ w. absurd (omega (arith, ap (λ (l : List ℕ). length l) w.part));
}
