-- The items that are left in a state are those of its history: the counts are the history's totals, and these balance. Assumes nothing.
use Prim.Native.Nat.{ℕ, ◌+◌}
use mathlib.Core.Path.{◌≡◌, refl, sym, ap, ◌∙◌}
use mathlib.Core.List.{List, [], ◌∷◌}
use native.Mathlib.Omega.{arith}
use lib.ListN.{length}
use Rattle.lists.specs.Lists.{one, count}
use Rattle.table.specs.declared.Row.{Row}
use Rattle.places.specs.Places.{is_open, is_owed}
use Rattle.rules.specs.declared.Outcome.{Outcome}
use Rattle.rules.specs.declared.Outcome.TheVariants.{Passed, Answered, Swallowed, Event, Turned, Given, Reset, Refused}
use Rattle.fields.specs.Fields.{Steps, over, broken, then}
use Rattle.history.specs.History.{Step, history, view_after, total, is_passed, is_answered, is_given, open_in, owed_in}
use Rattle.lists.proofs.Counts.{length-keep}
use Rattle.history.proofs.Told.{how-many-open, how-many-owed}
use Rattle.history.proofs.Totals.{balanced}
use Rattle.run.specs.declared.Tally.{Tally}
use Rattle.run.specs.declared.Item.{Item}
use Rattle.run.specs.declared.Item.TheVariants.{Came, Over}
use Rattle.run.specs.Run.{called, outcome_of, totals_after, items_of}
use Rattle.run.specs.State.{tallied, items_from}

-- the waits are as many as the open commands, the owings as many as the owed ones
waiting : (rows : List Row) (calls : List Step) → count is_open (view_after rows calls).places ≡ length (open_in (history rows calls))
waiting rows calls = sym (length-keep is_open (view_after rows calls).places) ∙ how-many-open rows calls

owed : (rows : List Row) (calls : List Step) → count is_owed (view_after rows calls).places ≡ length (owed_in (history rows calls))
owed rows calls = sym (length-keep is_owed (view_after rows calls).places) ∙ how-many-owed rows calls

-- one outcome more
counts-one : (o : Outcome) (n : Tally)
    → ((tallied o n).accepted ≡ one (is_passed o) + n.accepted)
    × ((tallied o n).answered ≡ one (is_answered o) + n.answered)
    × ((tallied o n).given ≡ one (is_given o) + n.given)
counts-one (Passed asker asked kind t) n = (omega arith, omega arith, omega arith)
counts-one (Answered asked asker t k) n = (omega arith, omega arith, omega arith)
counts-one (Swallowed asked t) n = (omega arith, omega arith, omega arith)
counts-one Event n = (omega arith, omega arith, omega arith)
counts-one (Turned asker asked t k) n = (omega arith, omega arith, omega arith)
counts-one (Given asker asked t) n = (omega arith, omega arith, omega arith)
counts-one (Reset h) n = (omega arith, omega arith, omega arith)
counts-one (Refused r) n = (omega arith, omega arith, omega arith)

-- a tally that has counted the outcomes of some calls
pub record Counted (rows : List Row) (past : List Step) (n : Tally) : Type 0 where
  pub accepted : n.accepted ≡ total is_passed (history rows past)
  pub answered : n.answered ≡ total is_answered (history rows past)
  pub given : n.given ≡ total is_given (history rows past)

pub same-items : (rows : List Row) (past : List Step) (n : Tally) (k : ℕ) (m : Steps) → Counted rows past n
    → items_from (view_after rows past) n k m ≡ items_of rows past k m
same-items rows past n k over c =
    λ i. Over (record {
      accepted = c.accepted i;
      answered = c.answered i;
      given = c.given i;
      waiting = waiting rows past i;
      owing = owed rows past i;
    }) ∷ []
same-items rows past n k (broken b) c = refl
same-items rows past n k (then st m) c =
    let o = outcome_of (view_after rows past) st in
    let g = counts-one o n in
    ap (λ (l : List Item). Came k o ∷ l)
    (same-items rows (called st ∷ past) (tallied o n) (k + 1) m
    (record { accepted = omega (arith, g.0, c.accepted); answered = omega (arith, g.1, c.answered); given = omega (arith, g.2, c.given) }))

-- accepted = answered + given up + waiting
pub balance : (rows : List Row) (calls : List Step)
    → (totals_after rows calls).accepted ≡ (totals_after rows calls).answered + (totals_after rows calls).given + (totals_after rows calls).waiting
balance rows calls = omega (arith, balanced rows calls, how-many-open rows calls)
