-- The premises on marks are needed: each left out lets a response bear another mark than that of the command that it ends.
use Rattle.std.specs.Prelude.{ℕ, List}
use Rattle.table.specs.declared.Row.{Row}
use Rattle.rules.specs.declared.Outcome.{Outcome}
use Rattle.history.specs.History.{Step, Entry, history, Sent}
use Rattle.history.specs.Marks.{Addressed, Unused, Unreplaced, HonestBy}
use Rattle.history.specs.Promise.{EachBears}

-- a history whose marks meet P, and of which `EachBears` does not hold
pub record NotEnough (P : (ℕ → ℕ) → List Entry → Outcome → Sent → Type 0) : Type 0 where
  pub rows : List Row
  pub steps : List Step
  pub mark : ℕ → ℕ
  pub honest : HonestBy mark (P mark) (history rows steps)
  pub not-borne : EachBears mark (history rows steps) → ⊥

pub record Needed : Type 0 where
  pub address : NotEnough (λ mark h o c. Unused mark h o c × Unreplaced mark h o c)
  pub once : NotEnough (λ mark h o c. Addressed mark h o c × Unreplaced mark h o c)
  pub replaced : NotEnough (λ mark h o c. Addressed mark h o c × Unused mark h o c)
