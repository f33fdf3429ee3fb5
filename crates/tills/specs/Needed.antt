-- None of the premise's three parts can be left out whole: there are two steps that meet the other two parts, and whose order shows.
use Rattle.std.specs.Prelude.{◌≡◌, List, None, Ok}
use Rattle.table.specs.declared.Row.{Row}
use Rattle.table.specs.Table.{judge_table}
use Rattle.rules.specs.View.{View, fresh}
use Rattle.tills.specs.Tills.{Step, DifferentThreads, SharesOnlyMulti, Steady, Undisturbed}
use Rattle.tills.specs.Desks.{after_all}

-- steps from a fresh router over an accepted table, and two more that meet P and disturb one another
pub record NotEnough (P : View → Step → Step → Type 0) : Type 0 where
  pub rows : List Row
  pub accepted : judge_table rows ≡ Ok tt
  pub before : List Step
  pub one : Step
  pub other : Step
  pub meets : P (after_all (fresh rows) before) one other
  pub disturbed : Undisturbed (after_all (fresh rows) before) one other → ⊥

pub record Needed : Type 0 where
  -- both steps on one thread
  pub threads : NotEnough (λ v c d. SharesOnlyMulti v c d × (Steady v c × Steady v d))
  -- a shared reader
  pub shared : NotEnough (λ v c d. DifferentThreads c d × (Steady v c × Steady v d))
  -- an Open Handler that is answered
  pub steady : NotEnough (λ v c d. DifferentThreads c d × SharesOnlyMulti v c d)
