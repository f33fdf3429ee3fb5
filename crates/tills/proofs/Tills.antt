-- The request's own premise: two steps that it holds of do not disturb one another.
use Rattle.rules.specs.View.{View}
use Rattle.tills.specs.Tills.{Step, Premise, Undisturbed}
use Rattle.tills.specs.Less.{Enough}
use Rattle.tills.proofs.Reach.{moves-named, asks-named, steady-rows}
use Rattle.tills.proofs.Less.{enough}

module _ (v : View) (c d : Step) (a : Premise v c d) where
  -- a step makes nobody busy, and asks nobody, whom it does not name
  pub premise-enough : Enough v c d
  premise-enough = record {
    threads = a.threads;
    first = record { marks = steady-rows v c a.steady.0; slots = λ h i j. a.shared h (moves-named v c h i) (asks-named v d h j) };
    second = record { marks = steady-rows v d a.steady.1; slots = λ h i j. a.shared h (asks-named v c h j) (moves-named v d h i) };
  }

  -- 'either order gives each step the same outcome and the same bytes, and leaves the same trees, open marks and set of owings'
  pub undisturbed : Undisturbed v c d
  undisturbed = enough v c d premise-enough
