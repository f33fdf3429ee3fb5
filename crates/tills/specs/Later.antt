-- What comes after two steps: any calls, replaced ones too.
use Rattle.std.specs.Prelude.{ℕ, List, [], ◌∷◌}
use Rattle.rules.specs.View.{View}
use Rattle.rules.specs.declared.Outcome.{Outcome}
use Rattle.rules.specs.Judge.{Call, judge}
use Rattle.rules.specs.Apply.{applied}

-- the outcomes of later calls, each with the size of its reply buffer, the oldest first
abbrev pub outcomes_of : View → List (ℕ × Call) → List Outcome
outcomes_of v [] = []
outcomes_of v (k ∷ ks) = judge v k.0 k.1 ∷ outcomes_of (applied (judge v k.0 k.1) v) ks
