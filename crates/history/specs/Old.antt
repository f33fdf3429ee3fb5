-- A run under the old list of rules, a to f (room rules, Old), beside the run of today. proofs/Old.antt shows that from an accepted table they are one.
use Rattle.std.specs.Prelude.{ℕ, ◌≡◌, List, [], ◌∷◌}
use Rattle.tapa.specs.Codes.{insufficient_resources}
use Rattle.table.specs.declared.Row.{Row}
use Rattle.rules.specs.View.{View, fresh}
use Rattle.rules.specs.declared.Outcome.TheVariants.{Turned}
use Rattle.rules.specs.Apply.{applied}
use Rattle.rules.specs.Old.{old_judge}
use Rattle.history.specs.History.{Step, Entry, entry}

-- the view after some steps, and their history, where rule f was asked too
abbrev pub old_after : List Row → List Step → View
old_after rows [] = fresh rows
old_after rows (s ∷ steps) = applied (old_judge (old_after rows steps) s.room s.call) (old_after rows steps)

abbrev pub old_history : List Row → List Step → List Entry
old_history rows [] = []
old_history rows (s ∷ steps) = entry s (old_judge (old_after rows steps) s.room s.call) ∷ old_history rows steps

-- this entry turns no command back with 'FFF6'
abbrev pub NotFull : Entry → Type 0
NotFull e = (asker asked t : ℕ) → e.outcome ≡ Turned asker asked t insufficient_resources → ⊥
