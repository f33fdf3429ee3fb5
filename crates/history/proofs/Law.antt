-- The law of the rules after any steps from any table.
use mathlib.Core.List.{List, [], ◌∷◌}
use Rattle.table.specs.declared.Row.{Row}
use Rattle.table.specs.Table.{Proper}
use Rattle.rules.specs.Judge.{judge}
use Rattle.rules.specs.Conduct.{Conduct}
use Rattle.rules.proofs.Allowed.{allowed}
use Rattle.rules.proofs.Kept.{conduct-kept, conduct-fresh, proper-kept}
use Rattle.history.specs.History.{Step, view_after}

pub conduct-after : (rows : List Row) (steps : List Step) → Conduct (view_after rows steps)
conduct-after rows [] = conduct-fresh rows
conduct-after rows (s ∷ steps) =
    let v = view_after rows steps in
    conduct-kept v (judge v s.room s.call) (conduct-after rows steps) (allowed v s.room s.call)

pub proper-after : (rows : List Row) (steps : List Step) → Proper rows → Proper (view_after rows steps).rows
proper-after rows [] p = p
proper-after rows (s ∷ steps) p = let v = view_after rows steps in proper-kept v (judge v s.room s.call) (proper-after rows steps p)
