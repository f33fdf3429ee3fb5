-- Rule f is gone, and nothing changed: from an accepted table, under any calls, the old list of rules gave the same history.
use mathlib.Core.Path.{◌≡◌, refl}
use mathlib.Core.List.{List, [], ◌∷◌}
use Rattle.table.specs.declared.Row.{Row}
use Rattle.table.specs.Table.{Proper}
use Rattle.rules.specs.Judge.{judge}
use Rattle.rules.specs.Old.{old_judge}
use Rattle.rules.proofs.Old.{f-goes-call, never-f}
use Rattle.history.specs.History.{Step, view_after, history, Each}
use Rattle.history.specs.Old.{old_after, old_history, NotFull}
use Rattle.history.proofs.Law.{conduct-after, proper-after}

module _ (rows : List Row) (p : Proper rows) where
  -- the next call's outcome is the same, since no more than 44 places are in use
  same_outcome : (steps : List Step) (s : Step)
      → old_judge (view_after rows steps) s.room s.call ≡ judge (view_after rows steps) s.room s.call
  same_outcome steps s = f-goes-call (view_after rows steps) (proper-after rows steps p) (conduct-after rows steps) s.room s.call

  -- and so are the views
  pub old-after : (steps : List Step) → old_after rows steps ≡ view_after rows steps
  old-after [] = refl
  old-after (s ∷ steps) = rw (old-after steps, same_outcome steps s)

  -- and the outcomes and bytes, call by call
  pub old-history : (steps : List Step) → old_history rows steps ≡ history rows steps
  old-history [] = refl
  old-history (s ∷ steps) = rw (old-after steps, same_outcome steps s, old-history steps)

-- 'the router itself' never turns 'a command back with 'FFF6'': not by a to e, over any table
pub not_full : (rows : List Row) (steps : List Step) → Each (λ older e. NotFull e) (history rows steps)
not_full rows [] = tt
not_full rows (s ∷ steps) = (never-f (view_after rows steps) s.room s.call, not_full rows steps)

-- and it never did by a to f, over an accepted one
pub old-not-full : (rows : List Row) → Proper rows → (steps : List Step) → Each (λ older e. NotFull e) (old_history rows steps)
old-not-full rows p steps = rw (old-history rows p steps) (not_full rows steps)
