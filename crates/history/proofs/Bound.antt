-- 'Open questions plus late replies owed never exceed the single handlers plus eight times the rest', of the history alone.
use Prim.Native.Nat.{ℕ, ◌+◌, ◌*◌, ◌≤◌}
use mathlib.Core.Path.{◌≡◌, refl, ◌∙◌}
use mathlib.Core.Bool.{Bool, not}
use mathlib.Core.List.{List, [], ◌∷◌}
use native.Mathlib.Omega.{arith}
use lib.ListN.{length}
use Rattle.lists.specs.Lists.{count}
use Rattle.lists.proofs.Tests.{split}
use Rattle.table.specs.declared.Row.{Row}
use Rattle.table.specs.Table.{is_at, is_multi, marked, set_opened, Proper}
use Rattle.places.proofs.Two.{two}
use Rattle.rules.specs.Words.{singles, multis, most_of}
use Rattle.rules.specs.Judge.{judge}
use Rattle.rules.proofs.Kept.{rows-by}
use Rattle.rules.proofs.Bound.{bound, bound_all, sized}
use Rattle.rules.proofs.Old.{f-goes}
use Rattle.history.specs.History.{Step, view_after, history, open_in, owed_in}
use Rattle.history.specs.Promise.{Bounded}
use Rattle.history.proofs.Law.{conduct-after, proper-after}
use Rattle.history.proofs.Told.{how-many-open, how-many-owed}

-- a mark that is set moves no count of rows
count-marked : (q : Row → Bool) → ((b : Bool) (r : Row) → q (marked b r) ≡ q r) → (h : ℕ) (b : Bool) (rows : List Row)
    → count q (set_opened h b rows) ≡ count q rows
count-marked q f h b [] = refl
count-marked q f h b (r ∷ rows) = split (is_at h r) (λ p. rw (p, f b r)) (λ p. rw (p, count-marked q f h b rows))

most-marked : (h : ℕ) (b : Bool) (rows : List Row) → most_of (set_opened h b rows) ≡ most_of rows
most-marked h b rows =
    let s = count-marked (λ (r : Row). not (is_multi r)) (λ c r. refl) h b rows in
    let m = count-marked is_multi (λ c r. refl) h b rows in
    omega (arith, s, m)

most-after : (rows : List Row) (steps : List Step) → most_of (view_after rows steps).rows ≡ most_of rows
most-after rows [] = refl
most-after rows (s ∷ steps) =
    let v = view_after rows steps in
    rows-by (λ (x : List Row). most_of x ≡ most_of rows) v (most-after rows steps) (λ h b. most-marked h b v.rows ∙ most-after rows steps) (judge v s.room s.call)

pub open-and-owed : (rows : List Row) (steps : List Step)
    → length (open_in (history rows steps)) + length (owed_in (history rows steps)) ≤ singles rows + 8 * multis rows
open-and-owed rows steps =
    let v = view_after rows steps in
    omega (arith, bound v (conduct-after rows steps), most-after rows steps, two v.places, how-many-open rows steps, how-many-owed rows steps)

pub bounded-after : (rows : List Row) (steps : List Step) → Proper rows → Bounded rows (history rows steps) (view_after rows steps)
bounded-after rows steps p =
    let t = proper-after rows steps p in
    let v = view_after rows steps in
    let c = conduct-after rows steps in
    record { table = t; bound = open-and-owed rows steps; few = bound_all v (sized v.rows t) c; without-f = f-goes v t c }
