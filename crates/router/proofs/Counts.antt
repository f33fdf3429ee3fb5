-- How many places are open and how many are owed.
use Prim.Native.Nat.{ℕ, ◌+◌, ◌-◌, ◌≤◌}
use mathlib.Core.Path.{◌≡◌, refl}
use mathlib.Core.Bool.{true, false}
use mathlib.Core.List.{List, [], ◌∷◌}
use native.Mathlib.Numerals.{add-one}
use native.Mathlib.Omega.{arith}
use lib.ListN.{length}
use Rattle.lists.specs.Lists.{count}
use Rattle.lists.proofs.Tests.{split}
use Rattle.place.specs.declared.Place.{Place}
use Rattle.places.specs.Places.{place_at, places_of, is_open, is_owed}
use Rattle.places.proofs.Points.{len}

-- a count, on the way up
module _ (l : List ℕ) (i m : ℕ) (e : m ≡ count is_owed (places_of l i)) where
  pub owed-hit : (place_at l i).owed ≡ true → m + 1 ≡ count is_owed (places_of l (i + 1))
  owed-hit t = rw (add-one i, t) (omega arith)

  pub owed-miss : (place_at l i).owed ≡ false → m ≡ count is_owed (places_of l (i + 1))
  owed-miss t = rw (add-one i, t) (omega arith)

-- every place is the one or the other
pub open-or-owed : (ps : List Place) → count is_open ps + count is_owed ps ≡ length ps
open-or-owed [] = refl
open-or-owed (p ∷ ps) =
    split p.owed (λ t. rw t (omega (arith, open-or-owed ps))) (λ t. rw t (omega (arith, open-or-owed ps)))

module _ (l : List ℕ) (n m : ℕ) (e : m ≡ count is_owed (places_of l n)) where
  pub owed-few : m ≤ n
  owed-few = omega (arith, open-or-owed (places_of l n), len l n)

  pub open-left : n - m ≡ count is_open (places_of l n)
  open-left = omega (arith, open-or-owed (places_of l n), len l n)
