-- A thread's tree in the list: what `leaf_at` and `standing_of` answer, told by the tests.
use Prim.Native.Nat.{ℕ}
use Rattle.std.specs.Prelude.{Option, Some, None, Ok, Err}
use mathlib.Core.Path.{◌≡◌, refl}
use mathlib.Core.Bool.{Bool, true, false}
use mathlib.Core.List.{List}
use Rattle.lists.specs.Lists.{some_of, find}
use Rattle.lists.proofs.Tests.{split, differ, and_yes}
use Rattle.lists.proofs.Counts.{some-le}
use Rattle.tapa.specs.Address.{handler_of}
use Rattle.place.specs.declared.Place.{Place}
use Rattle.places.specs.declared.NoLeaf.TheVariants.{Holds, Missing}
use Rattle.places.specs.declared.Standing.{Standing}
use Rattle.places.specs.declared.Standing.TheVariants.{Within, Outside, Empty}
use Rattle.places.specs.Places.{open_on, asks_exactly, holds_on, stands, stands_on, holding, leaf_by, leaf_of, standing_of}

-- ---- the wait that asks an address

by-missing : (b : Bool) (f : Option ℕ) → leaf_by b f ≡ Err Missing → f ≡ None
by-missing b None e = refl
by-missing true (Some i) e = differ (cc)
by-missing false (Some i) e = differ (cc)

by-holds : (b : Bool) (f : Option ℕ) → leaf_by b f ≡ Err Holds → (b ≡ true) × (i : ℕ) × (f ≡ Some i)
by-holds b None e = differ (cc)
by-holds true (Some i) e = (refl, i, refl)
by-holds false (Some i) e = differ (cc)

by-leaf : (b : Bool) (f : Option ℕ) (i : ℕ) → leaf_by b f ≡ Ok i → (b ≡ false) × (f ≡ Some i)
by-leaf b None i e = differ (cc)
by-leaf true (Some j) i e = differ (cc)
by-leaf false (Some j) i e = (refl, cc)

module _ (a t : ℕ) (ps : List Place) where
  pub leaf-missing : leaf_of a t ps ≡ Err Missing → find (asks_exactly a t) ps ≡ None
  unfolding leaf_of
  leaf-missing e = by-missing (holding ps a t) (find (asks_exactly a t) ps) e

  pub leaf-holds : leaf_of a t ps ≡ Err Holds → (holding ps a t ≡ true) × (i : ℕ) × (find (asks_exactly a t) ps ≡ Some i)
  unfolding leaf_of
  leaf-holds e = by-holds (holding ps a t) (find (asks_exactly a t) ps) e

  pub leaf-found : (i : ℕ) → leaf_of a t ps ≡ Ok i → (holding ps a t ≡ false) × (find (asks_exactly a t) ps ≡ Some i)
  unfolding leaf_of
  leaf-found i e = by-leaf (holding ps a t) (find (asks_exactly a t) ps) i e

  -- told by what was found, and by the handler of the address
  pub missing-is : None ≡ find (asks_exactly a t) ps → Err Missing ≡ leaf_of a t ps
  unfolding leaf_of
  missing-is e = rw (← e)

  pub holds-is : (h i : ℕ) (b : Bool) → h ≡ handler_of a → Some i ≡ find (asks_exactly a t) ps → b ≡ some_of (holds_on t h) ps → b ≡ true → Err Holds ≡ leaf_of a t ps
  unfolding leaf_of
  holds-is h i b k e f g = rw (← e, ← k, ← f, g)

  pub leaf-is : (h i : ℕ) (b : Bool) → h ≡ handler_of a → Some i ≡ find (asks_exactly a t) ps → b ≡ some_of (holds_on t h) ps → b ≡ false → Ok i ≡ leaf_of a t ps
  unfolding leaf_of
  leaf-is h i b k e f g = rw (← e, ← k, ← f, g)

-- ---- where a handler stands

module _ (t h : ℕ) (ps : List Place) where
  in-it : some_of (stands_on t h) ps ≡ true → some_of (open_on t) ps ≡ true
  in-it e = some-le (stands_on t h) (open_on t) (λ p q. (and_yes (open_on t p) (stands h p) q).0) ps e

  pub within : some_of (stands_on t h) ps ≡ true → Within ≡ standing_of t h ps
  unfolding standing_of
  within e = rw (in-it e, e)

  pub outside : some_of (open_on t) ps ≡ true → some_of (stands_on t h) ps ≡ false → Outside ≡ standing_of t h ps
  unfolding standing_of
  outside o e = rw (o, e)

  pub empty : some_of (open_on t) ps ≡ false → Empty ≡ standing_of t h ps
  unfolding standing_of
  empty o = rw o

  -- whatever holds of each of the three holds of where it stands
  pub standing-is : (P : Standing → Type 0)
      → (some_of (open_on t) ps ≡ true → some_of (stands_on t h) ps ≡ true → P Within)
      → (some_of (open_on t) ps ≡ true → some_of (stands_on t h) ps ≡ false → P Outside)
      → (some_of (open_on t) ps ≡ false → P Empty)
      → P (standing_of t h ps)
  unfolding standing_of
  standing-is P f g k =
      split (some_of (open_on t) ps)
      (λ o. rw o (split (some_of (stands_on t h) ps) (λ e. rw e (f o e)) (λ e. rw e (g o e))))
      (λ o. rw o (k o))
