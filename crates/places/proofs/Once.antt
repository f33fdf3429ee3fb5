-- The contracts leave one answer and one content of the lent array possible.
use Prim.Native.Nat.{ℕ}
use mathlib.Core.Path.{◌≡◌}
use mathlib.Core.List.{List}
use Rattle.lists.proofs.Arrays as arrays
use Rattle.lists.specs.Lists.{keep, without_at, changed_at}
use Rattle.place.specs.declared.Place.{Place}
use Rattle.places.specs.Places.{pack, unpack, places_of, Lawful, Becomes, pushed, owing, not_owed_by}

-- a lawful list is known by its places: equal places, equal counts and arrays
pub determined : (l m : List ℕ) (n k : ℕ) → Lawful l n → Lawful m k → places_of l n ≡ places_of m k → (n ≡ k) × (l ≡ m)
determined l m n k h g e = arrays.determined 48 pack unpack l m n k h g e

-- two lists that become the same places are one
pub one_list : (ps : List Place) (l m : List ℕ) (n k : ℕ) → Becomes l n ps → Becomes m k ps → (n ≡ k) × (l ≡ m)
one_list ps l m n k a b = arrays.one-array 48 pack unpack ps l m n k a b

-- of a list lent to one of the functions that change it: its next count and its next content
module _ (list : List ℕ) (n : ℕ) (l m : List ℕ) (i j : ℕ) where
  pub one-push : (p : Place)
      → Becomes l i (pushed p (places_of list n))
      → Becomes m j (pushed p (places_of list n))
      → (i ≡ j) × (l ≡ m)
  one-push p = one_list _ l m i j

  pub one-owe : (at : ℕ)
      → Becomes l n (changed_at owing at (places_of list n))
      → Becomes m n (changed_at owing at (places_of list n))
      → l ≡ m
  one-owe at a b = (one_list _ l m n n a b).1

  pub one-remove : (at : ℕ)
      → Becomes l i (without_at at (places_of list n))
      → Becomes m j (without_at at (places_of list n))
      → (i ≡ j) × (l ≡ m)
  one-remove at = one_list _ l m i j

  pub one-drop-owed : (h : ℕ)
      → Becomes l i (keep (not_owed_by h) (places_of list n))
      → Becomes m j (keep (not_owed_by h) (places_of list n))
      → (i ≡ j) × (l ≡ m)
  one-drop-owed h = one_list _ l m i j
