-- The places of an array: the laws of any array that holds a list, said of places.
use Prim.Native.Nat.{ℕ}
use Rattle.std.specs.Prelude.{Some}
use mathlib.Core.Path.{◌≡◌, refl}
use mathlib.Core.Bool.{Bool}
use mathlib.Core.List.{List, []}
use lib.ListN.{length, replicate}
use Rattle.lists.specs.Lists.{find}
use Rattle.lists.proofs.Arrays as arrays
use Rattle.place.specs.declared.Place.{Place}
use Rattle.places.specs.Places.{pack, unpack, places_of, Becomes}

-- as many places as the count says
pub len : (l : List ℕ) (n : ℕ) → length (places_of l n) ≡ n
len l n = arrays.len unpack l n

-- what a walk found: its cell, and that it passes
pub here : (q : Place → Bool) (l : List ℕ) (n i : ℕ) → find q (places_of l n) ≡ Some i → arrays.Here unpack q l n i
here q l n i e = arrays.here unpack q l n i e

-- 'A fresh router has no waits and owes nothing': 48 zeros of which none is in use
pub fresh : Becomes (replicate 48 0) 0 []
fresh = arrays.none-held 48 pack unpack refl
