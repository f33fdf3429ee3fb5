-- One place more: the list has room for 48, and a full one stays as it is.
use Prim.Native.Nat.{ℕ, ◌≤◌, ◌<◌}
use mathlib.Core.Path.{◌≡◌, refl}
use mathlib.Core.List.{List, ◌∷◌}
use lib.ListN.{length, replicate}
use borrow.Author.Tests.{le-ltb, lt-ltb}
use Rattle.place.specs.declared.Place.{Place}
use Rattle.places.specs.Places.{places_of, pushed}
use Rattle.places.proofs.Points.{len}

-- 'the list has 48 places': a 49th is not taken, and none is dropped for it
pub no-forty-ninth : (p q : Place) → pushed p (replicate 48 q) ≡ replicate 48 q
unfolding pushed
no-forty-ninth p q = refl

pub forty-eighth : (p q : Place) → pushed p (replicate 47 q) ≡ p ∷ replicate 47 q
unfolding pushed
forty-eighth p q = refl

-- the same of any list
module _ (p : Place) (ps : List Place) where
  pub pushed_room : length ps < 48 → pushed p ps ≡ p ∷ ps
  unfolding pushed
  pushed_room h = rw (lt-ltb (length ps) 48 h)

  pub pushed-full : 48 ≤ length ps → pushed p ps ≡ ps
  unfolding pushed
  pushed-full h = rw (le-ltb (length ps) 48 h)

-- and of an array of which n are in use
module _ (p : Place) (l : List ℕ) (n : ℕ) where
  pub newest : n < 48 → pushed p (places_of l n) ≡ p ∷ places_of l n
  newest h = pushed_room p (places_of l n) (rw (len l n) h)

  pub unpushed : 48 ≤ n → pushed p (places_of l n) ≡ places_of l n
  unpushed h = pushed-full p (places_of l n) (rw (len l n) h)
