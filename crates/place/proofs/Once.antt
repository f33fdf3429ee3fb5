-- The contract of `pack_of` leaves one number.
use Prim.Native.Nat.{ℕ}
use mathlib.Core.Path.{◌≡◌}
use Rattle.lists.proofs.Tests.{one_value}
use Rattle.place.specs.declared.Place.{Place}
use Rattle.place.specs.Place.{pack, Packed}

pub one-pack-of : (p : Place) (x y : ℕ) → Packed p x → Packed p y → x ≡ y
one-pack-of p x y a b = one_value x y (pack p) a.same b.same
