-- A place packed into a number, and back.
use Prim.Native.Nat.{ℕ, ◌+◌, ◌*◌, ◌/◌, ◌%◌, ◌≤◌, ◌<◌}
use mathlib.Core.Path.{◌≡◌, refl, ap, ◌∙◌}
use mathlib.Core.Bool.{Bool, true, false, cond}
use native.Mathlib.Omega.{arith}
use lib.Dec.{leb}
use borrow.Author.Tests.{leb-true, leb-false, le-leb, lt-leb}
use Rattle.place.specs.declared.Place.{Place}
use Rattle.place.specs.Place.{pack, unpack, owing, Packed}

-- the fields of a number that was read, with the mark in front
abbrev fields : ℕ → ℕ → ℕ
fields mark x =
    mark + x / 0x100000000 % 0x10000 * 0x100000000 + x / 0x10000 % 0x10000 * 0x10000 + x / 0x100 % 0x100 * 0x100 + x % 0x100

-- a number is its fields and all that stands above them
forth : (x : ℕ) → fields (x / 0x1000000000000 * 0x1000000000000) x ≡ x
forth x = omega (arith, two, four, six)
  where
    two : x / 0x10000 ≡ x / 0x100 / 0x100
    two = omega arith

    four : x / 0x100000000 ≡ x / 0x10000 / 0x10000
    four = omega arith

    six : x / 0x1000000000000 ≡ x / 0x100000000 / 0x10000
    six = omega arith

-- what was read from a number packs to the number
pub pack-unpack : (x : ℕ) → x < 0x2000000000000 → pack (unpack x) ≡ x
pack-unpack x h = go (leb 0x1000000000000 x) refl
  where
    go : (b : Bool) → leb 0x1000000000000 x ≡ b → fields (cond b 0x1000000000000 0) x ≡ x
    go true e = omega (arith, forth x, leb-true 0x1000000000000 x e)
    go false e = omega (arith, forth x, leb-false 0x1000000000000 x e)

-- a place whose fields fit their types is read back from its number
module _ (a b k t : ℕ) (ha : a < 0x10000) (hb : b < 0x10000) (hk : k < 0x100) (ht : t < 0x100) where
  abbrev pub low : ℕ
  low = a * 0x100000000 + b * 0x10000 + k * 0x100 + t

  pub open-packed : Packed (record { asker = a; asked = b; kind = k; thread = t; owed = false }) low
  open-packed =
      let e1 : low / 0x100000000 % 0x10000 ≡ a = omega arith in
      let e2 : low / 0x10000 % 0x10000 ≡ b = omega arith in
      let e3 : low / 0x100 % 0x100 ≡ k = omega arith in
      let e4 : low % 0x100 ≡ t = omega arith in
      let e5 : leb 0x1000000000000 low ≡ false = lt-leb 0x1000000000000 low (omega arith) in
      record { same = omega arith; small = omega arith; back = cc }

  pub owed-packed : Packed (record { asker = a; asked = b; kind = k; thread = t; owed = true }) (0x1000000000000 + low)
  owed-packed =
      let x : ℕ = 0x1000000000000 + low in
      let e1 : x / 0x100000000 % 0x10000 ≡ a = omega arith in
      let e2 : x / 0x10000 % 0x10000 ≡ b = omega arith in
      let e3 : x / 0x100 % 0x100 ≡ k = omega arith in
      let e4 : x % 0x100 ≡ t = omega arith in
      let e5 : leb 0x1000000000000 x ≡ true = le-leb 0x1000000000000 x (omega arith) in
      record { same = omega arith; small = omega arith; back = cc }

-- the number of a place fits 49 bits, and the largest one takes them all
pub fits : (p : Place) (x : ℕ) → Packed p x → x ≤ 0x1FFFFFFFFFFFF
fits p x k = omega (arith, k.small)

pub largest : Packed (record { asker = 0xFFFF; asked = 0xFFFF; kind = 0xFF; thread = 0xFF; owed = true }) 0x1FFFFFFFFFFFF
largest = owed-packed 0xFFFF 0xFFFF 0xFF 0xFF (omega arith) (omega arith) (omega arith) (omega arith)

-- the mark is set by adding it
pub marked : (x : ℕ) → x < 0x1000000000000 → unpack (x + 0x1000000000000) ≡ owing (unpack x)
marked x h =
    let y : ℕ = x + 0x1000000000000 in
    let e1 : y / 0x100000000 % 0x10000 ≡ x / 0x100000000 % 0x10000 = omega arith in
    let e2 : y / 0x10000 % 0x10000 ≡ x / 0x10000 % 0x10000 = omega arith in
    let e3 : y / 0x100 % 0x100 ≡ x / 0x100 % 0x100 = omega arith in
    let e4 : y % 0x100 ≡ x % 0x100 = omega arith in
    let e5 : leb 0x1000000000000 y ≡ true = le-leb 0x1000000000000 y (omega arith) in
    cc

-- where the mark is set, setting it changes nothing
pub marked-already : (x : ℕ) → 0x1000000000000 ≤ x → unpack x ≡ owing (unpack x)
marked-already x h =
    let e5 : leb 0x1000000000000 x ≡ true = le-leb 0x1000000000000 x h in
    cc

-- what a test says of a place it says of the number that the place was read from
pub told : (q : Place → Bool) {p p' : Place} {b : Bool} → p ≡ p' → b ≡ q p → b ≡ q p'
told q e k = k ∙ ap q e
