-- Tables 4 to 6 and section 4.4 once more, category by category, with every type written out: 'type not in Tables 4 to 6 for the asked category'.
use Prim.Native.Nat.{ℕ, ◌<◌}
use mathlib.Core.Path.{◌≡◌, sym}
use mathlib.Core.Bool.{Bool, false, ◌||◌, beq}
use mathlib.Core.List.{List, [], ◌∷◌}
use native.Mathlib.Omega.{arith}
use lib.Dec.{T, eqb}
use borrow.Author.Tests.{lt-leb}
use Rattle.lists.specs.Lists.{some_of}
use Rattle.known_types.specs.Types.{common, own, known}
use Rattle.known_types.proofs.Stretch.{all, within, same, none-own}

-- whether a type is one of some
abbrev pub among : List ℕ → ℕ → Bool
among types kind = some_of (λ (k : ℕ). eqb k kind) types

-- 'handler-independent types are in for all': Open Handler, Close Handler, Write and Read Handler String, Get Handler Addresses
abbrev pub for_all : List ℕ
for_all = 0xF0 ∷ 0xF1 ∷ 0xF3 ∷ 0xF4 ∷ 0xF5 ∷ []

-- of every byte: a category knows these types, those that are in for all, and no other
abbrev pub Knows : ℕ → List ℕ → Type 0
Knows category types = T (all (λ (kind : ℕ). beq (known category kind) (among types kind || among for_all kind)) 0 256)

-- so at each of them
pub knows_at : (category : ℕ) (types : List ℕ) → Knows category types → (kind : ℕ) → kind < 256 → known category kind ≡ (among types kind || among for_all kind)
knows_at category types t kind l =
    sym (same (known category kind) (among types kind || among for_all kind)
    (within (λ (k : ℕ). beq (known category k) (among types k || among for_all k)) 0 256 kind t (omega arith) l))

pub record Printed : Type 0 where
  -- Table 4: Handlers 0-2; 'For card, '40' to '47' are in'
  pub psam : Knows 0x00 (0x42 ∷ 0x43 ∷ 0x44 ∷ 0x45 ∷ 0x47 ∷ 0x48 ∷ [])
  pub driver : Knows 0x01 []
  pub card : Knows 0x02 (0x40 ∷ 0x41 ∷ 0x42 ∷ 0x43 ∷ 0x44 ∷ 0x45 ∷ 0x46 ∷ 0x47 ∷ [])
  -- Table 5: Handlers 3-5
  pub user-interface : Knows 0x03 (0x60 ∷ 0x61 ∷ 0x63 ∷ 0x64 ∷ 0x65 ∷ 0x66 ∷ 0x67 ∷ 0x68 ∷ 0x69 ∷ 0x6A ∷ 0x6C ∷ 0x80 ∷ 0x82 ∷ [])
  pub merchant : Knows 0x04 (0x61 ∷ 0x63 ∷ 0x64 ∷ 0x80 ∷ 0x81 ∷ 0x82 ∷ [])
  pub data-store : Knows 0x05 (0x90 ∷ 0x91 ∷ 0x92 ∷ 0x93 ∷ 0x94 ∷ 0x95 ∷ 0x96 ∷ 0x97 ∷ 0x98 ∷ [])
  -- Table 6: Handler 6-7; 'for event, 'C0' to 'C3''
  pub communication : Knows 0x06 (0xB0 ∷ 0xB1 ∷ [])
  pub event : Knows 0x07 (0xC0 ∷ 0xC1 ∷ 0xC2 ∷ 0xC3 ∷ [])

pub printed : Printed
unfolding common own
printed = record {
  psam = tt;
  driver = tt;
  card = tt;
  user-interface = tt;
  merchant = tt;
  data-store = tt;
  communication = tt;
  event = tt;
}

-- there is no category above 7, and what is none knows no type
pub no-category : (category kind : ℕ) → 7 < category → known category kind ≡ false
no-category category kind l =
    let e : own category kind ≡ false = sym (none-own category kind (λ e. omega arith) (λ e. omega arith) (λ e. omega arith) (λ e. omega arith) (λ e. omega arith) (λ e. omega arith) (λ e. omega arith)) in
    rw (e, lt-leb category 7 l)
