-- The nine commands, Open Handler and Close Handler in bytes: the type, the whole data part, the whole response data, and the files that are then held.
-- One exchange at least for each command and each code that it can give.
use Prim.Native.Nat.{◌+◌, ◌<◌, ℕ}
use mathlib.Core.List.{List, [], ◌∷◌}
use mathlib.Core.Path.{refl, ◌≡◌}
use native.Mathlib.Omega.{arith}
use lib.ListN.{length}
use borrow.Author.Tests.{le-leb, lt-ltb, ne_eqb}
use Rattle.files.specs.Asked.{create_shape, done_by, get_shape, ids_shape, key_shape, mark_shape, record_shape}
use Rattle.files.specs.Files.{File, Record}
use Rattle.lists.specs.Least.{least}

-- a command of this type with these data gives these data, and the files are then these
abbrev pub gives : ℕ → List ℕ → List File → List ℕ → List File → Type 0
gives kind part s reply after = done_by kind part s ≡ record { part = reply; files = after }

-- it is answered with a code alone, and the files stay
abbrev pub fails : ℕ → List ℕ → List File → ℕ → ℕ → Type 0
fails kind part s high low = gives kind part s (high ∷ low ∷ []) s

-- ---- Open Handler and Close Handler, and the types that are none of the store's

module _ (s : List File) where
  -- 'Open Handler and Close Handler without data are answered '0000', and nothing changes in the store'
  pub marks : gives 0xF0 [] s (0 ∷ 0 ∷ []) s × gives 0xF1 [] s (0 ∷ 0 ∷ []) s
  unfolding done_by mark_shape
  marks = (refl, refl)

  -- 'with data they have a wrong shape'
  pub marks-with-a-byte : fails 0xF0 (0 ∷ []) s 0xFF 0xFB × fails 0xF1 (0 ∷ []) s 0xFF 0xFB × fails 0xF1 (0 ∷ 1 ∷ []) s 0xFF 0xFB
  unfolding done_by mark_shape
  marks-with-a-byte = (refl, refl, refl)

  pub marks-with-data : (x : ℕ) (part : List ℕ) → fails 0xF0 (x ∷ part) s 0xFF 0xFB × fails 0xF1 (x ∷ part) s 0xFF 0xFB
  unfolding done_by mark_shape
  marks-with-data x part = rw (ne_eqb (length (x ∷ part)) 0 (λ e. omega arith)) (refl, refl)

  -- 'Every other type outside 90 to 98 gets 'FFFB'.'
  pub types-below : (kind : ℕ) (part : List ℕ) → kind < 0x90 → fails kind part s 0xFF 0xFB
  unfolding done_by
  types-below kind part h = rw (
    ne_eqb kind 0x90 (λ e. omega arith),
    ne_eqb kind 0x91 (λ e. omega arith),
    ne_eqb kind 0x92 (λ e. omega arith),
    ne_eqb kind 0x93 (λ e. omega arith),
    ne_eqb kind 0x94 (λ e. omega arith),
    ne_eqb kind 0x95 (λ e. omega arith),
    ne_eqb kind 0x96 (λ e. omega arith),
    ne_eqb kind 0x97 (λ e. omega arith),
    ne_eqb kind 0x98 (λ e. omega arith),
    ne_eqb kind 0xF0 (λ e. omega arith),
    ne_eqb kind 0xF1 (λ e. omega arith),
  )

  pub types-above : (kind : ℕ) (part : List ℕ) → 0x98 < kind → (kind ≡ 0xF0 → ⊥) → (kind ≡ 0xF1 → ⊥) → fails kind part s 0xFF 0xFB
  unfolding done_by
  types-above kind part h a b = rw (
    ne_eqb kind 0x90 (λ e. omega arith),
    ne_eqb kind 0x91 (λ e. omega arith),
    ne_eqb kind 0x92 (λ e. omega arith),
    ne_eqb kind 0x93 (λ e. omega arith),
    ne_eqb kind 0x94 (λ e. omega arith),
    ne_eqb kind 0x95 (λ e. omega arith),
    ne_eqb kind 0x96 (λ e. omega arith),
    ne_eqb kind 0x97 (λ e. omega arith),
    ne_eqb kind 0x98 (λ e. omega arith),
    ne_eqb kind 0xF0 a,
    ne_eqb kind 0xF1 b,
  )

-- ---- two files with two records each: file 1 has keys of at most 4 bytes and data of at most 8, file 2 has no keys and data of at most 128

abbrev pub keyed_file : List Record → File
keyed_file rs = record { id = 1; key_max = 4; rec_max = 8; records = rs }

abbrev pub plain_file : List Record → File
plain_file rs = record { id = 2; key_max = 0; rec_max = 128; records = rs }

abbrev pub both : List Record → List Record → List File
both rs ts = keyed_file rs ∷ plain_file ts ∷ []

abbrev pub a : Record
a = record { pointer = 1; key = 0x61 ∷ []; bytes = 0x31 ∷ [] }

abbrev pub b : Record
b = record { pointer = 2; key = 0x61 ∷ 0x62 ∷ []; bytes = [] }

abbrev pub x : Record
x = record { pointer = 1; key = []; bytes = 7 ∷ 8 ∷ [] }

abbrev pub y : Record
y = record { pointer = 2; key = []; bytes = 9 ∷ [] }

abbrev pub two : List File
two = both (a ∷ b ∷ []) (x ∷ y ∷ [])

-- ---- Create File, '90' (Tables 122 to 124): NUM_FILE, LEN_SKEY, LEN_REC; the identifiers, the code

pub create-0000 : gives 0x90 (1 ∷ 4 ∷ 0 ∷ 8 ∷ []) [] (0 ∷ 1 ∷ 0 ∷ 0 ∷ []) (keyed_file [] ∷ [])
    × gives 0x90 (1 ∷ 0 ∷ 0 ∷ 0x80 ∷ []) (keyed_file [] ∷ []) (0 ∷ 2 ∷ 0 ∷ 0 ∷ []) (both [] [])
unfolding done_by create_shape least
create-0000 = (refl, refl)

pub create-fffb : (s : List File) → fails 0x90 [] s 0xFF 0xFB × fails 0x90 (1 ∷ 4 ∷ 0 ∷ []) s 0xFF 0xFB
    × fails 0x90 (1 ∷ 4 ∷ 0 ∷ 8 ∷ 0 ∷ []) s 0xFF 0xFB
unfolding done_by create_shape
create-fffb s = (refl, refl, refl)

pub create-fff6 : (s : List File) → length s ≡ 16 → fails 0x90 (1 ∷ 4 ∷ 0 ∷ 8 ∷ []) s 0xFF 0xF6
unfolding done_by create_shape
create-fff6 s h = rw (lt-ltb 16 (length s + 1) (omega arith))

-- ---- Delete File, '91' (Tables 125 to 127): identifiers; the code

pub delete-files-0000 : gives 0x91 (0 ∷ 1 ∷ []) two (0 ∷ 0 ∷ []) (plain_file (x ∷ y ∷ []) ∷ []) × gives 0x91 (0 ∷ 2 ∷ 0 ∷ 1 ∷ []) two (0 ∷ 0 ∷ []) []
unfolding done_by ids_shape
delete-files-0000 = (refl, refl)

pub delete-files-fffb : (s : List File) → fails 0x91 [] s 0xFF 0xFB × fails 0x91 (0 ∷ []) s 0xFF 0xFB × fails 0x91 (0 ∷ 1 ∷ 0 ∷ []) s 0xFF 0xFB
unfolding done_by ids_shape
delete-files-fffb s = (refl, refl, refl)

-- an unknown one, a known one beside it, one named twice
pub delete-files-ff51 : fails 0x91 (0 ∷ 3 ∷ []) two 0xFF 0x51 × fails 0x91 (0 ∷ 1 ∷ 0 ∷ 3 ∷ []) two 0xFF 0x51
    × fails 0x91 (0 ∷ 2 ∷ 0 ∷ 1 ∷ 0 ∷ 2 ∷ []) two 0xFF 0x51
    × fails 0x91 (1 ∷ 1 ∷ []) two 0xFF 0x51 × fails 0x91 (0 ∷ 0 ∷ []) two 0xFF 0x51
unfolding done_by ids_shape
delete-files-ff51 = (refl, refl, refl, refl, refl)

-- ---- Add File Record, '92' (Tables 128 to 130): ID_FILE, LEN_SKEY, key, LEN_REC, data; the pointer, the code

abbrev c : Record
c = record { pointer = 3; key = 0x63 ∷ 0x64 ∷ []; bytes = 0x0A ∷ 0x0B ∷ 0x0C ∷ [] }

abbrev z : Record
z = record { pointer = 3; key = []; bytes = 0x0D ∷ [] }

pub add-0000 : gives 0x92 (0 ∷ 1 ∷ 2 ∷ 0x63 ∷ 0x64 ∷ 0 ∷ 3 ∷ 0x0A ∷ 0x0B ∷ 0x0C ∷ []) two (0 ∷ 3 ∷ 0 ∷ 0 ∷ []) (both (a ∷ b ∷ c ∷ []) (x ∷ y ∷ []))
    × gives 0x92 (0 ∷ 2 ∷ 0 ∷ 0 ∷ 1 ∷ 0x0D ∷ []) two (0 ∷ 3 ∷ 0 ∷ 0 ∷ []) (both (a ∷ b ∷ []) (x ∷ y ∷ z ∷ []))
unfolding done_by record_shape least
add-0000 = (refl, refl)

-- LEN_REC has a high byte: '0101' is not 1
pub add-long : (s : List File) → fails 0x92 (0 ∷ 2 ∷ 0 ∷ 1 ∷ 1 ∷ 7 ∷ []) s 0xFF 0xFB × fails 0x94 (0 ∷ 2 ∷ 0 ∷ 1 ∷ 0 ∷ 1 ∷ 1 ∷ 7 ∷ []) s 0xFF 0xFB
unfolding done_by record_shape
add-long s = (refl, refl)

-- too short for its fields, data a byte short, a byte more, a key a byte short
pub add-fffb : fails 0x92 [] two 0xFF 0xFB × fails 0x92 (0 ∷ 1 ∷ 0 ∷ 0 ∷ []) two 0xFF 0xFB
    × fails 0x92 (0 ∷ 1 ∷ 2 ∷ 0x63 ∷ 0x64 ∷ 0 ∷ 3 ∷ 0x0A ∷ 0x0B ∷ []) two 0xFF 0xFB
    × fails 0x92 (0 ∷ 1 ∷ 2 ∷ 0x63 ∷ 0x64 ∷ 0 ∷ 3 ∷ 0x0A ∷ 0x0B ∷ 0x0C ∷ 0x0D ∷ []) two 0xFF 0xFB
    × fails 0x92 (0 ∷ 1 ∷ 2 ∷ 0x63 ∷ 0 ∷ 0 ∷ []) two 0xFF 0xFB
unfolding done_by record_shape
add-fffb = (refl, refl, refl, refl, refl)

pub add-ff51 : fails 0x92 (0 ∷ 3 ∷ 1 ∷ 0x63 ∷ 0 ∷ 0 ∷ []) two 0xFF 0x51 × fails 0x92 (1 ∷ 1 ∷ 1 ∷ 0x63 ∷ 0 ∷ 0 ∷ []) two 0xFF 0x51
unfolding done_by record_shape
add-ff51 = (refl, refl)

-- data of 9 bytes in a file of 8
pub add-ff52 : fails 0x92 (0 ∷ 1 ∷ 1 ∷ 0x63 ∷ 0 ∷ 9 ∷ 1 ∷ 2 ∷ 3 ∷ 4 ∷ 5 ∷ 6 ∷ 7 ∷ 8 ∷ 9 ∷ []) two 0xFF 0x52
unfolding done_by record_shape
add-ff52 = refl

-- a key of 5 bytes in a file of 4, any key in a file without keys
pub add-ff53 : fails 0x92 (0 ∷ 1 ∷ 5 ∷ 0x63 ∷ 0x64 ∷ 0x65 ∷ 0x66 ∷ 0x67 ∷ 0 ∷ 0 ∷ []) two 0xFF 0x53
    × fails 0x92 (0 ∷ 2 ∷ 1 ∷ 0x63 ∷ 0 ∷ 0 ∷ []) two 0xFF 0x53
unfolding done_by record_shape
add-ff53 = (refl, refl)

-- the second record's key; the empty key where it stands; without keys nothing is compared (`add-0000`)
pub add-ff59 : fails 0x92 (0 ∷ 1 ∷ 2 ∷ 0x61 ∷ 0x62 ∷ 0 ∷ 1 ∷ 5 ∷ []) two 0xFF 0x59 × fails 0x92 (0 ∷ 1 ∷ 0 ∷ 0 ∷ 0 ∷ []) (both (x ∷ []) []) 0xFF 0x59
unfolding done_by record_shape
add-ff59 = (refl, refl)

pub add-fff6 : (ts : List Record) → length ts ≡ 254 → fails 0x92 (0 ∷ 1 ∷ 2 ∷ 0x63 ∷ 0x64 ∷ 0 ∷ 0 ∷ []) (both (a ∷ b ∷ []) ts) 0xFF 0xF6
    × fails 0x92 (0 ∷ 2 ∷ 0 ∷ 0 ∷ 1 ∷ 0x0D ∷ []) (both (a ∷ b ∷ []) ts) 0xFF 0xF6
unfolding done_by record_shape
add-fff6 ts h = rw (le-leb 256 (2 + (length ts + 0)) (omega arith)) (refl, refl)

-- ---- Get File Record, '93' (Tables 131 to 133): ID_FILE, Record Pointer, Pointer Orientation; LEN_SKEY, key, LEN_REC, data, a pointer, the code

-- by the pointer, then the next one's; by the pointer, then the previous one's; the first, the last
pub get-0000 : gives 0x93 (0 ∷ 1 ∷ 0 ∷ 1 ∷ 0 ∷ []) two (1 ∷ 0x61 ∷ 0 ∷ 1 ∷ 0x31 ∷ 0 ∷ 2 ∷ 0 ∷ 0 ∷ []) two
    × gives 0x93 (0 ∷ 1 ∷ 0 ∷ 2 ∷ 1 ∷ []) two (2 ∷ 0x61 ∷ 0x62 ∷ 0 ∷ 0 ∷ 0 ∷ 1 ∷ 0 ∷ 0 ∷ []) two
    × gives 0x93 (0 ∷ 2 ∷ 0 ∷ 0 ∷ 2 ∷ []) two (0 ∷ 0 ∷ 2 ∷ 7 ∷ 8 ∷ 0 ∷ 2 ∷ 0 ∷ 0 ∷ []) two
    × gives 0x93 (0 ∷ 2 ∷ 0 ∷ 0 ∷ 3 ∷ []) two (0 ∷ 0 ∷ 1 ∷ 9 ∷ 0 ∷ 1 ∷ 0 ∷ 0 ∷ []) two
unfolding done_by get_shape
get-0000 = (refl, refl, refl, refl)

-- next and previous, first and last go by the order of adding, and not by the pointers
pub get-walk : gives 0x93 (0 ∷ 1 ∷ 0 ∷ 2 ∷ 0 ∷ []) (both (b ∷ a ∷ []) []) (2 ∷ 0x61 ∷ 0x62 ∷ 0 ∷ 0 ∷ 0 ∷ 1 ∷ 0 ∷ 0 ∷ []) (both (b ∷ a ∷ []) [])
    × gives 0x93 (0 ∷ 1 ∷ 0 ∷ 1 ∷ 1 ∷ []) (both (b ∷ a ∷ []) []) (1 ∷ 0x61 ∷ 0 ∷ 1 ∷ 0x31 ∷ 0 ∷ 2 ∷ 0 ∷ 0 ∷ []) (both (b ∷ a ∷ []) [])
    × gives 0x93 (0 ∷ 1 ∷ 0 ∷ 0 ∷ 2 ∷ []) (both (b ∷ a ∷ []) []) (2 ∷ 0x61 ∷ 0x62 ∷ 0 ∷ 0 ∷ 0 ∷ 1 ∷ 0 ∷ 0 ∷ []) (both (b ∷ a ∷ []) [])
    × gives 0x93 (0 ∷ 1 ∷ 0 ∷ 0 ∷ 3 ∷ []) (both (b ∷ a ∷ []) []) (1 ∷ 0x61 ∷ 0 ∷ 1 ∷ 0x31 ∷ 0 ∷ 2 ∷ 0 ∷ 0 ∷ []) (both (b ∷ a ∷ []) [])
unfolding done_by get_shape
get-walk = (refl, refl, refl, refl)

-- no next one, no previous one: '0000'
pub get-ends : gives 0x93 (0 ∷ 1 ∷ 0 ∷ 2 ∷ 0 ∷ []) two (2 ∷ 0x61 ∷ 0x62 ∷ 0 ∷ 0 ∷ 0 ∷ 0 ∷ 0 ∷ 0 ∷ []) two
    × gives 0x93 (0 ∷ 1 ∷ 0 ∷ 1 ∷ 1 ∷ []) two (1 ∷ 0x61 ∷ 0 ∷ 1 ∷ 0x31 ∷ 0 ∷ 0 ∷ 0 ∷ 0 ∷ []) two
    × gives 0x93 (0 ∷ 2 ∷ 0 ∷ 0 ∷ 2 ∷ []) (both [] (y ∷ [])) (0 ∷ 0 ∷ 1 ∷ 9 ∷ 0 ∷ 0 ∷ 0 ∷ 0 ∷ []) (both [] (y ∷ []))
    × gives 0x93 (0 ∷ 2 ∷ 0 ∷ 0 ∷ 3 ∷ []) (both [] (y ∷ [])) (0 ∷ 0 ∷ 1 ∷ 9 ∷ 0 ∷ 0 ∷ 0 ∷ 0 ∷ []) (both [] (y ∷ []))
unfolding done_by get_shape
get-ends = (refl, refl, refl, refl)

-- 4 and 6 bytes, orientation 04
pub get-fffb : (s : List File) → fails 0x93 (0 ∷ 1 ∷ 0 ∷ 1 ∷ []) s 0xFF 0xFB × fails 0x93 (0 ∷ 1 ∷ 0 ∷ 1 ∷ 0 ∷ 0 ∷ []) s 0xFF 0xFB
    × fails 0x93 (0 ∷ 1 ∷ 0 ∷ 1 ∷ 4 ∷ []) s 0xFF 0xFB
unfolding done_by get_shape
get-fffb s = (refl, refl, refl)

pub get-ff51 : fails 0x93 (0 ∷ 3 ∷ 0 ∷ 1 ∷ 0 ∷ []) two 0xFF 0x51 × fails 0x93 (0 ∷ 0 ∷ 0 ∷ 1 ∷ 2 ∷ []) two 0xFF 0x51
unfolding done_by get_shape
get-ff51 = (refl, refl)

-- ID_FILE has a high byte: '0101' and '0102' are not 1 and 2
pub high-ids : fails 0x93 (1 ∷ 1 ∷ 0 ∷ 1 ∷ 0 ∷ []) two 0xFF 0x51 × fails 0x94 (1 ∷ 1 ∷ 0 ∷ 1 ∷ 1 ∷ 0x63 ∷ 0 ∷ 0 ∷ []) two 0xFF 0x51
    × fails 0x95 (1 ∷ 1 ∷ 1 ∷ 0x61 ∷ []) two 0xFF 0x51
    × fails 0x96 (1 ∷ 2 ∷ 0 ∷ 1 ∷ []) two 0xFF 0x51 × fails 0x97 (1 ∷ 1 ∷ 1 ∷ 0x61 ∷ []) two 0xFF 0x51 × fails 0x98 (1 ∷ 2 ∷ []) two 0xFF 0x51
unfolding done_by get_shape key_shape record_shape
high-ids = (refl, refl, refl, refl, refl, refl)

-- a pointer of no record, and '0000', by '00' and by '01'
pub get-ff50 : fails 0x93 (0 ∷ 1 ∷ 0 ∷ 3 ∷ 0 ∷ []) two 0xFF 0x50 × fails 0x93 (0 ∷ 1 ∷ 1 ∷ 2 ∷ 1 ∷ []) two 0xFF 0x50
    × fails 0x93 (0 ∷ 1 ∷ 0 ∷ 0 ∷ 0 ∷ []) two 0xFF 0x50
    × fails 0x93 (0 ∷ 1 ∷ 0 ∷ 0 ∷ 1 ∷ []) two 0xFF 0x50
unfolding done_by get_shape
get-ff50 = (refl, refl, refl, refl)

-- the first and the last, whatever the pointer: of a record, of none, or '0000'
pub get-ends-anyhow : (high low : ℕ) → (done_by 0x93 (0 ∷ 1 ∷ high ∷ low ∷ 2 ∷ []) two ≡ done_by 0x93 (0 ∷ 1 ∷ 0 ∷ 0 ∷ 2 ∷ []) two)
    × (done_by 0x93 (0 ∷ 1 ∷ high ∷ low ∷ 3 ∷ []) two ≡ done_by 0x93 (0 ∷ 1 ∷ 0 ∷ 0 ∷ 3 ∷ []) two)
unfolding done_by get_shape
get-ends-anyhow high low = (refl, refl)

-- the first and the last of an empty file
pub get-ff56 : fails 0x93 (0 ∷ 1 ∷ 0 ∷ 0 ∷ 2 ∷ []) (both [] (x ∷ [])) 0xFF 0x56 × fails 0x93 (0 ∷ 1 ∷ 0 ∷ 1 ∷ 3 ∷ []) (both [] (x ∷ [])) 0xFF 0x56
unfolding done_by get_shape
get-ff56 = (refl, refl)

-- ---- Update File Record, '94' (Tables 134 to 136): ID_FILE, Record Pointer, LEN_SKEY, key, LEN_REC, data; the pointer, the code

abbrev a' : Record
a' = record { pointer = 1; key = 0x63 ∷ 0x64 ∷ []; bytes = 0x0A ∷ 0x0B ∷ 0x0C ∷ [] }

abbrev b' : Record
b' = record { pointer = 2; key = 0x61 ∷ 0x62 ∷ []; bytes = 0x0E ∷ [] }

-- another key; the record's own key; '0000' is the oldest, and the response has its own pointer
pub update-0000 : gives 0x94 (0 ∷ 1 ∷ 0 ∷ 1 ∷ 2 ∷ 0x63 ∷ 0x64 ∷ 0 ∷ 3 ∷ 0x0A ∷ 0x0B ∷ 0x0C ∷ []) two (0 ∷ 1 ∷ 0 ∷ 0 ∷ []) (both (a' ∷ b ∷ []) (x ∷ y ∷ []))
    × gives 0x94 (0 ∷ 1 ∷ 0 ∷ 2 ∷ 2 ∷ 0x61 ∷ 0x62 ∷ 0 ∷ 1 ∷ 0x0E ∷ []) two (0 ∷ 2 ∷ 0 ∷ 0 ∷ []) (both (a ∷ b' ∷ []) (x ∷ y ∷ []))
    × gives 0x94 (0 ∷ 1 ∷ 0 ∷ 0 ∷ 2 ∷ 0x61 ∷ 0x62 ∷ 0 ∷ 1 ∷ 0x0E ∷ []) (both (b ∷ a ∷ []) []) (0 ∷ 2 ∷ 0 ∷ 0 ∷ []) (both (b' ∷ a ∷ []) [])
unfolding done_by record_shape
update-0000 = (refl, refl, refl)

-- in a file without keys nothing is compared: the empty key may stand twice
pub update-keyless : gives 0x94 (0 ∷ 2 ∷ 0 ∷ 2 ∷ 0 ∷ 0 ∷ 1 ∷ 0x0D ∷ []) two (0 ∷ 2 ∷ 0 ∷ 0 ∷ [])
    (both (a ∷ b ∷ []) (x ∷ record { pointer = 2; key = []; bytes = 0x0D ∷ [] } ∷ []))
unfolding done_by record_shape
update-keyless = refl

pub update-fffb : fails 0x94 (0 ∷ 1 ∷ 0 ∷ 1 ∷ 0 ∷ 0 ∷ []) two 0xFF 0xFB
    × fails 0x94 (0 ∷ 1 ∷ 0 ∷ 1 ∷ 2 ∷ 0x63 ∷ 0x64 ∷ 0 ∷ 3 ∷ 0x0A ∷ 0x0B ∷ []) two 0xFF 0xFB
    × fails 0x94 (0 ∷ 1 ∷ 0 ∷ 1 ∷ 2 ∷ 0x63 ∷ 0x64 ∷ 0 ∷ 3 ∷ 0x0A ∷ 0x0B ∷ 0x0C ∷ 0x0D ∷ []) two 0xFF 0xFB
unfolding done_by record_shape
update-fffb = (refl, refl, refl)

pub update-ff51 : fails 0x94 (0 ∷ 3 ∷ 0 ∷ 1 ∷ 1 ∷ 0x63 ∷ 0 ∷ 0 ∷ []) two 0xFF 0x51
unfolding done_by record_shape
update-ff51 = refl

pub update-ff52 : fails 0x94 (0 ∷ 1 ∷ 0 ∷ 1 ∷ 1 ∷ 0x63 ∷ 0 ∷ 9 ∷ 1 ∷ 2 ∷ 3 ∷ 4 ∷ 5 ∷ 6 ∷ 7 ∷ 8 ∷ 9 ∷ []) two 0xFF 0x52
unfolding done_by record_shape
update-ff52 = refl

pub update-ff53 : fails 0x94 (0 ∷ 1 ∷ 0 ∷ 1 ∷ 5 ∷ 0x63 ∷ 0x64 ∷ 0x65 ∷ 0x66 ∷ 0x67 ∷ 0 ∷ 0 ∷ []) two 0xFF 0x53
    × fails 0x94 (0 ∷ 2 ∷ 0 ∷ 1 ∷ 1 ∷ 0x63 ∷ 0 ∷ 0 ∷ []) two 0xFF 0x53
unfolding done_by record_shape
update-ff53 = (refl, refl)

-- pointers of no record; '0000' of an empty file
pub update-ff50 : fails 0x94 (0 ∷ 1 ∷ 0 ∷ 3 ∷ 1 ∷ 0x63 ∷ 0 ∷ 0 ∷ []) two 0xFF 0x50 × fails 0x94 (0 ∷ 1 ∷ 1 ∷ 1 ∷ 1 ∷ 0x63 ∷ 0 ∷ 0 ∷ []) two 0xFF 0x50
    × fails 0x94 (0 ∷ 1 ∷ 0 ∷ 0 ∷ 1 ∷ 0x63 ∷ 0 ∷ 0 ∷ []) (both [] (x ∷ [])) 0xFF 0x50
unfolding done_by record_shape
update-ff50 = (refl, refl, refl)

-- the other record's key, and the empty key where another has it
pub update-ff59 : fails 0x94 (0 ∷ 1 ∷ 0 ∷ 1 ∷ 2 ∷ 0x61 ∷ 0x62 ∷ 0 ∷ 1 ∷ 5 ∷ []) two 0xFF 0x59
    × fails 0x94 (0 ∷ 1 ∷ 0 ∷ 0 ∷ 2 ∷ 0x61 ∷ 0x62 ∷ 0 ∷ 0 ∷ []) two 0xFF 0x59
    × fails 0x94 (0 ∷ 1 ∷ 0 ∷ 1 ∷ 0 ∷ 0 ∷ 0 ∷ []) (both (a ∷ y ∷ []) []) 0xFF 0x59
unfolding done_by record_shape
update-ff59 = (refl, refl, refl)

-- ---- Find and Get File Record, '95' (Tables 137 to 139): ID_FILE, LEN_SKEY, key; LEN_SKEY, key, LEN_REC, data, the record's own pointer, the code

-- by its key; the oldest of a file without keys
pub find-0000 : gives 0x95 (0 ∷ 1 ∷ 2 ∷ 0x61 ∷ 0x62 ∷ []) two (2 ∷ 0x61 ∷ 0x62 ∷ 0 ∷ 0 ∷ 0 ∷ 2 ∷ 0 ∷ 0 ∷ []) two
    × gives 0x95 (0 ∷ 2 ∷ 0 ∷ []) two (0 ∷ 0 ∷ 2 ∷ 7 ∷ 8 ∷ 0 ∷ 1 ∷ 0 ∷ 0 ∷ []) two
unfolding done_by key_shape
find-0000 = (refl, refl)

pub find-fffb : fails 0x95 (0 ∷ 1 ∷ []) two 0xFF 0xFB × fails 0x95 (0 ∷ 1 ∷ 2 ∷ 0x61 ∷ []) two 0xFF 0xFB
    × fails 0x95 (0 ∷ 1 ∷ 1 ∷ 0x61 ∷ 0x62 ∷ []) two 0xFF 0xFB
unfolding done_by key_shape
find-fffb = (refl, refl, refl)

pub find-ff51 : fails 0x95 (0 ∷ 3 ∷ 1 ∷ 0x61 ∷ []) two 0xFF 0x51
unfolding done_by key_shape
find-ff51 = refl

pub find-ff53 : fails 0x95 (0 ∷ 1 ∷ 5 ∷ 0x61 ∷ 0x62 ∷ 0x63 ∷ 0x64 ∷ 0x65 ∷ []) two 0xFF 0x53 × fails 0x95 (0 ∷ 2 ∷ 1 ∷ 0x61 ∷ []) two 0xFF 0x53
unfolding done_by key_shape
find-ff53 = (refl, refl)

-- a key that begins alike, a key that another begins with, another key of the same length
pub find-ff56 : fails 0x95 (0 ∷ 1 ∷ 3 ∷ 0x61 ∷ 0x62 ∷ 0x63 ∷ []) two 0xFF 0x56 × fails 0x95 (0 ∷ 1 ∷ 0 ∷ []) two 0xFF 0x56
    × fails 0x95 (0 ∷ 1 ∷ 1 ∷ 0x62 ∷ []) two 0xFF 0x56
unfolding done_by key_shape
find-ff56 = (refl, refl, refl)

-- ---- Delete File Record, '96' (Tables 140 to 142): ID_FILE, Record Pointer; the code

-- by the pointer; '0000' is the oldest
pub delete-0000 : gives 0x96 (0 ∷ 1 ∷ 0 ∷ 2 ∷ []) two (0 ∷ 0 ∷ []) (both (a ∷ []) (x ∷ y ∷ []))
    × gives 0x96 (0 ∷ 1 ∷ 0 ∷ 0 ∷ []) (both (b ∷ a ∷ []) []) (0 ∷ 0 ∷ []) (both (a ∷ []) [])
unfolding done_by
delete-0000 = (refl, refl)

pub delete-fffb : (s : List File) → fails 0x96 (0 ∷ 1 ∷ 0 ∷ []) s 0xFF 0xFB × fails 0x96 (0 ∷ 1 ∷ 0 ∷ 1 ∷ 0 ∷ []) s 0xFF 0xFB
unfolding done_by
delete-fffb s = (refl, refl)

pub delete-ff51 : fails 0x96 (0 ∷ 3 ∷ 0 ∷ 1 ∷ []) two 0xFF 0x51
unfolding done_by
delete-ff51 = refl

pub delete-ff50 : fails 0x96 (0 ∷ 1 ∷ 0 ∷ 3 ∷ []) two 0xFF 0x50 × fails 0x96 (0 ∷ 1 ∷ 1 ∷ 1 ∷ []) two 0xFF 0x50
    × fails 0x96 (0 ∷ 1 ∷ 0 ∷ 0 ∷ []) (both [] (x ∷ [])) 0xFF 0x50
unfolding done_by
delete-ff50 = (refl, refl, refl)

-- ---- Find and Delete File Record, '97' (Tables 143 to 145): ID_FILE, LEN_SKEY, key; the code

pub find-delete-0000 : gives 0x97 (0 ∷ 1 ∷ 2 ∷ 0x61 ∷ 0x62 ∷ []) two (0 ∷ 0 ∷ []) (both (a ∷ []) (x ∷ y ∷ []))
    × gives 0x97 (0 ∷ 2 ∷ 0 ∷ []) two (0 ∷ 0 ∷ []) (both (a ∷ b ∷ []) (y ∷ []))
unfolding done_by key_shape
find-delete-0000 = (refl, refl)

pub find-delete-fffb : fails 0x97 (0 ∷ 1 ∷ []) two 0xFF 0xFB × fails 0x97 (0 ∷ 1 ∷ 2 ∷ 0x61 ∷ []) two 0xFF 0xFB
    × fails 0x97 (0 ∷ 1 ∷ 1 ∷ 0x61 ∷ 0x62 ∷ []) two 0xFF 0xFB
unfolding done_by key_shape
find-delete-fffb = (refl, refl, refl)

pub find-delete-ff51 : fails 0x97 (0 ∷ 3 ∷ 1 ∷ 0x61 ∷ []) two 0xFF 0x51
unfolding done_by key_shape
find-delete-ff51 = refl

pub find-delete-ff53 : fails 0x97 (0 ∷ 1 ∷ 5 ∷ 0x61 ∷ 0x62 ∷ 0x63 ∷ 0x64 ∷ 0x65 ∷ []) two 0xFF 0x53 × fails 0x97 (0 ∷ 2 ∷ 1 ∷ 0x61 ∷ []) two 0xFF 0x53
unfolding done_by key_shape
find-delete-ff53 = (refl, refl)

pub find-delete-ff56 : fails 0x97 (0 ∷ 1 ∷ 3 ∷ 0x61 ∷ 0x62 ∷ 0x63 ∷ []) two 0xFF 0x56 × fails 0x97 (0 ∷ 1 ∷ 0 ∷ []) two 0xFF 0x56
unfolding done_by key_shape
find-delete-ff56 = (refl, refl)

-- ---- Clear File, '98' (Tables 146 to 148): ID_FILE; the code

-- the file stays, and an empty one may be cleared
pub clear-0000 : gives 0x98 (0 ∷ 1 ∷ []) two (0 ∷ 0 ∷ []) (both [] (x ∷ y ∷ [])) × gives 0x98 (0 ∷ 1 ∷ []) (both [] []) (0 ∷ 0 ∷ []) (both [] [])
unfolding done_by
clear-0000 = (refl, refl)

pub clear-fffb : (s : List File) → fails 0x98 [] s 0xFF 0xFB × fails 0x98 (0 ∷ []) s 0xFF 0xFB × fails 0x98 (0 ∷ 1 ∷ 0 ∷ []) s 0xFF 0xFB
unfolding done_by
clear-fffb s = (refl, refl, refl)

pub clear-ff51 : fails 0x98 (0 ∷ 3 ∷ []) two 0xFF 0x51 × fails 0x98 (1 ∷ 0 ∷ []) two 0xFF 0x51
unfolding done_by
clear-ff51 = (refl, refl)
