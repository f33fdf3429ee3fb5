-- The house limits at their edges, the numbers that are given, and the order of the codes where two causes apply, in bytes.
use Prim.Native.Nat.{◌+◌, suc, zero, ℕ}
use mathlib.Core.List.{◌++◌, List, [], ◌∷◌}
use mathlib.Core.Path.{refl, ◌≡◌}
use native.Mathlib.Omega.{arith}
use lib.ListN.{length, replicate}
use borrow.Author.Tests.{lt-leb, lt-ltb}
use Rattle.files.proofs.Codes.{a, b, both, fails, gives, two}
use Rattle.files.specs.Asked.{create_shape, done_by, get_shape, ids_shape, key_shape, record_shape, words_of}
use Rattle.files.specs.Files.{File, Record}
use Rattle.lists.specs.Least.{least}

-- ---- files and records by their numbers alone

abbrev file : ℕ → File
file n = record { id = n; key_max = 0; rec_max = 8; records = [] }

abbrev files : List ℕ → List File
files [] = []
files (n ∷ l) = file n ∷ files l

abbrev one : ℕ → Record
one n = record { pointer = n; key = []; bytes = [] }

abbrev ones : List ℕ → List Record
ones [] = []
ones (n ∷ l) = one n ∷ ones l

-- n numbers from m on
abbrev from : ℕ → ℕ → List ℕ
from m zero = []
from m (suc n) = m ∷ from (suc m) n

-- ---- record data at most 128 bytes, keys at most 255

pub record-of-128 : gives 0x90 (1 ∷ 0xFF ∷ 0 ∷ 0x80 ∷ []) [] (0 ∷ 1 ∷ 0 ∷ 0 ∷ []) (record { id = 1; key_max = 255; rec_max = 128; records = [] } ∷ [])
    × gives 0x92 (0 ∷ 2 ∷ 0 ∷ 0 ∷ 128 ∷ replicate 128 7) (both [] []) (0 ∷ 1 ∷ 0 ∷ 0 ∷ [])
    (both [] (record { pointer = 1; key = []; bytes = replicate 128 7 } ∷ []))
unfolding done_by create_shape record_shape least
record-of-128 = (refl, refl)

-- whatever the store holds: Create, Add and Update; and 256, whose low byte is 0
pub record-of-129 : (s : List File) → fails 0x90 (1 ∷ 4 ∷ 0 ∷ 0x81 ∷ []) s 0xFF 0xFB × fails 0x90 (1 ∷ 4 ∷ 1 ∷ 0 ∷ []) s 0xFF 0xFB
    × fails 0x92 (0 ∷ 2 ∷ 0 ∷ 0 ∷ 129 ∷ replicate 129 7) s 0xFF 0xFB × fails 0x94 (0 ∷ 2 ∷ 0 ∷ 1 ∷ 0 ∷ 0 ∷ 129 ∷ replicate 129 7) s 0xFF 0xFB
unfolding done_by create_shape record_shape
record-of-129 s = (refl, refl, refl, refl)

-- a file's own limits: just so many bytes of key and data are taken
pub full-record : gives 0x92 (0 ∷ 1 ∷ 4 ∷ 0x61 ∷ 0x62 ∷ 0x63 ∷ 0x64 ∷ 0 ∷ 8 ∷ 1 ∷ 2 ∷ 3 ∷ 4 ∷ 5 ∷ 6 ∷ 7 ∷ 8 ∷ []) (both [] []) (0 ∷ 1 ∷ 0 ∷ 0 ∷ [])
    (both (record { pointer = 1; key = 0x61 ∷ 0x62 ∷ 0x63 ∷ 0x64 ∷ []; bytes = 1 ∷ 2 ∷ 3 ∷ 4 ∷ 5 ∷ 6 ∷ 7 ∷ 8 ∷ [] } ∷ []) [])
    × gives 0x94 (0 ∷ 1 ∷ 0 ∷ 1 ∷ 4 ∷ 0x61 ∷ 0x62 ∷ 0x63 ∷ 0x64 ∷ 0 ∷ 8 ∷ 1 ∷ 2 ∷ 3 ∷ 4 ∷ 5 ∷ 6 ∷ 7 ∷ 8 ∷ []) (both (a ∷ []) []) (0 ∷ 1 ∷ 0 ∷ 0 ∷ [])
    (both (record { pointer = 1; key = 0x61 ∷ 0x62 ∷ 0x63 ∷ 0x64 ∷ []; bytes = 1 ∷ 2 ∷ 3 ∷ 4 ∷ 5 ∷ 6 ∷ 7 ∷ 8 ∷ [] } ∷ []) [])
unfolding done_by record_shape least
full-record = (refl, refl)

-- ---- 16 files: 1 to 16 at once, and no more in all

pub files-at-once : gives 0x90 (0x10 ∷ 0 ∷ 0 ∷ 8 ∷ []) [] (words_of (from 1 16) ++ (0 ∷ 0 ∷ [])) (files (from 1 16))
unfolding done_by create_shape least
files-at-once = refl

pub files-outside : (s : List File) → fails 0x90 (0 ∷ 0 ∷ 0 ∷ 8 ∷ []) s 0xFF 0xFB × fails 0x90 (0x11 ∷ 0 ∷ 0 ∷ 8 ∷ []) s 0xFF 0xFB
    × fails 0x90 (0xFF ∷ 0 ∷ 0 ∷ 8 ∷ []) s 0xFF 0xFB
unfolding done_by create_shape
files-outside s = (refl, refl, refl)

-- the sixteenth is made; of two more beside 15 none is
pub sixteenth : gives 0x90 (1 ∷ 0 ∷ 0 ∷ 8 ∷ []) (files (from 1 15)) (0 ∷ 0x10 ∷ 0 ∷ 0 ∷ []) (files (from 1 16))
    × fails 0x90 (2 ∷ 0 ∷ 0 ∷ 8 ∷ []) (files (from 1 15)) 0xFF 0xF6
unfolding done_by create_shape least
sixteenth = (refl, refl)

-- whatever the files are
pub no-room-for-two : (s : List File) → length s ≡ 15 → fails 0x90 (2 ∷ 0 ∷ 0 ∷ 8 ∷ []) s 0xFF 0xF6
unfolding done_by create_shape
no-room-for-two s h = rw (lt-ltb 16 (length s + 2) (omega arith))

-- ---- 1 to 16 identifiers: 2 to 32 bytes, no odd length

pub sixteen-ids : gives 0x91 (words_of (from 1 16)) (files (from 1 16)) (0 ∷ 0 ∷ []) []
unfolding done_by ids_shape
sixteen-ids = refl

pub seventeen-ids : (s : List File) → fails 0x91 (words_of (from 1 17)) s 0xFF 0xFB × fails 0x91 (replicate 33 0) s 0xFF 0xFB
    × fails 0x91 (replicate 31 0) s 0xFF 0xFB
unfolding done_by ids_shape
seventeen-ids s = (refl, refl, refl)

-- ---- 256 records in all: the last one is taken, whatever the other file holds, and then no further one (`add-fff6`); Update needs no room

pub last-record : (ts : List Record) → length ts ≡ 253
    → gives 0x92 (0 ∷ 1 ∷ 2 ∷ 0x63 ∷ 0x64 ∷ 0 ∷ 0 ∷ []) (both (a ∷ b ∷ []) ts) (0 ∷ 3 ∷ 0 ∷ 0 ∷ [])
    (both (a ∷ b ∷ record { pointer = 3; key = 0x63 ∷ 0x64 ∷ []; bytes = [] } ∷ []) ts)
unfolding done_by record_shape least
last-record ts h = rw (lt-leb 256 (2 + (length ts + 0)) (omega arith))

pub update-when-full : (ts : List Record) → length ts ≡ 254
    → gives 0x94 (0 ∷ 1 ∷ 0 ∷ 2 ∷ 2 ∷ 0x63 ∷ 0x64 ∷ 0 ∷ 0 ∷ []) (both (a ∷ b ∷ []) ts) (0 ∷ 2 ∷ 0 ∷ 0 ∷ [])
    (both (a ∷ record { pointer = 2; key = 0x63 ∷ 0x64 ∷ []; bytes = [] } ∷ []) ts)
unfolding done_by record_shape
update-when-full ts h = refl

-- ---- the lowest free identifier of 1 to 16, several in rising order

pub free-ids : gives 0x90 (1 ∷ 0 ∷ 0 ∷ 8 ∷ []) (files (1 ∷ 2 ∷ 4 ∷ [])) (0 ∷ 3 ∷ 0 ∷ 0 ∷ []) (files (1 ∷ 2 ∷ 3 ∷ 4 ∷ []))
    × gives 0x90 (1 ∷ 0 ∷ 0 ∷ 8 ∷ []) (files (2 ∷ [])) (0 ∷ 1 ∷ 0 ∷ 0 ∷ []) (files (1 ∷ 2 ∷ []))
    × gives 0x90 (3 ∷ 0 ∷ 0 ∷ 8 ∷ []) (files (2 ∷ 4 ∷ [])) (0 ∷ 1 ∷ 0 ∷ 3 ∷ 0 ∷ 5 ∷ 0 ∷ 0 ∷ []) (files (from 1 5))
unfolding done_by create_shape least
free-ids = (refl, refl, refl)

-- ---- the lowest free pointer of 1 to 256, of this file alone

abbrev in_plain : List ℕ → List File
in_plain l = both (a ∷ b ∷ []) (ones l)

pub free-pointers : gives 0x92 (0 ∷ 2 ∷ 0 ∷ 0 ∷ 0 ∷ []) (in_plain (1 ∷ 2 ∷ 4 ∷ [])) (0 ∷ 3 ∷ 0 ∷ 0 ∷ []) (in_plain (1 ∷ 2 ∷ 4 ∷ 3 ∷ []))
    × gives 0x92 (0 ∷ 2 ∷ 0 ∷ 0 ∷ 0 ∷ []) (in_plain (3 ∷ 2 ∷ [])) (0 ∷ 1 ∷ 0 ∷ 0 ∷ []) (in_plain (3 ∷ 2 ∷ 1 ∷ []))
    × gives 0x92 (0 ∷ 2 ∷ 0 ∷ 0 ∷ 0 ∷ []) (both [] (ones (from 1 255))) (1 ∷ 0 ∷ 0 ∷ 0 ∷ []) (both [] (ones (from 1 256)))
unfolding done_by record_shape least
free-pointers = (refl, refl, refl)

-- the pointer '0100', as Get, Update, Find and Delete take it or say it
pub pointer-256 : gives 0x93 (0 ∷ 2 ∷ 0 ∷ 0 ∷ 2 ∷ []) (both [] (ones (1 ∷ 256 ∷ []))) (0 ∷ 0 ∷ 0 ∷ 1 ∷ 0 ∷ 0 ∷ 0 ∷ []) (both [] (ones (1 ∷ 256 ∷ [])))
    × gives 0x93 (0 ∷ 2 ∷ 1 ∷ 0 ∷ 1 ∷ []) (both [] (ones (1 ∷ 256 ∷ []))) (0 ∷ 0 ∷ 0 ∷ 0 ∷ 1 ∷ 0 ∷ 0 ∷ []) (both [] (ones (1 ∷ 256 ∷ [])))
    × gives 0x94 (0 ∷ 2 ∷ 1 ∷ 0 ∷ 0 ∷ 0 ∷ 0 ∷ []) (both [] (ones (1 ∷ 256 ∷ []))) (1 ∷ 0 ∷ 0 ∷ 0 ∷ []) (both [] (ones (1 ∷ 256 ∷ [])))
    × gives 0x95 (0 ∷ 2 ∷ 0 ∷ []) (both [] (ones (256 ∷ 1 ∷ []))) (0 ∷ 0 ∷ 0 ∷ 1 ∷ 0 ∷ 0 ∷ 0 ∷ []) (both [] (ones (256 ∷ 1 ∷ [])))
    × gives 0x96 (0 ∷ 2 ∷ 1 ∷ 0 ∷ []) (both [] (ones (1 ∷ 256 ∷ []))) (0 ∷ 0 ∷ []) (both [] (ones (1 ∷ [])))
unfolding done_by get_shape key_shape record_shape
pointer-256 = (refl, refl, refl, refl, refl)

-- ---- the order of the codes: shape 'FFFB', file 'FF51', the file's limits 'FF52' and 'FF53', pointer 'FF50' or search 'FF56',
-- a key that is there 'FF59', room 'FFF6'

-- Add: a wrong shape for no file; a long key and long data for no file; both for a file; long data under a key that is there
pub add-order : fails 0x92 (0 ∷ 3 ∷ 0 ∷ 0 ∷ 1 ∷ []) two 0xFF 0xFB
    × fails 0x92 (0 ∷ 3 ∷ 5 ∷ 0x63 ∷ 0x64 ∷ 0x65 ∷ 0x66 ∷ 0x67 ∷ 0 ∷ 9 ∷ 1 ∷ 2 ∷ 3 ∷ 4 ∷ 5 ∷ 6 ∷ 7 ∷ 8 ∷ 9 ∷ []) two 0xFF 0x51
    × fails 0x92 (0 ∷ 1 ∷ 5 ∷ 0x63 ∷ 0x64 ∷ 0x65 ∷ 0x66 ∷ 0x67 ∷ 0 ∷ 9 ∷ 1 ∷ 2 ∷ 3 ∷ 4 ∷ 5 ∷ 6 ∷ 7 ∷ 8 ∷ 9 ∷ []) two 0xFF 0x52
    × fails 0x92 (0 ∷ 1 ∷ 1 ∷ 0x61 ∷ 0 ∷ 9 ∷ 1 ∷ 2 ∷ 3 ∷ 4 ∷ 5 ∷ 6 ∷ 7 ∷ 8 ∷ 9 ∷ []) two 0xFF 0x52
unfolding done_by record_shape
add-order = (refl, refl, refl, refl)

-- and each comes before 'FFF6'
pub add-order-full : (ts : List Record) → length ts ≡ 254 → fails 0x92 (0 ∷ 1 ∷ 0 ∷ 0 ∷ 1 ∷ []) (both (a ∷ b ∷ []) ts) 0xFF 0xFB
    × fails 0x92 (0 ∷ 3 ∷ 0 ∷ 0 ∷ 0 ∷ []) (both (a ∷ b ∷ []) ts) 0xFF 0x51
    × fails 0x92 (0 ∷ 1 ∷ 1 ∷ 0x63 ∷ 0 ∷ 9 ∷ 1 ∷ 2 ∷ 3 ∷ 4 ∷ 5 ∷ 6 ∷ 7 ∷ 8 ∷ 9 ∷ []) (both (a ∷ b ∷ []) ts) 0xFF 0x52
    × fails 0x92 (0 ∷ 1 ∷ 5 ∷ 0x63 ∷ 0x64 ∷ 0x65 ∷ 0x66 ∷ 0x67 ∷ 0 ∷ 0 ∷ []) (both (a ∷ b ∷ []) ts) 0xFF 0x53
    × fails 0x92 (0 ∷ 1 ∷ 2 ∷ 0x61 ∷ 0x62 ∷ 0 ∷ 0 ∷ []) (both (a ∷ b ∷ []) ts) 0xFF 0x59
unfolding done_by record_shape
add-order-full ts h = (refl, refl, refl, refl, refl)

-- Create: a wrong shape comes before 'FFF6' too, since it does so in every store (`record-of-129`, `files-outside`)

-- Update: as Add; then long data, a long key and a key that is there, each with a pointer of no record
pub update-order : fails 0x94 (0 ∷ 3 ∷ 0 ∷ 9 ∷ 0 ∷ 0 ∷ 1 ∷ []) two 0xFF 0xFB
    × fails 0x94 (0 ∷ 3 ∷ 0 ∷ 9 ∷ 5 ∷ 0x63 ∷ 0x64 ∷ 0x65 ∷ 0x66 ∷ 0x67 ∷ 0 ∷ 9 ∷ 1 ∷ 2 ∷ 3 ∷ 4 ∷ 5 ∷ 6 ∷ 7 ∷ 8 ∷ 9 ∷ []) two 0xFF 0x51
    × fails 0x94 (0 ∷ 1 ∷ 0 ∷ 9 ∷ 5 ∷ 0x63 ∷ 0x64 ∷ 0x65 ∷ 0x66 ∷ 0x67 ∷ 0 ∷ 9 ∷ 1 ∷ 2 ∷ 3 ∷ 4 ∷ 5 ∷ 6 ∷ 7 ∷ 8 ∷ 9 ∷ []) two 0xFF 0x52
    × fails 0x94 (0 ∷ 1 ∷ 0 ∷ 9 ∷ 5 ∷ 0x63 ∷ 0x64 ∷ 0x65 ∷ 0x66 ∷ 0x67 ∷ 0 ∷ 0 ∷ []) two 0xFF 0x53
    × fails 0x94 (0 ∷ 1 ∷ 0 ∷ 9 ∷ 1 ∷ 0x63 ∷ 0 ∷ 9 ∷ 1 ∷ 2 ∷ 3 ∷ 4 ∷ 5 ∷ 6 ∷ 7 ∷ 8 ∷ 9 ∷ []) two 0xFF 0x52
    × fails 0x94 (0 ∷ 1 ∷ 0 ∷ 9 ∷ 1 ∷ 0x61 ∷ 0 ∷ 0 ∷ []) two 0xFF 0x50
    × fails 0x94 (0 ∷ 1 ∷ 0 ∷ 2 ∷ 1 ∷ 0x61 ∷ 0 ∷ 9 ∷ 1 ∷ 2 ∷ 3 ∷ 4 ∷ 5 ∷ 6 ∷ 7 ∷ 8 ∷ 9 ∷ []) two 0xFF 0x52
unfolding done_by record_shape
update-order = (refl, refl, refl, refl, refl, refl, refl)

-- Get: orientation 04 for no file; no file before a pointer of no record and before an empty one
pub get-order : fails 0x93 (0 ∷ 3 ∷ 0 ∷ 9 ∷ 4 ∷ []) two 0xFF 0xFB × fails 0x93 (0 ∷ 3 ∷ 0 ∷ 9 ∷ 0 ∷ []) two 0xFF 0x51
    × fails 0x93 (0 ∷ 3 ∷ 0 ∷ 0 ∷ 2 ∷ []) two 0xFF 0x51
unfolding done_by get_shape
get-order = (refl, refl, refl)

-- Find, and Find and Delete: a wrong shape for no file; a long key for no file
pub find-order : fails 0x95 (0 ∷ 3 ∷ 2 ∷ 0x61 ∷ []) two 0xFF 0xFB × fails 0x95 (0 ∷ 3 ∷ 5 ∷ 0x61 ∷ 0x62 ∷ 0x63 ∷ 0x64 ∷ 0x65 ∷ []) two 0xFF 0x51
    × fails 0x97 (0 ∷ 3 ∷ 2 ∷ 0x61 ∷ []) two 0xFF 0xFB
    × fails 0x97 (0 ∷ 3 ∷ 5 ∷ 0x61 ∷ 0x62 ∷ 0x63 ∷ 0x64 ∷ 0x65 ∷ []) two 0xFF 0x51
unfolding done_by key_shape
find-order = (refl, refl, refl, refl)

-- Delete File, Delete and Clear: a wrong shape for no file; no file before a pointer of no record
pub delete-order : fails 0x91 (0 ∷ 3 ∷ 0 ∷ []) two 0xFF 0xFB × fails 0x96 (0 ∷ 3 ∷ 0 ∷ []) two 0xFF 0xFB
    × fails 0x96 (0 ∷ 3 ∷ 0 ∷ 9 ∷ []) two 0xFF 0x51 × fails 0x98 (0 ∷ 3 ∷ 0 ∷ []) two 0xFF 0xFB
unfolding done_by ids_shape
delete-order = (refl, refl, refl, refl)
