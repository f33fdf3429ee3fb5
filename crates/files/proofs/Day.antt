-- A kiosk's day with the store, command by command: what each answers and what is then held. A file for texts with keys of at most 4 bytes and data of at most 32.
use Prim.Native.Nat.{ℕ}
use mathlib.Core.List.{◌++◌, List, [], ◌∷◌}
use mathlib.Core.Path.{refl, ◌≡◌}
use lib.ListN.{replicate}
use Rattle.files.specs.Asked.{Done, create_shape, done_by, get_shape, ids_shape, key_shape, mark_shape, record_shape}
use Rattle.files.specs.Files.{File, Record}
use Rattle.lists.specs.Least.{least}
use Rattle.tapa.specs.Codes.{add_record, clear_file, create_file, delete_file, delete_record, find_and_delete, find_record, get_record, update_record}

-- ---- the stores of the day

abbrev texts : List Record → List File
texts rs = record { id = 1; key_max = 4; rec_max = 32; records = rs } ∷ []

-- the opening text 'Hi' under the key 'OP', and two shift totals under 'S1' and 'S2'
abbrev opening : Record
opening = record { pointer = 1; key = 0x4F ∷ 0x50 ∷ []; bytes = 0x48 ∷ 0x69 ∷ [] }

abbrev first : Record
first = record { pointer = 2; key = 0x53 ∷ 0x31 ∷ []; bytes = 0x07 ∷ [] }

abbrev second : Record
second = record { pointer = 3; key = 0x53 ∷ 0x32 ∷ []; bytes = 0x09 ∷ [] }

-- the first total after an Update
abbrev corrected : Record
corrected = record { pointer = 2; key = 0x53 ∷ 0x31 ∷ []; bytes = 0x08 ∷ [] }

-- a third total, in the room that the opening text left
abbrev third : Record
third = record { pointer = 1; key = 0x53 ∷ 0x33 ∷ []; bytes = [] }

-- what a command with these data comes to
abbrev comes : List ℕ → List File → Done
comes part s = record { part = part; files = s }

-- ---- in the morning

-- one file, and its identifier is 1
pub create-texts : done_by create_file (1 ∷ 4 ∷ 0 ∷ 32 ∷ []) [] ≡ comes (0 ∷ 1 ∷ 0 ∷ 0 ∷ []) (texts [])
unfolding done_by create_shape least
create-texts = refl

-- the opening text has pointer 1
pub add-opening : done_by add_record (0 ∷ 1 ∷ 2 ∷ 0x4F ∷ 0x50 ∷ 0 ∷ 2 ∷ 0x48 ∷ 0x69 ∷ []) (texts []) ≡ comes (0 ∷ 1 ∷ 0 ∷ 0 ∷ []) (texts (opening ∷ []))
unfolding done_by record_shape least
add-opening = refl

-- ---- shift totals

pub add-first : done_by add_record (0 ∷ 1 ∷ 2 ∷ 0x53 ∷ 0x31 ∷ 0 ∷ 1 ∷ 0x07 ∷ []) (texts (opening ∷ [])) ≡ comes (0 ∷ 2 ∷ 0 ∷ 0 ∷ []) (texts (opening ∷ first ∷ []))
unfolding done_by record_shape least
add-first = refl

pub add-second : done_by add_record (0 ∷ 1 ∷ 2 ∷ 0x53 ∷ 0x32 ∷ 0 ∷ 1 ∷ 0x09 ∷ []) (texts (opening ∷ first ∷ []))
    ≡ comes (0 ∷ 3 ∷ 0 ∷ 0 ∷ []) (texts (opening ∷ first ∷ second ∷ []))
unfolding done_by record_shape least
add-second = refl

-- the same key again is 'FF59', and nothing is added
pub add-twin : done_by add_record (0 ∷ 1 ∷ 2 ∷ 0x53 ∷ 0x32 ∷ 0 ∷ 0 ∷ []) (texts (opening ∷ first ∷ second ∷ [])) ≡ comes (0xFF ∷ 0x59 ∷ []) (texts (opening ∷ first ∷ second ∷ []))
unfolding done_by record_shape least
add-twin = refl

-- ---- read to the end: the first record, then by the pointer that each response carries, until it is '0000'

pub get-oldest : done_by get_record (0 ∷ 1 ∷ 0 ∷ 0 ∷ 2 ∷ []) (texts (opening ∷ first ∷ second ∷ []))
    ≡ comes (2 ∷ 0x4F ∷ 0x50 ∷ 0 ∷ 2 ∷ 0x48 ∷ 0x69 ∷ 0 ∷ 2 ∷ 0 ∷ 0 ∷ []) (texts (opening ∷ first ∷ second ∷ []))
unfolding done_by get_shape
get-oldest = refl

pub get-next : done_by get_record (0 ∷ 1 ∷ 0 ∷ 2 ∷ 0 ∷ []) (texts (opening ∷ first ∷ second ∷ []))
    ≡ comes (2 ∷ 0x53 ∷ 0x31 ∷ 0 ∷ 1 ∷ 0x07 ∷ 0 ∷ 3 ∷ 0 ∷ 0 ∷ []) (texts (opening ∷ first ∷ second ∷ []))
unfolding done_by get_shape
get-next = refl

pub get-last : done_by get_record (0 ∷ 1 ∷ 0 ∷ 3 ∷ 0 ∷ []) (texts (opening ∷ first ∷ second ∷ []))
    ≡ comes (2 ∷ 0x53 ∷ 0x32 ∷ 0 ∷ 1 ∷ 0x09 ∷ 0 ∷ 0 ∷ 0 ∷ 0 ∷ []) (texts (opening ∷ first ∷ second ∷ []))
unfolding done_by get_shape
get-last = refl

-- and back from the newest
pub get-newest : done_by get_record (0 ∷ 1 ∷ 0 ∷ 0 ∷ 3 ∷ []) (texts (opening ∷ first ∷ second ∷ []))
    ≡ comes (2 ∷ 0x53 ∷ 0x32 ∷ 0 ∷ 1 ∷ 0x09 ∷ 0 ∷ 2 ∷ 0 ∷ 0 ∷ []) (texts (opening ∷ first ∷ second ∷ []))
unfolding done_by get_shape
get-newest = refl

-- ---- a total is corrected, and found by its key

pub update-first : done_by update_record (0 ∷ 1 ∷ 0 ∷ 2 ∷ 2 ∷ 0x53 ∷ 0x31 ∷ 0 ∷ 1 ∷ 0x08 ∷ []) (texts (opening ∷ first ∷ second ∷ []))
    ≡ comes (0 ∷ 2 ∷ 0 ∷ 0 ∷ []) (texts (opening ∷ corrected ∷ second ∷ []))
unfolding done_by record_shape
update-first = refl

-- the other total's key is 'FF59', and the record stays as it is
pub update-twin : done_by update_record (0 ∷ 1 ∷ 0 ∷ 2 ∷ 2 ∷ 0x53 ∷ 0x32 ∷ 0 ∷ 0 ∷ []) (texts (opening ∷ corrected ∷ second ∷ []))
    ≡ comes (0xFF ∷ 0x59 ∷ []) (texts (opening ∷ corrected ∷ second ∷ []))
unfolding done_by record_shape
update-twin = refl

pub find_first : done_by find_record (0 ∷ 1 ∷ 2 ∷ 0x53 ∷ 0x31 ∷ []) (texts (opening ∷ corrected ∷ second ∷ []))
    ≡ comes (2 ∷ 0x53 ∷ 0x31 ∷ 0 ∷ 1 ∷ 0x08 ∷ 0 ∷ 2 ∷ 0 ∷ 0 ∷ []) (texts (opening ∷ corrected ∷ second ∷ []))
unfolding done_by key_shape
find_first = refl

-- ---- the opening text goes, and its pointer is given again; the new record is the newest all the same

pub delete-oldest : done_by delete_record (0 ∷ 1 ∷ 0 ∷ 0 ∷ []) (texts (opening ∷ corrected ∷ second ∷ [])) ≡ comes (0 ∷ 0 ∷ []) (texts (corrected ∷ second ∷ []))
unfolding done_by
delete-oldest = refl

pub add-again : done_by add_record (0 ∷ 1 ∷ 2 ∷ 0x53 ∷ 0x33 ∷ 0 ∷ 0 ∷ []) (texts (corrected ∷ second ∷ [])) ≡ comes (0 ∷ 1 ∷ 0 ∷ 0 ∷ []) (texts (corrected ∷ second ∷ third ∷ []))
unfolding done_by record_shape least
add-again = refl

-- ---- in the evening

pub delete-second : done_by find_and_delete (0 ∷ 1 ∷ 2 ∷ 0x53 ∷ 0x32 ∷ []) (texts (corrected ∷ second ∷ third ∷ [])) ≡ comes (0 ∷ 0 ∷ []) (texts (corrected ∷ third ∷ []))
unfolding done_by key_shape
delete-second = refl

pub clear-texts : done_by clear_file (0 ∷ 1 ∷ []) (texts (corrected ∷ third ∷ [])) ≡ comes (0 ∷ 0 ∷ []) (texts [])
unfolding done_by
clear-texts = refl

pub delete-texts : done_by delete_file (0 ∷ 1 ∷ []) (texts []) ≡ comes (0 ∷ 0 ∷ []) []
unfolding done_by ids_shape
delete-texts = refl

-- ---- what goes wrong: each is answered with its code alone, and the store stays as it is

-- orientation '01' from the first record: no previous one
pub get-back : done_by get_record (0 ∷ 1 ∷ 0 ∷ 1 ∷ 1 ∷ []) (texts (opening ∷ first ∷ [])) ≡ comes (2 ∷ 0x4F ∷ 0x50 ∷ 0 ∷ 2 ∷ 0x48 ∷ 0x69 ∷ 0 ∷ 0 ∷ 0 ∷ 0 ∷ []) (texts (opening ∷ first ∷ []))
unfolding done_by get_shape
get-back = refl

-- a pointer that no record has is 'FF50', and so is '0000' of Get
pub get-unknown : done_by get_record (0 ∷ 1 ∷ 0 ∷ 9 ∷ 0 ∷ []) (texts (opening ∷ [])) ≡ comes (0xFF ∷ 0x50 ∷ []) (texts (opening ∷ []))
unfolding done_by get_shape
get-unknown = refl

pub get-zero : done_by get_record (0 ∷ 1 ∷ 0 ∷ 0 ∷ 0 ∷ []) (texts (opening ∷ [])) ≡ comes (0xFF ∷ 0x50 ∷ []) (texts (opening ∷ []))
unfolding done_by get_shape
get-zero = refl

-- the first record of an empty file is 'FF56', orientation '04' is 'FFFB'
pub get-empty : done_by get_record (0 ∷ 1 ∷ 0 ∷ 0 ∷ 2 ∷ []) (texts []) ≡ comes (0xFF ∷ 0x56 ∷ []) (texts [])
unfolding done_by get_shape
get-empty = refl

pub get-turned : done_by get_record (0 ∷ 9 ∷ 0 ∷ 0 ∷ 4 ∷ []) (texts []) ≡ comes (0xFF ∷ 0xFB ∷ []) (texts [])
unfolding done_by get_shape
get-turned = refl

-- an unknown file is 'FF51', before its lengths are looked at
pub add-nowhere : done_by add_record (0 ∷ 2 ∷ 5 ∷ 1 ∷ 2 ∷ 3 ∷ 4 ∷ 5 ∷ 0 ∷ 0 ∷ []) (texts []) ≡ comes (0xFF ∷ 0x51 ∷ []) (texts [])
unfolding done_by record_shape least
add-nowhere = refl

-- data over the file's 32 bytes are 'FF52', also where the key is over its 4: 'FF53' is next
pub add-too-large : done_by add_record (0 ∷ 1 ∷ 5 ∷ 1 ∷ 2 ∷ 3 ∷ 4 ∷ 5 ∷ 0 ∷ 33 ∷ replicate 33 7) (texts []) ≡ comes (0xFF ∷ 0x52 ∷ []) (texts [])
unfolding done_by record_shape least
add-too-large = refl

pub add-long-key : done_by add_record (0 ∷ 1 ∷ 5 ∷ 1 ∷ 2 ∷ 3 ∷ 4 ∷ 5 ∷ 0 ∷ 0 ∷ []) (texts []) ≡ comes (0xFF ∷ 0x53 ∷ []) (texts [])
unfolding done_by record_shape least
add-long-key = refl

-- data one byte short of their length are 'FFFB'
pub add-short : done_by add_record (0 ∷ 1 ∷ 0 ∷ 0 ∷ 2 ∷ 7 ∷ []) (texts []) ≡ comes (0xFF ∷ 0xFB ∷ []) (texts [])
unfolding done_by record_shape least
add-short = refl

-- a key that no record has is 'FF56', one over the file's is 'FF53'
pub find_none : done_by find_record (0 ∷ 1 ∷ 1 ∷ 0x4F ∷ []) (texts (opening ∷ [])) ≡ comes (0xFF ∷ 0x56 ∷ []) (texts (opening ∷ []))
unfolding done_by key_shape
find_none = refl

pub find-long-key : done_by find_record (0 ∷ 1 ∷ 5 ∷ 1 ∷ 2 ∷ 3 ∷ 4 ∷ 5 ∷ []) (texts (opening ∷ [])) ≡ comes (0xFF ∷ 0x53 ∷ []) (texts (opening ∷ []))
unfolding done_by key_shape
find-long-key = refl

-- Delete of the oldest record of an empty file is 'FF50'
pub delete-none : done_by delete_record (0 ∷ 1 ∷ 0 ∷ 0 ∷ []) (texts []) ≡ comes (0xFF ∷ 0x50 ∷ []) (texts [])
unfolding done_by
delete-none = refl

-- ---- several files

-- files without keys
abbrev plain : ℕ → File
plain n = record { id = n; key_max = 0; rec_max = 8; records = [] }

-- three at once get 2, 3 and 4
pub create-three : done_by create_file (3 ∷ 0 ∷ 0 ∷ 8 ∷ []) (texts []) ≡ comes (0 ∷ 2 ∷ 0 ∷ 3 ∷ 0 ∷ 4 ∷ 0 ∷ 0 ∷ []) (texts [] ++ (plain 2 ∷ plain 3 ∷ plain 4 ∷ []))
unfolding done_by create_shape least
create-three = refl

-- two of them go together; one that is named twice is 'FF51', and none goes
pub delete-two : done_by delete_file (0 ∷ 4 ∷ 0 ∷ 2 ∷ []) (texts [] ++ (plain 2 ∷ plain 3 ∷ plain 4 ∷ [])) ≡ comes (0 ∷ 0 ∷ []) (texts [] ++ (plain 3 ∷ []))
unfolding done_by ids_shape
delete-two = refl

pub delete-twice : done_by delete_file (0 ∷ 3 ∷ 0 ∷ 3 ∷ []) (texts [] ++ (plain 3 ∷ [])) ≡ comes (0xFF ∷ 0x51 ∷ []) (texts [] ++ (plain 3 ∷ []))
unfolding done_by ids_shape
delete-twice = refl

-- the lowest free identifier is given again
pub create-again : done_by create_file (1 ∷ 0 ∷ 0 ∷ 8 ∷ []) (texts [] ++ (plain 3 ∷ [])) ≡ comes (0 ∷ 2 ∷ 0 ∷ 0 ∷ []) (texts [] ++ (plain 2 ∷ plain 3 ∷ []))
unfolding done_by create_shape least
create-again = refl

-- 14 more would be 17: 'FFF6', and none is made; record data of 129 bytes are 'FFFB'
pub create-too-many : done_by create_file (14 ∷ 0 ∷ 0 ∷ 8 ∷ []) (texts [] ++ (plain 2 ∷ plain 3 ∷ [])) ≡ comes (0xFF ∷ 0xF6 ∷ []) (texts [] ++ (plain 2 ∷ plain 3 ∷ []))
unfolding done_by create_shape least
create-too-many = refl

pub create-too-large : done_by create_file (1 ∷ 0 ∷ 0 ∷ 129 ∷ []) [] ≡ comes (0xFF ∷ 0xFB ∷ []) []
unfolding done_by create_shape least
create-too-large = refl

-- ---- the till opens the store before the day, and closes it behind it: '0000', and nothing changes

pub open-store : done_by 0xF0 [] (texts (opening ∷ [])) ≡ comes (0 ∷ 0 ∷ []) (texts (opening ∷ []))
unfolding done_by mark_shape
open-store = refl

pub close-store : done_by 0xF1 [] (texts (opening ∷ [])) ≡ comes (0 ∷ 0 ∷ []) (texts (opening ∷ []))
unfolding done_by mark_shape
close-store = refl
