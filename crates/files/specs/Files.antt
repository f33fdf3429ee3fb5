-- The data store as a plain list of files, each a list of records, oldest first; and what each command does to it.
use Rattle.std.specs.Prelude.{◌+◌, suc, zero, ℕ, Bool, cond, false, not, true, ◌++◌, List, [], map, ◌∷◌, eqb, leb, ltb, length, Option, Some, None}
use Rattle.lists.specs.ByPlace.{turned_onto}
use Rattle.lists.specs.Least.{least, same}
use Rattle.lists.specs.Lists.{changed, checks, keep, some_of, without}
use Rattle.tapa.specs.Codes.{file_seek_error, insufficient_resources, invalid_file_id, invalid_record_pointer, record_too_large, search_key_existing, search_key_too_large, successful}

-- 'a "record" is defined to consist of a string of "key data" (which may have length zero) and a string of "record data"'
pub record Record : Type 0 where
  pub pointer : ℕ
  pub key : List ℕ
  pub bytes : List ℕ

-- a file: its identifier, the longest key and the longest record data that it takes, and its records
pub record File : Type 0 where
  pub id : ℕ
  pub key_max : ℕ
  pub rec_max : ℕ
  pub records : List Record

-- ---- records in a file

-- 'Find compares length and bytes'
abbrev pub keyed : List ℕ → Record → Bool
keyed key r = same r.key key

-- the record that a pointer names; 'The first record in a file may be addressed using '0000'.'
abbrev pub sought : ℕ → Record → Bool
sought p r = cond (eqb p 0) true (eqb r.pointer p)

-- a record in its file: the older ones, newest first; itself; the newer ones, oldest first
pub record Spot : Type 0 where
  pub older : List Record
  pub it : Record
  pub newer : List Record

abbrev pub spot : List Record → Record → List Record → Option Spot
spot o x n = Some (record { older = o; it = x; newer = n })

-- the oldest record that passes
abbrev pub seek : (Record → Bool) → List Record → List Record → Option Spot
seek q o [] = None
seek q o (x ∷ l) = cond (q x) (spot o x l) (seek q (x ∷ o) l)

-- the newest record: the first of the list turned round
abbrev pub newest : List Record → Option Spot
newest [] = None
newest (x ∷ o) = spot o x []

-- ---- files in the store

abbrev pub look : ℕ → List File → Option File
look f [] = None
look f (g ∷ l) = cond (eqb g.id f) (Some g) (look f l)

abbrev pub has_file : Option File → Bool
has_file None = false
has_file (Some g) = true

abbrev pub has : List File → ℕ → Bool
has s f = has_file (look f s)

abbrev pub with_records : File → List Record → File
with_records g rs = record { id = g.id; key_max = g.key_max; rec_max = g.rec_max; records = rs }

-- a store in which one file's records are changed
abbrev pub change : (List Record → List Record) → ℕ → List File → List File
change h f s = map (λ (g : File). cond (eqb g.id f) (with_records g (h g.records)) g) s

-- how many records are held in all
abbrev pub held : List File → ℕ
held [] = 0
held (g ∷ l) = length g.records + held l

-- ---- Create File (Tables 122 to 124)

-- a new file stands by its identifier
abbrev pub insert : File → List File → List File
insert g [] = g ∷ []
insert g (x ∷ s) = cond (ltb g.id x.id) (g ∷ x ∷ s) (x ∷ insert g s)

abbrev pub empty_file : ℕ → ℕ → ℕ → File
empty_file n k r = record { id = n; key_max = k; rec_max = r; records = [] }

-- 'A new file has the lowest free identifier of 1 to 16'
abbrev pub free_id : List File → ℕ
free_id s = least 1 (map (λ (g : File). g.id) s)

abbrev pub create_one : ℕ → ℕ → List File → List File
create_one k r s = insert (empty_file (free_id s) k r) s

abbrev pub create_all : ℕ → ℕ → ℕ → List File → List File
create_all zero k r s = s
create_all (suc n) k r s = create_all n k r (create_one k r s)

-- 'several at once in rising order'
abbrev pub new_ids : ℕ → ℕ → ℕ → List File → List ℕ
new_ids zero k r s = []
new_ids (suc n) k r s = free_id s ∷ new_ids n k r (create_one k r s)

-- 'Files held plus new ones over 16 is 'FFF6', and none is created.'
abbrev pub create_code : List File → ℕ → ℕ
create_code s n = cond (ltb 16 (length s + n)) insufficient_resources successful

abbrev pub create : List File → ℕ → ℕ → ℕ → List File
create s n k r = cond (eqb (create_code s n) successful) (create_all n k r s) s

-- ---- Delete File (Tables 125 to 127)

abbrev pub twice : List ℕ → Bool
twice [] = false
twice (f ∷ fs) = cond (some_of (eqb f) fs) true (twice fs)

-- 'One that is unknown, or named twice, is 'FF51', and none is deleted.'
abbrev pub delete_files_code : List File → List ℕ → ℕ
delete_files_code s fs = checks ((some_of (λ (f : ℕ). not (has s f)) fs, invalid_file_id) ∷ (twice fs, invalid_file_id) ∷ []) successful

abbrev pub not_of : List ℕ → File → Bool
not_of fs g = not (some_of (eqb g.id) fs)

abbrev pub delete_files : List File → List ℕ → List File
delete_files s fs = cond (eqb (delete_files_code s fs) successful) (keep (not_of fs) s) s

-- ---- Add File Record (Tables 128 to 130)

-- the file, what the file allows, a key that is there, room; 'adding is refused ('FFF6') exactly when 256 records are held';
-- 'In a keyed file (its key length is over 0) every key is compared, the empty one too, with all others of the file'
abbrev pub add_code_in : List File → Option File → List ℕ → List ℕ → ℕ
add_code_in s None key d = invalid_file_id
add_code_in s (Some g) key d =
    checks
    ((ltb g.rec_max (length d), record_too_large)
    ∷ (ltb g.key_max (length key), search_key_too_large)
    ∷ (cond (ltb 0 g.key_max) (some_of (keyed key) g.records) false, search_key_existing)
    ∷ (leb 256 (held s), insufficient_resources)
    ∷ [])
    successful

abbrev pub add_code : List File → ℕ → List ℕ → List ℕ → ℕ
add_code s f key d = add_code_in s (look f s) key d

-- 'A new record has the lowest free pointer of 1 to 256 within its file.'
abbrev pub free_pointer : List Record → ℕ
free_pointer rs = least 1 (map (λ (r : Record). r.pointer) rs)

abbrev pub with_record : List ℕ → List ℕ → List Record → List Record
with_record key d rs = rs ++ record { pointer = free_pointer rs; key = key; bytes = d } ∷ []

abbrev pub add : List File → ℕ → List ℕ → List ℕ → List File
add s f key d = cond (eqb (add_code s f key d) successful) (change (with_record key d) f s) s

-- 'Pointer to record within File'
abbrev pub free_in : Option File → ℕ
free_in None = 0
free_in (Some g) = free_pointer g.records

abbrev pub add_pointer : List File → ℕ → List ℕ → List ℕ → ℕ
add_pointer s f key d = cond (eqb (add_code s f key d) successful) (free_in (look f s)) 0

-- ---- Get File Record (Tables 131 to 133)

-- what Get and Find come to: the code, the record, and a pointer
pub record Sight : Type 0 where
  pub code : ℕ
  pub it : Option Record
  pub pointer : ℕ

abbrev pub unseen : ℕ → Sight
unseen n = record { code = n; it = None; pointer = 0 }

-- ''0000' is an invalid record pointer, which may be returned when there is no next or previous record'
abbrev pub pointer_of : List Record → ℕ
pointer_of [] = 0
pointer_of (r ∷ l) = r.pointer

-- ''00': Get the record, which was pointed to by the Record Pointer field', and ''01'' too; ''02': Get the first record in the file'; ''03': Get the last record in the file'
abbrev pub seek_by : ℕ → ℕ → List Record → Option Spot
seek_by o p rs =
    cond (ltb o 2) (cond (eqb p 0) None (seek (sought p) [] rs)) (cond (eqb o 2) (seek (sought 0) [] rs) (newest (turned_onto [] rs)))

-- '00' and '02': 'the record pointer must be set to the next record'; else to the previous one
abbrev pub nextward : ℕ → Bool
nextward o = cond (eqb o 0) true (eqb o 2)

abbrev pub told : ℕ → Option Spot → Sight
told o None = unseen (cond (ltb o 2) invalid_record_pointer file_seek_error)
told o (Some z) = record { code = successful; it = Some z.it; pointer = cond (nextward o) (pointer_of z.newer) (pointer_of z.older) }

abbrev pub get_in : Option File → ℕ → ℕ → Sight
get_in None p o = unseen invalid_file_id
get_in (Some g) p o = told o (seek_by o p g.records)

abbrev pub get : List File → ℕ → ℕ → ℕ → Sight
get s f p o = get_in (look f s) p o

-- ---- Update File Record (Tables 134 to 136)

-- the file, what the file allows, the pointer, a key that is there; 'Update may keep its record's own key'
abbrev pub update_code_in : Option File → ℕ → List ℕ → List ℕ → ℕ
update_code_in None p key d = invalid_file_id
update_code_in (Some g) p key d =
    checks
    ((ltb g.rec_max (length d), record_too_large)
    ∷ (ltb g.key_max (length key), search_key_too_large)
    ∷ (not (some_of (sought p) g.records), invalid_record_pointer)
    ∷ (cond (ltb 0 g.key_max) (some_of (keyed key) (without (sought p) g.records)) false, search_key_existing)
    ∷ [])
    successful

abbrev pub update_code : List File → ℕ → ℕ → List ℕ → List ℕ → ℕ
update_code s f p key d = update_code_in (look f s) p key d

-- 'A pointer never changes while its record lives, also not by an Update'
abbrev pub renewed : List ℕ → List ℕ → Record → Record
renewed key d r = record { pointer = r.pointer; key = key; bytes = d }

abbrev pub update : List File → ℕ → ℕ → List ℕ → List ℕ → List File
update s f p key d = cond (eqb (update_code s f p key d) successful) (change (changed (renewed key d) (sought p)) f s) s

-- 'Update's response carries the record's own pointer'
abbrev pub own_pointer : Option Spot → ℕ
own_pointer None = 0
own_pointer (Some z) = z.it.pointer

abbrev pub pointer_in : Option File → ℕ → ℕ
pointer_in None p = 0
pointer_in (Some g) p = own_pointer (seek (sought p) [] g.records)

abbrev pub update_pointer : List File → ℕ → ℕ → List ℕ → List ℕ → ℕ
update_pointer s f p key d = cond (eqb (update_code s f p key d) successful) (pointer_in (look f s) p) 0

-- ---- Find and Get File Record (Tables 137 to 139)

-- 'Pointer to retrieved record'; 'none found is 'FF56''
abbrev pub found : Option Spot → Sight
found None = unseen file_seek_error
found (Some z) = record { code = successful; it = Some z.it; pointer = z.it.pointer }

-- 'A key longer than the file's is 'FF53''
abbrev pub find_in : Option File → List ℕ → Sight
find_in None key = unseen invalid_file_id
find_in (Some g) key = cond (ltb g.key_max (length key)) (unseen search_key_too_large) (found (seek (keyed key) [] g.records))

abbrev pub find : List File → ℕ → List ℕ → Sight
find s f key = find_in (look f s) key

-- ---- Delete File Record (Tables 140 to 142)

-- ''0000' is the oldest record in Update and Delete ('FF50' in an empty file)'
abbrev pub delete_code_in : Option File → ℕ → ℕ
delete_code_in None p = invalid_file_id
delete_code_in (Some g) p = cond (some_of (sought p) g.records) successful invalid_record_pointer

abbrev pub delete_code : List File → ℕ → ℕ → ℕ
delete_code s f p = delete_code_in (look f s) p

abbrev pub delete : List File → ℕ → ℕ → List File
delete s f p = cond (eqb (delete_code s f p) successful) (change (without (sought p)) f s) s

-- ---- Find and Delete File Record (Tables 143 to 145)

abbrev pub find_delete_code_in : Option File → List ℕ → ℕ
find_delete_code_in None key = invalid_file_id
find_delete_code_in (Some g) key = cond (ltb g.key_max (length key)) search_key_too_large (cond (some_of (keyed key) g.records) successful file_seek_error)

abbrev pub find_delete_code : List File → ℕ → List ℕ → ℕ
find_delete_code s f key = find_delete_code_in (look f s) key

abbrev pub find_delete : List File → ℕ → List ℕ → List File
find_delete s f key = cond (eqb (find_delete_code s f key) successful) (change (without (keyed key)) f s) s

-- ---- Clear File (Tables 146 to 148)

abbrev pub clear_code : List File → ℕ → ℕ
clear_code s f = cond (has s f) successful invalid_file_id

-- 'the cleared file remains allocated to the previously defined File ID'
abbrev pub clear : List File → ℕ → List File
clear s f = cond (eqb (clear_code s f) successful) (change (λ (rs : List Record). []) f s) s
