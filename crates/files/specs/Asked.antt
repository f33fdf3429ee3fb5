-- What a message's data part asks of the store, and what the response's data are (Tables 122 to 148).
use Rattle.std.specs.Prelude.{◌%◌, ◌*◌, ◌+◌, ◌/◌, suc, zero, ℕ, ◌&&◌, Bool, cond, ◌++◌, List, [], ◌∷◌, eqb, leb, ltb, drop, get_or, length, take, Option, Some, None}
use Rattle.files.specs.Files.{File, Record, Sight, add, add_code, add_pointer, clear, clear_code, create, create_code, delete, delete_code, delete_files, delete_files_code, find, find_delete, find_delete_code, get, new_ids, update, update_code, update_pointer}
use Rattle.lists.specs.Lists.{checks}
use Rattle.tapa.specs.Codes.{add_record, clear_file, close_handler, create_file, delete_file, delete_record, find_and_delete, find_record, get_record, open_handler, successful, unsupported_operation, update_record}
use Rattle.tapa.specs.Numbers.{two_bytes, word_at}

-- ---- the fields of a data part

-- ID_FILE, which stands first in all commands but Create and Delete File
abbrev pub file_in : List ℕ → ℕ
file_in part = word_at part 0

-- LEN_SKEY at a place, and the key behind it
abbrev pub key_len : List ℕ → ℕ → ℕ
key_len part at = get_or part at 0

abbrev pub key_from : List ℕ → ℕ → List ℕ
key_from part at = take (key_len part at) (drop (at + 1) part)

-- LEN_REC behind the key, and the record data behind that, to the end
abbrev pub rec_len : List ℕ → ℕ → ℕ
rec_len part at = word_at part (at + 1 + key_len part at)

abbrev pub data_from : List ℕ → ℕ → List ℕ
data_from part at = drop (at + 3 + key_len part at) part

-- identifiers of two bytes each
abbrev pub id_at : List ℕ → ℕ → ℕ
id_at part i = word_at part (i * 2)

abbrev pub ids_from : List ℕ → ℕ → ℕ → List ℕ
ids_from part i zero = []
ids_from part i (suc k) = id_at part i ∷ ids_from part (i + 1) k

abbrev pub ids_of : List ℕ → List ℕ
ids_of part = ids_from part 0 (length part / 2)

-- ---- the right shapes; 'a command outside them has a wrong shape, 'FFFB''

-- Table 122: NUM_FILE, LEN_SKEY, LEN_REC; 'A number of files of 0 or over 16, or a record length over 128, is 'FFFB'.'
unfoldable pub create_shape : List ℕ → Bool
create_shape part = eqb (length part) 4 && ltb 0 (get_or part 0 0) && leb (get_or part 0 0) 16 && leb (word_at part 2) 128

-- Table 125: 'No identifier, an odd length, or over 16 identifiers is 'FFFB'.'
unfoldable pub ids_shape : List ℕ → Bool
ids_shape part = ltb 0 (length part) && leb (length part) 32 && eqb (length part % 2) 0

-- Tables 128 and 134, from LEN_SKEY on: L_DATA is 5 (7 of an Update) and LEN_SKEY and LEN_REC; 'and a record length of at most 128, or it is 'FFFB''
unfoldable pub record_shape : ℕ → List ℕ → Bool
record_shape at part = eqb (length part) (at + 3 + key_len part at + rec_len part at) && leb (rec_len part at) 128

-- Table 131: ID_FILE, Record Pointer, Pointer Orientation; 'Other orientations are 'FFFB', before the file is looked at.'
unfoldable pub get_shape : List ℕ → Bool
get_shape part = eqb (length part) 5 && leb (get_or part 4 0) 3

-- Tables 137 and 143: L_DATA is 3 and LEN_SKEY
unfoldable pub key_shape : List ℕ → Bool
key_shape part = eqb (length part) (3 + key_len part 2)

-- Tables 10 and 13: L_DATA is '0000'
unfoldable pub mark_shape : List ℕ → Bool
mark_shape part = eqb (length part) 0

-- ---- what it comes to: the response's data, and the files that the store then holds

pub record Done : Type 0 where
  pub part : List ℕ
  pub files : List File

-- 'A command that fails is answered with its code alone.'
abbrev pub coded : ℕ → List File → Done
coded code s = record { part = two_bytes code; files = s }

-- a response that carries these data before its code where the command succeeds
abbrev pub carrying : ℕ → List ℕ → List ℕ
carrying code fields = cond (eqb code successful) (fields ++ two_bytes successful) (two_bytes code)

-- Table 123: 'N file identifiers of the created files'
abbrev pub words_of : List ℕ → List ℕ
words_of [] = []
words_of (x ∷ xs) = two_bytes x ++ words_of xs

-- Tables 132 and 138: LEN_SKEY, Key Data, LEN_REC, Record Data, Record Pointer
abbrev pub sight_bytes : Option Record → ℕ → List ℕ
sight_bytes None p = []
sight_bytes (Some r) p = length r.key ∷ (r.key ++ (two_bytes (length r.bytes) ++ (r.bytes ++ two_bytes p)))

abbrev pub seen_part : Sight → List ℕ
seen_part z = carrying z.code (sight_bytes z.it z.pointer)

abbrev pub on_create : List ℕ → List File → Done
on_create part s = record {
  part = carrying (create_code s (get_or part 0 0)) (words_of (new_ids (get_or part 0 0) (get_or part 1 0) (word_at part 2) s));
  files = create s (get_or part 0 0) (get_or part 1 0) (word_at part 2);
}

abbrev pub on_delete_files : List ℕ → List File → Done
on_delete_files part s = record { part = two_bytes (delete_files_code s (ids_of part)); files = delete_files s (ids_of part) }

-- Table 129: 'Pointer to record within File'
abbrev pub on_add : List ℕ → List File → Done
on_add part s = record {
  part = carrying (add_code s (file_in part) (key_from part 2) (data_from part 2)) (two_bytes (add_pointer s (file_in part) (key_from part 2) (data_from part 2)));
  files = add s (file_in part) (key_from part 2) (data_from part 2);
}

abbrev pub on_get : List ℕ → List File → Done
on_get part s = record { part = seen_part (get s (file_in part) (word_at part 2) (get_or part 4 0)); files = s }

-- Table 135: 'Pointer to record position within File'
abbrev pub on_update : List ℕ → List File → Done
on_update part s = record {
  part = carrying (update_code s (file_in part) (word_at part 2) (key_from part 4) (data_from part 4)) (two_bytes (update_pointer s (file_in part) (word_at part 2) (key_from part 4) (data_from part 4)));
  files = update s (file_in part) (word_at part 2) (key_from part 4) (data_from part 4);
}

abbrev pub on_find : List ℕ → List File → Done
on_find part s = record { part = seen_part (find s (file_in part) (key_from part 2)); files = s }

abbrev pub on_delete : List ℕ → List File → Done
on_delete part s = record { part = two_bytes (delete_code s (file_in part) (word_at part 2)); files = delete s (file_in part) (word_at part 2) }

abbrev pub on_find_delete : List ℕ → List File → Done
on_find_delete part s = record { part = two_bytes (find_delete_code s (file_in part) (key_from part 2)); files = find_delete s (file_in part) (key_from part 2) }

abbrev pub on_clear : List ℕ → List File → Done
on_clear part s = record { part = two_bytes (clear_code s (file_in part)); files = clear s (file_in part) }

-- a command of the right shape is done; one of a wrong shape is answered 'FFFB' and changes nothing
abbrev pub shaped : Bool → Done → List File → Done
shaped right d s = cond right d (coded unsupported_operation s)

-- 'Open Handler and Close Handler without data are answered '0000', and nothing changes in the store'
abbrev pub on_mark : List File → Done
on_mark s = coded successful s

-- Table 149, in its order; then what the store recognises of the common commands (11.1)
abbrev pub commands : ℕ → List ℕ → List File → List (Bool × Done)
commands kind part s =
    (eqb kind create_file, shaped (create_shape part) (on_create part s) s)
    ∷ (eqb kind delete_file, shaped (ids_shape part) (on_delete_files part s) s)
    ∷ (eqb kind add_record, shaped (record_shape 2 part) (on_add part s) s)
    ∷ (eqb kind get_record, shaped (get_shape part) (on_get part s) s)
    ∷ (eqb kind update_record, shaped (record_shape 4 part) (on_update part s) s)
    ∷ (eqb kind find_record, shaped (key_shape part) (on_find part s) s)
    ∷ (eqb kind delete_record, shaped (eqb (length part) 4) (on_delete part s) s)
    ∷ (eqb kind find_and_delete, shaped (key_shape part) (on_find_delete part s) s)
    ∷ (eqb kind clear_file, shaped (eqb (length part) 2) (on_clear part s) s)
    ∷ (eqb kind open_handler, shaped (mark_shape part) (on_mark s) s)
    ∷ (eqb kind close_handler, shaped (mark_shape part) (on_mark s) s)
    ∷ []

-- 'Every other type outside 90 to 98 gets 'FFFB'.'
unfoldable pub done_by : ℕ → List ℕ → List File → Done
done_by kind part s = checks (commands kind part s) (coded unsupported_operation s)
