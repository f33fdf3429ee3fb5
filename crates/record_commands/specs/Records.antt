-- What each command that changes records does to the book and to the area: one result, one content of lent memory. A command that fails is its code, and changes neither.
use Rattle.std.specs.Prelude.{Err, Ok, ℕ, Bool, cond, false, not, true, ◌++◌, List, [], ◌∷◌, eqb, leb, ltb, get_or, length, set, None, Option, Some}
use Rattle.book.specs.Book.{book_of, entries_of, key_at, kind_of, meant, no_entry, pointers_of, slots_of}
use Rattle.book.specs.declared.Book.{Book}
use Rattle.book.specs.declared.Entry.{Entry}
use Rattle.book.specs.declared.Kind.{Kind}
use Rattle.files.specs.Coded.{Coded, left_by}
use Rattle.lists.specs.ByPlace.{cut, is_at, place}
use Rattle.lists.specs.Least.{least}
use Rattle.lists.specs.Lists.{checks}
use Rattle.record_commands.specs.declared.Added.{Added}
use Rattle.sights.specs.Sights.{find_of}
use Rattle.sights.specs.declared.Got.{Got}
use Rattle.slots.specs.Slots.{blank, put, slot_of}
use Rattle.tapa.specs.Codes.{insufficient_resources, invalid_file_id, invalid_record_pointer, record_too_large, search_key_existing, search_key_too_large, successful}

-- ---- a record goes: its entry, and the bytes of its slot

abbrev pub erased_book : Book → ℕ → Book
erased_book b i = book_of b.kinds (cut (entries_of b) i)

abbrev pub erased_area : Book → List ℕ → ℕ → List ℕ
erased_area b area i = put area (get_or (entries_of b) i no_entry).slot blank

-- ---- Delete

abbrev pub deleted_at : Book → Bool → Option ℕ → Coded Book
deleted_at b false z = Err invalid_file_id
deleted_at b true None = Err invalid_record_pointer
deleted_at b true (Some i) = Ok (erased_book b i)

abbrev pub wiped_at : Book → List ℕ → Bool → Option ℕ → List ℕ
wiped_at b area false z = area
wiped_at b area true None = area
wiped_at b area true (Some i) = erased_area b area i

abbrev pub delete_of : Book → ℕ → ℕ → Coded Book
delete_of b f p = deleted_at b (kind_of b.kinds f).made (place (meant f p) 0 (entries_of b))

abbrev pub delete_area : Book → List ℕ → ℕ → ℕ → List ℕ
delete_area b area f p = wiped_at b area (kind_of b.kinds f).made (place (meant f p) 0 (entries_of b))

-- ---- Find and Delete: what Find found goes

abbrev pub deleted_by : Book → Coded Got → Coded Book
deleted_by b (Ok g) = Ok (erased_book b g.at)
deleted_by b (Err n) = Err n

abbrev pub wiped_by : Book → List ℕ → Coded Got → List ℕ
wiped_by b area (Ok g) = erased_area b area g.at
wiped_by b area (Err n) = area

abbrev pub find_delete_of : Book → List ℕ → ℕ → List ℕ → Coded Book
find_delete_of b area f key = deleted_by b (find_of b area f key)

abbrev pub find_delete_area : Book → List ℕ → ℕ → List ℕ → List ℕ
find_delete_area b area f key = wiped_by b area (find_of b area f key)

-- ---- what Add and Update look at first: the file, and the two lengths

abbrev pub asked_code : Kind → List ℕ → List ℕ → ℕ
asked_code k key d =
    checks
    ((not k.made, invalid_file_id)
    ∷ (ltb k.recmax (length d), record_too_large)
    ∷ (ltb k.keymax (length key), search_key_too_large)
    ∷ [])
    successful

-- ---- what there is afterwards: the record's pointer, 0 where the command failed, and the book

abbrev pub added_pointer : Coded Added → ℕ
added_pointer r = left_by (λ (a : Added). a.pointer) 0 r

abbrev pub added_book : Book → Coded Added → Book
added_book b r = left_by (λ (a : Added). a.next) b r

-- ---- Add

abbrev pub code_of_add : Book → List ℕ → ℕ → List ℕ → List ℕ → ℕ
code_of_add b area f key d =
    checks
    ((not (eqb (asked_code (kind_of b.kinds f) key d) successful), asked_code (kind_of b.kinds f) key d)
    ∷ (cond (ltb 0 (kind_of b.kinds f).keymax) (is_at (place (key_at area f key) 0 (entries_of b))) false, search_key_existing)
    ∷ (leb 256 (length (entries_of b)), insufficient_resources)
    ∷ [])
    successful

abbrev pub new_entry : Book → ℕ → List ℕ → List ℕ → Entry
new_entry b f key d =
    record { file = f; pointer = least 1 (pointers_of f (entries_of b)); slot = least 0 (slots_of (entries_of b)); keylen = length key; len = length d }

abbrev pub add_of : Book → List ℕ → ℕ → List ℕ → List ℕ → Coded Added
add_of b area f key d =
    cond (eqb (code_of_add b area f key d) successful)
    (Ok (record { pointer = (new_entry b f key d).pointer; next = book_of b.kinds (entries_of b ++ new_entry b f key d ∷ []) }))
    (Err (code_of_add b area f key d))

abbrev pub add_area : Book → List ℕ → ℕ → List ℕ → List ℕ → List ℕ
add_area b area f key d = cond (eqb (code_of_add b area f key d) successful) (put area (new_entry b f key d).slot (slot_of key d)) area

-- ---- Update

-- another entry than the one at a place has the key
abbrev pub twin_at : Book → List ℕ → ℕ → List ℕ → ℕ → ℕ → Bool
twin_at b area f key n i = cond (ltb 0 n) (is_at (place (key_at area f key) 0 (cut (entries_of b) i))) false

abbrev pub update_at : Book → List ℕ → ℕ → List ℕ → Option ℕ → Coded Got
update_at b area f key None = Err invalid_record_pointer
update_at b area f key (Some i) =
    cond (twin_at b area f key (kind_of b.kinds f).keymax i) (Err search_key_existing) (Ok (record { at = i; other = (get_or (entries_of b) i no_entry).pointer }))

abbrev pub update_seen : Book → List ℕ → ℕ → ℕ → List ℕ → List ℕ → Coded Got
update_seen b area f p key d =
    cond (eqb (asked_code (kind_of b.kinds f) key d) successful) (update_at b area f key (place (meant f p) 0 (entries_of b))) (Err (asked_code (kind_of b.kinds f) key d))

-- the entry with the new lengths: file, pointer and slot stay
abbrev pub resized : Entry → List ℕ → List ℕ → Entry
resized x key d = record { file = x.file; pointer = x.pointer; slot = x.slot; keylen = length key; len = length d }

abbrev pub updated_by : Book → List ℕ → List ℕ → Coded Got → Coded Added
updated_by b key d (Ok g) =
    Ok (record { pointer = g.other; next = book_of b.kinds (set (entries_of b) g.at (resized (get_or (entries_of b) g.at no_entry) key d)) })
updated_by b key d (Err n) = Err n

abbrev pub rewritten_by : Book → List ℕ → List ℕ → List ℕ → Coded Got → List ℕ
rewritten_by b area key d (Ok g) = put area (get_or (entries_of b) g.at no_entry).slot (slot_of key d)
rewritten_by b area key d (Err n) = area

abbrev pub update_of : Book → List ℕ → ℕ → ℕ → List ℕ → List ℕ → Coded Added
update_of b area f p key d = updated_by b key d (update_seen b area f p key d)

abbrev pub update_area : Book → List ℕ → ℕ → ℕ → List ℕ → List ℕ → List ℕ
update_area b area f p key d = rewritten_by b area key d (update_seen b area f p key d)
