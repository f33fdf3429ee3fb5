-- What Get and Find answer of the book, and what that shows over the area.
use Rattle.std.specs.Prelude.{Err, Ok, ◌+◌, ℕ, cond, not, List, [], ◌∷◌, eqb, ltb, drop, get_or, length, take, None, Option, Some}
use Rattle.book.specs.Book.{entries_of, in_file, key_at, kind_of, meant, no_entry, pointer_at, rec_of}
use Rattle.book.specs.declared.Book.{Book}
use Rattle.book.specs.declared.Entry.{Entry}
use Rattle.files.specs.Coded.{Coded}
use Rattle.files.specs.Files.{Sight, nextward, unseen}
use Rattle.lists.specs.ByPlace.{last, place}
use Rattle.lists.specs.Lists.{checks}
use Rattle.sights.specs.declared.Got.{Got}
use Rattle.tapa.specs.Codes.{file_seek_error, invalid_file_id, invalid_record_pointer, search_key_too_large, successful}

-- ---- Get

abbrev pub seek_at : ℕ → ℕ → ℕ → List Entry → Option ℕ
seek_at o f p l =
    cond (ltb o 2) (cond (eqb p 0) None (place (meant f p) 0 l)) (cond (eqb o 2) (place (meant f 0) 0 l) (last (in_file f) l))

abbrev pub other_at : ℕ → ℕ → List Entry → ℕ → ℕ
other_at o f l i = cond (nextward o) (pointer_at l (place (meant f 0) (i + 1) (drop (i + 1) l))) (pointer_at l (last (in_file f) (take i l)))

abbrev pub got_at : ℕ → ℕ → List Entry → Option ℕ → Coded Got
got_at o f l None = Err (cond (ltb o 2) invalid_record_pointer file_seek_error)
got_at o f l (Some i) = Ok (record { at = i; other = other_at o f l i })

abbrev pub get_of : Book → ℕ → ℕ → ℕ → Coded Got
get_of b f p o =
    cond (kind_of b.kinds f).made (got_at o f (entries_of b) (seek_at o f p (entries_of b))) (Err invalid_file_id)

-- ---- Find

abbrev pub found_at : List Entry → Option ℕ → Coded Got
found_at l None = Err file_seek_error
found_at l (Some i) = Ok (record { at = i; other = (get_or l i no_entry).pointer })

abbrev pub find_of : Book → List ℕ → ℕ → List ℕ → Coded Got
find_of b area f key =
    checks
    ((not (kind_of b.kinds f).made, Err invalid_file_id)
    ∷ (ltb (kind_of b.kinds f).keymax (length key), Err search_key_too_large)
    ∷ [])
    (found_at (entries_of b) (place (key_at area f key) 0 (entries_of b)))

-- what an answer of the code says, over the area
abbrev pub sight_of : List ℕ → List Entry → Coded Got → Sight
sight_of area l (Ok g) = record { code = successful; it = Some (rec_of area (get_or l g.at no_entry)); pointer = g.other }
sight_of area l (Err n) = unseen n
