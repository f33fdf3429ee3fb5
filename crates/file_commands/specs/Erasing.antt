-- What the commands on files do to the book and to the area: one result, one content of lent memory. A command that fails is its code, and changes neither.
use Rattle.std.specs.Prelude.{Option, Some, None, Result, Ok, Err, ◌+◌, ◌-◌, suc, zero, ℕ, ◌&&◌, Bool, cond, false, true, ◌++◌, List, [], ◌∷◌, eqb, leb, ltb, length, replicate}
use Rattle.book.specs.Book.{book_of, entries_of, is_made, kind_of, no_kind, one_more, with_kind, with_kinds}
use Rattle.book.specs.declared.Book.{Book}
use Rattle.book.specs.declared.Entry.{Entry}
use Rattle.book.specs.declared.Kind.{Kind}
use Rattle.file_commands.specs.declared.Made.{Made}
use Rattle.files.specs.Coded.{left_by}
use Rattle.lists.specs.Lists.{checks, count, keep}
use Rattle.slots.specs.Slots.{wiped}
use Rattle.tapa.specs.Codes.{insufficient_resources, invalid_file_id, successful, unsupported_operation}

-- ---- Create

-- 'A number of files of 0 or over 16, or a record length over 128, is 'FFFB'. Files held plus new ones over 16 is 'FFF6', and none is created.'
abbrev pub code_of_create : Book → ℕ → ℕ → ℕ
code_of_create b n r =
    checks
    ((eqb n 0, unsupported_operation)
    ∷ (ltb 16 n, unsupported_operation)
    ∷ (ltb 128 r, unsupported_operation)
    ∷ (ltb 16 (count is_made b.kinds + n), insufficient_resources)
    ∷ [])
    successful

-- the shapes that are right: 1 to 16 files, record data of at most 128 bytes
abbrev pub right_shape : ℕ → ℕ → Bool
right_shape n r = ltb 0 n && leb n 16 && leb r 128

-- n times one file more
abbrev pub create_book : ℕ → ℕ → ℕ → Book → Book
create_book zero k r b = b
create_book (suc n) k r b = create_book n k r (one_more b k r).next

abbrev pub create_ids : ℕ → ℕ → ℕ → Book → List ℕ
create_ids zero k r b = []
create_ids (suc n) k r b = (one_more b k r).id ∷ create_ids n k r (one_more b k r).next

-- 16 identifiers, zeros behind those that are given
abbrev pub padded : List ℕ → List ℕ
padded l = l ++ replicate (16 - length l) 0

abbrev pub create_of : Book → ℕ → ℕ → ℕ → Result Made ℕ
create_of b n k r =
    cond (eqb (code_of_create b n r) successful) (Ok (record { ids = padded (create_ids n k r b); next = create_book n k r b })) (Err (code_of_create b n r))

-- what there is afterwards: the identifiers, zeros where none were given, and the book
abbrev pub made_ids : Result Made ℕ → List ℕ
made_ids r = left_by (λ (m : Made). m.ids) (padded []) r

abbrev pub made_book : Book → Result Made ℕ → Book
made_book b r = left_by (λ (m : Made). m.next) b r

-- ---- records go with their files

-- an entry whose file is made
abbrev pub housed : List Kind → Entry → Bool
housed ks x = (kind_of ks x.file).made

abbrev pub swept_book : Book → Book
swept_book b = book_of b.kinds (keep (housed b.kinds) (entries_of b))

-- the slots of the others are wiped
abbrev pub swept_area : List Kind → List Entry → List ℕ → List ℕ
swept_area ks [] area = area
swept_area ks (x ∷ l) area = swept_area ks l (cond (housed ks x) area (wiped area x.slot))

-- the table without a file
abbrev pub unmake : List Kind → ℕ → List Kind
unmake ks f = with_kind ks f no_kind

-- each file is made when its turn comes: so none is unknown, and none comes twice
abbrev pub all_known : List Kind → List ℕ → Bool
all_known ks [] = true
all_known ks (f ∷ fs) = cond (kind_of ks f).made (all_known (unmake ks f) fs) false

abbrev pub unmake_all : List Kind → List ℕ → List Kind
unmake_all ks [] = ks
unmake_all ks (f ∷ fs) = unmake_all (unmake ks f) fs

abbrev pub left_of : Book → List ℕ → Option Book
left_of b fs = cond (all_known b.kinds fs) (Some (with_kinds b (unmake_all b.kinds fs))) None

-- ---- Delete File

abbrev pub delete_files_of : Book → List ℕ → Result Book ℕ
delete_files_of b fs = cond (all_known b.kinds fs) (Ok (swept_book (with_kinds b (unmake_all b.kinds fs)))) (Err invalid_file_id)

abbrev pub delete_files_area : Book → List ℕ → List ℕ → List ℕ
delete_files_area b fs area = cond (all_known b.kinds fs) (swept_area (unmake_all b.kinds fs) (entries_of b) area) area

-- ---- Clear: the same with the one file, whose row then stands again

abbrev pub clear_of : Book → ℕ → Result Book ℕ
clear_of b f = cond (kind_of b.kinds f).made (Ok (book_of b.kinds (keep (housed (unmake b.kinds f)) (entries_of b)))) (Err invalid_file_id)

abbrev pub clear_area : Book → List ℕ → ℕ → List ℕ
clear_area b area f = cond (kind_of b.kinds f).made (swept_area (unmake b.kinds f) (entries_of b) area) area
