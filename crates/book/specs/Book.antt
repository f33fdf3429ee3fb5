-- The data store as the code keeps it: a book of entries by value, in order of adding, and a lent area of 256 slots; and the list of files that the two stand for.
use Rattle.std.specs.Prelude.{◌+◌, ◌-◌, suc, zero, ℕ, ◌≤◌, Bool, cond, false, true, ◌++◌, List, [], map, ◌∷◌, ◌≡◌, eqb, ltb, drop, get_or, length, replicate, set, take, Option, Some, None}
use Rattle.book.specs.declared.Book.{Book}
use Rattle.book.specs.declared.Created.{Created}
use Rattle.book.specs.declared.Entry.{Entry}
use Rattle.book.specs.declared.Kind.{Kind}
use Rattle.files.specs.Files.{File, Record}
use Rattle.lists.specs.Least.{same}
use Rattle.lists.specs.Lists.{All, count, keep}
use Rattle.slots.specs.Slots.{window}

-- ---- the book

abbrev pub no_entry : Entry
no_entry = record { file = 0; pointer = 0; slot = 0; keylen = 0; len = 0 }

abbrev pub no_kind : Kind
no_kind = record { made = false; keymax = 0; recmax = 0 }

-- the table without files (shut, since its 16 rows would be written out wherever it stands)
unfoldable pub no_kinds : List Kind
no_kinds = replicate 16 no_kind

abbrev pub entries_of : Book → List Entry
entries_of b = take b.count b.entries

-- a table and entries as a book
abbrev pub book_of : List Kind → List Entry → Book
book_of ks l = record { kinds = ks; entries = l ++ replicate (256 - length l) no_entry; count = length l }

-- the row of a file; identifier 0 is none
abbrev pub kind_of : List Kind → ℕ → Kind
kind_of ks zero = no_kind
kind_of ks (suc n) = get_or ks n no_kind

-- ---- the list of files that book and area stand for

-- a record in its slot
abbrev pub rec_in : List ℕ → Entry → Record
rec_in w x = record { pointer = x.pointer; key = take x.keylen w; bytes = take x.len (drop x.keylen w) }

abbrev pub rec_of : List ℕ → Entry → Record
rec_of area x = rec_in (window area x.slot) x

abbrev pub in_file : ℕ → Entry → Bool
in_file f x = eqb x.file f

abbrev pub in_slot : ℕ → Entry → Bool
in_slot s x = eqb x.slot s

abbrev pub records_of : List ℕ → ℕ → List Entry → List Record
records_of area f l = map (rec_of area) (keep (in_file f) l)

abbrev pub file_of : ℕ → Kind → List Entry → List ℕ → File
file_of n k l area = record { id = n; key_max = k.keymax; rec_max = k.recmax; records = records_of area n l }

-- the files from identifier n on
abbrev pub files_from : ℕ → List Kind → List Entry → List ℕ → List File
files_from n [] l area = []
files_from n (k ∷ ks) l area = cond k.made (file_of n k l area ∷ files_from (suc n) ks l area) (files_from (suc n) ks l area)

abbrev pub view_of : Book → List ℕ → List File
view_of b area = files_from 1 b.kinds (entries_of b) area

-- ---- the law

-- of the book alone: 16 rows, at most 256 entries, and the free places hold nothing
pub record Shaped (b : Book) : Type 0 where
  pub few : b.count ≤ 256
  pub whole : b ≡ book_of b.kinds (entries_of b)
  pub files : length b.kinds ≡ 16

-- a file's limits are the house's: a key of 255 bytes, data of 128
pub record Limits (k : Kind) : Type 0 where
  pub key : k.keymax ≤ 255
  pub body : k.recmax ≤ 128

-- an entry is of a file that is made, has a slot, and keeps to its file's limits
pub record Fits (ks : List Kind) (x : Entry) : Type 0 where
  pub filed : 1 ≤ x.file
  pub made : (get_or ks (x.file - 1) no_kind).made ≡ true
  pub slot : x.slot ≤ 255
  pub key : x.keylen ≤ (get_or ks (x.file - 1) no_kind).keymax
  pub body : x.len ≤ (get_or ks (x.file - 1) no_kind).recmax

-- of book and area: the area has 256 slots, and no two entries have the same
pub record Lawful (b : Book) (area : List ℕ) : Type 0 where
  pub shape : Shaped b
  pub limits : All Limits b.kinds
  pub roomy : length area ≡ 98048
  pub fit : All (Fits b.kinds) (entries_of b)
  pub apart : (s : ℕ) → count (in_slot s) (entries_of b) ≤ 1

-- ---- what is asked of entries

-- an entry of file f with pointer p; 'The first record in a file may be addressed using '0000'.'
abbrev pub meant : ℕ → ℕ → Entry → Bool
meant f p x = cond (eqb x.file f) (cond (eqb p 0) true (eqb x.pointer p)) false

-- an entry of file f with a key
abbrev pub key_at : List ℕ → ℕ → List ℕ → Entry → Bool
key_at area f key x = cond (eqb x.file f) (same (take x.keylen (window area x.slot)) key) false

-- the pointer at a place that a search ended at; 0 where it ended nowhere
abbrev pub pointer_at : List Entry → Option ℕ → ℕ
pointer_at l None = 0
pointer_at l (Some i) = (get_or l i no_entry).pointer

-- the numbers that entries use up: slots, and pointers in a file
abbrev pub slots_of : List Entry → List ℕ
slots_of l = map (λ (x : Entry). x.slot) l

abbrev pub pointers_of : ℕ → List Entry → List ℕ
pointers_of f l = map (λ (x : Entry). x.pointer) (keep (in_file f) l)

-- ---- what the changes do

abbrev pub pushed_of : Book → Entry → Book
pushed_of b x = cond (ltb b.count 256) (book_of b.kinds (entries_of b ++ x ∷ [])) b

abbrev pub with_kinds : Book → List Kind → Book
with_kinds b ks = record { kinds = ks; entries = b.entries; count = b.count }

-- a table with another row for a file
abbrev pub with_kind : List Kind → ℕ → Kind → List Kind
with_kind ks zero k = ks
with_kind ks (suc n) k = set ks n k

abbrev pub is_made : Kind → Bool
is_made k = k.made

-- the first row that is not made
abbrev pub free_kind : ℕ → List Kind → Option ℕ
free_kind n [] = None
free_kind n (k ∷ ks) = cond k.made (free_kind (suc n) ks) (Some n)

abbrev pub kind : ℕ → ℕ → Kind
kind k r = record { made = true; keymax = k; recmax = r }

abbrev pub created_at : Book → ℕ → ℕ → Option ℕ → Created
created_at b k r None = record { id = 0; next = b }
created_at b k r (Some i) = record { id = i + 1; next = with_kinds b (set b.kinds i (kind k r)) }

-- 'A new file has the lowest free identifier of 1 to 16'
abbrev pub one_more : Book → ℕ → ℕ → Created
one_more b k r = created_at b k r (free_kind 0 b.kinds)
