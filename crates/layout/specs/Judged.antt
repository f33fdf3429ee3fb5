-- What stands in an image, and which lists of bytes are images.
use Rattle.std.specs.Prelude.{◌*◌, ◌+◌, ◌-◌, suc, zero, ℕ, Bool, ◌&&◌, ◌||◌, false, not, true, List, [], ◌∷◌, eqb, leb, ltb, drop, get_or, length, take, Result, Ok, Err, ⊤}
use Rattle.adler.specs.Adler.{adler32}
use Rattle.book.specs.Book.{kind_of, no_entry}
use Rattle.book.specs.declared.Entry.{Entry}
use Rattle.book.specs.declared.Kind.{Kind}
use Rattle.layout.specs.Layout.{name, size_of, sum_bytes, version}
use Rattle.layout.specs.declared.Flaw.{Flaw}
use Rattle.layout.specs.declared.Flaw.TheVariants.{Bent, Cut, Foreign, Sum, Version}
use Rattle.lists.specs.Least.{same}
use Rattle.lists.specs.Lists.{checks}
use Rattle.tapa.specs.Numbers.{word_at}

-- ---- the parts of an image

abbrev pub kind_at : List ℕ → ℕ → Kind
kind_at img at = record { made = eqb (get_or img at 0) 1; keymax = get_or img (at + 1) 0; recmax = get_or img (at + 2) 0 }

-- so many rows from a place on
abbrev pub kinds_at : List ℕ → ℕ → ℕ → List Kind
kinds_at img at zero = []
kinds_at img at (suc k) = kind_at img at ∷ kinds_at img (at + 3) k

abbrev pub entry_at : List ℕ → ℕ → Entry
entry_at img at =
    record { file = get_or img at 0; pointer = word_at img (at + 1); slot = get_or img (at + 3) 0; keylen = get_or img (at + 4) 0; len = get_or img (at + 5) 0 }

-- so many entries from a place on
abbrev pub entries_at : List ℕ → ℕ → ℕ → List Entry
entries_at img at zero = []
entries_at img at (suc k) = entry_at img at ∷ entries_at img (at + 6) k

-- (shut, since its 16 rows would be written out wherever it stands)
unfoldable pub table_in : List ℕ → List Kind
table_in img = kinds_at img 14 16

abbrev pub count_in : List ℕ → ℕ
count_in img = word_at img 62

abbrev pub entries_in : List ℕ → List Entry
entries_in img = entries_at img 64 (count_in img)

abbrev pub entry_in : List ℕ → ℕ → Entry
entry_in img i = get_or (entries_in img) i no_entry

-- the slots of the entries, one behind the other
abbrev pub slots_in : List ℕ → List ℕ
slots_in img = take (count_in img * 383) (drop (64 + count_in img * 6) img)

-- ---- what a store can hold

-- a row: made or not, and data of at most 128 bytes (a key's limit is a byte)
abbrev pub row_fits : List ℕ → ℕ → Bool
row_fits img at = leb (get_or img at 0) 1 && leb (get_or img (at + 2) 0) 128

abbrev pub rows_fit : List ℕ → ℕ → ℕ → Bool
rows_fit img at zero = true
rows_fit img at (suc k) = row_fits img at && rows_fit img (at + 3) k

-- (shut, as the table)
unfoldable pub table_fits : List ℕ → Bool
table_fits img = rows_fit img 14 16

-- an entry: its file is made, its pointer is one of 1 to 256, its lengths are within its file's
abbrev pub kind_fits : Kind → Entry → Bool
kind_fits k x =
    checks
    ((not k.made, false)
    ∷ (eqb x.pointer 0, false)
    ∷ (ltb 256 x.pointer, false)
    ∷ (ltb k.keymax x.keylen, false)
    ∷ [])
    (leb x.len k.recmax)

abbrev pub entry_fits : List Kind → Entry → Bool
entry_fits ks x = kind_fits (kind_of ks x.file) x

-- two entries, each with its key, clash: they have one slot; or one file, and in it one pointer or, where it has keys, one key
abbrev pub clashes : Bool → Entry → List ℕ → Entry → List ℕ → Bool
clashes keyed x key y other =
    checks
    ((eqb x.slot y.slot, true)
    ∷ (not (eqb x.file y.file), false)
    ∷ (eqb x.pointer y.pointer, true)
    ∷ (not keyed, false)
    ∷ [])
    (same key other)

-- whether an entry clashes with one of a list, whose slots stand one behind the other
abbrev pub has_twin : Bool → Entry → List ℕ → List Entry → List ℕ → Bool
has_twin keyed x key [] slots = false
has_twin keyed x key (y ∷ l) slots = clashes keyed x key y (take y.keylen slots) || has_twin keyed x key l (drop 383 slots)

-- whether the file of an entry has keys
abbrev pub has_keys : List Kind → Entry → Bool
has_keys ks x = ltb 0 (kind_of ks x.file).keymax

-- whether entry i of an image clashes with one of those from place j on
abbrev pub twin_from : List ℕ → ℕ → ℕ → Bool
twin_from img i j =
    has_twin
    (has_keys (table_in img) (entry_in img i))
    (entry_in img i)
    (take (entry_in img i).keylen (drop (i * 383) (slots_in img)))
    (drop j (entries_in img))
    (drop (j * 383) (slots_in img))

-- entries with their slots: each fits, and no two clash
abbrev pub sound : List Kind → List Entry → List ℕ → Bool
sound ks [] slots = true
sound ks (x ∷ l) slots =
    entry_fits ks x && (not (has_twin (has_keys ks x) x (take x.keylen slots) l (drop 383 slots)) && sound ks l (drop 383 slots))

-- the table, '256 records in all', and the entries
abbrev pub fits : List ℕ → Bool
fits img = table_fits img && (leb (count_in img) 256 && sound (table_in img) (entries_in img) (slots_in img))

-- ---- the frame

-- it begins with the format's name, as far as it goes
abbrev pub is_named : List ℕ → Bool
is_named img = same (take (length name) img) (take (length img) name)

abbrev pub is_version : List ℕ → Bool
is_version img = same (take 2 (drop 12 img)) version

-- its last four bytes are the checksum of those before
abbrev pub sum_fits : List ℕ → Bool
sum_fits img = same (drop (length img - 4) img) (sum_bytes (adler32 (take (length img - 4) img)))

-- ---- the verdict: what is wrong first

unfoldable pub verdict_of : List ℕ → Result ⊤ Flaw
verdict_of img =
    checks
    ((not (is_named img), Err Foreign)
    ∷ (ltb (length img) 14, Err Cut)
    ∷ (not (is_version img), Err Version)
    ∷ (ltb (length img) 68, Err Cut)
    ∷ (not (eqb (length img) (size_of (count_in img))), Err Cut)
    ∷ (not (sum_fits img), Err Sum)
    ∷ (not (fits img), Err Bent)
    ∷ [])
    (Ok tt)
