-- The store as bytes: what `save` writes, and what `load` gives back.
use Rattle.std.specs.Prelude.{◌*◌, ◌+◌, ℕ, cond, not, List, [], ◌∷◌, eqb, ltb, drop, length, take, Option, Some, None, Result, Ok, Err, is_ok, ⊤}
use Rattle.book.specs.Book.{Lawful, book_of, entries_of, no_kinds, view_of}
use Rattle.book.specs.declared.Book.{Book}
use Rattle.book.specs.declared.Entry.{Entry}
use Rattle.files.specs.Sound.{Sound}
use Rattle.layout.specs.Judged.{count_in, entries_in, table_in, verdict_of}
use Rattle.layout.specs.Layout.{body_of, flat, sealed, size_of}
use Rattle.layout.specs.declared.Flaw.{Flaw}
use Rattle.layout.specs.declared.Flaw.TheVariants.{Area}
use Rattle.lists.specs.Lists.{checks, onto}
use Rattle.slots.specs.Slots.{put, window}

-- ---- a store

-- what holds of every store: the law of book and area, and that of the files that they stand for
pub record Storable (b : Book) (area : List ℕ) : Type 0 where
  pub law : Lawful b area
  pub sound : Sound (view_of b area)

-- ---- saved

-- the slot of an entry, whole
abbrev pub slot_bytes : List ℕ → Entry → List ℕ
slot_bytes area x = window area x.slot

-- 'the files, the entries, the slots in use, and a checksum over all of it'
abbrev pub image_of : Book → List ℕ → List ℕ
image_of b area = sealed (body_of b.kinds (entries_of b) (flat (slot_bytes area) (entries_of b)))

-- what `save` answers, and what the lent buffer then holds
abbrev pub saved_of : Book → List ℕ → Option ℕ
saved_of b out = cond (ltb (length out) (size_of (length (entries_of b)))) None (Some (size_of (length (entries_of b))))

abbrev pub saved_in : Book → List ℕ → List ℕ → List ℕ
saved_in b area out = cond (ltb (length out) (size_of (length (entries_of b)))) out (onto (image_of b area) out)

-- ---- loaded

-- slots that stand one behind the other, each into the slot of its entry
abbrev pub poured : List Entry → List ℕ → List ℕ → List ℕ
poured [] slots area = area
poured (x ∷ l) slots area = poured l (drop 383 slots) (put area x.slot (take 383 slots))

-- a judgement passed on: the book where nothing is wrong
abbrev pub handed : Result ⊤ Flaw → Book → Result Book Flaw
handed (Ok u) b = Ok b
handed (Err e) b = Err e

-- the book to go on with: that of the image, and one without files where it was refused
abbrev pub loaded : Result Book Flaw → Book
loaded (Ok b) = b
loaded (Err e) = book_of no_kinds []

abbrev pub restored : List ℕ → Book
restored img = book_of (table_in img) (entries_in img)

abbrev pub restored_area : List ℕ → List ℕ → List ℕ
restored_area img area = poured (entries_in img) (drop (64 + count_in img * 6) img) area

-- what `load` answers, and what the lent area then holds: 'everything else is refused and leaves what was lent untouched'
unfoldable pub load_of : List ℕ → List ℕ → Result Book Flaw
load_of img area = checks ((not (eqb (length area) 98048), Err Area) ∷ []) (handed (verdict_of img) (restored img))

unfoldable pub load_area : List ℕ → List ℕ → List ℕ
load_area img area =
    checks
    ((not (eqb (length area) 98048), area)
    ∷ (not (is_ok (verdict_of img)), area)
    ∷ [])
    (restored_area img area)
