-- How a store is written down: a first line, the table of files, the number of records, an entry each, a slot each, and Adler-32 over all of it.
use Rattle.std.specs.Prelude.{◌%◌, ◌*◌, ◌+◌, ◌/◌, ℕ, ◌++◌, List, [], map, ◌∷◌, length}
use Rattle.adler.specs.Adler.{adler32}
use Rattle.adler.specs.declared.Sums.{Sums}
use Rattle.book.specs.declared.Entry.{Entry}
use Rattle.book.specs.declared.Kind.{Kind}
use Rattle.lists.specs.Lists.{joined, one}
use Rattle.tapa.specs.Numbers.{two_bytes}

-- ---- its parts

-- a list of things as bytes, one behind the other
module _ {A : Type 0} where
  abbrev pub flat : (A → List ℕ) → List A → List ℕ
  flat f l = joined (map f l)

-- 'a first line that names the format and its version': "kiosk store ", and "1" with the line's end
abbrev pub name : List ℕ
name = 107 ∷ 105 ∷ 111 ∷ 115 ∷ 107 ∷ 32 ∷ 115 ∷ 116 ∷ 111 ∷ 114 ∷ 101 ∷ 32 ∷ []

abbrev pub version : List ℕ
version = 49 ∷ 10 ∷ []

-- a file's row: whether it is made, and its limits
abbrev pub kind_bytes : Kind → List ℕ
kind_bytes k = one k.made ∷ k.keymax ∷ k.recmax ∷ []

-- a record's entry
abbrev pub entry_bytes : Entry → List ℕ
entry_bytes x = x.file ∷ x.pointer / 256 ∷ x.pointer % 256 ∷ x.slot ∷ x.keylen ∷ x.len ∷ []

-- ---- all of it

-- a table and entries with the bytes of their slots, one behind the other
abbrev pub body_of : List Kind → List Entry → List ℕ → List ℕ
body_of ks l slots = (name ++ version) ++ (flat kind_bytes ks ++ (two_bytes (length l) ++ (flat entry_bytes l ++ slots)))

-- 'a checksum over all of it'
abbrev pub sum_bytes : Sums → List ℕ
sum_bytes s = two_bytes s.high ++ two_bytes s.low

abbrev pub sealed : List ℕ → List ℕ
sealed body = body ++ sum_bytes (adler32 body)

-- how long an image of n records is
abbrev pub size_of : ℕ → ℕ
size_of n = 68 + n * 389
