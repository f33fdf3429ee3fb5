-- The area of the data store: slots of 383 bytes one after the other, and what each call does to them.
use Rattle.std.specs.Prelude.{◌*◌, ◌+◌, ◌-◌, ℕ, Bool, cond, false, not, ◌++◌, List, [], ◌∷◌, ◌≡◌, eqb, leb, ltb, drop, length, replicate, take}
use Rattle.std.specs.Borrow.{Bor}
use Rattle.lists.specs.Least.{same}
use Rattle.lists.specs.Lists.{LiesAt, checks}

-- ---- slots

-- the bytes of a slot
abbrev pub window : List ℕ → ℕ → List ℕ
window area s = take 383 (drop (s * 383) area)

-- the area with a slot's bytes replaced
abbrev pub put : List ℕ → ℕ → List ℕ → List ℕ
put area s xs = take (s * 383) area ++ (xs ++ drop (s * 383 + 383) area)

-- what the slot of a record holds: a key of at most 255 bytes, 'record data at most 128 bytes' behind it, and zeros
abbrev pub slot_of : List ℕ → List ℕ → List ℕ
slot_of key d = key ++ (d ++ replicate (383 - length key - length d) 0)

-- an empty slot, for a command that 'not only erases the data from the record but also frees the record space' (shut, since 383 zeros would be written out wherever it stands)
unfoldable pub blank : List ℕ
blank = replicate 383 0

-- ---- what the functions promise

-- '256 records in all': a slot for each, numbered from 0
abbrev pub is_slot : ℕ → ℕ → Bool
is_slot size s = cond (eqb size 98048) (leb s 255) false

-- so many bytes of a slot from a place in it on; none where it has no such bytes
abbrev pub bytes_of : List ℕ → ℕ → ℕ → ℕ → List ℕ
bytes_of area s at n = cond (is_slot (length area) s) (cond (leb at 383) (cond (leb n (383 - at)) (take n (drop at (window area s))) []) []) []

-- where these bytes start in the area; 0 where there are no such bytes
abbrev pub start_of : ℕ → ℕ → ℕ → ℕ → ℕ
start_of size s at n = cond (is_slot size s) (cond (leb at 383) (cond (leb n (383 - at)) (s * 383 + at) 0) 0) 0

-- the part handed out: its bytes, and that it stands in the area itself
pub record SlotPart (area part : Bor (List ℕ)) (s at n : ℕ) : Type 0 where
  pub bytes : part.now ≡ bytes_of area.now s at n
  pub place : LiesAt (start_of (length area.now) s at n) area part

-- 'Find compares length and bytes'
abbrev pub holds_key : List ℕ → ℕ → ℕ → List ℕ → Bool
holds_key area s n key = same (bytes_of area s 0 n) key

-- the area with a record in a slot; 'the previous content of the record is erased'. As it was where there is no such slot or no room in it.
abbrev pub written : List ℕ → ℕ → List ℕ → List ℕ → List ℕ
written area s key d =
    checks
    ((not (is_slot (length area) s), area)
    ∷ (ltb 255 (length key), area)
    ∷ (ltb 128 (length d), area)
    ∷ [])
    (put area s (slot_of key d))

-- the area with a slot emptied, as it was where there is no such slot
abbrev pub wiped : List ℕ → ℕ → List ℕ
wiped area s = cond (is_slot (length area) s) (put area s blank) area
