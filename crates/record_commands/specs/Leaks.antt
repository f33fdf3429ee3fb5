-- What of a record stays in the area: nothing.
use Rattle.std.specs.Prelude.{ℕ, List, ◌≡◌, get_or, Option, Some, None}
use Rattle.book.specs.Book.{entries_of, key_at, meant, no_entry}
use Rattle.book.specs.declared.Book.{Book}
use Rattle.book.specs.declared.Entry.{Entry}
use Rattle.files.specs.Coded.{result_code}
use Rattle.lists.specs.ByPlace.{place}
use Rattle.record_commands.specs.Records.{delete_area, delete_of, find_delete_area, find_delete_of, update_area, update_of}
use Rattle.slots.specs.Slots.{blank, slot_of, window}
use Rattle.tapa.specs.Codes.{successful}

-- the slot of the record that a search ended at
abbrev pub slot_at : List Entry → Option ℕ → ℕ
slot_at l None = 0
slot_at l (Some i) = (get_or l i no_entry).slot

-- one slot holds other bytes, all of them given; every other slot is as it was
pub record OneSlot (area area' : List ℕ) (s : ℕ) (xs : List ℕ) : Type 0 where
  pub own : window area' s ≡ xs
  pub others : (t : ℕ) → (t ≡ s → ⊥) → window area' t ≡ window area t

-- Delete 'not only erases the data from the record but also frees the record space': the whole slot is zeros
abbrev pub DeleteLeaves : Book → List ℕ → ℕ → ℕ → Type 0
DeleteLeaves b area f p =
    result_code (delete_of b f p) ≡ successful → OneSlot area (delete_area b area f p) (slot_at (entries_of b) (place (meant f p) 0 (entries_of b))) blank

abbrev pub FindDeleteLeaves : Book → List ℕ → ℕ → List ℕ → Type 0
FindDeleteLeaves b area f key =
    result_code (find_delete_of b area f key) ≡ successful → OneSlot area (find_delete_area b area f key) (slot_at (entries_of b) (place (key_at area f key) 0 (entries_of b))) blank

-- Update: 'the previous content of the record is erased'. The slot is the new key, the new data and zeros, and no byte of what was there before.
abbrev pub UpdateLeaves : Book → List ℕ → ℕ → ℕ → List ℕ → List ℕ → Type 0
UpdateLeaves b area f p key d =
    result_code (update_of b area f p key d) ≡ successful
    → OneSlot area (update_area b area f p key d) (slot_at (entries_of b) (place (meant f p) 0 (entries_of b))) (slot_of key d)
