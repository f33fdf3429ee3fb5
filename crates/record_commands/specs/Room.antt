-- How much the store takes, and which pointer a new record gets.
use Rattle.std.specs.Prelude.{◌<◌, ℕ, ◌≤◌, cond, false, true, List, map, ◌≡◌, eqb, leb, ltb, length, Some}
use Rattle.book.specs.Book.{view_of}
use Rattle.book.specs.declared.Book.{Book}
use Rattle.files.specs.Coded.{result_code}
use Rattle.files.specs.Files.{File, Record, held, keyed, look}
use Rattle.lists.specs.Lists.{some_of}
use Rattle.record_commands.specs.Records.{add_of, added_pointer}
use Rattle.tapa.specs.Codes.{insufficient_resources, successful}

-- an Add with nothing wrong but that there may be no room: lengths within the file's, and no record with the key in a file with keys
pub record Addable (g : File) (key d : List ℕ) : Type 0 where
  pub small : length d ≤ g.rec_max
  pub short : length key ≤ g.key_max
  pub twin : cond (ltb 0 g.key_max) (some_of (keyed key) g.records) false ≡ false

-- 'A new record has the lowest free pointer of 1 to 256 within its file.'
pub record NewPointer (rs : List Record) (p : ℕ) : Type 0 where
  pub above : 1 ≤ p
  pub most : p ≤ 256
  pub new : some_of (eqb p) (map (λ (r : Record). r.pointer) rs) ≡ false
  pub lowest : (q : ℕ) → 1 ≤ q → q < p → some_of (eqb q) (map (λ (r : Record). r.pointer) rs) ≡ true

-- '256 records in all'; 'adding is refused ('FFF6') exactly when 256 records are held'
pub record RoomAdd (b : Book) (area : List ℕ) (f : ℕ) (key d : List ℕ) : Type 0 where
  pub few : held (view_of b area) ≤ 256
  pub code : (g : File) → look f (view_of b area) ≡ Some g → Addable g key d
      → result_code (add_of b area f key d) ≡ cond (leb 256 (held (view_of b area))) insufficient_resources successful
  pub pointer : (g : File) → look f (view_of b area) ≡ Some g → result_code (add_of b area f key d) ≡ successful → NewPointer g.records (added_pointer (add_of b area f key d))
