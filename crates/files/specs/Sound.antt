-- What holds of every store, as a plain list: identifiers once, pointers once and in 1 to 256, lengths within the file's, keys once in a file with keys.
-- The house limits (16 files, 256 records, keys of 255 bytes, data of 128) are in the law of book and area (room book, `Lawful`); of the list the first two are
-- shown by file_commands `held-few` and record_commands `room-add`.
use Rattle.std.specs.Prelude.{◌<◌, ℕ, ◌≤◌, Bool, List, eqb, length}
use Rattle.files.specs.Files.{File, Record, keyed}
use Rattle.lists.specs.Lists.{All, count}

abbrev pub pointed : ℕ → Record → Bool
pointed p r = eqb r.pointer p

abbrev pub called : ℕ → File → Bool
called f g = eqb g.id f

abbrev pub Ranged : Record → Type 0
Ranged r = (1 ≤ r.pointer) × (r.pointer ≤ 256)

abbrev pub Within : File → Record → Type 0
Within g r = (length r.key ≤ g.key_max) × (length r.bytes ≤ g.rec_max)

pub record SoundFile (g : File) : Type 0 where
  pub pointers : (p : ℕ) → count (pointed p) g.records ≤ 1
  pub ranged : All Ranged g.records
  pub within : All (Within g) g.records
  pub keys : 0 < g.key_max → (key : List ℕ) → count (keyed key) g.records ≤ 1

pub record Sound (s : List File) : Type 0 where
  pub files : All SoundFile s
  pub ids : (f : ℕ) → count (called f) s ≤ 1
