-- What every store is from the first call on: a fresh book stands for no file, the plain list stays sound, and the law of book and area is kept.
use Prim.Native.Nat.{ℕ}
use Rattle.tapa.specs.declared.Refusal.{Refusal}
use Rattle.message.specs.declared.Head.{Head}
use Rattle.std.specs.Prelude.{Result, Ok, Err}
use mathlib.Core.List.{List, []}
use mathlib.Core.Path.{refl, ◌≡◌}
use lib.ListN.{length}
use Rattle.book.proofs.Tables.{fresh-law}
use Rattle.book.specs.Book.{Lawful, book_of, no_kinds, view_of}
use Rattle.book.specs.declared.Book.{Book}
use Rattle.files.proofs.Sounds.{sound-done, sound_none}
use Rattle.files.specs.Files.{File}
use Rattle.files.specs.Sound.{Sound}
use Rattle.lists.specs.Lists.{Bytes}
use Rattle.message.specs.Message.{part_of}
use Rattle.store.proofs.Right.{as_plain}
use Rattle.store.specs.Plain.{tells_after, told_of}
use Rattle.store.specs.Store.{checked, handled}

-- ---- at first

-- any area of 98,048 bytes will do
pub fresh-lawful : (area : List ℕ) → length area ≡ 98048 → Lawful (book_of no_kinds []) area
fresh-lawful area e = fresh-law area e

pub fresh-view : (area : List ℕ) → view_of (book_of no_kinds []) area ≡ []
unfolding no_kinds
fresh-view area = refl

pub fresh-sound : (area : List ℕ) → Sound (view_of (book_of no_kinds []) area)
fresh-sound area = rw (fresh-view area) sound_none

-- ---- after every call

told-sound : (s : List File) (message reply : List ℕ) → Sound s → Sound (told_of s message reply).files
unfolding told_of
told-sound s message reply w = after (checked (length reply) message)
  where
    after : (c : Result Head Refusal) → Sound (tells_after c (part_of message) s reply).files
    after (Err r) = w
    after (Ok h) = sound-done h.kind (part_of message) s w

-- pointers of a file differ and are 1 to 256, keys of a keyed file differ, lengths are within the file's, identifiers differ
pub sound-kept : (b : Book) (area message reply : List ℕ) → Lawful b area → Bytes message → Sound (view_of b area)
    → Sound (view_of (handled b area message reply).book (handled b area message reply).area)
sound-kept b area message reply law bytes w = rw (as_plain b area law message reply bytes).files (told-sound (view_of b area) message reply w)

-- the law that `handle` requires
pub law-kept : (b : Book) (area message reply : List ℕ) → Lawful b area → Bytes message → Lawful (handled b area message reply).book (handled b area message reply).area
law-kept b area message reply law bytes = (as_plain b area law message reply bytes).lawful
