-- Demand 2, of the data store: a run as the contract of `store_answers::handle` tells it. It begins with a fresh book and an area of the right length, and
-- goes on with messages, each on the book and the area that the last one left. The history lists the messages with the reply buffers that were
-- lent, and what came of each.
use Rattle.std.specs.Prelude.{ℕ, List, [], ◌∷◌, ◌≡◌, length, Option, Result}
use Rattle.tapa.specs.declared.Refusal.{Refusal}
use Rattle.book.specs.Book.{Lawful, book_of, no_kinds, view_of}
use Rattle.book.specs.declared.Book.{Book}
use Rattle.files.specs.Files.{File}
use Rattle.files.specs.Sound.{Sound}
use Rattle.lists.specs.Lists.{Bytes}
use Rattle.store.specs.Plain.{Told, told_of}
use Rattle.store.specs.Store.{Handling, handled}
use Rattle.store.specs.declared.Handled.{Handled}

-- a message, the reply buffer that was lent for it, the answer, and what the buffer then holds
pub record Exchange : Type 0 where
  pub message : List ℕ
  pub before : List ℕ
  pub answer : Result (Option ℕ) Refusal
  pub after : List ℕ

-- the newest exchange stands first
pub data Stored : List Exchange → Book → List ℕ → Type 0 where
  begun : (area : List ℕ) → length area ≡ 98048 → Stored [] (book_of no_kinds []) area
  went_on : (h : List Exchange) (b : Book) (area : List ℕ) → Stored h b area
      → (message before after area' : List ℕ) (out : Handled) → Bytes message → Handling (handled b area message before) area' after out
      → Stored (record { message = message; before = before; answer = out.answer; after = after } ∷ h) out.next area'

-- ---- the same messages, said of a plain list of files alone

abbrev pub files_after : List Exchange → List File
files_after [] = []
files_after (x ∷ h) = (told_of (files_after h) x.message x.before).files

abbrev pub SaidBy : Told → Exchange → Type 0
SaidBy t x = (x.answer ≡ t.answer) × (x.after ≡ t.reply)

abbrev pub EachSaid : List Exchange → Type 0
EachSaid [] = Unit {0}
EachSaid (x ∷ h) = SaidBy (told_of (files_after h) x.message x.before) x × EachSaid h

-- 'Every command does to the store what it does to a plain list of files, each a list of records.'
pub record AsFiles (h : List Exchange) (b : Book) (area : List ℕ) : Type 0 where
  -- 'the law shown of every state', which is all that a call requires
  pub law : Lawful b area
  -- what book and area stand for, every answer and every byte of the replies are those of the plain list
  pub files : view_of b area ≡ files_after h
  pub said : EachSaid h
  -- identifiers, pointers and the keys of a file with keys stand once, and lengths are within the file's
  pub sound : Sound (view_of b area)
