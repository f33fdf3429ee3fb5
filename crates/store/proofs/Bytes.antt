-- Whole messages in bytes: requests with their replies, and what is refused before it is looked at.
use Prim.Native.Nat.{ℕ, ◌≤◌}
use Rattle.std.specs.Prelude.{Some, Ok}
use mathlib.Core.List.{◌++◌, List, [], ◌∷◌}
use mathlib.Core.Path.{refl, ◌≡◌}
use lib.ListN.{drop, length, replicate}
use borrow.Author.Tests.{le-ltb}
use Rattle.book.specs.Book.{book_of, no_kinds}
use Rattle.book.specs.declared.Book.{Book}
use Rattle.files.specs.Asked.{create_shape, done_by, key_shape, mark_shape}
use Rattle.files.specs.Files.{File}
use Rattle.lists.specs.Least.{least}
use Rattle.message.specs.Message.{message_of, part_of, read_of}
use Rattle.replies.specs.Said.{said_answer}
use Rattle.store.specs.Plain.{told_of}
use Rattle.store.specs.Store.{deed_of, elsewhere, handled}
use Rattle.tapa.specs.Address.{category_of}
use Rattle.tapa.specs.Said.{Said, refused, reply, says}

-- ---- of the plain list: any buffer of 398 bytes or more, and the lent bytes after the reply stay

-- a file for texts with keys of at most 4 bytes and data of at most 32, and the opening text 'Hi' under the key 'OP'
abbrev texts : List File
texts = record { id = 1; key_max = 4; rec_max = 32; records = record { pointer = 1; key = 0x4F ∷ 0x50 ∷ []; bytes = 0x48 ∷ 0x69 ∷ [] } ∷ [] } ∷ []

module _ (buffer : List ℕ) (room : 398 ≤ length buffer) where
  -- a message to these files has this reply at the start of the buffer, and the files are then these
  abbrev replies : List File → List ℕ → ℕ → List ℕ → List File → Type 0
  replies s message n bytes after = told_of s message buffer ≡ record { answer = Ok (Some n); files = after; reply = bytes ++ drop n buffer }

  -- Create File
  pub create-message : replies [] (5 ∷ 0 ∷ 1 ∷ 0 ∷ 0x90 ∷ 3 ∷ 0 ∷ 4 ∷ 1 ∷ 4 ∷ 0 ∷ 0x20 ∷ []) 12 (1 ∷ 0 ∷ 5 ∷ 0 ∷ 0xFF ∷ 3 ∷ 0 ∷ 4 ∷ 0 ∷ 1 ∷ 0 ∷ 0 ∷ [])
      (record { id = 1; key_max = 4; rec_max = 32; records = [] } ∷ [])
  unfolding told_of message_of read_of part_of elsewhere category_of done_by create_shape least
  create-message = rw (le-ltb (length buffer) 398 room)

  -- Find and Get File Record, to '0580' from '0182' on thread 'C8'; and a key that is not there
  pub find-message : replies texts (5 ∷ 0x80 ∷ 1 ∷ 0x82 ∷ 0x95 ∷ 0xC8 ∷ 0 ∷ 5 ∷ 0 ∷ 1 ∷ 2 ∷ 0x4F ∷ 0x50 ∷ []) 19
      (1 ∷ 0x82 ∷ 5 ∷ 0x80 ∷ 0xFF ∷ 0xC8 ∷ 0 ∷ 0x0B ∷ 2 ∷ 0x4F ∷ 0x50 ∷ 0 ∷ 2 ∷ 0x48 ∷ 0x69 ∷ 0 ∷ 1 ∷ 0 ∷ 0 ∷ []) texts
      × replies texts (5 ∷ 0 ∷ 1 ∷ 0 ∷ 0x95 ∷ 3 ∷ 0 ∷ 5 ∷ 0 ∷ 1 ∷ 2 ∷ 0x4F ∷ 0x51 ∷ []) 10 (1 ∷ 0 ∷ 5 ∷ 0 ∷ 0xFF ∷ 3 ∷ 0 ∷ 2 ∷ 0xFF ∷ 0x56 ∷ []) texts
  unfolding told_of message_of read_of part_of elsewhere category_of done_by key_shape
  find-message = rw (le-ltb (length buffer) 398 room) (refl, refl)

  -- ---- of a book and its area: Create File in a fresh store, whatever the area holds
  pub create-handled : (area : List ℕ) → (handled (book_of no_kinds []) area (5 ∷ 0 ∷ 1 ∷ 0 ∷ 0x90 ∷ 3 ∷ 0 ∷ 4 ∷ 1 ∷ 4 ∷ 0 ∷ 0x20 ∷ []) buffer).reply
      ≡ (1 ∷ 0 ∷ 5 ∷ 0 ∷ 0xFF ∷ 3 ∷ 0 ∷ 4 ∷ 0 ∷ 1 ∷ 0 ∷ 0 ∷ []) ++ drop 12 buffer
  unfolding handled message_of read_of part_of elsewhere category_of deed_of no_kinds
  create-handled area = rw (le-ltb (length buffer) 398 room)

  -- ---- of a book and its area: Open Handler and Close Handler, whatever they hold
  module _ (b : Book) (area : List ℕ) where
    abbrev marked : List ℕ → List ℕ → Type 0
    marked message bytes = handled b area message buffer ≡ record { answer = Ok (Some 10); book = b; area = area; reply = bytes ++ drop 10 buffer }

    pub mark-message : marked (5 ∷ 0 ∷ 1 ∷ 0 ∷ 0xF0 ∷ 3 ∷ 0 ∷ 0 ∷ []) (1 ∷ 0 ∷ 5 ∷ 0 ∷ 0xFF ∷ 3 ∷ 0 ∷ 2 ∷ 0 ∷ 0 ∷ [])
        × marked (5 ∷ 0 ∷ 1 ∷ 0 ∷ 0xF1 ∷ 3 ∷ 0 ∷ 0 ∷ []) (1 ∷ 0 ∷ 5 ∷ 0 ∷ 0xFF ∷ 3 ∷ 0 ∷ 2 ∷ 0 ∷ 0 ∷ [])
        × marked (5 ∷ 0 ∷ 1 ∷ 0 ∷ 0xF0 ∷ 3 ∷ 0 ∷ 1 ∷ 0 ∷ []) (1 ∷ 0 ∷ 5 ∷ 0 ∷ 0xFF ∷ 3 ∷ 0 ∷ 2 ∷ 0xFF ∷ 0xFB ∷ [])
    unfolding handled message_of read_of part_of elsewhere category_of deed_of mark_shape
    mark-message = rw (le-ltb (length buffer) 398 room) (refl, refl, refl)

-- ---- what is refused: a buffer of 397 bytes, another category, a response

module _ (b : Book) (area : List ℕ) where
  abbrev said : ℕ → List ℕ → Said → Type 0
  said n message w = said_answer (handled b area message (replicate n 0x55)).answer ≡ w

  pub refusals : said 397 (5 ∷ 0 ∷ 1 ∷ 0 ∷ 0xF0 ∷ 3 ∷ 0 ∷ 0 ∷ []) (refused 9)
      × said 398 (5 ∷ 0 ∷ 1 ∷ 0 ∷ 0xF0 ∷ 3 ∷ 0 ∷ 0 ∷ []) (says reply (10 ∷ []))
      × said 398 (4 ∷ 0 ∷ 1 ∷ 0 ∷ 0xF0 ∷ 3 ∷ 0 ∷ 0 ∷ []) (refused 15)
      × said 398 (6 ∷ 0 ∷ 1 ∷ 0 ∷ 0xF0 ∷ 3 ∷ 0 ∷ 0 ∷ []) (refused 15)
      × said 398 (0x85 ∷ 0 ∷ 1 ∷ 0 ∷ 0xF0 ∷ 3 ∷ 0 ∷ 0 ∷ []) (refused 15)
      × said 398 (5 ∷ 0 ∷ 1 ∷ 0 ∷ 0xFF ∷ 3 ∷ 0 ∷ 2 ∷ 0 ∷ 0 ∷ []) (refused 15)
      × said 398 (5 ∷ 0x80 ∷ 1 ∷ 0 ∷ 0xF0 ∷ 3 ∷ 0 ∷ 0 ∷ []) (says reply (10 ∷ []))
      × said 398 (5 ∷ 0xFF ∷ 1 ∷ 0 ∷ 0xF0 ∷ 0xFF ∷ 0 ∷ 0 ∷ []) (says reply (10 ∷ []))
  unfolding handled read_of part_of elsewhere category_of deed_of mark_shape
  refusals = (refl, refl, refl, refl, refl, refl, refl, refl)
