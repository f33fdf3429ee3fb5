-- What the program has in hand: a store, and a buffer with the image that was kept last.
use Rattle.std.specs.Prelude.{ℕ, true, List, ◌≡◌, length, take}
use Rattle.book.specs.declared.Book.{Book}
use Rattle.image.specs.Image.{Storable, image_of}
use Rattle.io.specs.Counts.{IsPrefixLen}
use Rattle.records.specs.declared.Keeping.{Keeping}
use Rattle.records.specs.declared.Turn.{Turn}

-- a buffer that has room for every image, and begins with one of this length
pub record Room (last : List ℕ) (size : ℕ) : Type 0 where
  pub long : length last ≡ 99653
  pub used : IsPrefixLen size last

-- a store whose image is the one that was kept last
pub record Held (b : Book) (area last : List ℕ) (size : ℕ) : Type 0 where
  pub store : Storable b area
  pub room : Room last size
  pub image : take size last ≡ image_of b area

-- where an image could be kept, it is the one in the buffer
pub record Keeps (next last : List ℕ) (k : Keeping) : Type 0 where
  pub room : Room last k.size
  pub image : k.done ≡ true → take k.size last ≡ next

-- where the program goes on, nothing was told that was not kept
abbrev pub Turned : List ℕ → List ℕ → Turn → Type 0
Turned area last t = t.going ≡ true → Held t.book area last t.size
