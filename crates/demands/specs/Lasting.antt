-- Demand 2, of the data store that outlives its program: the runs of `Stored`, and anywhere between two messages the store may be saved and loaded
-- again, by another program and into other memory. The history lists the messages alone: a restart is none.
use Rattle.std.specs.Prelude.{ℕ, List, [], ◌∷◌, ◌≡◌, length, Ok}
use Rattle.book.specs.Book.{book_of, no_kinds}
use Rattle.book.specs.declared.Book.{Book}
use Rattle.demands.specs.Stored.{AsFiles, Exchange}
use Rattle.image.specs.Image.{image_of, load_area, load_of, loaded}
use Rattle.lists.specs.Lists.{Bytes}
use Rattle.store.specs.Store.{Handling, handled}
use Rattle.store.specs.declared.Handled.{Handled}

-- the newest exchange stands first
pub data Lasting : List Exchange → Book → List ℕ → Type 0 where
  begun : (area : List ℕ) → length area ≡ 98048 → Lasting [] (book_of no_kinds []) area
  went_on : (h : List Exchange) (b : Book) (area : List ℕ) → Lasting h b area
      → (message before after area' : List ℕ) (out : Handled) → Bytes message → Handling (handled b area message before) area' after out
      → Lasting (record { message = message; before = before; answer = out.answer; after = after } ∷ h) out.next area'
  restarted : (h : List Exchange) (b : Book) (area : List ℕ) → Lasting h b area → (lent : List ℕ) → length lent ≡ 98048
      → Lasting h (loaded (load_of (image_of b area) lent)) (load_area (image_of b area) lent)

-- all that was promised of a store without restarts; and its image is always taken back, as the very book
pub record Outlives (h : List Exchange) (b : Book) (area : List ℕ) : Type 0 where
  pub files : AsFiles h b area
  pub back : (lent : List ℕ) → length lent ≡ 98048 → load_of (image_of b area) lent ≡ Ok b
