-- A session as a picture: 'in the SVG nothing of the input's bytes is written but as hex digits'.
use Rattle.std.specs.Prelude.{ℕ, ◌≤◌, ◌≡◌, true, false, List, [], ◌∷◌, ◌++◌, ltb, length, take}
use Rattle.text.specs.Text.{pen, puts}
use Rattle.run.specs.declared.Session.{Session}
use Rattle.run.specs.declared.Turn.{Turn}
use Rattle.run.specs.State.{Ready, items_in, Turns}
use Rattle.run.specs.Start.{Begins}
use Rattle.forms.specs.Forms.{forms_text}
use Rattle.picture.specs.declared.Page.{Page}

-- lists of forms of the sheet, whichever were chosen, one after the other
pub data Forms (sheet : List ℕ) : List ℕ → Type 0 where
  no-form : Forms sheet []
  more-forms : (text : List ℕ) → Forms sheet text → (list : List ℕ) (count : ℕ) → Forms sheet (text ++ forms_text sheet list count)

-- a part of the picture: forms of the sheet and nothing else; past the page's end nothing is written
pub record Drawn (sheet new : List ℕ) (used : ℕ) : Type 0 where
  pub all : List ℕ
  pub forms : Forms sheet all
  pub text : take used new ≡ take (length new) all
  pub inside : used ≤ length new

-- a text that is forms of the sheet, as far as there was room for them
pub record Formed (sheet text : List ℕ) : Type 0 where
  pub all : List ℕ
  pub forms : Forms sheet all
  pub room : ℕ
  pub is : text ≡ take room all

-- the contract of `put_row`: a list of forms is written from a place on
pub record Added (sheet old : List ℕ) (place : ℕ) (new : List ℕ) (used : ℕ) : Type 0 where
  pub list : List ℕ
  pub count : ℕ
  pub room : length old ≡ 65536
  pub text : pen new used ≡ puts (pen old place) (forms_text sheet list count)

-- rows from a state to a later one, as the contract of `session_turns::next` tells it: for each item a list of forms. A row is begun while 32,768 bytes or
-- fewer are used, so only a row longer than half a page could be cut
pub data Rows (s sheet : List ℕ) (w : Session) : Session → List ℕ → Type 0 where
  none : Rows s sheet w w []
  row : (v : Session) (text : List ℕ) → Rows s sheet w v text → length text ≤ 32768
      → (t : Turn) → Turns s v t → t.more ≡ true
      → (list : List ℕ) (count : ℕ)
      → Rows s sheet w t.next (text ++ forms_text sheet list count)

-- the contract of `fill_page`: rows, and nothing else. There is more where over 32,768 bytes are used; where there is no more, nothing is left
pub record Part (s : List ℕ) (w : Session) (sheet new : List ℕ) (p : Page) : Type 0 where
  pub all : List ℕ
  pub rows : Rows s sheet w p.next all
  pub text : take p.used new ≡ take (length new) all
  pub inside : p.used ≤ length new
  pub more : p.more ≡ ltb 32768 p.used
  pub last : p.more ≡ false → items_in s p.next ≡ []
  pub ready : Ready p.next

-- what was written so far, in order, as the contracts of `session_begun::begin`, `opening` and `fill_page` tell it: each part is the used part of its page
pub data Pictured (s sheet : List ℕ) : Session → List (List ℕ) → Type 0 where
  begun : (w : Session) → Begins s w → (page : List ℕ) (used : ℕ) → Drawn sheet page used → Pictured s sheet w (take used page ∷ [])
  added : (w : Session) (parts : List (List ℕ)) → Pictured s sheet w parts
      → (page : List ℕ) (p : Page) → Part s w sheet page p
      → Pictured s sheet p.next (parts ++ (take p.used page ∷ []))
