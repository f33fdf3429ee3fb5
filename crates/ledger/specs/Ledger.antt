-- The lines that an input of commands prescribes, and what the store is after them.
use Rattle.std.specs.Prelude.{Result, ◌+◌, suc, zero, ℕ, ◌<◌, ◌≤◌, Bool, cond, false, true, ◌++◌, List, [], ◌∷◌, ◌≡◌, ltb, drop, length, replicate, take, Option, Some, None, Ok, Err}
use Rattle.tapa.specs.declared.Refusal.{Refusal}
use Rattle.book.specs.declared.Book.{Book}
use Rattle.fields.specs.Fields.{Steps, broken, give-up, message, over, replaced, then}
use Rattle.fields.specs.Places.{steps_at}
use Rattle.fields.specs.declared.NextStep.{NextStep}
use Rattle.fields.specs.declared.NextStep.TheVariants.{Broken as BrokenStep, End as Ended, GiveUp, Message as MessageStep, Replaced}
use Rattle.image.specs.Image.{Storable}
use Rattle.ledger.specs.declared.Cursor.{Cursor}
use Rattle.ledger.specs.declared.Heard.{Heard}
use Rattle.ledger.specs.declared.Next.{Next}
use Rattle.ledger.specs.declared.Next.TheVariants.{Broken, End, Message}
use Rattle.ledger.specs.declared.Page.{Page}
use Rattle.lines.specs.Lines.{broken_line, long_line}
use Rattle.lists.specs.Lists.{joined}
use Rattle.store.specs.Store.{Answered, handled}
use Rattle.tapa.specs.Refusals.{number_of}
use Rattle.text.specs.Text.{ascii, decimal_of, hexes_of, pen, puts}

-- ---- a line

-- '`N reply` and the reply's bytes in upper-case hex, or `N refused K`'; the store has no answer without a reply
abbrev pub said_text : Result (Option ℕ) Refusal → List ℕ → List ℕ
said_text (Ok (Some n)) reply = ascii " reply " ++ hexes_of (take n reply)
said_text (Ok None) reply = []
said_text (Err r) reply = ascii " refused " ++ decimal_of (number_of r)

abbrev pub said_line : ℕ → Result (Option ℕ) Refusal → List ℕ → List ℕ
said_line n a reply = decimal_of n ++ (said_text a reply ++ (10 ∷ []))

-- the reply buffer: just room for the longest response (shut, since it would be written out wherever it stands)
unfoldable pub blank : List ℕ
blank = replicate 398 0

-- what a message comes to
abbrev pub heard : Book → List ℕ → List ℕ → Answered
heard b area bytes = handled b area bytes blank

abbrev pub line_of : ℕ → Answered → List ℕ
line_of n w = said_line n w.answer w.reply

-- ---- all lines of the steps of an input; n is the number of the first

-- 'fields of tag '02' (a message each)': any other step of a session file is broken here
abbrev pub lines_of : ℕ → Book → List ℕ → Steps → List (List ℕ)
lines_of n b area over = []
lines_of n b area (broken k) = broken_line k ∷ []
lines_of n b area (then (message c) m) = line_of n (heard b area c) ∷ lines_of (n + 1) (heard b area c).book (heard b area c).area m
lines_of n b area (then (give-up t x) m) = broken_line n ∷ []
lines_of n b area (then (replaced x) m) = broken_line n ∷ []

-- a book and its area
pub record Store : Type 0 where
  pub book : Book
  pub area : List ℕ

abbrev pub store : Book → List ℕ → Store
store b area = record { book = b; area = area }

-- the store after so many lines
abbrev pub after : ℕ → Book → List ℕ → Steps → Store
after zero b area m = store b area
after (suc k) b area over = store b area
after (suc k) b area (broken n) = store b area
after (suc k) b area (then (message c) m) = after k (heard b area c).book (heard b area c).area m
after (suc k) b area (then (give-up t x) m) = store b area
after (suc k) b area (then (replaced x) m) = store b area

-- ---- the same from a place on

-- an input that is too long has one line, and no command of it is done
abbrev pub lines_left : List ℕ → Book → List ℕ → Cursor → List (List ℕ)
lines_left s b area c = cond (ltb 65536 (length s)) (long_line ∷ []) (lines_of c.number b area (steps_at s c.number c.at))

abbrev pub store_after : ℕ → List ℕ → Book → List ℕ → Cursor → Store
store_after k s b area c = cond (ltb 65536 (length s)) (store b area) (after k b area (steps_at s c.number c.at))

-- all of an input's lines, and the store that it leaves
abbrev pub start : Cursor
start = record { at = 0; number = 1 }

abbrev pub prescribed : List ℕ → Book → List ℕ → List (List ℕ)
prescribed s b area = lines_left s b area start

-- ---- what the functions promise

abbrev pub next_of : NextStep → Next
next_of (MessageStep a e) = Message a e
next_of (GiveUp t x e) = Broken
next_of (Replaced x e) = Broken
next_of BrokenStep = Broken
next_of Ended = End

-- the next field's number is at most one more than the bytes before it, and an input has at most 65,536
pub record Counted (c : Cursor) : Type 0 where
  pub number : c.number ≤ c.at + 1
  pub near : c.at ≤ 65536

-- a message came to this: its line stands on the page, and the next store is the one it leaves; the reply buffer has its length still
pub record Hearing (n : ℕ) (w : Answered) (old : List ℕ) (at : ℕ) (area new : List ℕ) (h : Heard) : Type 0 where
  pub text : pen new h.used ≡ puts (pen old at) (line_of n w)
  pub book : h.book ≡ w.book
  pub area' : area ≡ w.area
  pub storable : Storable h.book area
  pub long : length w.reply ≡ 398

-- a page: it holds the next lines, the store is the one they leave, and what is left comes after them: the lines, and the store after each of these
pub record Paged (s : List ℕ) (b : Book) (area : List ℕ) (c : Cursor) (old area' new : List ℕ) (p : Page) : Type 0 where
  pub text : pen new p.used ≡ puts (pen old 0) (joined (take p.lines (lines_left s b area c)))
  pub size : 1024 ≤ length old → p.used ≡ length (joined (take p.lines (lines_left s b area c)))
  pub inside : p.used ≤ length new
  pub store' : store p.book area' ≡ store_after p.lines s b area c
  pub few : p.lines ≤ length (lines_left s b area c)
  pub left : p.more ≡ true → lines_left s p.book area' p.next ≡ drop p.lines (lines_left s b area c)
  pub stores : p.more ≡ true → (k : ℕ) → store_after k s p.book area' p.next ≡ store_after (p.lines + k) s b area c
  pub last : p.more ≡ false → drop p.lines (lines_left s b area c) ≡ []
  pub onwards : p.more ≡ true → 1024 ≤ length old → c.at < p.next.at
  pub storable : Storable p.book area'
  pub counted : Counted p.next
