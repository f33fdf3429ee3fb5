-- A session explained: 'a block that begins with the session program's own line and then says in plain words what came'.
use Rattle.std.specs.Prelude.{ℕ, ◌≤◌, ◌≡◌, true, false, cond, List, [], ◌∷◌, ◌++◌, ltb, eqb, length, take}
use Rattle.text.specs.Text.{pen, puts}
use Rattle.run.specs.declared.Session.{Session}
use Rattle.run.specs.declared.Turn.{Turn}
use Rattle.run.specs.State.{Ready, items_in, Turns}
use Rattle.run.specs.Start.{Begins}
use Rattle.transcript.specs.Prescribed.{line_with, line_of}
use Rattle.blocks.specs.declared.Page.{Page}
use Rattle.blocks.specs.Words.{indented}

-- ---- 'the first line of each block': of a text the lines that begin with no space

-- within a line: at its start, in one that is shown, in one that is not
pub data Spot : Type 0 where
  start : Spot
  shown : Spot
  hidden : Spot

-- a line feed ends the line
abbrev pub past : (byte : ℕ) → Spot → Spot
past b p = cond (eqb b 10) start p

abbrev pub heads_from : Spot → List ℕ → List ℕ
heads_from p [] = []
heads_from start (b ∷ bs) = cond (eqb b 32) (heads_from hidden bs) (b ∷ heads_from (past b shown) bs)
heads_from shown (b ∷ bs) = b ∷ heads_from (past b shown) bs
heads_from hidden (b ∷ bs) = heads_from (past b hidden) bs

unfoldable pub heads : List ℕ → List ℕ
heads = heads_from start

-- ---- the contracts

-- some words are written from a place on, so few that the page has room for them
pub record Written (old : List ℕ) (place : ℕ) (new : List ℕ) (used : ℕ) : Type 0 where
  pub words : List ℕ
  pub few : length words ≤ 8192
  pub room : length old ≡ 65536
  pub text : pen new used ≡ puts (pen old place) (indented words)

-- words alone: whatever they are, every line is set in
pub record Noted (new : List ℕ) (used : ℕ) : Type 0 where
  pub words : List ℕ
  pub text : take used new ≡ indented words
  pub inside : used ≤ length new

-- the contract of `put_block`: the line of a turn's item, and words below it
pub record Put (t : Turn) (old : List ℕ) (place : ℕ) (new : List ℕ) (used : ℕ) : Type 0 where
  pub mid : List ℕ
  pub end : ℕ
  pub line : pen mid end ≡ puts (pen old place) (line_with t.item t.reply)
  pub below : Written mid end new used

-- blocks from a state to a later one, as the contract of `session_turns::next` tells it: for each item its line and words below it, in whole lines. A block
-- is begun while 24,511 bytes or fewer are used
pub data Blocks (s : List ℕ) (w : Session) : Session → List ℕ → Type 0 where
  none : Blocks s w w []
  block : (v : Session) (text : List ℕ) → Blocks s w v text → length text ≤ 24511
      → (t : Turn) → Turns s v t → t.more ≡ true
      → (words : List ℕ)
      → Blocks s w t.next (text ++ (line_of t.item ++ indented words))

-- the contract of `fill_page`: blocks, and nothing else. There is more where over 24,511 bytes are used; where there is no more, nothing is left
pub record Told (s : List ℕ) (w : Session) (new : List ℕ) (p : Page) : Type 0 where
  pub blocks : Blocks s w p.next (take p.used new)
  pub inside : p.used ≤ length new
  pub more : p.more ≡ ltb 24511 p.used
  pub last : p.more ≡ false → items_in s p.next ≡ []
  pub ready : Ready p.next

-- ---- all blocks

-- what was written so far, in order, as the contracts of `session_begun::begin`, `preface` and `fill_page` tell it: each part is the used part of its page
pub data Explained (s : List ℕ) : Session → List (List ℕ) → Type 0 where
  begun : (w : Session) → Begins s w → (page : List ℕ) (used : ℕ) → Noted page used → Explained s w (take used page ∷ [])
  told : (w : Session) (parts : List (List ℕ)) → Explained s w parts
      → (page : List ℕ) (p : Page) → Told s w page p
      → Explained s p.next (parts ++ (take p.used page ∷ []))
