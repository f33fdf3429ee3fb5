-- Lines gathered in pages.
use Rattle.std.specs.Prelude.{ℕ, zero, suc, ◌-◌, ◌≤◌, ◌≡◌, Bool, true, cond, List, [], ◌∷◌, ltb, length, take, drop}
use Rattle.lists.specs.Lists.{joined}
use Rattle.text.specs.Text.{pen, puts}
use Rattle.run.specs.declared.Session.{Session}
use Rattle.run.specs.State.{Ready, Sight, sight_of, turned}
use Rattle.transcript.specs.Prescribed.{lines_left}
use Rattle.pages.specs.declared.Page.{Page}

-- a session as it means, after n items
abbrev pub after : ℕ → List ℕ → Sight → Sight
after zero s x = x
after (suc n) s x = turned s (after n s x)

-- ---- a page with room for so many bytes: a line is begun while there are 64 left

-- how many lines go onto it
abbrev pub fitting : (room : ℕ) → List (List ℕ) → ℕ
fitting n [] = 0
fitting n (l ∷ ls) = cond (ltb n 64) 0 (suc (fitting (n - length l) ls))

-- whether it is full before the end of the lines is seen: where fewer than 64 bytes are left, the end is not asked for
abbrev pub full : (room : ℕ) → List (List ℕ) → Bool
full n [] = ltb n 64
full n (l ∷ ls) = cond (ltb n 64) true (full (n - length l) ls)

-- how many items are asked for: where the lines are over, one more
abbrev pub turns : (room : ℕ) → List (List ℕ) → ℕ
turns n ls = cond (full n ls) (fitting n ls) (suc (fitting n ls))

-- the contract of `fill_page`: the lines that fit stand at the page's front, and those after them are left
pub record Paged (s : List ℕ) (w : Session) (old new : List ℕ) (p : Page) : Type 0 where
  pub text : pen new p.used ≡ puts (pen old 0) (joined (take (fitting (length old) (lines_left s w)) (lines_left s w)))
  pub size : p.used ≡ length (joined (take (fitting (length old) (lines_left s w)) (lines_left s w)))
  pub inside : p.used ≤ length new
  pub more : p.more ≡ full (length old) (lines_left s w)
  pub left : lines_left s p.next ≡ drop (fitting (length old) (lines_left s w)) (lines_left s w)
  pub moved : sight_of p.next ≡ after (turns (length old) (lines_left s w)) s (sight_of w)
  pub ready : Ready p.next
