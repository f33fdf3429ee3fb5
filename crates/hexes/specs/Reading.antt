-- From text to bytes: hex digits in any grouping, a byte's two digits on one line, and comments from `#` to the end of the line.
use Rattle.std.specs.Prelude.{ℕ, ◌+◌, ◌*◌, ◌-◌, ◌<◌, ◌≡◌, cond, List, [], ◌∷◌, eqb, ltb, length, Result, Ok, Err, ⊤}
use Rattle.lists.specs.Lists.{checks}
use Rattle.text.specs.Text.{pen, puts}
use Rattle.hexes.specs.declared.Mistake.{Mistake}
use Rattle.hexes.specs.declared.Mistake.TheVariants.{Odd, Foreign}
use Rattle.hexes.specs.declared.Class.{Class}
use Rattle.hexes.specs.declared.Class.TheVariants.{Digit, Blank, Feed, Hash, Other}
use Rattle.hexes.specs.declared.Mode.{Mode}
use Rattle.hexes.specs.declared.Mode.TheVariants.{Between, Half, Comment}
use Rattle.hexes.specs.declared.Step.{Step}
use Rattle.hexes.specs.declared.Step.TheVariants.{Go, Byte, Stop}
use Rattle.hexes.specs.declared.Taken.{Taken}
use Rattle.hexes.specs.declared.Spot.{Spot}

-- ---- one character

-- a digit with its value, a blank (space, tab, CR), LF, '#', or any other character
unfoldable pub class_of : ℕ → Class
class_of c =
    checks
    ((eqb c 32, Blank)
    ∷ (eqb c 9, Blank)
    ∷ (eqb c 13, Blank)
    ∷ (eqb c 10, Feed)
    ∷ (eqb c 35, Hash)
    ∷ (ltb c 48, Other)
    ∷ (ltb c 58, Digit (c - 48))
    ∷ (ltb c 65, Other)
    ∷ (ltb c 71, Digit (c - 55))
    ∷ (ltb c 97, Other)
    ∷ (ltb c 103, Digit (c - 87))
    ∷ [])
    Other

-- a digit is below 16, and so is one that was read
abbrev pub Low : Class → Type 0
Low (Digit d) = d < 16
Low Blank = ⊤
Low Feed = ⊤
Low Hash = ⊤
Low Other = ⊤

abbrev pub Begun : Mode → Type 0
Begun Between = ⊤
Begun (Half d at) = d < 16
Begun Comment = ⊤

abbrev pub GoesOn : Step → Type 0
GoesOn (Go m) = Begun m
GoesOn (Byte b) = ⊤
GoesOn (Stop e) = ⊤

-- between bytes, after the first digit of one, and in a comment, which goes to the end of its line
unfoldable pub step_of : Mode → Class → ℕ → Step
step_of Between (Digit d) i = Go (Half d i)
step_of Between Blank i = Go Between
step_of Between Feed i = Go Between
step_of Between Hash i = Go Comment
step_of Between Other i = Stop (Foreign i)
step_of (Half d at) (Digit e) i = Byte (d * 16 + e)
step_of (Half d at) Blank i = Go (Half d at)
step_of (Half d at) Feed i = Stop (Odd at)
step_of (Half d at) Hash i = Stop (Odd at)
step_of (Half d at) Other i = Stop (Foreign i)
step_of Comment (Digit d) i = Go Comment
step_of Comment Blank i = Go Comment
step_of Comment Feed i = Go Between
step_of Comment Hash i = Go Comment
step_of Comment Other i = Go Comment

-- ---- a whole text

-- the bytes up to the end, or to the first mistake
pub record Scan : Type 0 where
  pub bytes : List ℕ
  pub ends : Result ⊤ Mistake

abbrev pub stopped : Result ⊤ Mistake → Scan
stopped e = record { bytes = []; ends = e }

abbrev pub then : ℕ → Scan → Scan
then b s = record { bytes = b ∷ s.bytes; ends = s.ends }

abbrev pub on_step : Step → (Mode → Scan) → Scan
on_step (Go m) f = f m
on_step (Byte b) f = then b (f Between)
on_step (Stop e) f = stopped (Err e)

abbrev pub ended_of : Mode → Result ⊤ Mistake
ended_of Between = Ok tt
ended_of (Half d at) = Err (Odd at)
ended_of Comment = Ok tt

-- from a character on, whose place is i
abbrev pub scan_from : Mode → ℕ → List ℕ → Scan
scan_from mode i [] = stopped (ended_of mode)
scan_from mode i (c ∷ s) = on_step (step_of mode (class_of c) i) (λ m. scan_from m (i + 1) s)

unfoldable pub scan_of : List ℕ → Scan
scan_of s = scan_from Between 0 s

-- the bytes stand at the start of the buffer, as far as there is room, and are counted
pub record Reads (text old new : List ℕ) (r : Taken) : Type 0 where
  pub held : pen new r.length ≡ puts (pen old 0) (scan_of text).bytes
  pub counted : r.count ≡ length (scan_of text).bytes
  pub ends : r.ends ≡ (scan_of text).ends

-- ---- lines and columns, from 1

abbrev pub spot_from : ℕ → ℕ → List ℕ → Spot
spot_from line column [] = record { line = line; column = column }
spot_from line column (c ∷ s) = cond (eqb c 10) (spot_from (line + 1) 1 s) (spot_from line (column + 1) s)

-- the place after some text
unfoldable pub spot_of : List ℕ → Spot
spot_of s = spot_from 1 1 s
