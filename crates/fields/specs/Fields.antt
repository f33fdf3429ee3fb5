-- The session program: the input as a list of fields, and what these fields say.
use Rattle.std.specs.Prelude.{ℕ, zero, suc, ◌+◌, ◌*◌, Bool, ◌&&◌, cond, List, [], ◌∷◌, ◌++◌, eqb, leb, length, take, drop, get_or, Option, Some, None}
use Rattle.lists.specs.Lists.{checks}
use Rattle.tapa.specs.Numbers.{word_at, two_bytes}

-- ---- the file: 'fields of one tag byte, two length bytes (high first), contents'

-- it ends after a whole field, or within one: 'header or contents cut by the end of the input'; a cut field still has its tag
pub data File : Type 0 where
  ended : File
  cut : ℕ → File
  field : ℕ → List ℕ → File → File

-- f is fuel
abbrev pub parse : ℕ → List ℕ → File
parse zero s = ended
parse (suc f) [] = ended
parse (suc f) (t ∷ []) = cut t
parse (suc f) (t ∷ h ∷ []) = cut t
parse (suc f) (t ∷ h ∷ l ∷ s) =
    cond (leb (h * 256 + l) (length s))
    (field t (take (h * 256 + l) s) (parse f (drop (h * 256 + l) s)))
    (cut t)

-- a field has three bytes at least, so the length is fuel enough
unfoldable pub file_of : List ℕ → File
file_of s = parse (length s) s

-- a field as bytes
abbrev pub field_bytes : ℕ → List ℕ → List ℕ
field_bytes t c = t ∷ (two_bytes (length c) ++ c)

-- ---- what a field says: its tag, and the length and bytes of its contents c

-- ''01' row (address, then 1 open or 0 closed)'
unfoldable pub row_of : List ℕ → Option (ℕ × Bool)
row_of c = cond (eqb (length c) 3 && leb (get_or c 2 0) 1) (Some (word_at c 0, eqb (get_or c 2 0) 1)) None

pub data Step : Type 0 where
  message : List ℕ → Step
  give-up : (thread address : ℕ) → Step
  replaced : ℕ → Step

-- ''02' message; '03' give up (3 bytes: thread, address); '04' replaced (2 bytes)'
unfoldable pub step_of : ℕ → List ℕ → Option Step
step_of t c =
    checks
    ((eqb t 2, Some (message c))
    ∷ (eqb t 3 && eqb (length c) 3, Some (give-up (get_or c 0 0) (word_at c 1)))
    ∷ (eqb t 4 && eqb (length c) 2, Some (replaced (word_at c 0)))
    ∷ [])
    None

-- ---- the steps: up to the end, or to the first broken field and its number, 'all fields counted from 1'

pub data Steps : Type 0 where
  over : Steps
  broken : ℕ → Steps
  then : Step → Steps → Steps

abbrev pub step_then : ℕ → Option Step → Steps → Steps
step_then n None m = broken n
step_then n (Some st) m = then st m

-- n is the number of the first field here; a late row says no step, so it is broken
abbrev pub steps_of : ℕ → File → Steps
steps_of n ended = over
steps_of n (cut t) = broken n
steps_of n (field t c r) = step_then n (step_of t c) (steps_of (n + 1) r)

-- ---- the rows, and then the steps: 'The table is checked before the first later field is judged, or at the end; a broken row comes before that.'

pub data Script : Type 0 where
  torn : ℕ → Script
  begins : Steps → Script
  row-then : ℕ → Bool → Script → Script

abbrev pub row_then : ℕ → Option (ℕ × Bool) → Script → Script
row_then n None m = torn n
row_then n (Some r) m = row-then r.0 r.1 m

-- what has a row's tag is a row, also where it is cut; any other tag begins the steps
abbrev pub script_of : ℕ → File → Script
script_of n ended = begins over
script_of n (cut t) = cond (eqb t 1) (torn n) (begins (steps_of n (cut t)))
script_of n (field t c r) = cond (eqb t 1) (row_then n (row_of c) (script_of (n + 1) r)) (begins (steps_of n (field t c r)))

-- ---- 'a broken field .. prints `broken` and its number': the first one, if there is one

abbrev pub broken_step : Steps → Option ℕ
broken_step over = None
broken_step (broken n) = Some n
broken_step (then st m) = broken_step m
