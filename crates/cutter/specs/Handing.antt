-- A whole cutting: the commands of a response, and what calls with one lent buffer after another hand out.
use Rattle.std.specs.Prelude.{ℕ, zero, suc, ◌+◌, ◌/◌, ◌≤◌, ◌≡◌, Bool, List, [], ◌∷◌, ◌++◌, leb, length, take, drop, get_or, Option, Some, None, Result, Ok, Err}
use Rattle.tapa.specs.declared.Refusal.{Refusal}
use Rattle.cutter.specs.declared.Cutter.{Cutter}
use Rattle.cutter.specs.Cutting.{command_at, cut_at, place_after, written_at, step_of}

-- ---- the commands of a response's data

-- how many there are: the data's length by 248, rounded up
abbrev pub command_count : ℕ → ℕ
command_count n = (n + 247) / 248

-- so many commands, from a place on
abbrev pub commands_from : ℕ → List ℕ → ℕ → ℕ → List (List ℕ)
commands_from zero part thread at = []
commands_from (suc n) part thread at = command_at part thread at ∷ commands_from n part thread (at + 248)

abbrev pub commands_of : List ℕ → ℕ → List (List ℕ)
commands_of part thread = commands_from (command_count (length part)) part thread 0

-- ---- what the PSAM reads in a command

abbrev pub p2_of : List ℕ → ℕ
p2_of command = get_or command 3 0

-- as many bytes as Lc says, after the head
abbrev pub data_of : List ℕ → List ℕ
data_of command = take (get_or command 4 0) (drop 5 command)

-- the data of some commands, one after the other
abbrev pub together : List (List ℕ) → List ℕ
together [] = []
together (c ∷ cs) = data_of c ++ together cs

pub record IsLast (command : List ℕ) : Type 0 where
  pub p2 : p2_of command ≡ 0x00
  pub some : 1 ≤ length (data_of command)
  pub few : length (data_of command) ≤ 248

pub record IsMore (command : List ℕ) : Type 0 where
  pub p2 : p2_of command ≡ 0x01
  pub full : length (data_of command) ≡ 248

-- 'All but the last have P2 '01' and 248 bytes; the last has P2 '00' and 1 to 248.'
abbrev pub Shaped : List (List ℕ) → Type 0
Shaped [] = Unit {0}
Shaped (c ∷ []) = IsLast c
Shaped (c ∷ d ∷ cs) = IsMore c × Shaped (d ∷ cs)

-- ---- calls, each with a buffer lent for it

-- the command that a call handed out, if it did
abbrev pub handed_out : Result (Option ℕ) Refusal → List ℕ → List (List ℕ)
handed_out (Ok (Some n)) after = take n after ∷ []
handed_out (Ok None) after = []
handed_out (Err r) after = []

abbrev pub handed_by : List ℕ → ℕ → ℕ → List (List ℕ) → List (List ℕ)
handed_by part thread at [] = []
handed_by part thread at (b ∷ bs) =
    handed_out (cut_at part at b) (written_at part thread at b)
    ++ handed_by part thread (place_after (cut_at part at b) part at) bs

-- the same calls on a cutter, each on the one that the call before handed back
abbrev pub handed_from : Cutter → List (List ℕ) → List (List ℕ)
handed_from c [] = []
handed_from c (b ∷ bs) =
    handed_out (step_of c b).cut (written_at c.part.now c.thread c.at b) ++ handed_from (step_of c b).rest bs

-- a buffer that no handing out refuses
abbrev pub long_enough : List ℕ → Bool
long_enough b = leb 254 (length b)
