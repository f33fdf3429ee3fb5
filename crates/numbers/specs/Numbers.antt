-- 'Keep for each handler the number of waits that ask it and of owings it has, per thread for the multi ones.'
use Rattle.std.specs.Prelude.{ℕ, zero, suc, ◌+◌, ◌*◌, ◌-◌, ◌<◌, ◌≤◌, ◌≡◌, Bool, cond, List, eqb, ltb, length, get_or, set, replicate, Option, Some, None}
use Rattle.lists.specs.Lists.{count, find}
use Rattle.tapa.specs.Address.{handler_of, multi}
use Rattle.table.specs.declared.Row.{Row}
use Rattle.table.specs.Table.{is_at}
use Rattle.place.specs.declared.Place.{Place}
use Rattle.rules.specs.declared.Outcome.{Outcome}
use Rattle.rules.specs.declared.Outcome.TheVariants.{Passed, Answered, Swallowed, Event, Turned, Given, Reset, Refused}

-- ---- where a number stands

-- of the handler in row i: 'per thread for the multi ones', else once
abbrev pub cell_in : (i handler thread : ℕ) → ℕ
cell_in i h t = 8 * i + cond (multi h) t 0

-- a handler that has no row has no cell: past the 128
abbrev pub cell_by : Option ℕ → (handler thread : ℕ) → ℕ
cell_by None h t = 128
cell_by (Some i) h t = cell_in i h t

-- a cell of the 128 with the number k, or none where k is past them
abbrev pub Cell : (k : ℕ) → Option ℕ → Type 0
Cell k None = 128 ≤ k
Cell k (Some cell) = (cell ≡ k) × (cell < 128)

unfoldable pub cell_of : List Row → (handler thread : ℕ) → ℕ
cell_of rows h t = cell_by (find (is_at h) rows) h t

-- ---- the law

-- a place, wait or owing, counts for its asked handler, on its thread
abbrev pub in_cell : List Row → ℕ → Place → Bool
in_cell rows j p = eqb (cell_of rows (handler_of p.asked) p.thread) j

-- each of the 128 numbers is how many places, waits and owings, count in its cell
pub record Counted (rows : List Row) (places : List Place) (n : List ℕ) : Type 0 where
  pub long : length n ≡ 128
  pub each : (j : ℕ) → j < 128 → get_or n j 0 ≡ count (in_cell rows j) places

-- ---- what an outcome does to the numbers

-- 'A fresh router has no waits and owes nothing.'
abbrev pub no_numbers : List ℕ
no_numbers = replicate 128 0

-- a cell with another number; past the 128 there is none
abbrev pub put_at : (cell number : ℕ) → List ℕ → List ℕ
put_at k x n = cond (ltb k 128) (set n k x) n

-- one more, and one less, in a cell
abbrev pub raised_at : (cell : ℕ) → List ℕ → List ℕ
raised_at k n = put_at k (get_or n k 0 + 1) n

abbrev pub lowered_at : (cell : ℕ) → List ℕ → List ℕ
lowered_at k n = put_at k (get_or n k 0 - 1) n

-- none left in so many cells from a place on
abbrev pub wiped : (at cells : ℕ) → List ℕ → List ℕ
wiped at zero n = n
wiped at (suc k) n = set (wiped at k n) (at + k) 0

-- nor on any of the eight threads of a row
abbrev pub wiped_row : Option ℕ → List ℕ → List ℕ
wiped_row None n = n
wiped_row (Some i) n = wiped (8 * i) 8 n

-- A passed command is one more for the handler that it asks, an answered or swallowed response one less. A wait that is given up becomes an owing,
-- so the number stays. Replaced: 'its owings end', and it stands in no wait.
abbrev pub numbers_after : List Row → Outcome → List ℕ → List ℕ
numbers_after rows (Passed asker asked kind t) n = raised_at (cell_of rows (handler_of asked) t) n
numbers_after rows (Answered asked asker t k) n = lowered_at (cell_of rows (handler_of asked) t) n
numbers_after rows (Swallowed asked t) n = lowered_at (cell_of rows (handler_of asked) t) n
numbers_after rows Event n = n
numbers_after rows (Turned asker asked t k) n = n
numbers_after rows (Given asker asked t) n = n
numbers_after rows (Reset h) n = wiped_row (find (is_at h) rows) n
numbers_after rows (Refused r) n = n

-- ---- as code keeps them

-- each number is 0 or 1: 'one command a thread' for a multi handler, 'one altogether' for a single one. The law shows it (proofs/Small.antt)
abbrev pub Few : List ℕ → Type 0
Few n = (j : ℕ) → j < 128 → get_or n j 0 ≤ 1

-- one more in a cell of a byte: 255 stays. No number gets there, so in a router this is always the one more
abbrev pub raised_in : (cell : ℕ) → List ℕ → List ℕ
raised_in k n = put_at k (cond (ltb (get_or n k 0) 255) (get_or n k 0 + 1) (get_or n k 0)) n
