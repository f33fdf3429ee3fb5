-- The law of a bench: what the parts that it holds ask of their states, and that its place counts its fields.
use Rattle.std.specs.Prelude.{ℕ, ◌+◌, ◌≤◌, ◌<◌, ◌≡◌, true, List, length, take}
use Rattle.text.specs.Text.{decimal_of}
use Rattle.table.specs.Table.{Held}
use Rattle.queue.specs.Places as queue
use Rattle.router.specs.Router as router
use Rattle.book.specs.Book as book
use Rattle.bench.specs.declared.Bench.{Bench}
use Rattle.bench.specs.declared.Parts.{Parts}
use Rattle.bench.specs.declared.Said.{Said}
use Rattle.bench.specs.declared.Turn.{Turn}

-- what holds of the parts but the data store
pub record Right (p : Parts) : Type 0 where
  pub queue : queue.Lawful p.queue
  pub router : router.Lawful p.router
  pub rows : Held p.rows

-- the same, and of the data store's book with its area
pub record Lawful (b : Bench) (area : List ℕ) : Type 0 where
  pub parts : Right b.parts
  pub store : book.Lawful b.book area

-- the next field's number is at most one more than the bytes before it, and an input has at most 65,536
pub record Sound (b : Bench) (area : List ℕ) : Type 0 where
  pub lawful : Lawful b area
  pub counted : b.number ≤ b.at + 1
  pub near : b.at ≤ 65536

-- a bench before the first field is sound with every area of the right size, whatever stands in it
abbrev pub Ready : Bench → Type 0
Ready b = (area : List ℕ) → length area ≡ 98048 → Sound b area

-- the contents of the field at a bench's place, in an input that is not too long
pub record Placed (input : List ℕ) (b : Bench) (from to : ℕ) : Type 0 where
  pub begins : b.at + 3 ≤ from
  pub ordered : from ≤ to
  pub inside : to ≤ length input
  pub near : to ≤ 65536

-- a line begins with the number of its field
abbrev pub Numbered : ℕ → List ℕ → Type 0
Numbered number line = take (length (decimal_of number)) line ≡ decimal_of number

-- the line of a field: it lies in the buffer
pub record Lines (b : Bench) (line area : List ℕ) (s : Said) : Type 0 where
  pub lawful : Lawful s.next area
  pub fits : s.place ≤ length line
  pub numbered : Numbered b.number line

-- a turn at one place: its line lies in the buffer; where there is more, the place has moved on within the input and the field is counted
pub record Turns (input : List ℕ) (b : Bench) (line area : List ℕ) (t : Turn) : Type 0 where
  pub sound : t.more ≡ true → Sound t.next area
  pub fits : t.length ≤ length line
  pub onwards : t.more ≡ true → b.at < t.next.at
  pub inside : t.more ≡ true → t.next.at ≤ length input
  pub counts : t.more ≡ true → t.next.number ≡ b.number + 1
  pub numbered : t.more ≡ true → 1 ≤ t.length → Numbered b.number line
