-- The law of a router's state, said of the arrays that hold it.
use Rattle.std.specs.Prelude.{ℕ, List}
use Rattle.table.specs.Table.{Column, Proper, rows_of}
use Rattle.places.specs.Places as places
use Rattle.rules.specs.Conduct.{Conduct}
use Rattle.ruling.specs.Ruling.{held_view}

-- the law of every state that a start or a call hands back: the cells of n rows and the list of k places hold what the view says and nothing
-- else, the table was accepted (or has no rows, after a refused start), and the places keep the conduct
pub record Lawful (cells : List ℕ) (n : ℕ) (list : List ℕ) (k : ℕ) : Type 0 where
  pub held : places.Lawful list k
  pub column : Column cells n
  pub table : Proper (rows_of cells n)
  pub conduct : Conduct (held_view cells n list k)
