-- A column is known by its rows. So a contract that gives the rows and the law of the column leaves one content of it.
use Prim.Native.Nat.{ℕ}
use mathlib.Core.Path.{◌≡◌}
use mathlib.Core.Bool.{Bool}
use mathlib.Core.List.{List}
use Rattle.lists.proofs.Arrays as arrays
use Rattle.table.specs.Table.{pack, unpack, rows_of, Column, Opened}

-- columns that hold the same rows are the same
pub determined : (c c' : List ℕ) (n n' : ℕ) → Column c n → Column c' n' → rows_of c n ≡ rows_of c' n' → (n ≡ n') × (c ≡ c')
determined c c' n n' h g e = arrays.determined 16 pack unpack c c' n n' h g e

-- `set_open`: two contents of the column that meet its contract are the same
pub one-set-open : (before c c' : List ℕ) (n h : ℕ) (b : Bool) → Opened before c n h b → Opened before c' n h b → c ≡ c'
one-set-open before c c' n h b p q = (arrays.one-array 16 pack unpack _ c c' n n p q).1
