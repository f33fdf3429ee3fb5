-- `table_main::main` meets what it calls: the rows of a set-up are lawful. Assumes nothing.
use Rattle.std.proofs.Common.{ℕ, ◌≡◌, List, take, sym, ap, subst, ◌∙◌}
use Rattle.table.specs.declared.Rows.{Rows}
use Rattle.table.specs.Table.{Column, Held}
use Rattle.setup.proofs.Settled.{lent-settled}
use Rattle.table_main.proofs.main.Goals as goal

-- the column and the count of rows that are held
column-of : (t : Rows) (l : List ℕ) (n : ℕ) → l ≡ t.cells → n ≡ t.count → Held t → Column l n
column-of t l n e d h = rw (e, d) h

pub say_look_ups-requires : goal.say_look_ups-requires
say_look_ups-requires c =
    column-of c.rows-held.result _ _ c.cells.ensures c.count.ensures
    (subst Held (sym c.rows-held.ensures) (lent-settled (take 16 c.plenty-rows.result) _ (sym c.in-Ok.ensures)).held)
