-- `setup::check_column` meets its contract: each answer by the tests that led there. Assumes nothing.
use Rattle.std.proofs.Common.{ℕ, ◌≡◌, List, length, sym, arith, rules}
use Rattle.lists.proofs.Arrays.{len}
use Rattle.table.specs.Table.{unpack, rows_of}
use Rattle.table.proofs.Judged.{judge-none, judge-many, judge-shape, judge-repeat, judge-multi, judge-accepted}
use Rattle.table.proofs.Cells.{narrow}
use Rattle.setup.proofs.check_column.Goals as goal

-- as many rows as are counted
held : (l : List ℕ) (n : ℕ) → length (rows_of l n) ≡ n
held l n = len unpack l n

pub returns-then-count-lt1 : goal.returns-then-count-lt1
returns-then-count-lt1 c =
    let a = c.args in
    sym (judge-none (rows_of a.cells.now a.count) (omega (arith, held a.cells.now a.count)))

pub returns-then-count-gt16 : goal.returns-then-count-gt16
returns-then-count-gt16 c =
    let a = c.args in
    sym (judge-many (rows_of a.cells.now a.count) (omega (arith, held a.cells.now a.count)))

pub returns-then-has_misshapen : goal.returns-then-has_misshapen
returns-then-has_misshapen c =
    let a = c.args in
    sym (judge-shape (rows_of a.cells.now a.count) (omega (arith, held a.cells.now a.count)) (omega (arith, held a.cells.now a.count)) (sym c.if-has_misshapen.ensures))

pub has_repeats-requires : goal.has_repeats-requires
has_repeats-requires c = narrow _ _ (search rules) (sym c.if-has_misshapen.ensures)

pub returns-then-has_repeats : goal.returns-then-has_repeats
returns-then-has_repeats c =
    let a = c.args in
    sym (judge-repeat (rows_of a.cells.now a.count) (omega (arith, held a.cells.now a.count)) (omega (arith, held a.cells.now a.count)) (sym c.if-has_misshapen.ensures)
    (sym c.if-has_repeats.ensures))

pub multi_count-requires : goal.multi_count-requires
multi_count-requires c = narrow _ _ (search rules) (sym c.if-has_misshapen.ensures)

pub returns-then-multi_count-gt4 : goal.returns-then-multi_count-gt4
returns-then-multi_count-gt4 c =
    let a = c.args in
    sym (judge-multi (rows_of a.cells.now a.count) (omega (arith, held a.cells.now a.count)) (omega (arith, held a.cells.now a.count)) (sym c.if-has_misshapen.ensures)
    (sym c.if-has_repeats.ensures) (omega (arith, c.multi_count.ensures)))

pub returns : goal.returns
returns c =
    let a = c.args in
    sym (judge-accepted (rows_of a.cells.now a.count) (omega (arith, held a.cells.now a.count)) (omega (arith, held a.cells.now a.count)) (sym c.if-has_misshapen.ensures)
    (sym c.if-has_repeats.ensures) (omega (arith, c.multi_count.ensures)))
