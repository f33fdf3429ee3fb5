-- The row that was found, the thread, and the one number.
use Rattle.std.proofs.Common.{◌≡◌, ◌≤◌, ℕ, Bool, true, false, cond, nat_eq, get_or, Result, Ok, refl, sym, arith}
use borrow.Author.Tests.{lt-ltb, le-ltb}
use Rattle.lists.proofs.Numbers.{find-inside}
use Rattle.lists.proofs.Arrays.{len}
use Rattle.tapa.specs.Address.{multi}
use Rattle.tapa.specs.declared.Refusal.{Refusal}
use Rattle.table.specs.Table.{unpack, is_at, rows_of}
use Rattle.numbers.specs.Free.{free_in}
use Rattle.router_free.proofs.is_free.Goals as goal

pub returns-in_default : goal.returns-in_default
unfolding free_in
returns-in_default c = rw (← c.handler-handler.ensures, ← c.row_of.ensures, c.in_default.is)

pub returns-then-thread-gt-LAST_THREAD : goal.returns-then-thread-gt-LAST_THREAD
unfolding free_in
returns-then-thread-gt-LAST_THREAD c = rw (← c.handler-handler.ensures, ← c.in-Some.ensures, lt-ltb 7 _ c.if-thread-gt-LAST_THREAD.true)

pub cell_in-requires : goal.cell_in-requires
cell_in-requires c =
    let a = c.args in
    omega (arith, c.requires, len unpack a.cells.now a.count, find-inside (is_at c.handler-handler.result) (rows_of a.cells.now a.count) _ (sym c.in-Some.ensures))

low : (b : Bool) (t : ℕ) → t ≤ 7 → cond b t 0 ≤ 7
low true t l = l
low false t l = omega arith

pub bounds-numbers-cell_in : goal.bounds-numbers-cell_in
bounds-numbers-cell_in c =
    let a = c.args in
    omega (arith, c.cell_in.ensures, c.requires, len unpack a.cells.now a.count, find-inside (is_at c.handler-handler.result) (rows_of a.cells.now a.count) _ (sym c.in-Some.ensures), low (multi c.handler-handler.result) a.thread (omega (arith, c.if-thread-gt-LAST_THREAD.false)))

-- yes where the number is 0
told : (b : Bool) → ◌≡◌ {A = Result Bool Refusal} (Ok b) (cond b (Ok true) (Ok false))
told true = refl
told false = refl

pub returns : goal.returns
unfolding free_in
returns c =
    rw (← c.handler-handler.ensures, ← c.in-Some.ensures, le-ltb 7 c.args.thread (omega (arith, c.if-thread-gt-LAST_THREAD.false)), ← c.cell_in.ensures)
    (told (nat_eq (get_or c.args.numbers.now c.cell_in.result 0) 0))
