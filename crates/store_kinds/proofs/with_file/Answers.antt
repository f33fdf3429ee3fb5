-- The first row that is not made becomes the new file.
use Rattle.std.proofs.Common.{sym, arith}
use Rattle.book.proofs.Tables.{created, free-at}
use Rattle.store_kinds.proofs.with_file.Goals as goal

pub offset_bounds-next-i : goal.offset_bounds-next-i
offset_bounds-next-i c =
    let r = free-at c.args.b.kinds c.in-Some.i (sym c.in-Some.ensures) in
    omega (arith, r.inside, c.requires.files)

pub bounds-next-i : goal.bounds-next-i
bounds-next-i c =
    let r = free-at c.args.b.kinds c.in-Some.i (sym c.in-Some.ensures) in
    omega (arith, r.inside, c.requires.files)

pub returns-in-Some : goal.returns-in-Some
returns-in-Some c =
    let r = free-at c.args.b.kinds c.in-Some.i (sym c.in-Some.ensures) in
    created c.args.b c.args.keymax c.args.recmax c.in-Some.i (omega (arith, r.inside, c.requires.files)) (sym c.in-Some.ensures)
