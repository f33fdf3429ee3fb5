-- One entry a round.
use Rattle.std.proofs.Common.{ap, ◌∙◌, arith, take_all}
use Rattle.book.specs.Book.{book_of}
use Rattle.image.proofs.Restores.{pushed_more}
use Rattle.layout.proofs.Readers.{entries-count}
use Rattle.layout.specs.Judged.{count_in, entries_in, table_in}
use Rattle.image.proofs.book_in.Goals as goal

pub loop-i-preserved : goal.loop-i-preserved
loop-i-preserved c =
    let s = c.loop-i in
    let img = c.args.img.now in
    let long = entries-count img 64 (count_in img) in
    let next = pushed_more (table_in img) (entries_in img) s.i s.next c.pushed-next.result c.entry_in.result (omega (arith, long)) (omega (arith, long))
    c.entry_in.ensures.0 s.invariant.1 c.pushed-next.ensures in
    (omega arith, next)

pub returns : goal.returns
returns c =
    let img = c.args.img.now in
    c.loop-i.invariant.1 ∙ ap (book_of (table_in img)) (take_all c.loop-i.i (entries_in img) (omega (arith, entries-count img 64 (count_in img))))
