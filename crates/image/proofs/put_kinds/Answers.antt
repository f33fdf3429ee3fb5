-- One row a round.
use Rattle.std.proofs.Common.{◌∙◌, arith}
use Rattle.book.specs.Book.{no_kind}
use Rattle.image.proofs.Flats.{flat-more, kinds-wide}
use Rattle.layout.specs.Layout.{kind_bytes}
use Rattle.image.proofs.put_kinds.Goals as goal

pub loop-i-preserved : goal.loop-i-preserved
loop-i-preserved c =
    let s = c.loop-i in
    let ks = c.args.b.kinds in
    let r = flat-more kind_bytes 3 ks (kinds-wide ks) no_kind 14 s.out _ s.i (omega (arith, c.requires.1.files)) (omega (arith, c.requires.1.files)) c.put_kind.ensures in
    (r.0 ∙ s.invariant.0, r.1 ∙ s.invariant.1)
