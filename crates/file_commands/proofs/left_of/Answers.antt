-- One row out a round: that of the file that the word names.
use Rattle.std.proofs.Common.{◌≡◌, ℕ, true, sym, ap, ◌∙◌, arith}
use borrow.Author.Tests.{not-false}
use Rattle.book.proofs.Blanks.{blank-kind}
use Rattle.book.specs.Book.{kind_of, with_kind, with_kinds}
use Rattle.book.specs.declared.Kind.{Kind}
use Rattle.file_commands.proofs.Leaving.{leaving-more}
use Rattle.file_commands.specs.Erasing.{unmake}
use Rattle.files.specs.Asked.{id_at}
use Rattle.file_commands.proofs.left_of.Goals as goal

pub loop-i-preserved : goal.loop-i-preserved
loop-i-preserved c =
    let s = c.loop-i in
    let ids = c.args.ids.now in
    let f : c.pair-f.result ≡ id_at ids s.i = c.pair-f.ensures in
    let made : (kind_of s.left.kinds (id_at ids s.i)).made ≡ true =
    ap (λ (f : ℕ). (kind_of s.left.kinds f).made) (sym f) ∙ ap (λ (k : Kind). k.made) (sym c.kind_of.ensures) ∙ not-false _ c.if-not-kind_of.false in
    let e : c.with_kind-left.result ≡ with_kinds s.left (unmake s.left.kinds (id_at ids s.i)) =
    c.with_kind-left.ensures ∙ ap (λ (k : Kind). with_kinds s.left (with_kind s.left.kinds c.pair-f.result k)) (blank-kind c.default.result c.default.ensures)
    ∙ ap (λ (f : ℕ). with_kinds s.left (unmake s.left.kinds f)) f in
    (s.invariant.0, leaving-more c.args.b ids _ s.left s.i s.invariant.1 (omega arith) made c.with_kind-left.result e)
