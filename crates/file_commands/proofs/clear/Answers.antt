-- The file's row is taken out, the walk done, and the row stands again.
use Rattle.std.proofs.Common.{◌≡◌, ap, ◌∙◌}
use borrow.Author.Tests.{not-false}
use Rattle.book.proofs.Blanks.{blank-kind}
use Rattle.book.specs.Book.{with_kind, with_kinds}
use Rattle.book.specs.declared.Kind.{Kind}
use Rattle.file_commands.proofs.Steps.{clear-done}
use Rattle.file_commands.specs.Erasing.{unmake}
use Rattle.file_commands.proofs.clear.Goals as goal

pub returns : goal.returns
returns c =
    let a = c.args in
    let left : c.with_kind-left.result ≡ with_kinds a.b (unmake a.b.kinds a.f) =
    c.with_kind-left.ensures ∙ ap (λ (k : Kind). with_kinds a.b (with_kind a.b.kinds a.f k)) (blank-kind c.default.result c.default.ensures) in
    clear-done a.b a.f c.with_kind-left.result left _ _ c.swept-next.result c.with_kind.result c.kind_of-k.result
    c.kind_of-k.ensures (not-false _ c.if-not-k.false) c.swept-next.ensures.0 c.swept-next.ensures.1 c.with_kind.ensures
