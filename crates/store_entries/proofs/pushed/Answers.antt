-- The first free place is taken.
use Rattle.std.proofs.Common.{sym, ◌∙◌}
use borrow.Author.Tests.{lt-ltb}
use Rattle.book.proofs.Laws.{pushed_room}
use Rattle.store_entries.proofs.pushed.Goals as goal

pub returns : goal.returns
returns c =
    let a = c.args in
    pushed_room a.b a.x c.requires c.if-n-ge256.false ∙ sym (rw (lt-ltb a.b.count 256 c.if-n-ge256.false))
