-- Where the first with the key is the record itself, another can only stand behind it.
use Rattle.std.proofs.Common.{ap, sym, ◌∙◌}
use Rattle.std.specs.Prelude.{Some}
use borrow.Author.Tests.{lt-ltb}
use Rattle.book.specs.Book.{entries_of, key_at}
use Rattle.lists.proofs.ByPlace.{other-behind, other-first, other_none}
use Rattle.lists.proofs.Tests.{positive}
use Rattle.lists.specs.ByPlace.{is_at}
use Rattle.record_commands.proofs.Steps.{some-at}
use Rattle.record_commands.proofs.has_twin.Goals as goal

pub returns-in-Some : goal.returns-in-Some
returns-in-Some c =
    let a = c.args in
    let q = key_at a.area.now a.f a.key.now in
    c.is_some.ensures ∙ some-at _ ∙ ap is_at c.with_key-in-Some.ensures
    ∙ sym (rw (lt-ltb 0 _ (positive a.keymax c.if-keymax-eq0.false)) (other-behind q a.«at» (entries_of a.b) (sym c.in-Some.ensures ∙ ap Some c.if-i-at.true)))

pub returns-in-Some-2 : goal.returns-in-Some-2
returns-in-Some-2 c =
    let a = c.args in
    let q = key_at a.area.now a.f a.key.now in
    sym (rw (lt-ltb 0 _ (positive a.keymax c.if-keymax-eq0.false)) (other-first q _ a.«at» (entries_of a.b) (sym c.in-Some.ensures) c.if-i-at.false))

pub returns-in-None : goal.returns-in-None
returns-in-None c =
    let a = c.args in
    let q = key_at a.area.now a.f a.key.now in
    sym (rw (lt-ltb 0 _ (positive a.keymax c.if-keymax-eq0.false)) (other_none q a.«at» (entries_of a.b) (sym c.in-None.ensures)))
