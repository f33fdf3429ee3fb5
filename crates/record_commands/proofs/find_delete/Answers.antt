-- What Find found stands in the book.
use Rattle.std.proofs.Common.{sym, ◌∙◌}
use Rattle.book.specs.Book.{entries_of, key_at, no_entry}
use Rattle.lists.proofs.ByPlace.{hit}
use Rattle.record_commands.proofs.Steps.{find-delete-hit, find-found}
use Rattle.record_commands.proofs.find_delete.Goals as goal

pub erased-requires-clause-at_in_bounds : goal.erased-requires-clause-at_in_bounds
erased-requires-clause-at_in_bounds c =
    let a = c.args in
    let found = find-found a.b a.area.now a.f a.key.now c.in_ok-found.found (sym c.in_ok-found.was ∙ c.find.ensures) in
    (hit no_entry (key_at a.area.now a.f a.key.now) (entries_of a.b) _ found).inside

pub returns : goal.returns
returns c =
    let a = c.args in
    find-delete-hit a.b a.area.now a.f a.key.now c.in_ok-found.found (sym c.in_ok-found.was ∙ c.find.ensures) c.erased.result c.erased.new.area c.erased.ensures.0 c.erased.ensures.1
