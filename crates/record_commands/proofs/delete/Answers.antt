-- What the search found stands in the book.
use Rattle.std.proofs.Common.{sym, ◌∙◌}
use Rattle.book.specs.Book.{entries_of, meant, no_entry}
use Rattle.lists.proofs.ByPlace.{hit}
use Rattle.record_commands.proofs.delete.Goals as goal

pub erased-requires-clause-at_in_bounds : goal.erased-requires-clause-at_in_bounds
erased-requires-clause-at_in_bounds c =
    (hit no_entry (meant c.args.f c.args.p) (entries_of c.args.b) _ (sym c.first_from.ensures ∙ c.in_ok-at.ensures.ok_part)).inside
