-- The place where the search ended is one of the book's.
use Rattle.std.proofs.Common.{sym, ◌∙◌, arith}
use Rattle.book.proofs.Laws.{place_in}
use Rattle.book.specs.Book.{meant}
use Rattle.record_commands.proofs.update_seen.Goals as goal

pub has_twin-requires-clause-at_bound : goal.has_twin-requires-clause-at_bound
has_twin-requires-clause-at_bound c =
    omega (arith, place_in c.args.b c.requires.shape (meant c.args.f c.args.p) c.in_ok-at.at (sym c.first_from.ensures ∙ c.in_ok-at.ensures.ok_part), c.requires.shape.few)
