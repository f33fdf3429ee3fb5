-- The place where the search ended is one of the book's.
use Rattle.std.proofs.Common.{sym, ◌∙◌, arith}
use Rattle.sights.proofs.Steps.{seek-inside}
use Rattle.sights.proofs.get.Goals as goal

pub other_pointer-other-requires-clause-i_bound : goal.other_pointer-other-requires-clause-i_bound
other_pointer-other-requires-clause-i_bound c =
    omega (arith, seek-inside c.args.b c.args.f c.args.p c.args.o c.requires c.in_ok-at.at (sym c.seek.ensures ∙ c.in_ok-at.ensures.ok_part), c.requires.few)
