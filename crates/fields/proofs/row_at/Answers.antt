-- A whole field ends inside.
use Rattle.std.proofs.Common.{sym, ◌∙◌}
use Rattle.fields.proofs.Unfold.{inside}
use Rattle.fields.proofs.row_at.Goals as goal

pub row_in-requires : goal.row_in-requires
row_in-requires c = (inside c.args.s.now c.args.at _ _ _ (sym c.read_at.ensures ∙ c.in-Field-eq1-default-default.is)).1
