-- A whole field ends inside.
use Rattle.std.proofs.Common.{sym, ◌∙◌}
use Rattle.fields.proofs.Unfold.{inside}
use Rattle.fields.proofs.step_at.Goals as goal

pub step_in-requires : goal.step_in-requires
step_in-requires c = (inside c.args.s.now c.args.at _ _ _ (sym c.read_at.ensures ∙ c.in-Field.is)).1
