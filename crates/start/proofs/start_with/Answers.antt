-- The table that set-up accepts is settled.
use Rattle.std.proofs.Common.{sym, ◌∙◌}
use Rattle.setup.proofs.Settled.{set-up-settled}
use Rattle.start.proofs.start_with.Goals as goal

pub start_from-requires : goal.start_from-requires
start_from-requires c = λ u e. set-up-settled _ c.requires u (sym c.set_up_with.ensures ∙ e)
