-- `setup::set_up` meets its contract: what is read is what is set up. Assumes nothing.
use Rattle.std.proofs.Common.{ap, ◌∙◌}
use Rattle.setup.specs.Setup.{set_up_with}
use Rattle.setup.proofs.Settled.{set-up-read}
use Rattle.setup.proofs.set_up.Goals as goal

pub returns : goal.returns
returns c = c.set_up_with.ensures ∙ ap set_up_with c.read_rows.ensures ∙ set-up-read c.args.rows.now
