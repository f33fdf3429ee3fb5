use Rattle.run.proofs.Turns.{goes}
use Rattle.session_turns.proofs.after_step.Goals as goal

pub returns : goal.returns
returns c = goes c.args.cursor c.args.outcome _ _ c.tally_with.ensures
