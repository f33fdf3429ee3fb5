-- What `replaced_in` shows is the step.
use Rattle.run.specs.State.{session_of}
use Rattle.run.proofs.Turns.{stepped-replaced}
use Rattle.session_turns.proofs.on_replaced.Goals as goal

pub returns : goal.returns
returns c =
    let a = c.args in
    stepped-replaced (session_of a.cells.now a.count a.list.now a.len a.cursor) c.args.address c.args.end _ _ c.stepped.ensures _ _ _ c.replaced_in-done.ensures
