-- What `give_up_in` shows is the step.
use Rattle.run.specs.State.{session_of}
use Rattle.run.proofs.Turns.{stepped-reply}
use Rattle.session_turns.proofs.on_give_up.Goals as goal

pub returns : goal.returns
returns c =
    let a = c.args in
    stepped-reply (session_of a.cells.now a.count a.list.now a.len a.cursor) _ c.args.end _ _ _ c.stepped.ensures _ _ _ c.give_up_in-done.ensures
