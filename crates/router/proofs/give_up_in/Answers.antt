-- What is done in place is the next state.
use Rattle.router.specs.Router.{view_of, state_of}
use Rattle.router.proofs.States.{gives_up}
use Rattle.router.proofs.give_up_in.Goals as goal

pub returns : goal.returns
returns c =
    let a = c.args in
    let r = state_of a.cells.now a.count a.list.now a.len in
    gives_up r c.requires a.thread a.asked _ _ _ _ (c.on_give_up.ensures (view_of r).rows)
