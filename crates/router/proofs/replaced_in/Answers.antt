-- What is done in place is the next state.
use Rattle.rules.specs.Judge.{replaced}
use Rattle.router.specs.Router.{state_of}
use Rattle.router.proofs.States.{replaces}
use Rattle.router.proofs.replaced_in.Goals as goal

pub returns : goal.returns
returns c =
    let a = c.args in
    replaces (state_of a.cells.now a.count a.list.now a.len) c.requires 0 (replaced a.address) _ _ _ c.on_replaced.ensures
