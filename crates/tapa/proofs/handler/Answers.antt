-- `tapa::handler` meets its contract. Assumes nothing.
use borrow.Author.Rules.{rules}
use Rattle.tapa.specs.Address.{handler_of}
use Rattle.tapa.proofs.handler.Goals as goal

pub returns : goal.returns
unfolding handler_of
returns c = search rules
