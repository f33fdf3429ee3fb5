-- `tapa::is_multi` meets its contract. Assumes nothing.
use borrow.Author.Rules.{rules}
use Rattle.tapa.specs.Address.{multi}
use Rattle.tapa.proofs.is_multi.Goals as goal

pub returns : goal.returns
unfolding multi
returns c = search rules
