-- `tapa::category` meets its contract. Assumes nothing.
use borrow.Author.Rules.{rules}
use Rattle.tapa.specs.Address.{category_of}
use Rattle.tapa.proofs.category.Goals as goal

pub returns : goal.returns
unfolding category_of
returns c = search rules
