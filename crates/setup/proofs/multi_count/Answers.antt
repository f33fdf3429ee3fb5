-- The chain over the rows' numbers counts the multi ones.
use Rattle.std.proofs.Common.{◌∙◌, ap, arith, rules, tests}
use Rattle.std.proofs.lemmas.Iterator.{YieldsList-from_range}
use Rattle.std.proofs.lemmas.Iterator.Consumers.{YieldsList-from_filter, count_from_yields_List}
use Rattle.tapa.specs.Address.{multi}
use Rattle.table.specs.Table.{address_at, is_multi}
use Rattle.table.proofs.Cells.{address-held}
use Rattle.setup.proofs.Chains.{count-numbers}
use Rattle.setup.proofs.multi_count.Goals as goal

pub returns : goal.returns
returns c =
    let a = c.args in
    count_from_yields_List c.filter.result c.count.result c.count.ensures.ran
    (YieldsList-from_filter _ (λ i. multi (address_at a.cells.now i)) (YieldsList-from_range 0 a.count a.count (cc) (omega arith)) c.filter.ensures.closure (λ x r q k. search (rules, tests)))
    ∙ count-numbers a.cells.now _ is_multi a.count (λ j l. ap multi (address-held a.cells.now a.count j c.requires l))
