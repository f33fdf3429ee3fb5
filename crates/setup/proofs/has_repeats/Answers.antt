-- The chain over the rows' numbers looks for each row among the older ones.
use Rattle.std.proofs.Common.{◌∙◌, arith, rules, tests}
use Rattle.std.proofs.lemmas.Iterator.{YieldsList-from_range}
use Rattle.std.proofs.lemmas.Iterator.Search.{any_from_yields_List}
use Rattle.table.proofs.Cells.{address-held}
use Rattle.setup.proofs.Chains.{older, any-older}
use Rattle.setup.proofs.has_repeats.Goals as goal

pub returns : goal.returns
returns c =
    let a = c.args in
    any_from_yields_List (older a.cells.now) _ _ c.any.result c.any.ensures.ran
    (YieldsList-from_range 0 a.count a.count (cc) (omega arith)) (λ x b q k. search (rules, tests))
    ∙ any-older a.cells.now a.count (λ j l. address-held a.cells.now a.count j c.requires l)
