-- The chain over the cells tests each row.
use Rattle.std.proofs.Common.{◌/◌, not, take, ◌∙◌, refl, arith, rules, tests}
use Rattle.std.proofs.lemmas.Iterator.{YieldsList-from_slice}
use Rattle.std.proofs.lemmas.Iterator.Search.{any_from_yields_List}
use Rattle.table.specs.Table.{shaped, misshapen}
use Rattle.setup.proofs.Chains.{any-cells}
use Rattle.setup.proofs.has_misshapen.Goals as goal

pub returns : goal.returns
returns c =
    let a = c.args in
    any_from_yields_List (λ x. not (shaped (x / 2))) _ _ c.any.result c.any.ensures.ran (YieldsList-from_slice (take a.count a.cells.now) (cc)) (λ x b q k. search (rules, tests))
    ∙ any-cells _ misshapen (λ x. refl) a.cells.now a.count (omega (arith, c.told-cells, c.requires))
