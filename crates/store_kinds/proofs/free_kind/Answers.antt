-- The chain finds the first row that is not made.
use Rattle.std.proofs.Common.{◌∙◌, not, rules, tests}
use Rattle.std.proofs.lemmas.Iterator.{YieldsList-from_slice}
use Rattle.std.proofs.lemmas.Iterator.Search.{position_from_yields_List}
use Rattle.book.proofs.Tables.{free-first}
use Rattle.book.specs.declared.Kind.{Kind}
use Rattle.store_kinds.proofs.free_kind.Goals as goal

pub returns : goal.returns
returns c =
    let ks = c.args.b.kinds in
    position_from_yields_List (λ (k : Kind). not k.made) _ _ _ c.position.ensures.ran (YieldsList-from_slice ks (search rules)) (λ x b q k. search (rules, tests))
    ∙ free-first ks
