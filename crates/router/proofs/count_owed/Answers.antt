-- As many cells in use are owed as places.
use Rattle.std.proofs.Common.{rules, arith, ◌≡◌, ◌∙◌, take}
use Rattle.std.specs.List.{count_by}
use Rattle.lists.proofs.Walks.{count-by}
use Rattle.places.specs.Places.{unpack, is_owed}
use Rattle.router.proofs.count_owed.Goals as goal

pub returns : goal.returns
returns c =
    let a = c.args in
    let e : c.count.result ≡ count_by (λ x. is_owed (unpack x)) (take a.len a.list.now) = search rules in
    e ∙ count-by unpack is_owed a.list.now a.len (omega arith)
