-- The part is compared as a list.
use Rattle.std.proofs.Common.{ℕ, List, ap, ◌∙◌}
use Rattle.lists.specs.Least.{same}
use Rattle.slots.specs.Slots.{bytes_of}
use Rattle.slots.proofs.has_key.Goals as goal

pub returns : goal.returns
returns c =
    let a = c.args in
    c.same.ensures ∙ ap (λ (l : List ℕ). same l a.key.now) (c.part.ensures.bytes ∙ ap (bytes_of a.area.now a.slot 0) c.from.ensures)
