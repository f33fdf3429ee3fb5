-- The newer ones move down, and the last cell in use is freed.
use Rattle.std.proofs.Common.{arith, refl, ap, ◌∙◌, ℕ, get_or}
use Rattle.lists.proofs.Arrays.{removed-past}
use Rattle.lists.proofs.Moved.{moved}
use Rattle.places.specs.Places.{pack, unpack}
use Rattle.router_changes.proofs.remove.Goals as goal

pub returns-then-n-at : goal.returns-then-n-at
returns-then-n-at c = removed-past 48 pack unpack _ _ c.requires _ c.if-n-at.true

pub returns : goal.returns
returns c =
    let a = c.args in
    let e = c.copy_within.ensures.by_index in
    moved 48 pack unpack a.list.now a.n a.at _ refl c.requires c.if-n-at.false c.copy_within.ensures.len
    (λ j h k. e.0 j 0 h (omega arith) ∙ ap (λ (i : ℕ). get_or a.list.now i 0) (omega arith))
    (λ j h. e.1 j 0 h)
    (λ j h. e.2 j 0 (omega arith))
