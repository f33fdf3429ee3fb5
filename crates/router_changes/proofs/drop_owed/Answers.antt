-- A place passed stays behind the last that stayed, or goes.
use Rattle.std.proofs.Common.{rules, refl, sym, ap, ◌∙◌, not}
use Rattle.lists.proofs.Arrays.{filter-drops, filter-keeps}
use Rattle.places.specs.Places.{pack, unpack, not_owed_by}
use Rattle.router_changes.proofs.drop_owed.Goals as goal
use Rattle.router_changes.proofs.drop_owed.Goals.{then-not-owed_by, else-not-owed_by}

pub loop-seen-preserved : goal.loop-seen-preserved
loop-seen-preserved c =
    let q = not_owed_by c.args.handler in
    let told = sym c.owed_by.ensures in
    let l = c.loop-seen in
    let f = l.invariant in
    elim c.if-not-owed_by.branch [
      | then-not-owed_by w ↦
          rw (w.list-is, w.kept-is) (filter-keeps 48 pack unpack refl q _ l.list l.kept l.seen (search rules) f (ap not (told ∙ w.if-not-owed_by.true)))
      | else-not-owed_by w ↦
          rw (w.list-is, w.kept-is) (filter-drops 48 pack unpack refl q _ l.list l.kept l.seen (search rules) f (ap not (told ∙ w.if-not-owed_by.false)))
    ]
