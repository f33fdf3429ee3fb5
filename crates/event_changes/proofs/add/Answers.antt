-- The event is packed into the place after the newest, if one is free.
use Rattle.std.proofs.Common.{arith, sym, ◌∙◌}
use borrow.Author.Tests.{ltb-true}
use Rattle.queue.proofs.Laws.{holds_more}
use Rattle.event_changes.proofs.add.Goals as goal

pub returns-then-has_room : goal.returns-then-has_room
returns-then-has_room c =
    rw c.place_from-place.ensures
    (holds_more c.args.queue.now _ _ c.requires (ltb-true _ _ (sym c.has_room.ensures ∙ c.if-has_room.true)) c.pack.ensures)
