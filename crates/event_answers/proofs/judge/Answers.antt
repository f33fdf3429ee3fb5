-- An event is added where there is room for it.
use Rattle.std.proofs.Common.{sym, ◌∙◌}
use Rattle.queue.proofs.Laws.{len}
use Rattle.events.specs.Events.{judge}
use Rattle.event_answers.proofs.judge.Goals as goal

pub returns-then-has_room : goal.returns-then-has_room
unfolding judge
returns-then-has_room c =
    let q = c.args.queue.now in
    rw (c.in-Add.is, len q.places q.start 0 q.count, sym c.has_room.ensures ∙ c.if-has_room.true)

pub returns-else-has_room : goal.returns-else-has_room
unfolding judge
returns-else-has_room c =
    let q = c.args.queue.now in
    rw (c.in-Add.is, len q.places q.start 0 q.count, sym c.has_room.ensures ∙ c.if-has_room.false)
