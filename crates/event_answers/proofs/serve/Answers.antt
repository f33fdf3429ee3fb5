-- A refusal leaves all as it was, and a command is read, judged, done and answered.
use Rattle.std.proofs.Common.{◌≡◌, sym, ap, ◌∙◌, rules}
use Rattle.std.specs.Prelude.{Err}
use Rattle.queue.specs.Places.{events_of}
use Rattle.events.specs.Events.{command_of, judge}
use Rattle.events.proofs.Handling.{refusing, obeyed}
use Rattle.event_answers.proofs.serve.Goals as goal

pub returns-in_err-head : goal.returns-in_err-head
returns-in_err-head c =
    let e : c.from_residual.result ≡ Err c.in_err-head.field-0.0 = search rules in
    rw e (refusing c.args.queue.now _ _ _ c.requires (sym c.check.ensures ∙ c.in_err-head.was))

pub returns : goal.returns
returns c =
    let q = c.args.queue.now in
    obeyed q _ _ _ _ _ _ _ (sym c.in_ok-head.ensures)
    (c.judge-outcome.ensures ∙ ap (judge (events_of q)) (c.read_command-command.ensures ∙ ap (command_of c.in_ok-head.head.kind) c.data_part.ensures.bytes))
    c.apply.ensures
    c.answered.ensures
