-- By type, each as its own function shows.
use Rattle.std.proofs.Common.{refl, sym, ap, ◌∙◌}
use Rattle.message.specs.Message.{code_of}
use Rattle.rules.proofs.Steps.{kind-response, kind-event, kind-command}
use Rattle.routing.proofs.Messages.{response-steps, event-steps, command-steps}
use Rattle.router_command.proofs.on_type.Goals as goal

pub returns-then-head-eq-RESPONSE : goal.returns-then-head-eq-RESPONSE
returns-then-head-eq-RESPONSE c =
    response-steps _ c.args.head _ _ _ _ _ _ _ _ (kind-response _ _ _ c.if-head-eq-RESPONSE.true)
    (c.response_code-coded.ensures ∙ ap code_of c.data_part.ensures.bytes) c.on_response.ensures

pub returns-then-is_add_event : goal.returns-then-is_add_event
returns-then-is_add_event c =
    event-steps _ _ _ _ c.requires.lawful c.requires.column _ _ _
    (kind-event _ _ _ c.if-head-eq-RESPONSE.false (sym c.is_add_event.ensures ∙ c.if-is_add_event.true)) c.event-outcome.ensures

pub returns : goal.returns
returns c =
    command-steps _ c.args.head _ _ _ _ _ _ _
    (kind-command _ _ _ c.if-head-eq-RESPONSE.false (sym c.is_add_event.ensures ∙ c.if-is_add_event.false)) refl c.requires.column c.on_command.ensures
