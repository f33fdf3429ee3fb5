-- The code and the type decide, and `set_open` does the rest.
use Rattle.routing.proofs.Responses.{opens_not, opens-other, opens, closes}
use Rattle.router_response.proofs.open_or_close.Goals as goal

pub returns-then-code-ne-SUCCESSFUL : goal.returns-then-code-ne-SUCCESSFUL
returns-then-code-ne-SUCCESSFUL c = opens_not _ _ _ _ c.requires c.if-code-ne-SUCCESSFUL.true

pub returns-then-wait-eq-OPEN_HANDLER : goal.returns-then-wait-eq-OPEN_HANDLER
returns-then-wait-eq-OPEN_HANDLER c =
    opens _ _ _ _ _ _ c.if-code-ne-SUCCESSFUL.false c.handler.ensures c.if-wait-eq-OPEN_HANDLER.true c.set_open.ensures

pub returns-then-wait-eq-CLOSE_HANDLER : goal.returns-then-wait-eq-CLOSE_HANDLER
returns-then-wait-eq-CLOSE_HANDLER c =
    closes _ _ _ _ _ _ c.if-code-ne-SUCCESSFUL.false c.handler-then-wait-eq-CLOSE_HANDLER.ensures c.if-wait-eq-OPEN_HANDLER.false
    c.if-wait-eq-CLOSE_HANDLER.true c.set_open-then-wait-eq-CLOSE_HANDLER.ensures

pub returns-else-wait-eq-CLOSE_HANDLER : goal.returns-else-wait-eq-CLOSE_HANDLER
returns-else-wait-eq-CLOSE_HANDLER c =
    opens-other _ _ _ _ c.requires c.if-code-ne-SUCCESSFUL.false c.if-wait-eq-OPEN_HANDLER.false c.if-wait-eq-CLOSE_HANDLER.false
