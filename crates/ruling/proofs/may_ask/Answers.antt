-- Where the asker stands or, where nobody waits, its category decides.
use Rattle.std.proofs.Common.{sym, ◌∙◌}
use Rattle.ruling.proofs.Commands.{may-within, may-outside, may-begin}
use Rattle.ruling.proofs.may_ask.Goals as goal

pub returns-in-Within : goal.returns-in-Within
returns-in-Within c = may-within _ _ _ _ c.handler.ensures (sym c.standing_of.ensures ∙ c.in-Within.is)

pub returns-in-Outside : goal.returns-in-Outside
returns-in-Outside c = may-outside _ _ _ _ c.handler.ensures (sym c.standing_of.ensures ∙ c.in-Outside.is)

pub returns-in-Empty : goal.returns-in-Empty
returns-in-Empty c = may-begin _ _ _ _ c.handler.ensures _ c.category.ensures (sym c.standing_of.ensures ∙ c.in-Empty.is)
