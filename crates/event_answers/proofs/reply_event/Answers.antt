-- A buffer of 13 bytes takes the event.
use Rattle.std.proofs.Common.{arith, ◌∙◌}
use Rattle.tapa.proofs.Words.{high-first}
use Rattle.replies.proofs.Laws.{fitting}
use Rattle.event_answers.proofs.reply_event.Goals as goal

pub returns : goal.returns
returns c = fitting _ _ _ _ _ (omega arith) c.requires (rw (c.to_be_bytes.ensures ∙ high-first _ (omega arith)) at c.with_part.ensures)
