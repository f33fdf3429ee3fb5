-- A buffer of 13 bytes takes a code.
use Rattle.std.proofs.Common.{arith}
use Rattle.replies.proofs.Laws.{fitting}
use Rattle.event_answers.proofs.answered.Goals as goal

pub returns-in-Emptied : goal.returns-in-Emptied
returns-in-Emptied c = rw c.in-Emptied.is (fitting _ _ _ _ _ (omega arith) (omega (arith, c.requires)) c.with_code.ensures)

pub returns-in-Coded : goal.returns-in-Coded
returns-in-Coded c = rw c.in-Coded.is (fitting _ _ _ _ _ (omega arith) (omega (arith, c.requires)) c.with_code-in-Coded.ensures)
