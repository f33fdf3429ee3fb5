-- There is room and the byte is set, or there is none.
use Rattle.std.proofs.Common.{refl}
use borrow.Author.Tests.{lt-ltb, le-ltb}
use Rattle.text.specs.Text.{puts}
use Rattle.text.proofs.Writer.put.Goals as goal

pub returns-then-self : goal.returns-then-self
unfolding puts
returns-then-self c = record { lent = refl; text = rw (lt-ltb _ _ c.if-self.true) }

pub returns-else-self : goal.returns-else-self
unfolding puts
returns-else-self c = record { lent = refl; text = rw (le-ltb _ _ c.if-self.false) }
