-- The image is the one that stands in the buffer.
use Rattle.std.proofs.Common.{sym, ◌∙◌}
use Rattle.lists.proofs.Same.{same-eq}
use Rattle.records.proofs.keep_image.Goals as goal

pub returns-then-same : goal.returns-then-same
returns-then-same c = record { room = c.requires.1; image = λ e. sym (same-eq _ _ (sym c.same.ensures ∙ c.if-same.true)) }
