-- The high byte first.
use Rattle.std.proofs.Common.{◌∙◌, arith}
use Rattle.tapa.proofs.Words.{high-first}
use Rattle.store_answers.proofs.put_word.Goals as goal

pub returns : goal.returns
returns c = rw (c.to_be_bytes.ensures ∙ high-first _ (omega arith)) at c.put.ensures
