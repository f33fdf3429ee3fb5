-- Once the words from here on are set in too, all are.
use Rattle.std.proofs.Common.{drop}
use Rattle.text.proofs.Laws.{Left}
use Rattle.blocks.specs.Words.{indented_from, indented}
use Rattle.show_notes.proofs.indent.Given as goal

abbrev pub invariant-loop-byte : goal.invariant-loop-byte
invariant-loop-byte l = Left l.fn.out l.out (indented_from l.fresh (drop l.byte-index l.words)) (indented l.words)
