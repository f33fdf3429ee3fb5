-- The first bytes are written as they are.
use Rattle.std.proofs.Common.{take}
use Rattle.text.specs.Text.{Writes}
use Rattle.text.proofs.Writer.put_all.Given as goal

abbrev pub invariant-loop-byte : goal.invariant-loop-byte
invariant-loop-byte l = Writes l.fn.self l.self (take l.byte-index l.bytes)
