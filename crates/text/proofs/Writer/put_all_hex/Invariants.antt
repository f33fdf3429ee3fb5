-- The first bytes are written in hexadecimal.
use Rattle.std.proofs.Common.{take}
use Rattle.text.specs.Text.{Writes, hexes_of}
use Rattle.text.proofs.Writer.put_all_hex.Given as goal

abbrev pub invariant-loop-byte : goal.invariant-loop-byte
invariant-loop-byte l = Writes l.fn.self l.self (hexes_of (take l.byte-index l.bytes))
