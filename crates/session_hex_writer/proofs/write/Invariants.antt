-- The first bytes are written.
use Rattle.std.proofs.Common.{take, ◌≡◌}
use Rattle.text.specs.Text.{Writes}
use Rattle.hexes.specs.Writing.{text_of, after}
use Rattle.session_hex_writer.proofs.write.Given as goal

abbrev pub invariant-loop-byte : goal.invariant-loop-byte
invariant-loop-byte l =
    (l.next ≡ after l.fn.cursor (take l.byte-index l.part))
    × Writes l.initial.out l.out (text_of l.fn.cursor (take l.byte-index l.part))
