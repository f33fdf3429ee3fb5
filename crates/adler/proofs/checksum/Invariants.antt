use Rattle.std.proofs.Common.{◌<◌, ◌≡◌, drop}
use Rattle.adler.specs.Adler.{adler32, summed}
use Rattle.adler.proofs.checksum.Given as goal

-- The sums so far, summed on over the bytes that are left, are the checksum.
abbrev pub invariant-loop-byte : goal.invariant-loop-byte
invariant-loop-byte l = (l.low < 65521) × (l.high < 65521) × (summed l.low l.high (drop l.byte-index l.bytes) ≡ adler32 l.bytes)
