-- Sums at the desk, C1 to C4: for all bytes of the sizes and lengths that they name.
use Prim.Native.Nat.{ℕ, ◌≤◌}
use Rattle.std.specs.Prelude.{Ok}
use mathlib.Core.Path.{◌≡◌, ◌∙◌}
use mathlib.Core.List.{List}
use native.Mathlib.Omega.{arith}
use lib.ListN.{length}
use borrow.Author.Tests.{le-ltb}
use Rattle.tapa.specs.Numbers.{word_at}
use Rattle.tapa.specs.Said.{refused}
use Rattle.message.specs.Message.{head_of, read_of}
use Rattle.message.specs.Said.{said_reading}
use Rattle.message.proofs.Laws.{said-reading, reads_whole}

-- 'C1 7 bytes: 1.'
pub c1 : (s : List ℕ) → length s ≡ 7 → said_reading (read_of s) ≡ refused 1
c1 s n = said-reading s ∙ rw n

-- 'C2 8 bytes, length 0: read.'
pub c2 : (s : List ℕ) → length s ≡ 8 → word_at s 6 ≡ 0 → read_of s ≡ Ok (head_of s)
c2 s n l = reads_whole s (omega arith) (omega arith) (omega arith)

-- 'C3 length 1,024 and 1,032 bytes: read'
pub c3 : (s : List ℕ) → length s ≡ 1032 → word_at s 6 ≡ 1024 → read_of s ≡ Ok (head_of s)
c3 s n l = reads_whole s (omega arith) (omega arith) (omega arith)

-- 'C4 length 1,025: 2.'
pub c4 : (s : List ℕ) → 8 ≤ length s → word_at s 6 ≡ 1025 → said_reading (read_of s) ≡ refused 2
c4 s n l = said-reading s ∙ rw (le-ltb (length s) 8 n, l)
