-- Adler-32 (RFC 1950): the low half is 1 and all bytes added up, the high half adds up the low halves on the way; both modulo 65521.
use Rattle.std.specs.Prelude.{◌%◌, ◌+◌, ℕ, List, [], ◌∷◌}
use Rattle.adler.specs.declared.Sums.{Sums}

abbrev pub summed : ℕ → ℕ → List ℕ → Sums
summed a b [] = record { low = a; high = b }
summed a b (x ∷ l) = summed ((a + x) % 65521) ((b + (a + x) % 65521) % 65521) l

abbrev pub adler32 : List ℕ → Sums
adler32 l = summed 1 0 l
