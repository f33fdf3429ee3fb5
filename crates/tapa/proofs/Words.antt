-- A number of two bytes, as the library writes it, is the page's: the high byte first.
use Rattle.std.proofs.Common.{◌≡◌, ℕ, ◌/◌, ◌%◌, ◌<◌, arith}
use Rattle.std.specs.Int.{w16, to_be_bytes}
use Rattle.tapa.specs.Numbers.{two_bytes}

pub high-first : (n : ℕ) → n < 65536 → to_be_bytes w16 n ≡ two_bytes n
high-first n h =
    let e : n / 256 % 256 ≡ n / 256 = omega arith in
    rw e
