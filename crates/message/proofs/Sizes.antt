-- Cable fault or double send (request 04): a message that was cut behind its eighth byte is 3, and one with anything stuck to it is 19.
use Prim.Native.Nat.{ℕ, ◌+◌, ◌≤◌, ◌<◌}
use Rattle.std.specs.Prelude.{Ok, Err}
use mathlib.Core.Path.{◌≡◌, refl}
use mathlib.Core.List.{List, [], ◌∷◌, ◌++◌}
use native.Mathlib.Omega.{arith}
use lib.ListN.{length, take, length-append, get_or-append}
use lib.Seq.{length-take-le, get_or-take}
use Rattle.tapa.specs.Numbers.{word_at}
use Rattle.tapa.specs.Said.{refused}
use Rattle.tapa.specs.declared.Refusal.TheVariants.{FewerThanAnnounced, MoreThanAnnounced}
use Rattle.message.specs.declared.Head.{Head}
use Rattle.message.specs.Message.{read_of}
use Rattle.message.specs.Said.{said_reading}
use Rattle.message.proofs.Laws.{whole, reads-fewer, reads_more}

-- the announced length stands in bytes 6 and 7: neither a cut behind them nor what follows changes it
announced-cut : (s : List ℕ) (n : ℕ) → 8 ≤ n → word_at (take n s) 6 ≡ word_at s 6
announced-cut s n l = rw (get_or-take n s 6 0 (omega arith), get_or-take n s 7 0 (omega arith))

announced-stuck : (s more : List ℕ) → 8 ≤ length s → word_at (s ++ more) 6 ≡ word_at s 6
announced-stuck s more l = rw (get_or-append s more 0 6 (omega arith), get_or-append s more 0 7 (omega arith))

module _ (s : List ℕ) (h : Head) (e : read_of s ≡ Ok h) where
  -- 'a cut cable': the start of a message, as long as its first eight bytes are in it
  pub cut : (n : ℕ) → 8 ≤ n → n < length s → read_of (take n s) ≡ Err FewerThanAnnounced
  cut n l f =
      let w = whole s h e in
      let size : length (take n s) ≡ n = length-take-le n s (omega arith) in
      let word : word_at (take n s) 6 ≡ word_at s 6 = announced-cut s n l in
      reads-fewer (take n s) (omega arith) (omega (arith, w.few)) (omega (arith, w.size))

  -- 'two messages stuck together', or a stale byte: a message, and then any bytes
  pub stuck : (more : List ℕ) → 1 ≤ length more → read_of (s ++ more) ≡ Err MoreThanAnnounced
  stuck more l =
      let w = whole s h e in
      let size : length (s ++ more) ≡ length s + length more = length-append s more in
      let word : word_at (s ++ more) 6 ≡ word_at s 6 = announced-stuck s more (omega (arith, w.size)) in
      reads_more (s ++ more) (omega (arith, w.few)) (omega (arith, w.size))

-- ---- computed

-- twelve bytes of a message that announces five
abbrev twelve : List ℕ
twelve = 0x02 ∷ 0x02 ∷ 0x01 ∷ 0x00 ∷ 0x45 ∷ 0x03 ∷ 0x00 ∷ 0x05 ∷ 0xAA ∷ 0xBB ∷ 0xCC ∷ 0xDD ∷ []

pub twelve-for-thirteen : said_reading (read_of twelve) ≡ refused 3
unfolding read_of
twelve-for-thirteen = refl

-- a message of eight bytes
abbrev eight : List ℕ
eight = 0x02 ∷ 0x02 ∷ 0x01 ∷ 0x00 ∷ 0x45 ∷ 0x03 ∷ 0x00 ∷ 0x00 ∷ []

pub two-of-eight : said_reading (read_of (eight ++ eight)) ≡ refused 19
unfolding read_of
two-of-eight = refl
