-- The page's bytes, written out: a command, and one response cut.
use Prim.Native.Nat.{ℕ}
use mathlib.Core.Path.{◌≡◌, refl}
use mathlib.Core.List.{List, [], ◌∷◌, ◌++◌}
use lib.ListN.{length, replicate}
use Rattle.tapa.specs.Said.{says, cutting, command, done}
use Rattle.message.specs.Message.{read_of, part_of}
use Rattle.cutter.specs.declared.First.{First}
use Rattle.cutter.specs.Cutting.{start_of, to_cut, cut_start, command_of, piece_at, p2_at, cut_at, Firsts}
use Rattle.cutter.specs.Said.{said_start, said_cut}

-- ''B0 FE', thread, P2, Lc, data, '00''
pub command-bytes : (thread p2 : ℕ) (piece : List ℕ) → command_of thread p2 piece ≡ 0xB0 ∷ 0xFE ∷ thread ∷ p2 ∷ length piece ∷ (piece ++ (0x00 ∷ []))
unfolding command_of
command-bytes thread p2 piece = refl

-- ---- computed: a response on thread 5 with four data bytes, and a buffer of 254

abbrev reply : List ℕ
reply = 0x01 ∷ 0x81 ∷ 0x02 ∷ 0x02 ∷ 0xFF ∷ 0x05 ∷ 0x00 ∷ 0x04 ∷ 0xAA ∷ 0xBB ∷ 0x00 ∷ 0x00 ∷ []

abbrev lent : List ℕ
lent = replicate 254 0x55

pub record Computed : Type 0 where
  pub start : said_start (start_of reply) ≡ says cutting (5 ∷ [])
  -- the data to cut stands in the response from byte 8 on
  pub place : cut_start (start_of reply) reply ≡ 8
  pub part : to_cut reply ≡ 0xAA ∷ 0xBB ∷ 0x00 ∷ 0x00 ∷ []
  -- its one command, and the bytes past it as they were; then nothing is left
  pub first : (f : First) (after : List ℕ) → Firsts reply lent after f → (said_cut f.cut ≡ says command (10 ∷ [])) × (f.next ≡ 4)
  pub written : (f : First) (after : List ℕ) → Firsts reply lent after f
      → after ≡ 0xB0 ∷ 0xFE ∷ 0x05 ∷ 0x00 ∷ 0x04 ∷ 0xAA ∷ 0xBB ∷ 0x00 ∷ 0x00 ∷ 0x00 ∷ replicate 244 0x55
  pub over : said_cut (cut_at (to_cut reply) 4 lent) ≡ says done []

pub computed : Computed
unfolding read_of part_of start_of to_cut command_of piece_at p2_at cut_at
computed = record {
  start = refl;
  place = refl;
  part = refl;
  first = λ f after x. ((λ i. said_cut (x.answer i).cut), (λ i. (x.answer i).next));
  written = λ f after x. x.buffer;
  over = refl;
}
