-- The page's bytes, written out: Get Next, what is put to a response, and the joiner that holds nothing.
use Prim.Native.Nat.{ℕ, ◌/◌, ◌%◌, ◌≤◌, ◌<◌}
use Rattle.tapa.specs.declared.Refusal.{Refusal}
use Rattle.std.specs.Prelude.{Result}
use mathlib.Core.Path.{◌≡◌, refl, ◌∙◌}
use mathlib.Core.Bool.{false}
use mathlib.Core.List.{List, [], ◌∷◌, ◌++◌}
use lib.ListN.{length, drop}
use borrow.Author.Tests.{lt-ltb, le-ltb}
use Rattle.joiner.specs.Joining.{fresh_joiner, completed, Asks}

-- nothing is joined, and no thread has a source
pub fresh_holds : fresh_joiner ≡ record {
  joined = 0;
  sources = 0 ∷ 0 ∷ 0 ∷ 0 ∷ 0 ∷ 0 ∷ 0 ∷ 0 ∷ [];
  kept = false ∷ false ∷ false ∷ false ∷ false ∷ false ∷ false ∷ false ∷ [];
}
fresh_holds = refl

-- 'the destination becomes the source kept .., and '0000' is appended'
pub completed-bytes : (source : ℕ) (m : List ℕ) → completed source m ≡ source / 256 ∷ source % 256 ∷ (drop 2 m ++ (0x00 ∷ 0x00 ∷ []))
unfolding completed
completed-bytes source m = refl

-- Table 116, at the start of a buffer that has the five bytes; one that has not stays
module _ (thread : ℕ) (b a : List ℕ) (w : Result ℕ Refusal) (asks : Asks thread b a w) where
  pub asked : 5 ≤ length b → a ≡ 0xB0 ∷ 0xFC ∷ thread ∷ 0x00 ∷ 0x00 ∷ drop 5 b
  asked l = asks.buffer ∙ rw (le-ltb (length b) 5 l)

  pub not-asked : length b < 5 → a ≡ b
  not-asked l = asks.buffer ∙ rw (lt-ltb (length b) 5 l)
