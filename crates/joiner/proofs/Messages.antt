-- Whole pieces and whole joined messages in bytes, computed, in a buffer of 1,032 bytes '55' where no other is named.
use Prim.Native.Nat.{ℕ, ◌≤◌}
use Rattle.std.specs.Prelude.{Some, Ok}
use mathlib.Core.Path.{◌≡◌, refl}
use mathlib.Core.Bool.{true, false}
use mathlib.Core.List.{List, [], ◌∷◌, ◌++◌, map}
use lib.ListN.{length, replicate}
use Rattle.tapa.specs.Said.{Said, refused, says, get_next, joined as hands_on, kept as keeps}
use Rattle.message.specs.Message.{read_of}
use Rattle.joiner.specs.declared.Joiner.{Joiner}
use Rattle.joiner.specs.Joining.{fresh_joiner, taking_of, whole_of, completed, answer_of, next_of, buffer_of, part_for, kept_of}
use Rattle.joiner.specs.Sending.{Small, answers_by, joiner_by, buffer_by}
use Rattle.joiner.specs.Said.{said_answer, said_keeping}

-- ---- the source of a '42' command: '0181' asks '0001' on thread 3

abbrev command : List ℕ
command = 0x00 ∷ 0x01 ∷ 0x01 ∷ 0x81 ∷ 0x42 ∷ 0x03 ∷ 0x00 ∷ 0x01 ∷ 0xAA ∷ []

-- a joiner that holds that source, with so many bytes joined
abbrev holding : ℕ → Joiner
holding n = record {
  joined = n;
  sources = 0 ∷ 0 ∷ 0 ∷ 0x0181 ∷ 0 ∷ 0 ∷ 0 ∷ 0 ∷ [];
  kept = false ∷ false ∷ false ∷ true ∷ false ∷ false ∷ false ∷ false ∷ [];
}

pub record Keeps : Type 0 where
  pub said : said_keeping (kept_of fresh_joiner command).answer ≡ says keeps []
  pub next : (kept_of fresh_joiner command).next ≡ holding 0
  -- 'type not '42' (15), 5', in this order; nothing is kept
  pub other-type : (said_keeping (kept_of fresh_joiner (0x00 ∷ 0x01 ∷ 0x01 ∷ 0x81 ∷ 0x43 ∷ 0x08 ∷ 0x00 ∷ 0x00 ∷ [])).answer ≡ refused 15)
      × ((kept_of fresh_joiner (0x00 ∷ 0x01 ∷ 0x01 ∷ 0x81 ∷ 0x43 ∷ 0x03 ∷ 0x00 ∷ 0x00 ∷ [])).next ≡ fresh_joiner)
  pub thread-8 : (said_keeping (kept_of fresh_joiner (0x00 ∷ 0x01 ∷ 0x01 ∷ 0x81 ∷ 0x42 ∷ 0x08 ∷ 0x00 ∷ 0x00 ∷ [])).answer ≡ refused 5)
      × ((kept_of fresh_joiner (0x00 ∷ 0x01 ∷ 0x01 ∷ 0x81 ∷ 0x42 ∷ 0x08 ∷ 0x00 ∷ 0x00 ∷ [])).next ≡ fresh_joiner)

pub keeping : Keeps
unfolding read_of kept_of
keeping = record { said = refl; next = refl; other-type = (refl, refl); thread-8 = (refl, refl) }

-- ---- whole messages

-- what is said of each piece, the joiner after them, and the whole buffer
pub record Came : Type 0 where
  pub said : List Said
  pub next : Joiner
  pub buffer : List ℕ

abbrev came : List Said → Joiner → List ℕ → Came
came said next buffer = record { said = said; next = next; buffer = buffer }

abbrev sent : Joiner → List (List ℕ) → ℕ → Came
sent j pieces room =
    came (map said_answer (answers_by j pieces (replicate room 0x55))) (joiner_by j pieces (replicate room 0x55)) (buffer_by j pieces (replicate room 0x55))

-- '0001' answers on thread 3, its destination as the PSAM left it; six data bytes are announced, four come, and the code is the joiner's
abbrev pieces : List (List ℕ)
pieces = (0x00 ∷ 0x00 ∷ 0x00 ∷ 0x01 ∷ 0xFF ∷ 0x03 ∷ 0x00 ∷ 0x06 ∷ 0xAA ∷ 0xBB ∷ 0x96 ∷ 0x01 ∷ []) ∷ (0xCC ∷ 0xDD ∷ 0x90 ∷ 0x00 ∷ []) ∷ []

abbrev whole : List ℕ
whole = 0x01 ∷ 0x81 ∷ 0x00 ∷ 0x01 ∷ 0xFF ∷ 0x03 ∷ 0x00 ∷ 0x06 ∷ 0xAA ∷ 0xBB ∷ 0xCC ∷ 0xDD ∷ 0x00 ∷ 0x00 ∷ []

pub record Joined : Type 0 where
  -- 'the destination becomes the source kept from the thread's last '42' command', 'and '0000' is appended'
  pub response : sent (holding 0) pieces 1032 ≡ came (says get_next [] ∷ says hands_on (14 ∷ []) ∷ []) (holding 0) (whole ++ replicate 1018 0x55)
  -- 'which hands on the joined message as a part'
  pub part : part_for (Ok (Some 14)) (whole ++ replicate 1018 0x55) ≡ whole
  -- 'none kept being 17'; both pieces stay written, and neither source nor code is
  pub none_kept : sent fresh_joiner pieces 1032
      ≡ came (says get_next [] ∷ refused 17 ∷ []) fresh_joiner
      (0x00 ∷ 0x00 ∷ 0x00 ∷ 0x01 ∷ 0xFF ∷ 0x03 ∷ 0x00 ∷ 0x06 ∷ 0xAA ∷ 0xBB ∷ 0xCC ∷ 0xDD ∷ replicate 1020 0x55)
  -- a command goes on as it is, and needs no source: a piece of no data bytes first, and the count is m - 8
  pub plain : sent fresh_joiner ((0x96 ∷ 0x01 ∷ []) ∷ (0x03 ∷ 0x04 ∷ 0x00 ∷ 0x01 ∷ 0x61 ∷ 0x03 ∷ 0x00 ∷ 0x01 ∷ 0x09 ∷ 0x90 ∷ 0x00 ∷ []) ∷ []) 1032
      ≡ came (says get_next [] ∷ says hands_on (9 ∷ []) ∷ []) fresh_joiner
      (0x03 ∷ 0x04 ∷ 0x00 ∷ 0x01 ∷ 0x61 ∷ 0x03 ∷ 0x00 ∷ 0x01 ∷ 0x09 ∷ replicate 1023 0x55)
  -- 'm under 8 (1); thread above 7 (5)', 'A length over 1,024 is 2'
  pub seven : sent (holding 0) ((0x00 ∷ 0x00 ∷ 0x00 ∷ 0x01 ∷ 0xFF ∷ 0x08 ∷ 0x00 ∷ 0x90 ∷ 0x00 ∷ []) ∷ []) 1032
      ≡ came (refused 1 ∷ []) (holding 0) (0x00 ∷ 0x00 ∷ 0x00 ∷ 0x01 ∷ 0xFF ∷ 0x08 ∷ 0x00 ∷ replicate 1025 0x55)
  pub thread-8 : sent (holding 0) ((0x00 ∷ 0x00 ∷ 0x00 ∷ 0x01 ∷ 0xFF ∷ 0x08 ∷ 0x04 ∷ 0x01 ∷ 0x90 ∷ 0x00 ∷ []) ∷ []) 1032
      ≡ came (refused 5 ∷ []) (holding 0) (0x00 ∷ 0x00 ∷ 0x00 ∷ 0x01 ∷ 0xFF ∷ 0x08 ∷ 0x04 ∷ 0x01 ∷ replicate 1024 0x55)
  pub of-1025 : sent (holding 0) ((0x00 ∷ 0x00 ∷ 0x00 ∷ 0x01 ∷ 0xFF ∷ 0x03 ∷ 0x04 ∷ 0x01 ∷ 0x90 ∷ 0x00 ∷ []) ∷ []) 1032
      ≡ came (refused 2 ∷ []) (holding 0) (0x00 ∷ 0x00 ∷ 0x00 ∷ 0x01 ∷ 0xFF ∷ 0x03 ∷ 0x04 ∷ 0x01 ∷ replicate 1024 0x55)

pub joins : Joined
unfolding taking_of whole_of completed answer_of next_of buffer_of
joins = record {
  response = refl;
  part = refl;
  none_kept = refl;
  plain = refl;
  seven = refl;
  thread-8 = refl;
  of-1025 = refl;
}

-- ---- one piece: its status, and the limits

-- to a joiner that has so many bytes joined
abbrev one : (n : ℕ) → List ℕ → ℕ → Came
one n piece room = sent (holding n) (piece ∷ []) room

-- a refusal: nothing is joined after it, and nothing of the piece is written
abbrev not_taken : ℕ → Came
not_taken number = came (refused number ∷ []) (holding 0) (replicate 1032 0x55)

-- 'A piece is 0 to 252 data bytes'
pub small : (piece : List ℕ) → (Small piece → length piece ≤ 252) × (length piece ≤ 252 → Small piece)
small piece = ((λ s. s), (λ l. l))

pub record Pieces : Type 0 where
  -- ''9601' asks for Get Next', and the data stands from the joined count on
  pub more : one 2 (0xAA ∷ 0xBB ∷ 0x96 ∷ 0x01 ∷ []) 1032 ≡ came (says get_next [] ∷ []) (holding 4) (0x55 ∷ 0x55 ∷ 0xAA ∷ 0xBB ∷ replicate 1028 0x55)
  -- 'status neither '9601' nor '9000' (18)'
  pub other-status : (one 2 (0xAA ∷ 0x90 ∷ 0x01 ∷ []) 1032 ≡ not_taken 18) × (one 2 (0xAA ∷ 0x96 ∷ 0x00 ∷ []) 1032 ≡ not_taken 18)
      × (one 2 (0xAA ∷ 0x61 ∷ 0x00 ∷ []) 1032 ≡ not_taken 18) × (one 2 (0xAA ∷ 0x01 ∷ 0x96 ∷ []) 1032 ≡ not_taken 18)
      × (one 2 (0xAA ∷ 0x00 ∷ 0x90 ∷ []) 1032 ≡ not_taken 18) × (one 2 (0x96 ∷ 0x01 ∷ 0xAA ∷ []) 1032 ≡ not_taken 18)
  -- 'A piece is 0 to 252 data bytes and two status bytes': 'piece under 2 (1); over 254 (2)'
  pub of-1 : one 2 (0x96 ∷ []) 1032 ≡ not_taken 1
  pub of-2 : one 2 (0x96 ∷ 0x01 ∷ []) 1032 ≡ came (says get_next [] ∷ []) (holding 2) (replicate 1032 0x55)
  pub of-254 : one 0 (replicate 252 0xAA ++ (0x96 ∷ 0x01 ∷ [])) 1032 ≡ came (says get_next [] ∷ []) (holding 252) (replicate 252 0xAA ++ replicate 780 0x55)
  pub of-255 : one 0 (replicate 253 0xAA ++ (0x96 ∷ 0x01 ∷ [])) 1032 ≡ not_taken 2
  -- 'sum over 1,032 (2)': 1,008 and 24, and one byte more
  pub sum-1032 : one 1008 (replicate 24 0xAA ++ (0x96 ∷ 0x01 ∷ [])) 1032 ≡ came (says get_next [] ∷ []) (holding 1032) (replicate 1008 0x55 ++ replicate 24 0xAA)
  pub sum-1033 : one 1008 (replicate 25 0xAA ++ (0x96 ∷ 0x01 ∷ [])) 1032 ≡ not_taken 2
  -- 18 comes before a sum that is too long
  pub status-first : one 1032 (0xAA ∷ 0x90 ∷ 0x01 ∷ []) 1032 ≡ not_taken 18
  -- 'buffer under 1,032 (9)': the count stays
  pub buffer-1031 : one 2 (0xAA ∷ 0x96 ∷ 0x01 ∷ []) 1031 ≡ came (refused 9 ∷ []) (holding 2) (replicate 1031 0x55)

pub piece : Pieces
unfolding taking_of answer_of next_of buffer_of
piece = record {
  more = refl;
  other-status = (refl, refl, refl, refl, refl, refl);
  of-1 = refl;
  of-2 = refl;
  of-254 = refl;
  of-255 = refl;
  sum-1032 = refl;
  sum-1033 = refl;
  status-first = refl;
  buffer-1031 = refl;
}
