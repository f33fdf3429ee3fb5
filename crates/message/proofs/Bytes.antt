-- Table 3 written out: a message with its head and data, and a response of a code alone.
use Prim.Native.Nat.{ℕ}
use Rattle.std.specs.Prelude.{Some, Ok}
use mathlib.Core.Path.{◌≡◌, refl}
use mathlib.Core.List.{List, [], ◌∷◌, ◌++◌}
use lib.ListN.{replicate}
use Rattle.tapa.specs.Said.{refused, says, written}
use Rattle.message.specs.Message.{read_of, part_of, part_start, code_of, message_of, writing_of, after_writing, response_of, responded}
use Rattle.message.specs.Said.{said_writing}

-- '0202' answers '0180' on thread 3, with two bytes of data and code 'FF24'
abbrev answer : List ℕ
answer = 0x01 ∷ 0x80 ∷ 0x02 ∷ 0x02 ∷ 0xFF ∷ 0x03 ∷ 0x00 ∷ 0x04 ∷ 0xAB ∷ 0xCD ∷ 0xFF ∷ 0x24 ∷ []

pub record Read : Type 0 where
  pub head : read_of answer ≡ Ok (record { destination = 0x0180; source = 0x0202; kind = 0xFF; thread = 3; length = 4 })
  -- the data starts at byte 8
  pub place : part_start answer ≡ 8
  pub part : part_of answer ≡ 0xAB ∷ 0xCD ∷ 0xFF ∷ 0x24 ∷ []
  pub code : code_of (part_of answer) ≡ Some 0xFF24
  pub bytes : message_of 0x0180 0x0202 0xFF 3 (0xAB ∷ 0xCD ∷ 0xFF ∷ 0x24 ∷ []) ≡ answer

pub read : Read
unfolding read_of part_of code_of message_of
read = record { head = refl; place = refl; part = refl; code = refl; bytes = refl }

-- the same message written: 'data over 1,024 (2), then a buffer under 8 + data (9), and bytes after the message stay'
abbrev part : List ℕ
part = 0xAB ∷ 0xCD ∷ 0xFF ∷ 0x24 ∷ []

abbrev after : ℕ → List ℕ
after room = after_writing (writing_of part (replicate room 0x55)) (message_of 0x0180 0x0202 0xFF 3 part) (replicate room 0x55)

pub record InBuffers : Type 0 where
  pub room-14 : (said_writing (writing_of part (replicate 14 0x55)) ≡ says written (12 ∷ [])) × (after 14 ≡ answer ++ (0x55 ∷ 0x55 ∷ []))
  pub room-12 : (said_writing (writing_of part (replicate 12 0x55)) ≡ says written (12 ∷ [])) × (after 12 ≡ answer)
  pub room-11 : (said_writing (writing_of part (replicate 11 0x55)) ≡ refused 9) × (after 11 ≡ replicate 11 0x55)
  pub of-1024 : said_writing (writing_of (replicate 1024 0xAA) (replicate 1032 0x55)) ≡ says written (1032 ∷ [])
  pub of-1025 : said_writing (writing_of (replicate 1025 0xAA) []) ≡ refused 2

pub in-buffers : InBuffers
unfolding message_of writing_of
in-buffers = record {
  room-14 = (refl, refl);
  room-12 = (refl, refl);
  room-11 = (refl, refl);
  of-1024 = refl;
  of-1025 = refl;
}

-- ten bytes are enough for a code, and nine are left as they were
pub record Responded : Type 0 where
  pub written : responded 0x0100 0x0282 5 0xFFF3 (replicate 11 0x55) ≡ 0x01 ∷ 0x00 ∷ 0x02 ∷ 0x82 ∷ 0xFF ∷ 0x05 ∷ 0x00 ∷ 0x02 ∷ 0xFF ∷ 0xF3 ∷ 0x55 ∷ []
  pub enough : responded 0x0100 0x0282 5 0xFFF3 (replicate 10 0x55) ≡ 0x01 ∷ 0x00 ∷ 0x02 ∷ 0x82 ∷ 0xFF ∷ 0x05 ∷ 0x00 ∷ 0x02 ∷ 0xFF ∷ 0xF3 ∷ []
  pub small : responded 0x0100 0x0282 5 0xFFF3 (replicate 9 0x55) ≡ replicate 9 0x55

pub in_bytes : Responded
unfolding message_of response_of
in_bytes = record { written = refl; enough = refl; small = refl }
