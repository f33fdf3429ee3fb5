-- Whole responses cut into whole commands in bytes, computed: '0202' answers '0181' on thread 5, and its last two data bytes are the code '1234'.
use Prim.Native.Nat.{ℕ, ◌≤◌}
use mathlib.Core.Path.{◌≡◌, refl}
use mathlib.Core.List.{List, [], ◌∷◌, ◌++◌}
use lib.ListN.{length, take, drop, get_or, replicate}
use Rattle.tapa.specs.Said.{Said, refused, says, cutting, command, done}
use Rattle.message.specs.Message.{read_of, part_of}
use Rattle.cutter.specs.Cutting.{start_of, thread_of, to_cut, command_of, piece_at, p2_at, cut_at, place_after, written_at}
use Rattle.cutter.specs.Handing.{commands_of, IsLast, IsMore}
use Rattle.cutter.specs.Said.{said_start, said_cut}

-- ---- 'All but the last have P2 '01' and 248 bytes; the last has P2 '00' and 1 to 248.'

-- a response: its head with the two bytes of its data length, so many data bytes 'AA', and the code
abbrev response : (high low count : ℕ) → List ℕ
response high low count = 0x01 ∷ 0x81 ∷ 0x02 ∷ 0x02 ∷ 0xFF ∷ 0x05 ∷ high ∷ low ∷ (replicate count 0xAA ++ (0x12 ∷ 0x34 ∷ []))

-- the commands of all of it
abbrev cut : List ℕ → List (List ℕ)
cut message = commands_of (to_cut message) (thread_of (start_of message))

pub record Cuts : Type 0 where
  -- the code alone
  pub of-2 : cut (response 0x00 0x02 0) ≡ (0xB0 ∷ 0xFE ∷ 0x05 ∷ 0x00 ∷ 0x02 ∷ 0x12 ∷ 0x34 ∷ 0x00 ∷ []) ∷ []
  -- exactly 248: one command, the last
  pub of-248 : cut (response 0x00 0xF8 246) ≡ (0xB0 ∷ 0xFE ∷ 0x05 ∷ 0x00 ∷ 0xF8 ∷ (replicate 246 0xAA ++ (0x12 ∷ 0x34 ∷ 0x00 ∷ []))) ∷ []
  -- 249: 248, and then one
  pub of-249 : cut (response 0x00 0xF9 247)
      ≡ (0xB0 ∷ 0xFE ∷ 0x05 ∷ 0x01 ∷ 0xF8 ∷ (replicate 247 0xAA ++ (0x12 ∷ 0x00 ∷ [])))
      ∷ (0xB0 ∷ 0xFE ∷ 0x05 ∷ 0x00 ∷ 0x01 ∷ 0x34 ∷ 0x00 ∷ [])
      ∷ []
  -- exactly 496: twice 248
  pub of-496 : cut (response 0x01 0xF0 494)
      ≡ (0xB0 ∷ 0xFE ∷ 0x05 ∷ 0x01 ∷ 0xF8 ∷ (replicate 248 0xAA ++ (0x00 ∷ [])))
      ∷ (0xB0 ∷ 0xFE ∷ 0x05 ∷ 0x00 ∷ 0xF8 ∷ (replicate 246 0xAA ++ (0x12 ∷ 0x34 ∷ 0x00 ∷ [])))
      ∷ []
  -- 1,024, the longest: four times 248, and 32
  pub of-1024 : cut (response 0x04 0x00 1022)
      ≡ replicate 4 (0xB0 ∷ 0xFE ∷ 0x05 ∷ 0x01 ∷ 0xF8 ∷ (replicate 248 0xAA ++ (0x00 ∷ [])))
      ++ ((0xB0 ∷ 0xFE ∷ 0x05 ∷ 0x00 ∷ 0x20 ∷ (replicate 30 0xAA ++ (0x12 ∷ 0x34 ∷ 0x00 ∷ []))) ∷ [])

pub cuts : Cuts
unfolding read_of part_of start_of to_cut command_of piece_at p2_at
cuts = record {
  of-2 = refl;
  of-248 = refl;
  of-249 = refl;
  of-496 = refl;
  of-1024 = refl;
}

-- what is said of every last command, and of every other
pub last-is : (c : List ℕ) → IsLast c → (get_or c 3 0 ≡ 0x00) × (1 ≤ length (take (get_or c 4 0) (drop 5 c))) × (length (take (get_or c 4 0) (drop 5 c)) ≤ 248)
last-is c l = (l.p2, l.some, l.few)

pub more-is : (c : List ℕ) → IsMore c → (get_or c 3 0 ≡ 0x01) × (length (take (get_or c 4 0) (drop 5 c)) ≡ 248)
more-is c m = (m.p2, m.full)

-- ---- 'at each handing out, also after the last: buffer under 254 (9), the place kept'; 'bytes past a command stay'

-- what is said of a handing out, the place after it, and the whole buffer
pub record Out : Type 0 where
  pub said : Said
  pub place : ℕ
  pub buffer : List ℕ

-- of the response with 249 data bytes, at a place, with a buffer of so many bytes '55'
abbrev hands : (at room : ℕ) → Out
hands at room = record {
  said = said_cut (cut_at (to_cut (response 0x00 0xF9 247)) at (replicate room 0x55));
  place = place_after (cut_at (to_cut (response 0x00 0xF9 247)) at (replicate room 0x55)) (to_cut (response 0x00 0xF9 247)) at;
  buffer = written_at (to_cut (response 0x00 0xF9 247)) 5 at (replicate room 0x55);
}

abbrev out : Said → ℕ → List ℕ → Out
out said place buffer = record { said = said; place = place; buffer = buffer }

pub record Handed : Type 0 where
  pub first : hands 0 254 ≡ out (says command (254 ∷ [])) 248 (0xB0 ∷ 0xFE ∷ 0x05 ∷ 0x01 ∷ 0xF8 ∷ (replicate 247 0xAA ++ (0x12 ∷ 0x00 ∷ [])))
  pub last : hands 248 256 ≡ out (says command (7 ∷ [])) 249 (0xB0 ∷ 0xFE ∷ 0x05 ∷ 0x00 ∷ 0x01 ∷ 0x34 ∷ 0x00 ∷ replicate 249 0x55)
  pub over : hands 249 254 ≡ out (says done []) 249 (replicate 254 0x55)
  pub small : (hands 0 253 ≡ out (refused 9) 0 (replicate 253 0x55)) × (hands 248 253 ≡ out (refused 9) 248 (replicate 253 0x55))
      × (hands 249 253 ≡ out (refused 9) 249 (replicate 253 0x55))

pub handed : Handed
unfolding read_of part_of start_of to_cut command_of piece_at p2_at cut_at
handed = record { first = refl; last = refl; over = refl; small = (refl, refl, refl) }

-- ---- 'Checks at the start: 1, 2, 3, type not 'FF' (15), 5, 6'

abbrev begins : List ℕ → Said
begins message = said_start (start_of message)

pub record Starts : Type 0 where
  pub thread-7 : begins (0x01 ∷ 0x00 ∷ 0x02 ∷ 0x02 ∷ 0xFF ∷ 0x07 ∷ 0x00 ∷ 0x02 ∷ 0x00 ∷ 0x00 ∷ []) ≡ says cutting (7 ∷ [])
  pub thread-8 : begins (0x01 ∷ 0x00 ∷ 0x02 ∷ 0x02 ∷ 0xFF ∷ 0x08 ∷ 0x00 ∷ 0x02 ∷ 0x00 ∷ 0x00 ∷ []) ≡ refused 5
  pub no_code : begins (0x01 ∷ 0x00 ∷ 0x02 ∷ 0x02 ∷ 0xFF ∷ 0x07 ∷ 0x00 ∷ 0x01 ∷ 0x00 ∷ []) ≡ refused 6
  pub no-response : begins (0x01 ∷ 0x00 ∷ 0x02 ∷ 0x02 ∷ 0xFE ∷ 0x08 ∷ 0x00 ∷ 0x01 ∷ 0x00 ∷ []) ≡ refused 15
  pub fewer : begins (0x01 ∷ 0x00 ∷ 0x02 ∷ 0x02 ∷ 0xFE ∷ 0x08 ∷ 0x00 ∷ 0x02 ∷ 0x00 ∷ []) ≡ refused 3

pub starts : Starts
unfolding read_of start_of
starts = record {
  thread-7 = refl;
  thread-8 = refl;
  no_code = refl;
  no-response = refl;
  fewer = refl;
}
