-- Towards the PSAM: 'Cutting. A response's data, code included, becomes commands'.
use Rattle.std.specs.Prelude.{ℕ, ◌+◌, ◌-◌, ◌≡◌, Bool, not, cond, List, [], ◌∷◌, ◌++◌, eqb, ltb, leb, length, take, drop, Result, Ok, Err, Option, Some, None}
use Rattle.tapa.specs.declared.Refusal.{Refusal}
use Rattle.std.specs.Borrow.{Bor}
use Rattle.lists.specs.Lists.{checks, onto, LiesAt}
use Rattle.tapa.specs.Codes.{response}
use Rattle.tapa.specs.declared.Refusal.TheVariants.{ThreadAbove7, NoResponseCode, BufferTooSmall, NotThisPartsMessage}
use Rattle.message.specs.Message.{read_of, part_of, part_start}
use Rattle.message.specs.declared.Head.{Head}
use Rattle.cutter.specs.declared.Handed.{Handed}
use Rattle.cutter.specs.declared.Cutter.{Cutter}
use Rattle.cutter.specs.declared.Step.{Step}
use Rattle.cutter.specs.declared.Begun.{Begun}
use Rattle.cutter.specs.declared.First.{First}

-- ---- the start

-- 'Checks at the start: 1, 2, 3, type not 'FF' (15), 5, 6'; the reader makes the first three, and has 19 at the place of 3 (request 04)
abbrev pub start_checks : Head → List (Bool × Result ℕ Refusal)
start_checks h =
    (not (eqb h.kind response), Err NotThisPartsMessage)
    ∷ (ltb 7 h.thread, Err ThreadAbove7)
    ∷ (ltb h.length 2, Err NoResponseCode)
    ∷ []

abbrev pub start_on : Result Head Refusal → Result ℕ Refusal
start_on (Err r) = Err r
start_on (Ok h) = checks (start_checks h) (Ok h.thread)

unfoldable pub start_of : List ℕ → Result ℕ Refusal
start_of message = start_on (read_of message)

-- the thread that the commands bear; a refused start bears none, said as 0
abbrev pub thread_of : Result ℕ Refusal → ℕ
thread_of (Ok thread) = thread
thread_of (Err r) = 0

-- 'A response's data, code included'; a refused start has nothing to cut
abbrev pub to_cut_from : Result ℕ Refusal → List ℕ → List ℕ
to_cut_from (Ok thread) message = part_of message
to_cut_from (Err r) message = []

unfoldable pub to_cut : List ℕ → List ℕ
to_cut message = to_cut_from (start_of message) message

-- where it starts in the message
abbrev pub cut_start : Result ℕ Refusal → List ℕ → ℕ
cut_start (Ok thread) message = part_start message
cut_start (Err r) message = 0

-- the data to cut, handed out: its bytes, and that it stands in the message itself
pub record PartToCut (message part : Bor (List ℕ)) : Type 0 where
  pub bytes : part.now ≡ to_cut message.now
  pub place : LiesAt (cut_start (start_of message.now) message.now) message part

-- ---- one command

-- ''B0 FE', thread, P2, Lc, data, '00''
abbrev pub command_head : ℕ → ℕ → ℕ → List ℕ
command_head thread p2 count = 0xB0 ∷ 0xFE ∷ thread ∷ p2 ∷ count ∷ []

unfoldable pub command_of : ℕ → ℕ → List ℕ → List ℕ
command_of thread p2 piece = command_head thread p2 (length piece) ++ (piece ++ (0x00 ∷ []))

-- 'All but the last have P2 '01' and 248 bytes; the last has P2 '00' and 1 to 248.'
unfoldable pub piece_at : List ℕ → ℕ → List ℕ
piece_at part at = take 248 (drop at part)

unfoldable pub p2_at : List ℕ → ℕ → ℕ
p2_at part at = cond (ltb 248 (length part - at)) 0x01 0x00

-- the command that stands at a place
abbrev pub command_at : List ℕ → ℕ → ℕ → List ℕ
command_at part thread at = command_of thread (p2_at part at) (piece_at part at)

-- ---- handing out

-- 'at each handing out, also after the last: buffer under 254 (9)'; 'After the last command the outcome is done'
abbrev pub cut_checks : List ℕ → ℕ → List ℕ → List (Bool × Result (Option ℕ) Refusal)
cut_checks part at buffer =
    (ltb (length buffer) 254, Err BufferTooSmall)
    ∷ (leb (length part) at, Ok None)
    ∷ []

-- else the command's length
unfoldable pub cut_at : List ℕ → ℕ → List ℕ → Result (Option ℕ) Refusal
cut_at part at buffer = checks (cut_checks part at buffer) (Ok (Some (6 + length (piece_at part at))))

-- the place moves past what was handed out, and is kept otherwise
abbrev pub place_after : Result (Option ℕ) Refusal → List ℕ → ℕ → ℕ
place_after (Ok (Some n)) part at = at + length (piece_at part at)
place_after (Ok None) part at = at
place_after (Err r) part at = at

-- 'bytes past a command stay'; done and a refusal leave every byte
abbrev pub buffer_after : Result (Option ℕ) Refusal → List ℕ → List ℕ → List ℕ
buffer_after (Ok (Some n)) command buffer = onto command buffer
buffer_after (Ok None) command buffer = buffer
buffer_after (Err r) command buffer = buffer

abbrev pub handed_at : List ℕ → ℕ → List ℕ → Handed
handed_at part at buffer = record { cut = cut_at part at buffer; next = place_after (cut_at part at buffer) part at }

abbrev pub written_at : List ℕ → ℕ → ℕ → List ℕ → List ℕ
written_at part thread at buffer = buffer_after (cut_at part at buffer) (command_at part thread at) buffer

-- what a handing out answers, and what its buffer then holds
pub record HandsOut (part : List ℕ) (thread at : ℕ) (before after : List ℕ) (h : Handed) : Type 0 where
  pub answer : h ≡ handed_at part at before
  pub buffer : after ≡ written_at part thread at before

-- ---- 'The cutter holds the caller's data and its place'

abbrev pub cutter_at : Bor (List ℕ) → ℕ → ℕ → Cutter
cutter_at part thread at = record { part = part; thread = thread; at = at }

-- the answer, and the cutter over the same data at the next place
abbrev pub step_of : Cutter → List ℕ → Step
step_of c buffer = record {
  cut = cut_at c.part.now c.at buffer;
  rest = cutter_at c.part c.thread (place_after (cut_at c.part.now c.at buffer) c.part.now c.at);
}

pub record Steps (c : Cutter) (before after : List ℕ) (s : Step) : Type 0 where
  pub answer : s ≡ step_of c before
  pub buffer : after ≡ written_at c.part.now c.thread c.at before

-- a start over a message: the answer, and the cutter over the message's own data at its first place
pub record Begins (message : Bor (List ℕ)) (b : Begun) : Type 0 where
  pub start : b.start ≡ start_of message.now
  pub part : PartToCut message b.cutter.part
  pub thread : b.cutter.thread ≡ thread_of (start_of message.now)
  pub at : b.cutter.at ≡ 0

-- a start and the first handing out at once
abbrev pub first_of : List ℕ → List ℕ → First
first_of message buffer = record {
  start = start_of message;
  cut = cut_at (to_cut message) 0 buffer;
  next = place_after (cut_at (to_cut message) 0 buffer) (to_cut message) 0;
}

pub record Firsts (message before after : List ℕ) (f : First) : Type 0 where
  pub answer : f ≡ first_of message before
  pub buffer : after ≡ written_at (to_cut message) (thread_of (start_of message)) 0 before
