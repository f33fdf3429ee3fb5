-- The message (Table 3)
use Rattle.std.specs.Prelude.{ℕ, ◌+◌, ◌-◌, ◌/◌, ◌%◌, ◌≡◌, Bool, true, false, cond, List, [], ◌∷◌, ◌++◌, ltb, length, drop, get_or, Option, Some, None, Result, Ok, Err}
use Rattle.tapa.specs.declared.Refusal.{Refusal}
use Rattle.std.specs.Borrow.{Bor}
use Rattle.lists.specs.Lists.{checks, onto, LiesAt}
use Rattle.tapa.specs.Numbers.{word_at, two_bytes}
use Rattle.tapa.specs.Codes.{response}
use Rattle.tapa.specs.declared.Refusal.TheVariants.{TooShort, TooLong, FewerThanAnnounced, MoreThanAnnounced, BufferTooSmall}
use Rattle.message.specs.declared.Head.{Head}

-- ---- reading

-- 'Destination 2 bytes, source 2, type 1, thread 1, data length 2, then the data.'
abbrev pub head_of : List ℕ → Head
head_of s = record {
  destination = word_at s 0;
  source = word_at s 2;
  kind = get_or s 4 0;
  thread = get_or s 5 0;
  length = word_at s 6;
}

-- 'The reader checks 1, 2, 3'; request 04: 'fewer bytes than announced stays 3, more bytes becomes 19', '19 stands at the place of 3'
abbrev pub read_checks : List ℕ → List (Bool × Result Head Refusal)
read_checks s =
    (ltb (length s) 8, Err TooShort)
    ∷ (ltb 1024 (word_at s 6), Err TooLong)
    ∷ (ltb (length s) (8 + word_at s 6), Err FewerThanAnnounced)
    ∷ (ltb (8 + word_at s 6) (length s), Err MoreThanAnnounced)
    ∷ []

unfoldable pub read_of : List ℕ → Result Head Refusal
read_of s = checks (read_checks s) (Ok (head_of s))

-- whether a reading is a message
abbrev pub reads : Result Head Refusal → Bool
reads (Ok h) = true
reads (Err r) = false

-- 'The data starts at byte 8 and is handed on from there'; what is no message has none
unfoldable pub part_of : List ℕ → List ℕ
part_of s = cond (reads (read_of s)) (drop 8 s) []

-- where it starts; the empty part of what is no message is its start
abbrev pub part_start : List ℕ → ℕ
part_start s = cond (reads (read_of s)) 8 0

-- the data part handed out: its bytes, and that it stands in the message itself
pub record DataPart (message part : Bor (List ℕ)) : Type 0 where
  pub bytes : part.now ≡ part_of message.now
  pub place : LiesAt (part_start message.now) message part

-- 'its last two data bytes are the response code'
unfoldable pub code_of : List ℕ → Option ℕ
code_of part = cond (ltb (length part) 2) None (Some (word_at part (length part - 2)))

-- ---- writing

-- the eight bytes before the data
abbrev pub head_bytes : ℕ → ℕ → ℕ → ℕ → ℕ → List ℕ
head_bytes destination source kind thread long =
    destination / 256
    ∷ destination % 256
    ∷ source / 256
    ∷ source % 256
    ∷ kind
    ∷ thread
    ∷ long / 256
    ∷ long % 256
    ∷ []

-- a message as bytes
unfoldable pub message_of : ℕ → ℕ → ℕ → ℕ → List ℕ → List ℕ
message_of destination source kind thread part = head_bytes destination source kind thread (length part) ++ part

-- 'the writer checks data over 1,024 (2), then a buffer under 8 + data (9)'
abbrev pub write_checks : List ℕ → List ℕ → List (Bool × Result ℕ Refusal)
write_checks part buffer =
    (ltb 1024 (length part), Err TooLong)
    ∷ (ltb (length buffer) (8 + length part), Err BufferTooSmall)
    ∷ []

-- else the message's length
unfoldable pub writing_of : List ℕ → List ℕ → Result ℕ Refusal
writing_of part buffer = checks (write_checks part buffer) (Ok (8 + length part))

-- 'bytes after the message stay'; a refusal leaves every byte
abbrev pub after_writing : Result ℕ Refusal → List ℕ → List ℕ → List ℕ
after_writing (Ok n) message buffer = onto message buffer
after_writing (Err r) message buffer = buffer

-- what a call of the writer answers, and what its buffer then holds
pub record Wrote (destination source kind thread : ℕ) (part before after : List ℕ) (w : Result ℕ Refusal) : Type 0 where
  pub answer : w ≡ writing_of part before
  pub buffer : after ≡ after_writing (writing_of part before) (message_of destination source kind thread part) before

-- ---- a response that carries its code alone

unfoldable pub response_of : ℕ → ℕ → ℕ → ℕ → List ℕ
response_of destination source thread code = message_of destination source response thread (two_bytes code)

-- written at the start of a buffer; one of under 10 bytes stays as it is
abbrev pub responded : ℕ → ℕ → ℕ → ℕ → List ℕ → List ℕ
responded destination source thread code buffer =
    cond (ltb (length buffer) 10) buffer (onto (response_of destination source thread code) buffer)
