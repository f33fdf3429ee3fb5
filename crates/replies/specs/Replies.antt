-- A reply: its bytes, what is answered of it, and what the lent buffer then holds.
use Rattle.std.specs.Prelude.{ℕ, ◌+◌, ◌≡◌, List, length, Some, None, Result, Ok, Err, Option}
use Rattle.tapa.specs.declared.Refusal.{Refusal}
use Rattle.lists.specs.Lists.{onto}
use Rattle.tapa.specs.Codes.{response}
use Rattle.message.specs.declared.Head.{Head}
use Rattle.message.specs.Message.{message_of, writing_of, after_writing}

-- 'Source and destination are swapped exactly', and the thread is the message's own
abbrev pub response_to : Head → List ℕ → List ℕ
response_to h part = message_of h.source h.destination response h.thread part

-- ---- a reply that fits, or none

-- the answer is the reply's length
abbrev pub answer_of : Option (List ℕ) → Result (Option ℕ) Refusal
answer_of None = Ok None
answer_of (Some part) = Ok (Some (8 + length part))

-- 'lent bytes after the reply stay'
abbrev pub replied : Head → Option (List ℕ) → List ℕ → List ℕ
replied h None buffer = buffer
replied h (Some part) buffer = onto (response_to h part) buffer

-- what a response came to: the answer, and what the lent buffer then holds
pub record Answers (h : Head) (part : Option (List ℕ)) (before after : List ℕ) (a : Result (Option ℕ) Refusal) : Type 0 where
  pub answer : a ≡ answer_of part
  pub reply : after ≡ replied h part before

-- ---- any reply

-- the answer is the reply's length, or the writer's refusal: 'data over 1,024 (2), then a buffer under 8 + data (9)'
abbrev pub answer_after : Result ℕ Refusal → Result (Option ℕ) Refusal
answer_after (Ok n) = Ok (Some n)
answer_after (Err r) = Err r

-- what a response with these data came to; a refusal leaves every byte of the buffer
pub record Replies (h : Head) (part before after : List ℕ) (a : Result (Option ℕ) Refusal) : Type 0 where
  pub answer : a ≡ answer_after (writing_of part before)
  pub reply : after ≡ after_writing (writing_of part before) (response_to h part) before
