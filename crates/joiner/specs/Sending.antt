-- What the PSAM sends, and a joiner that takes one piece after the other into one lent buffer.
use Rattle.std.specs.Prelude.{ℕ, ◌+◌, ◌≤◌, ◌≡◌, List, [], ◌∷◌, ◌++◌, length, replicate, Option, Some, None, Result, Ok, Err}
use Rattle.lists.specs.Lists.{onto}
use Rattle.tapa.specs.Codes.{response}
use Rattle.tapa.specs.declared.Refusal.{Refusal}
use Rattle.message.specs.Message.{head_bytes}
use Rattle.joiner.specs.declared.Joiner.{Joiner}
use Rattle.joiner.specs.Joining.{counting, answer_of, next_of, buffer_of, part_for}

-- ---- pieces

-- some data in pieces: the first and those after it, so that there is one at least
abbrev pub together : List ℕ → List (List ℕ) → List ℕ
together first [] = first
together first (next ∷ rest) = first ++ together next rest

-- all but the last piece have the status '9601', the last has '9000' (9.1.3.3)
abbrev pub sent : List ℕ → List (List ℕ) → List (List ℕ)
sent first [] = (first ++ (0x90 ∷ 0x00 ∷ [])) ∷ []
sent first (next ∷ rest) = (first ++ (0x96 ∷ 0x01 ∷ [])) ∷ sent next rest

-- 'A piece is 0 to 252 data bytes'
abbrev pub Small : List ℕ → Type 0
Small piece = length piece ≤ 252

-- a response as the PSAM sends it: 'the PSAM counts the code it leaves out'; its destination may be any
abbrev pub response_sent : ℕ → ℕ → ℕ → List ℕ → List ℕ
response_sent destination source thread rest = head_bytes destination source response thread (length rest + 2) ++ rest

-- ---- joining, one call after the other

abbrev pub answers_by : Joiner → List (List ℕ) → List ℕ → List (Result (Option ℕ) Refusal)
answers_by j [] buffer = []
answers_by j (p ∷ ps) buffer = answer_of j p buffer ∷ answers_by (next_of j p buffer) ps (buffer_of j p buffer)

abbrev pub joiner_by : Joiner → List (List ℕ) → List ℕ → Joiner
joiner_by j [] buffer = j
joiner_by j (p ∷ ps) buffer = joiner_by (next_of j p buffer) ps (buffer_of j p buffer)

abbrev pub buffer_by : Joiner → List (List ℕ) → List ℕ → List ℕ
buffer_by j [] buffer = buffer
buffer_by j (p ∷ ps) buffer = buffer_by (next_of j p buffer) ps (buffer_of j p buffer)

-- pieces that deliver a message: every answer but the last asks for Get Next, the last hands the message on, and the buffer starts with it
pub record Delivers (j : Joiner) (first : List ℕ) (rest : List (List ℕ)) (message before : List ℕ) : Type 0 where
  pub answers : answers_by j (sent first rest) before ≡ replicate (length rest) (Ok None) ++ (Ok (Some (length message)) ∷ [])
  pub next : joiner_by j (sent first rest) before ≡ counting j 0
  pub buffer : buffer_by j (sent first rest) before ≡ onto message before
  pub part : part_for (Ok (Some (length message))) (buffer_by j (sent first rest) before) ≡ message

-- pieces that are refused once the last is there: 'it drops what it joined' (request 04), and 'bytes already joined stay'
pub record Drops (j : Joiner) (first : List ℕ) (rest : List (List ℕ)) (r : Refusal) (before : List ℕ) : Type 0 where
  pub answers : answers_by j (sent first rest) before ≡ replicate (length rest) (Ok None) ++ (Err r ∷ [])
  pub next : joiner_by j (sent first rest) before ≡ counting j 0
  pub buffer : buffer_by j (sent first rest) before ≡ onto (together first rest) before
