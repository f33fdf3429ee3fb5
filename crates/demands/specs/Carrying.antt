-- Demand 2, of messages: reader and writer undo each other, a response's commands carry its data to the PSAM, and what the PSAM sends in pieces is
-- joined to the message that was cut.
use Rattle.std.specs.Prelude.{ℕ, ◌+◌, ◌≤◌, ◌≡◌, true, false, List, [], ◌∷◌, ◌++◌, length, take, get_or, Result, Ok}
use Rattle.tapa.specs.declared.Refusal.{Refusal}
use Rattle.std.specs.Borrow.{Bor}
use Rattle.lists.specs.Lists.{All, Bytes, count}
use Rattle.message.specs.declared.Head.{Head}
use Rattle.message.specs.Message.{read_of, part_of, message_of, Wrote}
use Rattle.cutter.specs.declared.Begun.{Begun}
use Rattle.cutter.specs.Cutting.{to_cut, Begins}
use Rattle.cutter.specs.Handing.{command_count, together as carried_by, Shaped, handed_from, long_enough}
use Rattle.joiner.specs.declared.Joiner.{Joiner}
use Rattle.joiner.specs.Sending.{together, Small, response_sent, Delivers}

pub record Carrying : Type 0 where
  -- 'Each undoes the other.' What was written reads as the same fields and the same data, whatever stood in the buffer
  pub written_read : (destination source kind thread : ℕ) (part before after : List ℕ) (n : ℕ) → Wrote destination source kind thread part before after (Ok n)
      → (read_of (take n after) ≡ Ok (record { destination = destination; source = source; kind = kind; thread = thread; length = length part }))
      × (part_of (take n after) ≡ part)
  -- and what was read is written as the same bytes
  pub read-written : (s : List ℕ) (h : Head) → Bytes s → read_of s ≡ Ok h → (before after : List ℕ) (w : Result ℕ Refusal) → length s ≤ length before
      → Wrote h.destination h.source h.kind h.thread (part_of s) before after w → (w ≡ Ok (length s)) × (take (length s) after ≡ s)
  -- cutting: the data of the commands that a cutter hands out, one after the other, are 'a response's data, code included'; 'all but the last have P2
  -- '01' and 248 bytes; the last has P2 '00' and 1 to 248'
  pub cut : (message : Bor (List ℕ)) (b : Begun) (buffers : List (List ℕ)) → Begins message b → command_count (length (to_cut message.now)) ≤ count long_enough buffers
      → (carried_by (handed_from b.cutter buffers) ≡ to_cut message.now) × Shaped (handed_from b.cutter buffers)
  -- joining: pieces of '0 to 252 data bytes', however a message is cut into them; a message that is no response arrives as it is
  pub joined : (j : Joiner) (first : List ℕ) (rest : List (List ℕ)) (before : List ℕ) → j.joined ≡ 0 → Small first → All Small rest → 1032 ≤ length before
      → (destination source kind thread : ℕ) (part : List ℕ) → (kind ≡ 0xFF → ⊥) → thread ≤ 7 → length part ≤ 1024
      → together first rest ≡ message_of destination source kind thread part → Delivers j first rest (message_of destination source kind thread part) before
  -- and a response to the source that was kept, with the code '0000' that the PSAM leaves out
  pub response-joined : (j : Joiner) (first : List ℕ) (rest : List (List ℕ)) (before : List ℕ) → j.joined ≡ 0 → Small first → All Small rest → 1032 ≤ length before
      → (destination source thread : ℕ) (part : List ℕ) → thread ≤ 7 → length part + 2 ≤ 1024
      → get_or j.kept thread false ≡ true → together first rest ≡ response_sent destination source thread part
      → Delivers j first rest (message_of (get_or j.sources thread 0) source 0xFF thread (part ++ (0x00 ∷ 0x00 ∷ []))) before
