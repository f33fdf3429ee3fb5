-- Sums at the desk (to be proved, as one table)
use Rattle.std.specs.Prelude.{ℕ, ◌+◌, ◌*◌, ◌≤◌, ◌<◌, ◌≡◌, Bool, true, false, List, [], ◌∷◌, ◌++◌, length, take, drop, Ok}
use Rattle.lists.specs.Lists.{onto}
use Rattle.tapa.specs.Address.{handler_of}
use Rattle.tapa.specs.Numbers.{word_at}
use Rattle.tapa.specs.Said.{refused, says, accepted, turned, reply}
use Rattle.message.specs.declared.Head.{Head}
use Rattle.message.specs.Message.{head_of, read_of}
use Rattle.message.specs.Said.{said_reading}
use Rattle.table.specs.declared.Row.{Row}
use Rattle.table.specs.Table.{listed, judge_table}
use Rattle.table.specs.Said.{said_checked}
use Rattle.rules.specs.View.{View, fresh}
use Rattle.rules.specs.declared.Outcome.{Outcome}
use Rattle.rules.specs.Judge.{message, judge}
use Rattle.rules.specs.Apply.{written}
use Rattle.rules.specs.Said.{said_outcome}
use Rattle.cutter.specs.Handing.{commands_of}
use Rattle.replies.specs.Said.{said_answer}
use Rattle.events.specs.Events.{handled}

-- a row of a table
abbrev pub row : ℕ → Bool → Row
row a o = record { address = a; opened = o }

-- what comes of C5's message in a fresh router over an open till driver and a closed reader, and the reply of the page
abbrev pub c5-outcome : Outcome
c5-outcome = judge (fresh (row 0x0100 true ∷ row 0x0202 false ∷ [])) 10 (message (0x02 ∷ 0x02 ∷ 0x01 ∷ 0x00 ∷ 0x45 ∷ 0x03 ∷ 0x00 ∷ 0x00 ∷ []))

abbrev pub c5-reply : List ℕ
c5-reply = 0x01 ∷ 0x00 ∷ 0x02 ∷ 0x02 ∷ 0xFF ∷ 0x03 ∷ 0x00 ∷ 0x02 ∷ 0xFF ∷ 0xF7 ∷ []

-- a Get for the event queue, in bytes
abbrev pub get : (d1 d2 s1 s2 thread : ℕ) → List ℕ
get d1 d2 s1 s2 thread = d1 ∷ d2 ∷ s1 ∷ s2 ∷ 0xC1 ∷ thread ∷ 0x00 ∷ 0x00 ∷ []

pub record Desk : Type 0 where
  -- 'C1 7 bytes: 1.'
  pub c1 : (s : List ℕ) → length s ≡ 7 → said_reading (read_of s) ≡ refused 1
  -- 'C2 8 bytes, length 0: read.'
  pub c2 : (s : List ℕ) → length s ≡ 8 → word_at s 6 ≡ 0 → read_of s ≡ Ok (head_of s)
  -- 'C3 length 1,024 and 1,032 bytes: read'
  pub c3 : (s : List ℕ) → length s ≡ 1032 → word_at s 6 ≡ 1024 → read_of s ≡ Ok (head_of s)
  -- 'C4 length 1,025: 2.'
  pub c4 : (s : List ℕ) → 8 ≤ length s → word_at s 6 ≡ 1025 → said_reading (read_of s) ≡ refused 2
  -- 'C5 '0202' closed, `0202 0100 45 03 0000`: turned, `0100 0202 FF 03 0002 FFF7`.': what is said, and what the reply buffer then holds
  pub c5 : said_outcome c5-outcome ≡ says turned c5-reply
  pub c5-bytes : (buffer : List ℕ) → written c5-outcome buffer ≡ onto c5-reply buffer
  -- 'C6 response with 248 data bytes, code included: one command, P2 '00'.'
  pub c6 : (part : List ℕ) (thread : ℕ) → length part ≡ 248
      → commands_of part thread ≡ (0xB0 ∷ 0xFE ∷ thread ∷ 0x00 ∷ 248 ∷ (part ++ (0x00 ∷ []))) ∷ []
  -- 'C7 249: 248 then 1.'
  pub c7 : (part : List ℕ) (thread : ℕ) → length part ≡ 249
      → commands_of part thread
      ≡ (0xB0 ∷ 0xFE ∷ thread ∷ 0x01 ∷ 248 ∷ (take 248 part ++ (0x00 ∷ [])))
      ∷ (0xB0 ∷ 0xFE ∷ thread ∷ 0x00 ∷ 1 ∷ (drop 248 part ++ (0x00 ∷ [])))
      ∷ []
  -- 'C9 Get on an empty queue: 'FF72'.': what is said, and what the reply buffer then holds, its rest as it was
  pub c9 : (d1 d2 s1 s2 thread : ℕ) (buffer : List ℕ) → d2 < 256 → s2 < 256 → handler_of (d1 * 256 + d2) ≡ 0x0700 → 13 ≤ length buffer
      → said_answer (handled [] (get d1 d2 s1 s2 thread) buffer).answer ≡ says reply (10 ∷ [])
  pub c9-bytes : (d1 d2 s1 s2 thread : ℕ) (buffer : List ℕ) → d2 < 256 → s2 < 256 → handler_of (d1 * 256 + d2) ≡ 0x0700 → 13 ≤ length buffer
      → (handled [] (get d1 d2 s1 s2 thread) buffer).reply ≡ s1 ∷ s2 ∷ d1 ∷ d2 ∷ 0xFF ∷ thread ∷ 0x00 ∷ 0x02 ∷ 0xFF ∷ 0x72 ∷ drop 10 buffer
  -- 'C11 thread 8: 5.'
  pub c11 : (v : View) (room : ℕ) (s : List ℕ) (h : Head) → 10 ≤ room → read_of s ≡ Ok h → listed (handler_of h.source) v.rows ≡ true → h.thread ≡ 8
      → said_outcome (judge v room (message s)) ≡ refused 5
  -- 'C12 four multi rows: accepted; five: 13.'
  pub c12-four : said_checked (judge_table (row 0x0100 true ∷ row 0x0000 true ∷ row 0x0001 true ∷ row 0x0101 true ∷ row 0x0202 true ∷ [])) ≡ says accepted []
  pub c12-five : said_checked (judge_table (row 0x0100 true ∷ row 0x0000 true ∷ row 0x0001 true ∷ row 0x0101 true ∷ row 0x0002 true ∷ [])) ≡ refused 13
