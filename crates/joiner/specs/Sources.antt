-- 'the source kept from the thread's last '42' command': which one that is, after any calls.
use Rattle.std.specs.Prelude.{ℕ, false, cond, ◌&&◌, List, [], ◌∷◌, eqb, leb, get_or, Result, Ok, Err, Option, Some, None}
use Rattle.tapa.specs.declared.Refusal.{Refusal}
use Rattle.message.specs.declared.Head.{Head}
use Rattle.tapa.specs.Codes.{icc_command}
use Rattle.message.specs.Message.{read_of}
use Rattle.joiner.specs.declared.Joiner.{Joiner}
use Rattle.joiner.specs.Joining.{next_of, kept_of}

-- the source that a joiner holds for a thread
abbrev pub source_for : Joiner → ℕ → Option ℕ
source_for j thread = cond (get_or j.kept thread false) (Some (get_or j.sources thread 0)) None

-- a call of `keep` with a message, or of `join` with a piece and a buffer
pub data Call : Type 0 where
  keeping : List ℕ → Call
  joining : List ℕ → List ℕ → Call

abbrev pub joiner_after : Joiner → List Call → Joiner
joiner_after j [] = j
joiner_after j (keeping message ∷ calls) = joiner_after (kept_of j message).next calls
joiner_after j (joining piece buffer ∷ calls) = joiner_after (next_of j piece buffer) calls

-- what a message says of a thread: its source, where it is a '42' command on that thread
abbrev pub source_in : Result Head Refusal → ℕ → Option ℕ
source_in (Err r) thread = None
source_in (Ok h) thread = cond (eqb h.kind icc_command && (leb h.thread 7 && eqb h.thread thread)) (Some h.source) None

abbrev pub newer : Option ℕ → Option ℕ → Option ℕ
newer (Some s) held = Some s
newer None held = held

-- the source of the last one among some calls, or the one held before them
abbrev pub last_source : List Call → ℕ → Option ℕ → Option ℕ
last_source [] thread held = held
last_source (keeping message ∷ calls) thread held = last_source calls thread (newer (source_in (read_of message) thread) held)
last_source (joining piece buffer ∷ calls) thread held = last_source calls thread held
