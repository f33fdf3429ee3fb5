-- Cable fault or double send (request 04) at the joiner: joined bytes that are fewer than announced are 3, more are 19; both drop what was joined.
use Prim.Native.Nat.{ℕ, ◌≤◌, ◌<◌}
use mathlib.Core.Path.{◌≡◌, refl}
use mathlib.Core.List.{List, [], ◌∷◌, ◌++◌, map}
use lib.ListN.{length, take, get_or, replicate}
use Rattle.lists.specs.Lists.{All}
use Rattle.tapa.specs.Numbers.{word_at}
use Rattle.tapa.specs.Said.{refused, says, get_next}
use Rattle.tapa.specs.declared.Refusal.TheVariants.{FewerThanAnnounced, MoreThanAnnounced}
use Rattle.message.specs.Message.{head_bytes}
use Rattle.joiner.specs.declared.Joiner.{Joiner}
use Rattle.joiner.specs.Joining.{fresh_joiner, with_source, taking_of, due_for, whole_of, answer_of, next_of, buffer_of}
use Rattle.joiner.specs.Said.{said_answer}
use Rattle.joiner.specs.Sending.{together, sent, Small, answers_by, joiner_by, buffer_by, Drops}
use Rattle.joiner.proofs.Laws.{whole-fewer, whole-more}
use Rattle.joiner.proofs.Delivered.{drops}

-- however the bytes were cut into pieces; whether a source is kept has no say
module _ (j : Joiner) (first : List ℕ) (rest : List (List ℕ)) (b : List ℕ) (idle : j.joined ≡ 0) (small : Small first) (smalls : All Small rest) (room : 1032 ≤ length b) where
  abbrev m : List ℕ
  m = together first rest

  module _ (head : 8 ≤ length m) (few : length m ≤ 1032) (t : get_or m 5 0 ≤ 7) (l : word_at m 6 ≤ 1024) where
    pub fewer-dropped : due_for m < word_at m 6 → Drops j first rest FewerThanAnnounced b
    fewer-dropped f = drops j first rest b idle small smalls room FewerThanAnnounced few (whole-fewer j m head t l f)

    pub more-dropped : word_at m 6 < due_for m → Drops j first rest MoreThanAnnounced b
    more-dropped f = drops j first rest b idle small smalls room MoreThanAnnounced few (whole-more j m head t l f)

-- ---- computed: two pieces, the head and two data bytes; a source is kept for the thread

abbrev holding : Joiner
holding = with_source fresh_joiner 3 0x0181

abbrev lent : List ℕ
lent = replicate 1032 0x55

abbrev head : (kind announced : ℕ) → List ℕ
head kind announced = head_bytes 0x0000 0x0202 kind 3 announced

abbrev two : List ℕ
two = 0xAA ∷ 0xBB ∷ []

-- Get Next, then the refusal; nothing is joined after it, and the ten bytes stand in the buffer
pub record Refuses (number kind announced : ℕ) : Type 0 where
  pub answers : map said_answer (answers_by holding (sent (head kind announced) (two ∷ [])) lent) ≡ says get_next [] ∷ refused number ∷ []
  pub next : joiner_by holding (sent (head kind announced) (two ∷ [])) lent ≡ holding
  pub bytes : take 11 (buffer_by holding (sent (head kind announced) (two ∷ [])) lent) ≡ head kind announced ++ (two ++ (0x55 ∷ []))

pub record Computed : Type 0 where
  -- a command's two data bytes, where it announces three, and where it announces one
  pub command-fewer : Refuses 3 0x60 3
  pub command-more : Refuses 19 0x60 1
  -- a response's two, and the code that it lacks: four are right, so five are too many announced and three too few
  pub response-fewer : Refuses 3 0xFF 5
  pub response-more : Refuses 19 0xFF 3

pub computed : Computed
unfolding taking_of whole_of answer_of next_of buffer_of
computed = record {
  command-fewer = record { answers = refl; next = refl; bytes = refl };
  command-more = record { answers = refl; next = refl; bytes = refl };
  response-fewer = record { answers = refl; next = refl; bytes = refl };
  response-more = record { answers = refl; next = refl; bytes = refl };
}
