-- From the PSAM: 'Joining. A piece is 0 to 252 data bytes and two status bytes.'
use Rattle.std.specs.Prelude.{ℕ, ◌+◌, ◌-◌, ◌≡◌, Bool, true, false, not, cond, ◌&&◌, ◌||◌, List, [], ◌∷◌, ◌++◌, eqb, ltb, leb, length, take, drop, get_or, set, replicate, Result, Ok, Err, Option, Some, None, ⊤}
use Rattle.joiner.specs.declared.Piece.TheVariants.{NotLast, Last}
use Rattle.joiner.specs.declared.Piece.{Piece}
use Rattle.tapa.specs.declared.Refusal.{Refusal}
use Rattle.std.specs.Borrow.{Bor}
use Rattle.lists.specs.Lists.{checks, onto, LiesAt}
use Rattle.tapa.specs.Numbers.{word_at, two_bytes}
use Rattle.tapa.specs.Codes.{response, icc_command, successful}
use Rattle.tapa.specs.declared.Refusal.TheVariants.{TooShort, TooLong, FewerThanAnnounced, ThreadAbove7, BufferTooSmall, NotThisPartsMessage, NoSourceKept, StatusNotUsable, MoreThanAnnounced}
use Rattle.message.specs.Message.{read_of}
use Rattle.message.specs.declared.Head.{Head}
use Rattle.joiner.specs.declared.Joiner.{Joiner}
use Rattle.joiner.specs.declared.Joined.{Joined}
use Rattle.joiner.specs.declared.Kept.{Kept}

-- ---- the state: the joined count, and a source for each thread, if one was kept

abbrev pub fresh_joiner : Joiner
fresh_joiner = record { joined = 0; sources = replicate 8 0; kept = replicate 8 false }

abbrev pub counting : Joiner → ℕ → Joiner
counting j n = record { joined = n; sources = j.sources; kept = j.kept }

abbrev pub with_source : Joiner → ℕ → ℕ → Joiner
with_source j thread source = record {
  joined = j.joined;
  sources = set j.sources thread source;
  kept = set j.kept thread true;
}

-- ---- one piece

abbrev pub status_of : List ℕ → ℕ
status_of piece = word_at piece (length piece - 2)

abbrev pub data_of : List ℕ → List ℕ
data_of piece = take (length piece - 2) piece

-- 'piece under 2 (1); over 254 (2); status neither '9601' nor '9000' (18); sum over 1,032 (2)'
abbrev pub taking_checks : ℕ → List ℕ → List (Bool × Result Piece Refusal)
taking_checks joined piece =
    (ltb (length piece) 2, Err TooShort)
    ∷ (ltb 254 (length piece), Err TooLong)
    ∷ (not (eqb (status_of piece) 0x9601 || eqb (status_of piece) 0x9000), Err StatusNotUsable)
    ∷ (ltb 1032 (joined + (length piece - 2)), Err TooLong)
    ∷ (eqb (status_of piece) 0x9601, Ok NotLast)
    ∷ []

unfoldable pub taking_of : ℕ → List ℕ → Result Piece Refusal
taking_of joined piece = checks (taking_checks joined piece) (Ok Last)

-- 'Each piece's data is written into the lent buffer from where the last ended': what is joined by then
abbrev pub joined_with : ℕ → List ℕ → List ℕ → List ℕ
joined_with joined piece buffer = take joined buffer ++ data_of piece

-- ---- the whole, 'At '9000', with m bytes joined'

abbrev pub is_response : List ℕ → Bool
is_response m = eqb (get_or m 4 0) response

abbrev pub thread_of : List ℕ → ℕ
thread_of m = get_or m 5 0

-- 'For type 'FF' the announced length must be m - 8 + 2, since the PSAM counts the code it leaves out; otherwise m - 8'
abbrev pub due_for : List ℕ → ℕ
due_for m = cond (is_response m) (length m - 8 + 2) (length m - 8)

-- 'm under 8 (1); thread above 7 (5)'; 'A length over 1,024 is 2, tested before 3; 17 comes last'; request 04: 'fewer bytes than announced stays 3,
-- more bytes becomes 19', and 'The joiner's comparison at '9000' splits the same way'
abbrev pub whole_checks : Joiner → List ℕ → List (Bool × Result (Option ℕ) Refusal)
whole_checks j m =
    (ltb (length m) 8, Err TooShort)
    ∷ (ltb 7 (thread_of m), Err ThreadAbove7)
    ∷ (ltb 1024 (word_at m 6), Err TooLong)
    ∷ (ltb (due_for m) (word_at m 6), Err FewerThanAnnounced)
    ∷ (ltb (word_at m 6) (due_for m), Err MoreThanAnnounced)
    ∷ (is_response m && not (get_or j.kept (thread_of m) false), Err NoSourceKept)
    ∷ (is_response m, Ok (Some (get_or j.sources (thread_of m) 0)))
    ∷ []

unfoldable pub whole_of : Joiner → List ℕ → Result (Option ℕ) Refusal
whole_of j m = checks (whole_checks j m) (Ok None)

-- 'For 'FF' the destination becomes the source kept from the thread's last '42' command .., and '0000' is appended.'
unfoldable pub completed : ℕ → List ℕ → List ℕ
completed source m = two_bytes source ++ (drop 2 m ++ two_bytes successful)

abbrev pub whole_answer : Result (Option ℕ) Refusal → List ℕ → Result (Option ℕ) Refusal
whole_answer (Err r) m = Err r
whole_answer (Ok None) m = Ok (Some (length m))
whole_answer (Ok (Some source)) m = Ok (Some (length m + 2))

-- 'Both are written only on acceptance'; 'a piece refused at the '9000' tests stays written'
abbrev pub whole_bytes : Result (Option ℕ) Refusal → List ℕ → List ℕ
whole_bytes (Err r) m = m
whole_bytes (Ok None) m = m
whole_bytes (Ok (Some source)) m = completed source m

-- ---- joining: 'buffer under 1,032 (9)' comes first, and changes nothing

-- ''9601' asks for Get Next.'
abbrev pub answer_to : Result Piece Refusal → Joiner → List ℕ → Result (Option ℕ) Refusal
answer_to (Err r) j m = Err r
answer_to (Ok NotLast) j m = Ok None
answer_to (Ok Last) j m = whole_answer (whole_of j m) m

-- 'Acceptance and every joining refusal but 9 set the joined count to 0'
abbrev pub count_to : Result Piece Refusal → ℕ → ℕ
count_to (Err r) n = 0
count_to (Ok NotLast) n = n
count_to (Ok Last) n = 0

-- 'bytes already joined stay'; a piece 'refused earlier writes nothing'
abbrev pub buffer_to : Result Piece Refusal → Joiner → List ℕ → List ℕ → List ℕ
buffer_to (Err r) j m buffer = buffer
buffer_to (Ok NotLast) j m buffer = onto m buffer
buffer_to (Ok Last) j m buffer = onto (whole_bytes (whole_of j m) m) buffer

unfoldable pub answer_of : Joiner → List ℕ → List ℕ → Result (Option ℕ) Refusal
answer_of j piece buffer =
    cond (ltb (length buffer) 1032) (Err BufferTooSmall)
    (answer_to (taking_of j.joined piece) j (joined_with j.joined piece buffer))

unfoldable pub next_of : Joiner → List ℕ → List ℕ → Joiner
next_of j piece buffer =
    cond (ltb (length buffer) 1032) j
    (counting j (count_to (taking_of j.joined piece) (j.joined + (length piece - 2))))

unfoldable pub buffer_of : Joiner → List ℕ → List ℕ → List ℕ
buffer_of j piece buffer =
    cond (ltb (length buffer) 1032) buffer
    (buffer_to (taking_of j.joined piece) j (joined_with j.joined piece buffer) buffer)

-- what a call answers, the joiner after it, and what its buffer then holds
pub record Joins (j : Joiner) (piece before after : List ℕ) (r : Joined) : Type 0 where
  pub answer : r.answer ≡ answer_of j piece before
  pub next : r.next ≡ next_of j piece before
  pub buffer : after ≡ buffer_of j piece before

-- 'hands on the joined message as a part'; what is no message hands on nothing
abbrev pub part_for : Result (Option ℕ) Refusal → List ℕ → List ℕ
part_for (Ok (Some n)) buffer = cond (leb n (length buffer)) (take n buffer) []
part_for (Ok None) buffer = []
part_for (Err r) buffer = []

-- the part handed on: its bytes, and that it stands at the start of the buffer itself
pub record PartFor (answer : Result (Option ℕ) Refusal) (buffer part : Bor (List ℕ)) : Type 0 where
  pub bytes : part.now ≡ part_for answer buffer.now
  pub place : LiesAt 0 buffer part

-- ---- Get Next (Table 116): CLA 'B0', INS 'FC', P1 the thread, P2 '00', Le '00'

abbrev pub get_next_bytes : ℕ → List ℕ
get_next_bytes thread = 0xB0 ∷ 0xFC ∷ thread ∷ 0x00 ∷ 0x00 ∷ []

-- a buffer under the command's 5 bytes is 9, and stays as it is; else the command's length
abbrev pub asking_of : List ℕ → Result ℕ Refusal
asking_of buffer = cond (ltb (length buffer) 5) (Err BufferTooSmall) (Ok 5)

pub record Asks (thread : ℕ) (before after : List ℕ) (w : Result ℕ Refusal) : Type 0 where
  pub answer : w ≡ asking_of before
  pub buffer : after ≡ cond (ltb (length before) 5) before (onto (get_next_bytes thread) before)

-- ---- 'Keeping a source takes a message: 1, 2, 3, type not '42' (15), 5.'; the reader has 19 at the place of 3 (request 04)

abbrev pub keep_checks : Head → List (Bool × Result ⊤ Refusal)
keep_checks h =
    (not (eqb h.kind icc_command), Err NotThisPartsMessage)
    ∷ (ltb 7 h.thread, Err ThreadAbove7)
    ∷ []

abbrev pub keeping_on : Result Head Refusal → Result ⊤ Refusal
keeping_on (Err r) = Err r
keeping_on (Ok h) = checks (keep_checks h) (Ok tt)

-- the message's source is kept for its thread; a refusal touches nothing
abbrev pub keeper_on : Result Head Refusal → Result ⊤ Refusal → Joiner → Joiner
keeper_on (Ok h) (Ok tt) j = with_source j h.thread h.source
keeper_on (Ok h) (Err r) j = j
keeper_on (Err r) k j = j

unfoldable pub kept_of : Joiner → List ℕ → Kept
kept_of j message = record {
  answer = keeping_on (read_of message);
  next = keeper_on (read_of message) (keeping_on (read_of message)) j;
}
