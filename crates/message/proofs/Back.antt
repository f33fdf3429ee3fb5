-- 'Each undoes the other': reading what was written, and writing what was read.
use Prim.Native.Nat.{ℕ, ◌+◌, ◌*◌, ◌-◌, ◌/◌, ◌%◌, ◌≤◌, ◌<◌}
use Rattle.tapa.specs.declared.Refusal.{Refusal}
use Rattle.std.specs.Prelude.{Some, Result, Ok, Err}
use mathlib.Core.Path.{◌≡◌, refl, sym, ap, ◌∙◌}
use mathlib.Core.Bool.{Bool, true, false, cond}
use mathlib.Core.List.{List, [], ◌∷◌}
use native.Mathlib.Omega.{arith}
use lib.Dec.{ltb}
use lib.ListN.{length, take, drop, get_or, length-drop}
use lib.Seq.{take_at}
use borrow.Author.Tests.{ltb-false}
use Rattle.lists.specs.Lists.{Bytes}
use Rattle.tapa.specs.Numbers.{word_at, two_bytes}
use Rattle.tapa.specs.Codes.{response}
use Rattle.tapa.specs.declared.Refusal.TheVariants.{TooLong, BufferTooSmall}
use Rattle.message.specs.declared.Head.{Head}
use Rattle.message.specs.Message.{read_of, part_of, code_of, message_of, writing_of, Wrote, response_of}
use Rattle.message.proofs.Laws.{reads_whole, whole, part-of-message, writes}

-- a number that two bytes hold is given back by them
both : (n : ℕ) → n / 256 * 256 + n % 256 ≡ n
both n = omega arith

module _ (destination source kind thread : ℕ) (part : List ℕ) where
  abbrev message : List ℕ
  message = message_of destination source kind thread part

  -- the head that was given to the writer
  abbrev pub given : Head
  given = record { destination = destination; source = source; kind = kind; thread = thread; length = length part }

  reads-message : length part ≤ 1024 → read_of message ≡ Ok given
  unfolding message_of
  reads-message few =
      let l : word_at message 6 ≡ length part = both (length part) in
      let size : length message ≡ 8 + word_at message 6 = omega (arith, l) in
      reads_whole message (omega arith) (omega arith) size
      ∙ (λ i. Ok record { destination = both destination i; source = both source i; kind = kind; thread = thread; length = l i })

  eight-dropped : drop 8 message ≡ part
  unfolding message_of
  eight-dropped = refl

  long : length message ≡ 8 + length part
  unfolding message_of
  long = omega arith

  part-message : length part ≤ 1024 → part_of message ≡ part
  part-message few = part-of-message message given (reads-message few) ∙ eight-dropped

  -- what is known once the writer answered a length
  record Took (buffer : List ℕ) (n : ℕ) : Type 0 where
    few : length part ≤ 1024
    size : n ≡ 8 + length part

  took : (buffer : List ℕ) (n : ℕ) → Ok n ≡ writing_of part buffer → Took buffer n
  unfolding writing_of
  took buffer n e = go (ltb 1024 (length part)) refl (ltb (length buffer) (8 + length part)) e
    where
      go : (a : Bool) → ltb 1024 (length part) ≡ a → (b : Bool)
          → Ok n ≡ cond a (Err TooLong) (cond b (Err BufferTooSmall) (Ok (8 + length part))) → Took buffer n
      go true ea b k = absurd (let z : ◌≡◌ {A = ℕ} 0 1 = cc in omega arith)
      go false ea true k = absurd (let z : ◌≡◌ {A = ℕ} 0 1 = cc in omega arith)
      go false ea false k = record { few = ltb-false 1024 (length part) ea; size = (cc) }

  -- READING WHAT WAS WRITTEN: whatever stood in the buffer, its first bytes, cut off at the length that was answered, read as the same
  -- fields and the same data.
  pub record ReadsBack (after : List ℕ) (n : ℕ) : Type 0 where
    pub bytes : take n after ≡ message
    pub fields : read_of (take n after) ≡ Ok given
    pub same-part : part_of (take n after) ≡ part

  pub reads-back : (before after : List ℕ) (n : ℕ) → Wrote destination source kind thread part before after (Ok n) → ReadsBack after n
  reads-back before after n w =
      let t = took before n w.answer in
      let b : take n after ≡ message = ap (take n) (w.buffer ∙ rw (sym w.answer)) ∙ take_at message (drop (length message) before) n (long ∙ sym t.size) in
      record { bytes = b; fields = ap read_of b ∙ reads-message t.few; same-part = ap part_of b ∙ part-message t.few }

-- a response that carries its code alone reads as that response
pub reads-response : (destination source thread code : ℕ)
    → read_of (response_of destination source thread code)
    ≡ Ok record { destination = destination; source = source; kind = response; thread = thread; length = 2 }
unfolding response_of
reads-response destination source thread code = reads-message destination source response thread (two_bytes code) (omega arith)

pub code-response : (destination source thread code : ℕ) → code_of (part_of (response_of destination source thread code)) ≡ Some code
unfolding response_of code_of
code-response destination source thread code =
    ap code_of (part-message destination source response thread (two_bytes code) (omega arith)) ∙ ap Some (both code)

-- ---- WRITING WHAT WAS READ gives the same bytes

eight : (s : List ℕ) → 8 ≤ length s
    → s ≡ get_or s 0 0 ∷ get_or s 1 0 ∷ get_or s 2 0 ∷ get_or s 3 0 ∷ get_or s 4 0 ∷ get_or s 5 0 ∷ get_or s 6 0 ∷ get_or s 7 0 ∷ drop 8 s
eight (a ∷ b ∷ c ∷ d ∷ e ∷ f ∷ g ∷ h ∷ s) l = refl
eight (a ∷ b ∷ c ∷ d ∷ e ∷ f ∷ g ∷ []) l = absurd (omega arith)
eight (a ∷ b ∷ c ∷ d ∷ e ∷ f ∷ []) l = absurd (omega arith)
eight (a ∷ b ∷ c ∷ d ∷ e ∷ []) l = absurd (omega arith)
eight (a ∷ b ∷ c ∷ d ∷ []) l = absurd (omega arith)
eight (a ∷ b ∷ c ∷ []) l = absurd (omega arith)
eight (a ∷ b ∷ []) l = absurd (omega arith)
eight (a ∷ []) l = absurd (omega arith)
eight [] l = absurd (omega arith)

high : (a b : ℕ) → b < 256 → (a * 256 + b) / 256 ≡ a
high a b l = omega arith

low : (a b : ℕ) → b < 256 → (a * 256 + b) % 256 ≡ b
low a b l = omega arith

pub writes-back : (s : List ℕ) (h : Head) → Bytes s → read_of s ≡ Ok h
    → message_of h.destination h.source h.kind h.thread (part_of s) ≡ s
unfolding message_of
writes-back s h b e =
    let w = whole s h e in
    let size : length (drop 8 s) ≡ word_at s 6 = length-drop 8 s ∙ omega (arith, w.size) in
    let part : part_of s ≡ drop 8 s = part-of-message s h e in
    rw (part, w.head, size, high (get_or s 0 0) (get_or s 1 0) (b 1), low (get_or s 0 0) (get_or s 1 0) (b 1), high (get_or s 2 0) (get_or s 3 0) (b 3), low (get_or s 2 0) (get_or s 3 0) (b 3), high (get_or s 6 0) (get_or s 7 0) (b 7), low (get_or s 6 0) (get_or s 7 0) (b 7))
    (sym (eight s (omega (arith, w.size))))

-- so of the writer: given what was read, and a buffer that holds the message, it answers the message's length and leaves its bytes in front
pub writes-read : (s : List ℕ) (h : Head) → Bytes s → read_of s ≡ Ok h → (before after : List ℕ) (w : Result ℕ Refusal) → length s ≤ length before
    → Wrote h.destination h.source h.kind h.thread (part_of s) before after w → (w ≡ Ok (length s)) × (take (length s) after ≡ s)
writes-read s h b e before after w room x =
    let k = whole s h e in
    let n : length (part_of s) ≡ length s - 8 = ap length (part-of-message s h e) ∙ length-drop 8 s in
    let answer : w ≡ Ok (length s) =
    x.answer ∙ writes (part_of s) before (omega (arith, k.size, k.few)) (omega (arith, k.size)) ∙ ap Ok (omega (arith, k.size)) in
    let back = reads-back h.destination h.source h.kind h.thread (part_of s) before after (length s) (rw answer at x) in
    (answer, back.bytes ∙ writes-back s h b e)
