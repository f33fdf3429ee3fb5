-- The commands together carry the whole response, and no more of them are handed out than it takes.
use Prim.Native.Nat.{ℕ, zero, suc, ◌+◌, ◌-◌, ◌≤◌, ◌<◌}
use mathlib.Core.Path.{◌≡◌, refl, sym, ap, ◌∙◌}
use mathlib.Core.Bool.{Bool, true, false}
use mathlib.Core.List.{List, [], ◌∷◌, ◌++◌}
use native.Mathlib.Omega.{arith}
use lib.Dec.{leb}
use lib.ListN.{length, take, drop, length-append, length-drop, take-append-drop, drop_of_length-le}
use lib.Seq.{take_all, take-nil, take_at, take-append_seam, drop-drop, length-take-le}
use borrow.Author.Tests.{leb-true, leb-false}
use denote.Ref.{Bor}
use Rattle.lists.specs.Lists.{count, onto}
use Rattle.cutter.specs.declared.Cutter.{Cutter}
use Rattle.cutter.specs.declared.Begun.{Begun}
use Rattle.cutter.specs.Cutting.{start_of, thread_of, to_cut, command_of, piece_at, p2_at, command_at, written_at, step_of, Begins}
use Rattle.cutter.specs.Handing.{command_count, commands_from, commands_of, p2_of, data_of, together, IsLast, IsMore, Shaped, handed_out, handed_by, handed_from, long_enough}
use Rattle.cutter.proofs.Laws.{full-length, last-length, more-p2, last-p2, hands-small, hands-done, hands_out}

-- ---- how many commands
count_none : (n : ℕ) → 0 ≡ command_count n → n ≡ 0
count_none n e = omega arith

count-more : (n m : ℕ) → suc m ≡ command_count n → m ≡ command_count (n - 248)
count-more n m e = omega arith

module _ (part : List ℕ) (thread : ℕ) where
  from-length : (m at : ℕ) → length (commands_from m part thread at) ≡ m
  from-length zero at = refl
  from-length (suc m) at = ap suc (from-length m (at + 248))

  -- ---- what one command carries
  data_is : (at : ℕ) → data_of (command_at part thread at) ≡ piece_at part at
  unfolding command_of
  data_is at = take-append_seam (piece_at part at) (0 ∷ [])

  p2-is : (at : ℕ) → p2_of (command_at part thread at) ≡ p2_at part at
  unfolding command_of
  p2-is at = refl

  joins-on : (at : ℕ) → piece_at part at ++ drop (at + 248) part ≡ drop at part
  unfolding piece_at
  joins-on at = ap (λ (y : List ℕ). take 248 (drop at part) ++ y) (sym (drop-drop 248 at part)) ∙ take-append-drop 248 (drop at part)

  -- ---- from a place on, as many commands as it takes carry what is left
  carried : (m at : ℕ) → m ≡ command_count (length part - at) → together (commands_from m part thread at) ≡ drop at part
  carried zero at e = sym (drop_of_length-le part {i = at} (omega (arith, count_none (length part - at) e)))
  carried (suc m) at e =
      let n : m ≡ command_count (length part - (at + 248)) = count-more (length part - at) m e ∙ ap command_count (omega arith) in
      ap (λ (y : List ℕ). y ++ together (commands_from m part thread (at + 248))) (data_is at)
      ∙ ap (λ (y : List ℕ). piece_at part at ++ y) (carried m (at + 248) n)
      ∙ joins-on at

  is_last : (at : ℕ) → 1 ≡ command_count (length part - at) → IsLast (command_at part thread at)
  is_last at e =
      let few : length part - at ≤ 248 = omega arith in
      let n : length (data_of (command_at part thread at)) ≡ length part - at = ap length (data_is at) ∙ last-length part at few in
      record { p2 = p2-is at ∙ last-p2 part at few; some = omega arith; few = omega arith }

  is-more : (m at : ℕ) → suc (suc m) ≡ command_count (length part - at) → IsMore (command_at part thread at)
  is-more m at e =
      let many : 248 < length part - at = omega arith in
      record { p2 = p2-is at ∙ more-p2 part at many; full = ap length (data_is at) ∙ full-length part at many }

  shaped : (m at : ℕ) → m ≡ command_count (length part - at) → Shaped (commands_from m part thread at)
  shaped zero at e = tt
  shaped (suc zero) at e = is_last at e
  shaped (suc (suc m)) at e =
      let n : suc m ≡ command_count (length part - (at + 248)) = count-more (length part - at) (suc m) e ∙ ap command_count (omega arith) in
      (is-more m at e, shaped (suc m) (at + 248) n)

  -- ---- calls: a buffer that is too small adds nothing, any other the next command, while there is one
  abbrev left : ℕ → List (List ℕ)
  left at = commands_from (command_count (length part - at)) part thread at

  left-none : (at : ℕ) → length part ≤ at → left at ≡ []
  left-none at l =
      let e : command_count (length part - at) ≡ 0 = omega arith in
      ap (λ (m : ℕ). commands_from m part thread at) e

  left-some : (at : ℕ) → at < length part → left at ≡ command_at part thread at ∷ left (at + 248)
  left-some at l =
      let e : command_count (length part - at) ≡ suc (command_count (length part - (at + 248))) = omega arith in
      ap (λ (m : ℕ). commands_from m part thread at) e

  -- the place after a command is 248 further on, or past the data
  left_after : (at : ℕ) → at < length part → left (at + length (piece_at part at)) ≡ left (at + 248)
  left_after at l = go (leb (length part - at) 248) refl
    where
      go : (b : Bool) → leb (length part - at) 248 ≡ b → left (at + length (piece_at part at)) ≡ left (at + 248)
      go true e =
          let few : length part - at ≤ 248 = leb-true (length part - at) 248 e in
          let n : length (piece_at part at) ≡ length part - at = last-length part at few in
          left-none (at + length (piece_at part at)) (omega arith) ∙ sym (left-none (at + 248) (omega arith))
      go false e =
          let many : 248 < length part - at = leb-false (length part - at) 248 e in
          ap (λ (n : ℕ). left (at + n)) (full-length part at many)

  -- what is handed out is the command that stands at the place
  handed-is : (at : ℕ) (b : List ℕ) → take (6 + length (piece_at part at)) (onto (command_at part thread at) b) ≡ command_at part thread at
  unfolding command_of
  handed-is at b =
      take_at (command_at part thread at) (drop (length (command_at part thread at)) b) (6 + length (piece_at part at))
      (omega (arith, length-append (piece_at part at) (0 ∷ [])))

  module _ (at : ℕ) (b : List ℕ) (bs : List (List ℕ)) where
    by-small : length b < 254 → handed_by part thread at (b ∷ bs) ≡ handed_by part thread at bs
    by-small l = rw (hands-small part b at l)

    by-done : 254 ≤ length b → length part ≤ at → handed_by part thread at (b ∷ bs) ≡ handed_by part thread at bs
    by-done l d = rw (hands-done part b at l d)

    by-command : 254 ≤ length b → at < length part
        → handed_by part thread at (b ∷ bs) ≡ command_at part thread at ∷ handed_by part thread (at + length (piece_at part at)) bs
    by-command l d = rw (hands_out part b at l d) (ap (λ (c : List ℕ). c ∷ handed_by part thread (at + length (piece_at part at)) bs) (handed-is at b))

  abbrev Handed : List (List ℕ) → Type 0
  Handed bs = (at : ℕ) → handed_by part thread at bs ≡ take (count long_enough bs) (left at)

  one_more : (b : List ℕ) (bs : List (List ℕ)) → Handed bs → (at : ℕ) (x : Bool) → leb 254 (length b) ≡ x → (y : Bool) → leb (length part) at ≡ y
      → handed_by part thread at (b ∷ bs) ≡ take (count long_enough (b ∷ bs)) (left at)
  one_more b bs h at false ex y ey =
      let e : count long_enough (b ∷ bs) ≡ count long_enough bs = rw ex (omega arith) in
      by-small at b bs (leb-false 254 (length b) ex) ∙ h at ∙ ap (λ (k : ℕ). take k (left at)) (sym e)
  one_more b bs h at true ex true ey =
      let none : left at ≡ [] = left-none at (leb-true (length part) at ey) in
      by-done at b bs (leb-true 254 (length b) ex) (leb-true (length part) at ey) ∙ h at
      ∙ ap (take (count long_enough bs)) none ∙ take-nil (count long_enough bs)
      ∙ sym (ap (take (count long_enough (b ∷ bs))) none ∙ take-nil (count long_enough (b ∷ bs)))
  one_more b bs h at true ex false ey =
      let l : at < length part = leb-false (length part) at ey in
      let e : count long_enough (b ∷ bs) ≡ suc (count long_enough bs) = rw ex (omega arith) in
      by-command at b bs (leb-true 254 (length b) ex) l
      ∙ ap (λ (cs : List (List ℕ)). command_at part thread at ∷ cs) (h (at + length (piece_at part at)) ∙ ap (take (count long_enough bs)) (left_after at l))
      ∙ sym (ap (λ (k : ℕ). take k (left at)) e ∙ ap (take (suc (count long_enough bs))) (left-some at l))

  handed : (bs : List (List ℕ)) → Handed bs
  handed [] at = refl
  handed (b ∷ bs) at = one_more b bs (handed bs) at (leb 254 (length b)) refl (leb (length part) at) refl

-- ---- the theorem

-- what is known of commands that carry a response's data
pub record Carries (part : List ℕ) (commands : List (List ℕ)) : Type 0 where
  pub whole : together commands ≡ part
  pub shape : Shaped commands
  pub number : length commands ≡ command_count (length part)

pub carries : (part : List ℕ) (thread : ℕ) → Carries part (commands_of part thread)
carries part thread =
    let e : command_count (length part) ≡ command_count (length part - 0) = ap command_count (omega arith) in record {
      whole = carried part thread (command_count (length part)) 0 e;
      shape = shaped part thread (command_count (length part)) 0 e;
      number = from-length part thread (command_count (length part)) 0;
    }

-- whatever buffers are lent, the calls hand out the first commands of the response, one for each buffer of 254 bytes or more
pub handed-in-order : (part : List ℕ) (thread : ℕ) (buffers : List (List ℕ)) → handed_by part thread 0 buffers ≡ take (count long_enough buffers) (commands_of part thread)
handed-in-order part thread buffers =
    let e : length part - 0 ≡ length part = omega arith in
    handed part thread buffers 0 ∙ ap (λ (n : ℕ). take (count long_enough buffers) (commands_from (command_count n) part thread 0)) e

-- and with enough of them, all: the data handed out is the response's data, in the page's shape and number
pub handed-whole : (part : List ℕ) (thread : ℕ) (buffers : List (List ℕ)) → command_count (length part) ≤ count long_enough buffers
    → (handed_by part thread 0 buffers ≡ commands_of part thread) × Carries part (handed_by part thread 0 buffers)
handed-whole part thread buffers l =
    let n : length (commands_of part thread) ≡ command_count (length part) = (carries part thread).number in
    let e : handed_by part thread 0 buffers ≡ commands_of part thread =
    handed-in-order part thread buffers ∙ take_all (count long_enough buffers) (commands_of part thread) (omega arith) in
    (e, rw e (carries part thread))

-- ---- the same by a cutter
from-cutter : (buffers : List (List ℕ)) (c : Cutter) → handed_from c buffers ≡ handed_by c.part.now c.thread c.at buffers
from-cutter [] c = refl
from-cutter (b ∷ bs) c =
    ap (λ (cs : List (List ℕ)). handed_out (step_of c b).cut (written_at c.part.now c.thread c.at b) ++ cs)
    (from-cutter bs (step_of c b).rest)

-- a cutter over a message, with enough buffers, hands out the commands themselves, byte for byte, with the response's own thread
pub cutter-commands : (message : Bor (List ℕ)) (b : Begun) (buffers : List (List ℕ)) → Begins message b
    → command_count (length (to_cut message.now)) ≤ count long_enough buffers
    → handed_from b.cutter buffers ≡ commands_of (to_cut message.now) (thread_of (start_of message.now))
cutter-commands message b buffers begins l =
    from-cutter buffers b.cutter
    ∙ (λ i. handed_by (begins.part.bytes i) (begins.thread i) (begins.at i) buffers)
    ∙ (handed-whole (to_cut message.now) (thread_of (start_of message.now)) buffers l).0

-- so all of the response's data, and no more
pub cutter-whole : (message : Bor (List ℕ)) (b : Begun) (buffers : List (List ℕ)) → Begins message b → command_count (length (to_cut message.now)) ≤ count long_enough buffers
    → Carries (to_cut message.now) (handed_from b.cutter buffers)
cutter-whole message b buffers begins l =
    rw (cutter-commands message b buffers begins l) (carries (to_cut message.now) (thread_of (start_of message.now)))

-- ---- sums at the desk

-- C6: 'response with 248 data bytes, code included: one command, P2 '00''
pub desk-c6 : (part : List ℕ) (thread : ℕ) → length part ≡ 248
    → commands_of part thread ≡ (0xB0 ∷ 0xFE ∷ thread ∷ 0x00 ∷ 248 ∷ (part ++ (0x00 ∷ []))) ∷ []
unfolding piece_at command_of
desk-c6 part thread e =
    let piece : piece_at part 0 ≡ part = take_all 248 part (omega arith) in
    rw (e, piece, last-p2 part 0 (omega arith), e)

-- C7: '249: 248 then 1'
pub desk-c7 : (part : List ℕ) (thread : ℕ) → length part ≡ 249
    → commands_of part thread
    ≡ (0xB0 ∷ 0xFE ∷ thread ∷ 0x01 ∷ 248 ∷ (take 248 part ++ (0x00 ∷ [])))
    ∷ (0xB0 ∷ 0xFE ∷ thread ∷ 0x00 ∷ 1 ∷ (drop 248 part ++ (0x00 ∷ [])))
    ∷ []
unfolding piece_at command_of
desk-c7 part thread e =
    let piece : take 248 (drop 248 part) ≡ drop 248 part = take_all 248 (drop 248 part) (omega (arith, length-drop 248 part)) in
    let one : length (drop 248 part) ≡ 1 = omega (arith, length-drop 248 part) in
    let full : length (take 248 part) ≡ 248 = length-take-le 248 part (omega arith) in
    rw (e, piece, more-p2 part 0 (omega arith), last-p2 part 248 (omega arith), one, full)
