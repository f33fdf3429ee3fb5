-- Laws of the cutter's definitions: what a start and a handing out answer, check by check, and what is written.
use Prim.Native.Nat.{ℕ, ◌+◌, ◌-◌, ◌≤◌, ◌<◌}
use Rattle.message.specs.declared.Head.{Head}
use Rattle.std.specs.Prelude.{Result, Some, None, Ok, Err}
use mathlib.Core.Path.{◌≡◌, refl, sym, ap, ◌∙◌}
use mathlib.Core.Bool.{not}
use mathlib.Core.List.{List, [], ◌∷◌, ◌++◌}
use native.Mathlib.Omega.{arith}
use lib.Dec.{eqb, ltb, leb}
use lib.ListN.{length, take, drop, get_or, set, length-append, length-drop}
use lib.Seq.{take_all, length-take-le}
use borrow.Author.Tests.{lt-ltb, le-ltb, le-leb, lt-leb}
use borrow.Rule.Slice.PartMut.{put_mid}
use denote.Ref.{Bor}
use Rattle.lists.specs.Lists.{checks, onto, LiesAt}
use Rattle.lists.proofs.Tests.{checks-said}
use Rattle.lists.proofs.Onto.{onto-length, onto-then, onto-stores}
use Rattle.tapa.specs.Numbers.{word_at}
use Rattle.tapa.specs.Said.{refused, says, cutting, command, done}
use Rattle.tapa.specs.declared.Refusal.{Refusal}
use Rattle.tapa.specs.declared.Refusal.TheVariants.{BufferTooSmall}
use Rattle.message.specs.Message.{head_of, part_of, DataPart}
use Rattle.message.proofs.Laws.{through-reading}
use Rattle.cutter.specs.declared.Step.{Step}
use Rattle.cutter.specs.declared.Begun.{Begun}
use Rattle.cutter.specs.Cutting.{start_checks, start_on, start_of, to_cut, PartToCut, command_head, command_of, piece_at, p2_at, cut_checks, cut_at, place_after, written_at, HandsOut, Steps, Begins, Firsts}
use Rattle.cutter.specs.Said.{said_start, said_cut}

-- ---- the start
module _ (s : List ℕ) where
  -- 1, 2, 3, 19, 15, 5, 6, in this order; else the response's thread
  pub said-start : said_start (start_of s)
      ≡ checks
      ((ltb (length s) 8, refused 1)
      ∷ (ltb 1024 (word_at s 6), refused 2)
      ∷ (ltb (length s) (8 + word_at s 6), refused 3)
      ∷ (ltb (8 + word_at s 6) (length s), refused 19)
      ∷ (not (eqb (get_or s 4 0) 0xFF), refused 15)
      ∷ (ltb 7 (get_or s 5 0), refused 5)
      ∷ (ltb (word_at s 6) 2, refused 6)
      ∷ [])
      (says cutting (get_or s 5 0 ∷ []))
  unfolding start_of
  said-start = through-reading (λ (r : Result Head Refusal). said_start (start_on r)) _ s (checks-said said_start (start_checks (head_of s)) (Ok (get_or s 5 0)))

  -- the data to cut
  cuts-part : (t : ℕ) → start_of s ≡ Ok t → to_cut s ≡ part_of s
  unfolding to_cut
  cuts-part t e = rw e

  cuts-none : (r : Refusal) → start_of s ≡ Err r → to_cut s ≡ []
  unfolding to_cut
  cuts-none r e = rw e

-- as a part of the message: its data, or the empty part at its start
module _ (x z : Bor (List ℕ)) where
  pub hands-part : (t : ℕ) → start_of x.now ≡ Ok t → DataPart x z → PartToCut x z
  hands-part t e d = record { bytes = d.bytes ∙ sym (cuts-part x.now t e); place = rw e d.place }

  pub hands_none : (r : Refusal) → start_of x.now ≡ Err r → z.now ≡ [] → LiesAt 0 x z → PartToCut x z
  hands_none r e n l = record { bytes = n ∙ sym (cuts-none x.now r e); place = rw e l }

-- ---- the piece at a place
module _ (part : List ℕ) (at : ℕ) where
  pub full-piece : 248 < length part - at → piece_at part at ≡ take ((at + 248) - at) (drop at part)
  unfolding piece_at
  full-piece l =
      let e : 248 ≡ (at + 248) - at = omega arith in
      ap (λ (n : ℕ). take n (drop at part)) e

  pub full-length : 248 < length part - at → length (piece_at part at) ≡ 248
  unfolding piece_at
  full-length l = length-take-le 248 (drop at part) (omega (arith, length-drop at part))

  pub last-piece : length part - at ≤ 248 → piece_at part at ≡ take (length part - at) (drop at part)
  unfolding piece_at
  last-piece l =
      take_all 248 (drop at part) (omega (arith, length-drop at part))
      ∙ sym (take_all (length part - at) (drop at part) (omega (arith, length-drop at part)))

  pub last-length : length part - at ≤ 248 → length (piece_at part at) ≡ length part - at
  unfolding piece_at
  last-length l = ap length (take_all 248 (drop at part) (omega (arith, length-drop at part))) ∙ length-drop at part

  pub more-p2 : 248 < length part - at → p2_at part at ≡ 1
  unfolding p2_at
  more-p2 l = rw (lt-ltb 248 (length part - at) l)

  pub last-p2 : length part - at ≤ 248 → p2_at part at ≡ 0
  unfolding p2_at
  last-p2 l = rw (le-ltb 248 (length part - at) l)

-- ---- writing a command: the head's five bytes, the piece after them and one byte more
module _ (buffer piece : List ℕ) (thread p2 n : ℕ) (x r : List ℕ) (room : 6 + length piece ≤ length buffer)
    (ex : x ≡ onto (command_head thread p2 (length piece)) buffer) (en : n ≡ length piece)
    (er : r ≡ take (length piece) piece ++ drop (length piece) (take (length x - 5) (drop 5 x))) where
  pub commanded : set (put_mid 5 (length x - 5) x r) (5 + n) 0 ≡ onto (command_of thread p2 piece) buffer
  unfolding command_of
  commanded =
      ap (λ (k : ℕ). set (put_mid 5 (length x - 5) x r) (5 + k) 0) en
      ∙ onto-stores (command_head thread p2 (length piece) ++ piece) (0 ∷ []) buffer (5 + length piece) (omega arith) (omega arith) (put_mid 5 (length x - 5) x r)
      (onto-then (command_head thread p2 (length piece)) piece buffer 5 refl (omega arith) x r ex er)

  pub commanded-length : length (set (put_mid 5 (length x - 5) x r) (5 + n) 0) ≡ length buffer
  unfolding command_of
  commanded-length = ap length commanded ∙ onto-length (command_of thread p2 piece) buffer (simp length-append (omega arith))

-- ---- handing out
module _ (part buffer : List ℕ) (at : ℕ) where
  pub hands-small : length buffer < 254 → cut_at part at buffer ≡ Err BufferTooSmall
  unfolding cut_at
  hands-small l = rw (lt-ltb (length buffer) 254 l)

  pub hands-done : 254 ≤ length buffer → length part ≤ at → cut_at part at buffer ≡ (Ok None)
  unfolding cut_at
  hands-done b l = rw (le-ltb (length buffer) 254 b, le-leb (length part) at l)

  pub hands_out : 254 ≤ length buffer → at < length part → cut_at part at buffer ≡ Ok (Some (6 + length (piece_at part at)))
  unfolding cut_at
  hands_out b l = rw (le-ltb (length buffer) 254 b, lt-leb (length part) at l)

  -- 9, done, in this order; else the command's length
  pub said-cut : said_cut (cut_at part at buffer)
      ≡ checks ((ltb (length buffer) 254, refused 9) ∷ (leb (length part) at, says done []) ∷ []) (says command ((6 + length (piece_at part at)) ∷ []))
  unfolding cut_at
  said-cut = checks-said said_cut (cut_checks part at buffer) (Ok (Some (6 + length (piece_at part at))))

  -- an answer that hands nothing out keeps the place and the buffer
  pub kept_small : (thread : ℕ) → length buffer < 254 → HandsOut part thread at buffer buffer (record { cut = Err BufferTooSmall; next = at })
  kept_small thread l = record { answer = rw (hands-small l); buffer = rw (hands-small l) }

  pub kept-done : (thread : ℕ) → 254 ≤ length buffer → length part ≤ at → HandsOut part thread at buffer buffer (record { cut = (Ok None); next = at })
  kept-done thread b l = record { answer = rw (hands-done b l); buffer = rw (hands-done b l) }

  -- a command with the piece's length, P2 and bytes is the one that stands at the place
  pub handed_out : (thread p2 n next : ℕ) (piece after : List ℕ) → 254 ≤ length buffer → at < length part
      → piece_at part at ≡ piece → p2_at part at ≡ p2 → 6 + length (piece_at part at) ≡ n → at + length (piece_at part at) ≡ next
      → after ≡ onto (command_of thread p2 piece) buffer → HandsOut part thread at buffer after (record { cut = Ok (Some n); next = next })
  handed_out thread p2 n next piece after b l ep e2 en ex ea = record {
    answer = rw (hands_out b l) (λ i. record { cut = Ok (Some (sym en i)); next = sym ex i });
    buffer = rw (hands_out b l, ep, e2) ea;
  }

  -- the two kinds of command, as the code hands them out
  pub handed-more : (thread : ℕ) (after : List ℕ) → 254 ≤ length buffer → at < length part → 248 < length part - at
      → after ≡ onto (command_of thread 1 (take ((at + 248) - at) (drop at part))) buffer
      → HandsOut part thread at buffer after (record { cut = Ok (Some 254); next = at + 248 })
  handed-more thread after b l m =
      let n : length (piece_at part at) ≡ 248 = full-length part at m in
      handed_out thread 1 254 (at + 248) (take ((at + 248) - at) (drop at part)) after b l (full-piece part at m) (more-p2 part at m) (omega arith) (omega arith)

  pub handed-last : (thread : ℕ) (after : List ℕ) → 254 ≤ length buffer → at < length part → length part - at ≤ 248
      → after ≡ onto (command_of thread 0 (take (length part - at) (drop at part))) buffer
      → HandsOut part thread at buffer after (record { cut = Ok (Some (6 + (length part - at))); next = length part })
  handed-last thread after b l m =
      let n : length (piece_at part at) ≡ length part - at = last-length part at m in
      handed_out thread 0 (6 + (length part - at)) (length part) (take (length part - at) (drop at part)) after b l (last-piece part at m) (last-p2 part at m) (omega arith) (omega arith)

-- ---- a start and the first handing out
pub first_made : (x : Bor (List ℕ)) (before after : List ℕ) (b : Begun) (s : Step) → Begins x b → Steps b.cutter before after s
    → Firsts x.now before after (record { start = b.start; cut = s.cut; next = s.rest.at })
first_made x before after b s begins steps = record {
  answer = λ i. record { start = begins.start i; cut = cuts i; next = places i };
  buffer = steps.buffer ∙ (λ i. written_at (begins.part.bytes i) (begins.thread i) (begins.at i) before);
}
  where
    cuts : s.cut ≡ cut_at (to_cut x.now) 0 before
    cuts = ap (λ (t : Step). t.cut) steps.answer ∙ (λ i. cut_at (begins.part.bytes i) (begins.at i) before)

    places : s.rest.at ≡ place_after (cut_at (to_cut x.now) 0 before) (to_cut x.now) 0
    places =
        ap (λ (t : Step). t.rest.at) steps.answer
        ∙ (λ i. place_after (cut_at (begins.part.bytes i) (begins.at i) before) (begins.part.bytes i) (begins.at i))
