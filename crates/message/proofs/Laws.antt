-- Laws of the message's definitions: what a reading and a writing answer, check by check.
use Prim.Native.Nat.{ℕ, ◌+◌, ◌-◌, ◌≤◌, ◌<◌}
use Rattle.std.specs.Prelude.{Some, None, Result, Ok, Err}
use mathlib.Core.Path.{◌≡◌, refl, sym}
use mathlib.Core.Bool.{Bool, true, false, cond}
use mathlib.Core.List.{List, [], ◌∷◌, ◌++◌}
use native.Mathlib.Omega.{arith}
use lib.Dec.{ltb}
use lib.ListN.{length, take, drop, get_or, length-drop}
use lib.Seq.{take_all}
use borrow.Author.Tests.{lt-ltb, le-ltb, ltb-false}
use Rattle.lists.specs.Lists.{checks, onto}
use Rattle.lists.proofs.Tests.{checks-said}
use Rattle.tapa.specs.Numbers.{word_at}
use Rattle.tapa.specs.Said.{refused, says, read, code, written}
use Rattle.tapa.specs.declared.Refusal.{Refusal}
use Rattle.tapa.specs.declared.Refusal.TheVariants.{TooShort, TooLong, FewerThanAnnounced, MoreThanAnnounced}
use Rattle.message.specs.declared.Head.{Head}
use Rattle.message.specs.Message.{head_of, read_checks, read_of, part_of, code_of, head_bytes, message_of, write_checks, writing_of, Wrote}
use Rattle.message.specs.Said.{said_reading, said_code, said_writing}

-- ---- reading

-- whatever is said of a reading, 1, 2, 3 and 19 come first
pub through-reading : {A : Type 0} (f : Result Head Refusal → A) (a : A) (s : List ℕ) → f (Ok (head_of s)) ≡ a
    → f (read_of s)
    ≡ checks
    ((ltb (length s) 8, f (Err TooShort))
    ∷ (ltb 1024 (word_at s 6), f (Err TooLong))
    ∷ (ltb (length s) (8 + word_at s 6), f (Err FewerThanAnnounced))
    ∷ (ltb (8 + word_at s 6) (length s), f (Err MoreThanAnnounced))
    ∷ [])
    a
unfolding read_of
through-reading f a s e = rw (← e) (checks-said f (read_checks s) (Ok (head_of s)))

module _ (s : List ℕ) where
  -- 1, 2, 3, 19, in this order; else the message's fields
  pub said-reading : said_reading (read_of s)
      ≡ checks
      ((ltb (length s) 8, refused 1)
      ∷ (ltb 1024 (word_at s 6), refused 2)
      ∷ (ltb (length s) (8 + word_at s 6), refused 3)
      ∷ (ltb (8 + word_at s 6) (length s), refused 19)
      ∷ [])
      (says read (word_at s 0 ∷ word_at s 2 ∷ get_or s 4 0 ∷ get_or s 5 0 ∷ word_at s 6 ∷ []))
  said-reading = through-reading said_reading _ s refl

  -- each refusal, where the checks before it did not apply
  pub reads_short : length s < 8 → read_of s ≡ Err TooShort
  unfolding read_of
  reads_short l = rw (lt-ltb (length s) 8 l)

  pub reads-long : 8 ≤ length s → 1024 < word_at s 6 → read_of s ≡ Err TooLong
  unfolding read_of
  reads-long h l = rw (le-ltb (length s) 8 h, lt-ltb 1024 (word_at s 6) l)

  pub reads-fewer : 8 ≤ length s → word_at s 6 ≤ 1024 → length s < 8 + word_at s 6 → read_of s ≡ Err FewerThanAnnounced
  unfolding read_of
  reads-fewer h l f = rw (le-ltb (length s) 8 h, le-ltb 1024 (word_at s 6) l, lt-ltb (length s) (8 + word_at s 6) f)

  -- (so many bytes are no fewer than 8)
  pub reads_more : word_at s 6 ≤ 1024 → 8 + word_at s 6 < length s → read_of s ≡ Err MoreThanAnnounced
  unfolding read_of
  reads_more l m =
      rw (le-ltb (length s) 8 (omega arith), le-ltb 1024 (word_at s 6) l, le-ltb (length s) (8 + word_at s 6) (omega arith), lt-ltb (8 + word_at s 6) (length s) m)

  pub reads_whole : 8 ≤ length s → word_at s 6 ≤ 1024 → length s ≡ 8 + word_at s 6 → read_of s ≡ Ok (head_of s)
  unfolding read_of
  reads_whole h l e =
      rw (le-ltb (length s) 8 h, le-ltb 1024 (word_at s 6) l, le-ltb (length s) (8 + word_at s 6) (omega arith), le-ltb (8 + word_at s 6) (length s) (omega arith))

  -- what is known of bytes that read as a message
  pub record Whole (h : Head) : Type 0 where
    pub head : h ≡ head_of s
    pub few : word_at s 6 ≤ 1024
    pub size : length s ≡ 8 + word_at s 6

  pub whole : (h : Head) → read_of s ≡ Ok h → Whole h
  unfolding read_of
  whole h e =
      go (ltb (length s) 8) refl (ltb 1024 (word_at s 6)) refl (ltb (length s) (8 + word_at s 6)) refl (ltb (8 + word_at s 6) (length s)) refl e
    where
      go : (a : Bool) → ltb (length s) 8 ≡ a → (b : Bool) → ltb 1024 (word_at s 6) ≡ b → (f : Bool) → ltb (length s) (8 + word_at s 6) ≡ f
          → (m : Bool) → ltb (8 + word_at s 6) (length s) ≡ m
          → cond a (Err TooShort) (cond b (Err TooLong) (cond f (Err FewerThanAnnounced) (cond m (Err MoreThanAnnounced) (Ok (head_of s))))) ≡ Ok h → Whole h
      go true ea b eb f ef m em k = absurd (let z : ◌≡◌ {A = ℕ} 0 1 = cc in omega arith)
      go false ea true eb f ef m em k = absurd (let z : ◌≡◌ {A = ℕ} 0 1 = cc in omega arith)
      go false ea false eb true ef m em k = absurd (let z : ◌≡◌ {A = ℕ} 0 1 = cc in omega arith)
      go false ea false eb false ef true em k = absurd (let z : ◌≡◌ {A = ℕ} 0 1 = cc in omega arith)
      go false ea false eb false ef false em k = record {
        head = (cc);
        few = ltb-false 1024 (word_at s 6) eb;
        size = omega (arith, ltb-false (length s) (8 + word_at s 6) ef, ltb-false (8 + word_at s 6) (length s) em);
      }

-- the head that the code puts together, field by field
pub made : (s : List ℕ) (d o l : ℕ) → d ≡ word_at s 0 → o ≡ word_at s 2 → l ≡ word_at s 6 → 8 ≤ length s → l ≤ 1024 → length s ≡ 8 + l
    → Ok (record { destination = d; source = o; kind = get_or s 4 0; thread = get_or s 5 0; length = l }) ≡ read_of s
made s d o l ed eo el h few size = rw (ed, eo, el) (sym (reads_whole s h (omega arith) (omega arith)))

-- ---- the data
module _ (s : List ℕ) where
  pub part-of-message : (h : Head) → read_of s ≡ Ok h → part_of s ≡ drop 8 s
  unfolding part_of
  part-of-message h e = rw e

  pub long : {h : Head} → read_of s ≡ Ok h → 8 ≤ length s
  long {h} e = omega (arith, (whole s h e).size)

  pub all_left : take (length s - 8) (drop 8 s) ≡ drop 8 s
  all_left = take_all (length s - 8) (drop 8 s) (omega (arith, length-drop 8 s))

  pub part-of-none : (r : Refusal) → read_of s ≡ Err r → part_of s ≡ []
  unfolding part_of
  part-of-none r e = rw e

-- the code; 6 where there is none
pub said-code : (part : List ℕ) → said_code (code_of part) ≡ checks ((ltb (length part) 2, refused 6) ∷ []) (says code (word_at part (length part - 2) ∷ []))
unfolding code_of
said-code part = checks-said said_code ((ltb (length part) 2, None) ∷ []) (Some (word_at part (length part - 2)))

-- ---- writing
module _ (part buffer : List ℕ) where
  -- 2, 9, in this order; else the message's length
  pub said-writing : said_writing (writing_of part buffer)
      ≡ checks ((ltb 1024 (length part), refused 2) ∷ (ltb (length buffer) (8 + length part), refused 9) ∷ []) (says written ((8 + length part) ∷ []))
  unfolding writing_of
  said-writing = checks-said said_writing (write_checks part buffer) (Ok (8 + length part))

  pub writes : length part ≤ 1024 → 8 + length part ≤ length buffer → writing_of part buffer ≡ Ok (8 + length part)
  unfolding writing_of
  writes h l = rw (le-ltb 1024 (length part) h, le-ltb (length buffer) (8 + length part) l)

  pub wrote-all : (d s k t : ℕ) (after : List ℕ) → length part ≤ 1024 → 8 + length part ≤ length buffer
      → after ≡ onto (head_bytes d s k t (length part) ++ part) buffer → Wrote d s k t part buffer after (Ok (8 + length part))
  unfolding message_of
  wrote-all d s k t after h l e = record { answer = sym (writes h l); buffer = rw (writes h l) e }
