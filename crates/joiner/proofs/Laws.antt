-- Laws of the joiner's definitions: what a piece and the whole are, check by check, and what is written.
use Prim.Native.Nat.{ℕ, ◌+◌, ◌*◌, ◌-◌, ◌/◌, ◌%◌, ◌≤◌, ◌<◌}
use Rattle.joiner.specs.declared.Piece.TheVariants.{NotLast, Last}
use Rattle.joiner.specs.declared.Piece.{Piece}
use Rattle.message.specs.declared.Head.{Head}
use Rattle.std.specs.Prelude.{Result, Ok, Err, Option, Some, None}
use mathlib.Core.Path.{◌≡◌, refl, sym, ap, ◌∙◌}
use mathlib.Core.Bool.{Bool, true, false, not, cond, ◌&&◌, ◌||◌}
use mathlib.Core.List.{List, [], ◌∷◌, ◌++◌}
use native.Mathlib.Nat.{le_refl, min-le_left}
use native.Mathlib.Numerals.{add-one}
use native.Mathlib.Omega.{arith}
use lib.Dec.{eqb, ltb}
use lib.ListN.{length, take, drop, get_or, set, length-append, length-take, length-drop, take-append-drop}
use lib.Seq.{length-take-le, sets-eq, drop-append-le, take_at}
use borrow.Author.Tests.{lt-ltb, le-ltb, le-leb, lt-leb, eq-eqb, ne_eqb, ltb-false}
use borrow.Rule.Slice.PartMut.{put_mid}
use Rattle.lists.specs.Lists.{checks, onto}
use Rattle.lists.proofs.Onto.{onto-then, onto-stores, own-start, onto-over, prefix}
use Rattle.lists.proofs.Tests.{checks-said}
use Rattle.tapa.specs.Numbers.{word_at, two_bytes}
use Rattle.tapa.specs.Said.{refused, says, written, get_next, joined as hands_on, kept}
use Rattle.tapa.specs.declared.Refusal.{Refusal}
use Rattle.tapa.specs.declared.Refusal.TheVariants.{TooShort, TooLong, FewerThanAnnounced, ThreadAbove7, BufferTooSmall, NoSourceKept, StatusNotUsable, MoreThanAnnounced}
use Rattle.message.specs.Message.{head_of}
use Rattle.message.specs.Said.{said_writing}
use Rattle.message.proofs.Laws.{through-reading}
use Rattle.joiner.specs.declared.Joiner.{Joiner}
use Rattle.joiner.specs.Joining.{counting, status_of, data_of, taking_checks, taking_of, joined_with, is_response, due_for, whole_checks, whole_of, completed, whole_answer, whole_bytes, answer_to, count_to, answer_of, next_of, buffer_of, Joins, part_for, asking_of, keep_checks, keeping_on, kept_of}
use Rattle.joiner.specs.Said.{said_answer, said_keeping}

-- ---- one piece

-- its status, as the code reads it
pub status : (p : List ℕ) → 2 ≤ length p → {s : ℕ} → s ≡ get_or p (length p - 2) 0 * 256 + get_or p (length p - 1) 0 → status_of p ≡ s
status p two e =
    let k : length p - 2 + 1 ≡ length p - 1 = omega arith in
    ap (λ (i : ℕ). get_or p (length p - 2) 0 * 256 + get_or p i 0) k ∙ sym e

-- the code's test of the sum
pub over : (joined n : ℕ) → 2 ≤ n → n ≤ 254 → 1034 - n < joined → ltb 1032 (joined + (n - 2)) ≡ true
over joined n two few l = lt-ltb 1032 (joined + (n - 2)) (omega arith)

module _ (joined : ℕ) (p : List ℕ) where
  module _ (two : 2 ≤ length p) (few : length p ≤ 254) (fits : joined ≤ 1034 - length p) where
    room : joined + (length p - 2) ≤ 1032
    room = omega arith

    pub takes-last : status_of p ≡ 0x9000 → taking_of joined p ≡ Ok Last
    unfolding taking_of
    takes-last e = rw (le-ltb (length p) 2 two, le-ltb 254 (length p) few, e, le-ltb 1032 (joined + (length p - 2)) room)

    pub takes-more : status_of p ≡ 0x9601 → taking_of joined p ≡ (Ok NotLast)
    unfolding taking_of
    takes-more e = rw (le-ltb (length p) 2 two, le-ltb 254 (length p) few, e, le-ltb 1032 (joined + (length p - 2)) room)

  -- a piece that is taken has its status, and its data has room
  pub record Taken : Type 0 where
    pub two : 2 ≤ length p
    pub fits : joined + (length p - 2) ≤ 1032

  abbrev not_refused : Result Piece Refusal → Type 0
  not_refused (Ok NotLast) = Unit {0}
  not_refused (Ok Last) = Unit {0}
  not_refused (Err r) = ⊥

  taken : not_refused (taking_of joined p) → Taken
  unfolding taking_of
  taken n = go (ltb (length p) 2) refl (ltb 254 (length p)) (eqb (status_of p) 0x9601 || eqb (status_of p) 0x9000) (ltb 1032 (joined + (length p - 2))) refl n
    where
      go : (a : Bool) → ltb (length p) 2 ≡ a → (b s o : Bool) → ltb 1032 (joined + (length p - 2)) ≡ o
          → not_refused (cond a (Err TooShort) (cond b (Err TooLong) (cond (not s) (Err StatusNotUsable) (cond o (Err TooLong) (cond (eqb (status_of p) 0x9601) (Ok NotLast) (Ok Last)))))) → Taken
      go true ea b s o eo n = absurd n
      go false ea true s o eo n = absurd n
      go false ea false false o eo n = absurd n
      go false ea false true true eo n = absurd n
      go false ea false true false eo n = record { two = ltb-false (length p) 2 ea; fits = ltb-false 1032 (joined + (length p - 2)) eo }

  pub taken_more : taking_of joined p ≡ Ok NotLast → Taken
  taken_more e = taken (rw e tt)

  pub taken-last : taking_of joined p ≡ Ok Last → Taken
  taken-last e = taken (rw e tt)

  pub taken-some : (t : Piece) → taking_of joined p ≡ Ok t → Taken
  taken-some NotLast e = taken_more e
  taken-some Last e = taken-last e

-- ---- written bytes

-- a piece's data, copied into the tail from the joined count
pub added : (joined : ℕ) (p b d r : List ℕ) → joined + (length p - 2) ≤ length b → d ≡ data_of p
    → r ≡ take (length d) d ++ drop (length d) (take (length b - joined) (drop joined b))
    → put_mid joined (length b - joined) b r ≡ onto (joined_with joined p b) b
added joined p b d r l ed er =
    let n : length d ≤ length p - 2 = omega (arith, ap length ed, length-take (length p - 2) p, min-le_left (length p - 2) (length p)) in
    onto-then (take joined b) d b joined (length-take-le joined b (omega arith)) (omega arith) b r (own-start joined b (omega arith)) er
    ∙ ap (λ (y : List ℕ). onto (take joined b ++ y) b) ed

-- destination and code by four stores
module _ (m source : ℕ) (b : List ℕ) (two : 2 ≤ m) (room : m + 2 ≤ length b) where
  abbrev fronted : List ℕ
  fronted = two_bytes source ++ drop 2 (take m b)

  fronted-length : length fronted ≡ m
  fronted-length = omega (arith, length-drop 2 (take m b), length-take-le m b (omega arith))

  fronted-onto : onto (two_bytes source) b ≡ onto fronted b
  fronted-onto =
      let front : 2 ≤ length (take m b) = omega (arith, length-take-le m b (omega arith)) in
      let rest : drop 2 b ≡ drop 2 (take m b) ++ drop m b =
      ap (drop 2) (sym (take-append-drop m b)) ∙ drop-append-le 2 (take m b) (drop m b) front in
      ap (λ (y : List ℕ). two_bytes source ++ y) rest ∙ ap (λ (k : ℕ). fronted ++ drop k b) (sym fronted-length)

  pub four-stores : set (set (set (set b 0 (source / 256)) 1 (source % 256)) m 0) (m + 1) 0 ≡ onto (completed source (take m b)) b
  unfolding completed
  four-stores =
      ap (λ (k : ℕ). set (set (set (set b 0 (source / 256)) 1 (source % 256)) m 0) k 0) (add-one m)
      ∙ onto-stores fronted (0 ∷ 0 ∷ []) b m fronted-length room (set (set b 0 (source / 256)) 1 (source % 256))
      (sets-eq (two_bytes source) b 0 (omega arith) ∙ fronted-onto)

-- ---- the whole
module _ (j : Joiner) (m : List ℕ) where
  module _ (a : 8 ≤ length m) (t : get_or m 5 0 ≤ 7) (l : word_at m 6 ≤ 1024) where
    pub whole_plain : (get_or m 4 0 ≡ 255 → ⊥) → word_at m 6 ≡ length m - 8 → whole_of j m ≡ (Ok None)
    unfolding whole_of
    whole_plain k u =
        rw (le-ltb (length m) 8 a, le-ltb 7 (get_or m 5 0) t, le-ltb 1024 (word_at m 6) l, ne_eqb (get_or m 4 0) 255 k, le-ltb (length m - 8) (word_at m 6) (omega arith), le-ltb (word_at m 6) (length m - 8) (omega arith))

    pub whole-response : get_or m 4 0 ≡ 255 → word_at m 6 ≡ length m - 8 + 2 → get_or j.kept (get_or m 5 0) false ≡ true
        → whole_of j m ≡ Ok (Some (get_or j.sources (get_or m 5 0) 0))
    unfolding whole_of
    whole-response k u f =
        rw (le-ltb (length m) 8 a, le-ltb 7 (get_or m 5 0) t, le-ltb 1024 (word_at m 6) l, eq-eqb (get_or m 4 0) 255 k, le-ltb (length m - 8 + 2) (word_at m 6) (omega arith), le-ltb (word_at m 6) (length m - 8 + 2) (omega arith), f)

    pub whole-fewer : due_for m < word_at m 6 → whole_of j m ≡ Err FewerThanAnnounced
    unfolding whole_of
    whole-fewer f = rw (le-ltb (length m) 8 a, le-ltb 7 (get_or m 5 0) t, le-ltb 1024 (word_at m 6) l, lt-ltb (due_for m) (word_at m 6) f)

    pub whole-more : word_at m 6 < due_for m → whole_of j m ≡ Err MoreThanAnnounced
    unfolding whole_of
    whole-more f =
        rw (le-ltb (length m) 8 a, le-ltb 7 (get_or m 5 0) t, le-ltb 1024 (word_at m 6) l, le-ltb (due_for m) (word_at m 6) (omega arith), lt-ltb (word_at m 6) (due_for m) f)

  -- a response has a head, and there is room for its code
  pub record Complete : Type 0 where
    pub head : 8 ≤ length m
    pub room : length m + 2 ≤ 1032

  abbrev is_to_complete : Result (Option ℕ) Refusal → Type 0
  is_to_complete (Err r) = ⊥
  is_to_complete (Ok None) = ⊥
  is_to_complete (Ok (Some s)) = Unit {0}

  to-complete : is_to_complete (whole_of j m) → Complete
  unfolding whole_of
  to-complete x =
      go (ltb (length m) 8) refl (ltb 7 (get_or m 5 0)) (ltb 1024 (word_at m 6)) refl (is_response m) (ltb (due_for m) (word_at m 6)) (ltb (word_at m 6) (due_for m)) refl (get_or j.kept (get_or m 5 0) false) x
    where
      go : (a : Bool) → ltb (length m) 8 ≡ a → (b c : Bool) → ltb 1024 (word_at m 6) ≡ c → (r u d : Bool) → ltb (word_at m 6) (cond r (length m - 8 + 2) (length m - 8)) ≡ d → (f : Bool)
          → is_to_complete (cond a (Err TooShort) (cond b (Err ThreadAbove7) (cond c (Err TooLong) (cond u (Err FewerThanAnnounced) (cond d (Err MoreThanAnnounced) (cond (r && not f) (Err NoSourceKept) (cond r (Ok (Some (get_or j.sources (get_or m 5 0) 0))) (Ok None)))))))) → Complete
      go true ea b c ec r u d ed f x = absurd x
      go false ea true c ec r u d ed f x = absurd x
      go false ea false true ec r u d ed f x = absurd x
      go false ea false false ec r true d ed f x = absurd x
      go false ea false false ec r false true ed f x = absurd x
      go false ea false false ec false false false ed f x = absurd x
      go false ea false false ec true false false ed false x = absurd x
      go false ea false false ec true false false ed true x =
          record { head = ltb-false (length m) 8 ea; room = omega (arith, ltb-false (length m) 8 ea, ltb-false 1024 (word_at m 6) ec, ltb-false (word_at m 6) (length m - 8 + 2) ed) }

  pub complete-response : (s : ℕ) → whole_of j m ≡ Ok (Some s) → Complete
  complete-response s e = to-complete (rw e tt)

-- the joined bytes with what is put to them are as long as the joined bytes alone, or longer
pub whole-longer : (w : Result (Option ℕ) Refusal) (m : List ℕ) → length m ≤ length (whole_bytes w m)
unfolding completed
whole-longer (Err r) m = le_refl (length m)
whole-longer (Ok None) m = le_refl (length m)
whole-longer (Ok (Some s)) m = simp length-append (omega (arith, length-drop 2 m))

-- ---- finishing: the first m bytes are judged
module _ (j : Joiner) (m : ℕ) (b : List ℕ) (few : m ≤ 1032) (room : 1032 ≤ length b) where
  abbrev Finished : Result (Option ℕ) Refusal → List ℕ → Type 0
  Finished a after = (a ≡ whole_answer (whole_of j (take m b)) (take m b)) × (after ≡ onto (whole_bytes (whole_of j (take m b)) (take m b)) b)

  long : length (take m b) ≡ m
  long = length-take-le m b (omega arith)

  module _ (w : Result (Option ℕ) Refusal) (e : w ≡ whole_of j (take (m - 0) (drop 0 b))) where
    judged : (v : Result (Option ℕ) Refusal) → w ≡ v → whole_of j (take m b) ≡ v
    judged v ev = ap (whole_of j) (sym (prefix m b)) ∙ sym e ∙ ev

    pub finishes-none : (r : Refusal) → w ≡ Err r → Finished (Err r) b
    finishes-none r ev = (rw (judged (Err r) ev), rw (judged (Err r) ev) (own-start m b (omega arith)))

    pub finishes-plain : w ≡ Ok None → Finished (Ok (Some m)) b
    finishes-plain ev = (rw (judged (Ok None) ev) (ap (λ (n : ℕ). Ok (Some n)) (sym long)), rw (judged (Ok None) ev) (own-start m b (omega arith)))

    pub finishes-response : (s : ℕ) (after : List ℕ) → w ≡ Ok (Some s) → after ≡ onto (completed s (take m b)) b → Finished (Ok (Some (m + 2))) after
    finishes-response s after ev ea =
        (rw (judged (Ok (Some s)) ev) (ap (λ (n : ℕ). Ok (Some (n + 2))) (sym long)), rw (judged (Ok (Some s)) ev) ea)

    pub completes : (s : ℕ) → w ≡ Ok (Some s) → (2 ≤ m) × (m + 2 ≤ length b)
    completes s ev =
        let c : Complete j (take m b) = complete-response j (take m b) s (judged (Ok (Some s)) ev) in
        (omega (arith, c.head, long), omega (arith, c.room, long))

-- ---- joining
module _ (j : Joiner) (p b : List ℕ) where
  pub joins-small : length b < 1032 → Joins j p b b (record { answer = Err BufferTooSmall; next = j })
  unfolding answer_of next_of buffer_of
  joins-small l = record {
    answer = rw (lt-ltb (length b) 1032 l);
    next = rw (lt-ltb (length b) 1032 l);
    buffer = rw (lt-ltb (length b) 1032 l);
  }

  module _ (l : 1032 ≤ length b) where
    pub joins-none : (r : Refusal) (x : Joiner) → taking_of j.joined p ≡ Err r → x ≡ counting j 0 → Joins j p b b (record { answer = Err r; next = x })
    unfolding answer_of next_of buffer_of
    joins-none r x e ex = record {
      answer = rw (le-ltb (length b) 1032 l, e);
      next = rw (le-ltb (length b) 1032 l, e) ex;
      buffer = rw (le-ltb (length b) 1032 l, e);
    }

    pub joins-more : (x : Joiner) (m : ℕ) (a : List ℕ) → taking_of j.joined p ≡ Ok NotLast → m ≡ j.joined + (length p - 2) → x ≡ counting j m
        → a ≡ onto (joined_with j.joined p b) b → Joins j p b a (record { answer = Ok None; next = x })
    unfolding answer_of next_of buffer_of
    joins-more x m a e em ex ea = record {
      answer = rw (le-ltb (length b) 1032 l, e);
      next = rw (le-ltb (length b) 1032 l, e) (ex ∙ ap (counting j) em);
      buffer = rw (le-ltb (length b) 1032 l, e) ea;
    }

    -- the last piece: what stands in the buffer once it is written is judged
    pub joins-last : (x : Joiner) (m : ℕ) (h a : List ℕ) (w : Result (Option ℕ) Refusal) → taking_of j.joined p ≡ Ok Last → m ≡ j.joined + (length p - 2) → x ≡ counting j 0
        → h ≡ onto (joined_with j.joined p b) b → w ≡ whole_answer (whole_of j (take m h)) (take m h) → a ≡ onto (whole_bytes (whole_of j (take m h)) (take m h)) h
        → Joins j p b a (record { answer = w; next = x })
    unfolding answer_of next_of buffer_of
    joins-last x m h a w e em ex eh ew ea =
        let t : Taken j.joined p = taken-last j.joined p e in
        let s : List ℕ = joined_with j.joined p b in
        let front : length (take j.joined b) ≡ j.joined = length-take-le j.joined b (omega (arith, t.fits)) in
        let back : length (data_of p) ≡ length p - 2 = length-take-le (length p - 2) p (omega arith) in
        let size : length s ≡ m = length-append (take j.joined b) (data_of p) ∙ omega (arith, front, back, em) in
        let start : take m h ≡ s = ap (take m) eh ∙ take_at s (drop (length s) b) m size in
        record {
          answer = rw (le-ltb (length b) 1032 l, e) (ew ∙ ap (λ (y : List ℕ). whole_answer (whole_of j y) y) start);
          next = rw (le-ltb (length b) 1032 l, e) ex;
          buffer = rw (le-ltb (length b) 1032 l, e) (ea ∙ (λ i. onto (whole_bytes (whole_of j (start i)) (start i)) (eh i)) ∙ onto-over (whole_bytes (whole_of j s) s) s b (whole-longer (whole_of j s) s));
        }

-- a count stays at most 1,032: no function has to ask for it, and every joiner that is handed back has it
pub few-joined : (j : Joiner) (p b : List ℕ) → j.joined ≤ 1032 → (next_of j p b).joined ≤ 1032
unfolding next_of
few-joined j p b l = go (ltb (length b) 1032) (taking_of j.joined p) refl
  where
    go : (x : Bool) (t : Result Piece Refusal) → taking_of j.joined p ≡ t → (cond x j (counting j (count_to t (j.joined + (length p - 2))))).joined ≤ 1032
    go true t e = l
    go false (Err r) e = omega arith
    go false (Ok NotLast) e = (taken_more j.joined p e).fits
    go false (Ok Last) e = omega arith

-- ---- the part that an answer hands on
pub part-whole : (a : Result (Option ℕ) Refusal) (n : ℕ) (b : List ℕ) → a ≡ Ok (Some n) → n ≤ length b → take (n - 0) (drop 0 b) ≡ part_for a b
part-whole a n b e l = prefix n b ∙ sym (rw (e, le-leb n (length b) l))

pub part-beyond : (a : Result (Option ℕ) Refusal) (n : ℕ) (b : List ℕ) → a ≡ Ok (Some n) → length b < n → [] ≡ part_for a b
part-beyond a n b e l = sym (rw (e, lt-leb n (length b) l))

-- ---- the page's numbers and words, in its order

-- 'At '9000', with m bytes joined': 1, 5, 2, 3, 19, 17, in this order; else the length of what is handed on, for 'FF' with the code that is appended
pub said-whole : (j : Joiner) (m : List ℕ) → said_answer (whole_answer (whole_of j m) m)
    ≡ checks
    ((ltb (length m) 8, refused 1)
    ∷ (ltb 7 (get_or m 5 0), refused 5)
    ∷ (ltb 1024 (word_at m 6), refused 2)
    ∷ (ltb (cond (eqb (get_or m 4 0) 0xFF) (length m - 8 + 2) (length m - 8)) (word_at m 6), refused 3)
    ∷ (ltb (word_at m 6) (cond (eqb (get_or m 4 0) 0xFF) (length m - 8 + 2) (length m - 8)), refused 19)
    ∷ (eqb (get_or m 4 0) 0xFF && not (get_or j.kept (get_or m 5 0) false), refused 17)
    ∷ (eqb (get_or m 4 0) 0xFF, says hands_on ((length m + 2) ∷ []))
    ∷ [])
    (says hands_on (length m ∷ []))
unfolding whole_of
said-whole j m = checks-said (λ (w : Result (Option ℕ) Refusal). said_answer (whole_answer w m)) (whole_checks j m) (Ok None)

-- 9, 1, 2, 18, 2, in this order; then '9601' asks for Get Next, and at '9000' the whole is judged
pub said-join : (j : Joiner) (p b : List ℕ) → said_answer (answer_of j p b)
    ≡ checks
    ((ltb (length b) 1032, refused 9)
    ∷ (ltb (length p) 2, refused 1)
    ∷ (ltb 254 (length p), refused 2)
    ∷ (not (eqb (status_of p) 0x9601 || eqb (status_of p) 0x9000), refused 18)
    ∷ (ltb 1032 (j.joined + (length p - 2)), refused 2)
    ∷ (eqb (status_of p) 0x9601, says get_next [])
    ∷ [])
    (said_answer (whole_answer (whole_of j (joined_with j.joined p b)) (joined_with j.joined p b)))
unfolding answer_of taking_of
said-join j p b =
    checks-said said_answer ((ltb (length b) 1032, Err BufferTooSmall) ∷ []) (answer_to (taking_of j.joined p) j (joined_with j.joined p b))
    ∙ ap (cond (ltb (length b) 1032) (refused 9))
    (checks-said (λ (t : Result Piece Refusal). said_answer (answer_to t j (joined_with j.joined p b))) (taking_checks j.joined p) (Ok Last))

-- 1, 2, 3, 19, 15, 5, in this order; else the source is kept
pub said-keeping : (j : Joiner) (s : List ℕ) → said_keeping (kept_of j s).answer
    ≡ checks
    ((ltb (length s) 8, refused 1)
    ∷ (ltb 1024 (word_at s 6), refused 2)
    ∷ (ltb (length s) (8 + word_at s 6), refused 3)
    ∷ (ltb (8 + word_at s 6) (length s), refused 19)
    ∷ (not (eqb (get_or s 4 0) 0x42), refused 15)
    ∷ (ltb 7 (get_or s 5 0), refused 5)
    ∷ [])
    (says kept [])
unfolding kept_of
said-keeping j s = through-reading (λ (r : Result Head Refusal). said_keeping (keeping_on r)) _ s (checks-said said_keeping (keep_checks (head_of s)) (Ok tt))

-- 9; else Get Next is written
pub said-asking : (b : List ℕ) → said_writing (asking_of b) ≡ checks ((ltb (length b) 5, refused 9) ∷ []) (says written (5 ∷ []))
said-asking b = checks-said said_writing ((ltb (length b) 5, Err BufferTooSmall) ∷ []) (Ok 5)
