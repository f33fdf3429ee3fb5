-- Every way of cutting a message into pieces joins to the same message, or is refused alike.
use Prim.Native.Nat.{ℕ, ◌+◌, ◌*◌, ◌-◌, ◌≤◌}
use Rattle.joiner.specs.declared.Piece.TheVariants.{NotLast, Last}
use Rattle.std.specs.Prelude.{Option, Some, None, Result, Ok, Err}
use mathlib.Core.Path.{◌≡◌, refl, sym, ap, ◌∙◌}
use mathlib.Core.Bool.{true, false}
use mathlib.Core.List.{List, [], ◌∷◌, ◌++◌, append_assoc}
use native.Mathlib.Omega.{arith}
use lib.ListN.{length, take, drop, get_or, replicate, length-append}
use lib.Seq.{length-take-le, take-append_seam, take_at, get_or_at, get_or-append-add}
use borrow.Author.Tests.{le-ltb, le-leb}
use Rattle.lists.specs.Lists.{All, onto}
use Rattle.lists.proofs.Onto.{onto-length, onto-over}
use Rattle.tapa.specs.Numbers.{two_bytes}
use Rattle.tapa.specs.Codes.{response, successful}
use Rattle.tapa.specs.declared.Refusal.{Refusal}
use Rattle.message.specs.Message.{head_bytes, message_of}
use Rattle.joiner.specs.declared.Joiner.{Joiner}
use Rattle.joiner.specs.Joining.{counting, status_of, data_of, taking_of, joined_with, whole_of, completed, whole_answer, whole_bytes, answer_of, next_of, buffer_of, part_for}
use Rattle.joiner.specs.Sending.{together, sent, Small, response_sent, answers_by, joiner_by, buffer_by, Delivers, Drops}
use Rattle.joiner.proofs.Laws.{takes-last, takes-more, whole-longer, whole_plain, whole-response}

-- ---- a piece is its data and its status
module _ (d : List ℕ) (s₁ s₂ : ℕ) where
  abbrev piece : List ℕ
  piece = d ++ (s₁ ∷ s₂ ∷ [])

  piece-length : length piece ≡ length d + 2
  piece-length = length-append d (s₁ ∷ s₂ ∷ [])

  piece-data : data_of piece ≡ d
  piece-data = take_at d (s₁ ∷ s₂ ∷ []) (length piece - 2) (omega (arith, piece-length))

  piece-status : status_of piece ≡ s₁ * 256 + s₂
  piece-status =
      let e : length piece - 2 ≡ length d = omega (arith, piece-length) in
      rw (e, get_or_at d s₁ (s₂ ∷ []) 0 (length d) refl, get_or-append-add d (s₁ ∷ s₂ ∷ []) 1 0)

-- ---- one call
module _ (j : Joiner) (d b : List ℕ) (small : length d ≤ 252) (fits : j.joined + length d ≤ 1032) (room : 1032 ≤ length b) where
  abbrev joined : List ℕ
  joined = take j.joined b ++ d

  joined_length : length joined ≡ j.joined + length d
  joined_length = length-append (take j.joined b) d ∙ ap (λ (n : ℕ). n + length d) (length-take-le j.joined b (omega arith))

  module _ (s₁ s₂ : ℕ) where
    abbrev p : List ℕ
    p = d ++ (s₁ ∷ s₂ ∷ [])

    joined-with : joined_with j.joined p b ≡ joined
    joined-with = ap (λ (y : List ℕ). take j.joined b ++ y) (piece-data d s₁ s₂)

    counted : j.joined + (length p - 2) ≡ j.joined + length d
    counted = omega (arith, piece-length d s₁ s₂)

  is_last : taking_of j.joined (p 0x90 0x00) ≡ Ok Last
  is_last =
      let n : length (p 0x90 0x00) ≡ length d + 2 = piece-length d 0x90 0x00 in
      takes-last j.joined (p 0x90 0x00) (omega arith) (omega arith) (omega arith) (piece-status d 0x90 0x00)

  is-more : taking_of j.joined (p 0x96 0x01) ≡ (Ok NotLast)
  is-more =
      let n : length (p 0x96 0x01) ≡ length d + 2 = piece-length d 0x96 0x01 in
      takes-more j.joined (p 0x96 0x01) (omega arith) (omega arith) (omega arith) (piece-status d 0x96 0x01)

  last-answer : answer_of j (p 0x90 0x00) b ≡ whole_answer (whole_of j joined) joined
  unfolding answer_of
  last-answer = rw (le-ltb (length b) 1032 room, is_last, joined-with 0x90 0x00)

  last-next : next_of j (p 0x90 0x00) b ≡ counting j 0
  unfolding next_of
  last-next = rw (le-ltb (length b) 1032 room, is_last)

  last-buffer : buffer_of j (p 0x90 0x00) b ≡ onto (whole_bytes (whole_of j joined) joined) b
  unfolding buffer_of
  last-buffer = rw (le-ltb (length b) 1032 room, is_last, joined-with 0x90 0x00)

  more-answer : answer_of j (p 0x96 0x01) b ≡ (Ok None)
  unfolding answer_of
  more-answer = rw (le-ltb (length b) 1032 room, is-more)

  more-next : next_of j (p 0x96 0x01) b ≡ counting j (j.joined + length d)
  unfolding next_of
  more-next = rw (le-ltb (length b) 1032 room, is-more) (ap (counting j) (counted 0x96 0x01))

  more-buffer : buffer_of j (p 0x96 0x01) b ≡ onto joined b
  unfolding buffer_of
  more-buffer = rw (le-ltb (length b) 1032 room, is-more, joined-with 0x96 0x01)

-- ---- all calls: the pieces one by one do what one piece with all the data would do

-- the count has no say in what the whole is
same_whole : (j : Joiner) (n : ℕ) (m : List ℕ) → whole_of (counting j n) m ≡ whole_of j m
unfolding whole_of
same_whole j n m = refl

record AtOnce (j : Joiner) (d : List ℕ) (ds : List (List ℕ)) (b : List ℕ) (m : List ℕ) : Type 0 where
  answers : answers_by j (sent d ds) b ≡ replicate (length ds) (Ok None) ++ (whole_answer (whole_of j m) m ∷ [])
  next : joiner_by j (sent d ds) b ≡ counting j 0
  buffer : buffer_by j (sent d ds) b ≡ onto (whole_bytes (whole_of j m) m) b

-- what the rest of the pieces does after the first, seen from before the first
module _ (j : Joiner) (d b : List ℕ) (small : length d ≤ 252) (fits : j.joined + length d ≤ 1032) (room : 1032 ≤ length b) (e : List ℕ) (ds : List (List ℕ)) (m : List ℕ) where
  abbrev first : List ℕ
  first = take j.joined b ++ d

  abbrev after : Joiner
  after = counting j (j.joined + length d)

  further : AtOnce after e ds (onto first b) m → length first ≤ length m → AtOnce j d (e ∷ ds) b m
  further h l =
      let w : whole_of after m ≡ whole_of j m = same_whole j (j.joined + length d) m in
      let over : onto (whole_bytes (whole_of j m) m) (onto first b) ≡ onto (whole_bytes (whole_of j m) m) b =
      onto-over (whole_bytes (whole_of j m) m) first b (omega (arith, whole-longer (whole_of j m) m)) in record {
        answers =
            (λ i. more-answer j d b small fits room i ∷ answers_by (more-next j d b small fits room i) (sent e ds) (more-buffer j d b small fits room i))
            ∙ ap (λ (xs : List (Result (Option ℕ) Refusal)). (Ok None) ∷ xs) h.answers
            ∙ ap (λ (v : Result (Option ℕ) Refusal). (Ok None) ∷ (replicate (length ds) (Ok None) ++ (whole_answer v m ∷ []))) w;
        next = (λ i. joiner_by (more-next j d b small fits room i) (sent e ds) (more-buffer j d b small fits room i)) ∙ h.next;
        buffer =
            (λ i. buffer_by (more-next j d b small fits room i) (sent e ds) (more-buffer j d b small fits room i)) ∙ h.buffer
            ∙ ap (λ (v : Result (Option ℕ) Refusal). onto (whole_bytes v m) (onto first b)) w ∙ over;
      }

by-pieces : (ds : List (List ℕ)) (j : Joiner) (d b : List ℕ) → Small d → All Small ds → j.joined + length (together d ds) ≤ 1032 → 1032 ≤ length b
    → AtOnce j d ds b (take j.joined b ++ together d ds)
by-pieces [] j d b small smalls fits room = record {
  answers = ap (λ (a : Result (Option ℕ) Refusal). a ∷ []) (last-answer j d b small fits room);
  next = last-next j d b small fits room;
  buffer = last-buffer j d b small fits room;
}
by-pieces (e ∷ ds) j d b small smalls fits room =
    let n : length (d ++ together e ds) ≡ length d + length (together e ds) = length-append d (together e ds) in
    let f : j.joined + length d ≤ 1032 = omega arith in
    let s : List ℕ = take j.joined b ++ d in
    let k : ℕ = j.joined + length d in
    let l : length s ≡ k = joined_length j d b small f room in
    let j' : Joiner = counting j k in
    let b' : List ℕ = onto s b in
    let room' : length b' ≡ length b = onto-length s b (omega arith) in
    let start : take k b' ++ together e ds ≡ take j.joined b ++ (d ++ together e ds) =
    ap (λ (y : List ℕ). y ++ together e ds) (take_at s (drop (length s) b) k l) ∙ append_assoc (take j.joined b) d (together e ds) in
    further j d b small f room e ds (take j.joined b ++ (d ++ together e ds))
    (rw start at (by-pieces ds j' e b' smalls.0 smalls.1 (omega arith) (omega arith)))
    (omega (arith, length-append s (together e ds), ap length (append_assoc (take j.joined b) d (together e ds))))

-- ---- the theorem
module _ (j : Joiner) (first : List ℕ) (rest : List (List ℕ)) (b : List ℕ) (idle : j.joined ≡ 0) (small : Small first) (smalls : All Small rest) (room : 1032 ≤ length b) where
  at_once : (m : List ℕ) → together first rest ≡ m → length m ≤ 1032 → AtOnce j first rest b m
  at_once m em few =
      let n : length (together first rest) ≡ length m = ap length em in
      let start : take j.joined b ++ together first rest ≡ m = ap (λ (k : ℕ). take k b ++ together first rest) idle ∙ em in
      rw start at (by-pieces rest j first b small smalls (omega arith) room)

  delivers : (w : Result (Option ℕ) Refusal) (m message : List ℕ) → together first rest ≡ m → length m ≤ 1032 → length message ≤ 1032 → whole_of j m ≡ w
      → whole_answer w m ≡ Ok (Some (length message)) → whole_bytes w m ≡ message → Delivers j first rest message b
  delivers w m message em few fit ew ea eb =
      let h : AtOnce j first rest b m = at_once m em few in
      let answer : whole_answer (whole_of j m) m ≡ Ok (Some (length message)) = ap (λ (v : Result (Option ℕ) Refusal). whole_answer v m) ew ∙ ea in
      let bytes : whole_bytes (whole_of j m) m ≡ message = ap (λ (v : Result (Option ℕ) Refusal). whole_bytes v m) ew ∙ eb in
      let held : buffer_by j (sent first rest) b ≡ onto message b = h.buffer ∙ ap (λ (y : List ℕ). onto y b) bytes in
      let long : length (onto message b) ≡ length b = onto-length message b (omega arith) in record {
        answers = h.answers ∙ ap (λ (a : Result (Option ℕ) Refusal). replicate (length rest) (Ok None) ++ (a ∷ [])) answer;
        next = h.next;
        buffer = held;
        part = ap (part_for (Ok (Some (length message)))) held ∙ rw (le-leb (length message) (length (onto message b)) (omega arith)) (take-append_seam message (drop (length message) b));
      }

  -- a whole that is refused
  pub drops : (r : Refusal) → length (together first rest) ≤ 1032 → whole_of j (together first rest) ≡ Err r → Drops j first rest r b
  drops r few e =
      let m : List ℕ = together first rest in
      let h : AtOnce j first rest b m = at_once m refl few in record {
        answers = h.answers ∙ ap (λ (w : Result (Option ℕ) Refusal). replicate (length rest) (Ok None) ++ (whole_answer w m ∷ [])) e;
        next = h.next;
        buffer = h.buffer ∙ ap (λ (w : Result (Option ℕ) Refusal). onto (whole_bytes w m) b) e;
      }

  -- a message that is no response arrives as it is
  pub command-delivered : (destination source kind thread : ℕ) (part : List ℕ) → (kind ≡ response → ⊥) → thread ≤ 7 → length part ≤ 1024
      → together first rest ≡ message_of destination source kind thread part → Delivers j first rest (message_of destination source kind thread part) b
  unfolding message_of
  command-delivered destination source kind thread part other t few e =
      let m : List ℕ = message_of destination source kind thread part in
      delivers (Ok None) m m e (omega arith) (omega arith)
      (whole_plain j m (omega arith) t (omega arith) other (omega arith)) refl refl

  -- a response, sent without its code and with its length counting it, arrives with the kept source as its destination and with the code '0000'
  pub response-delivered : (destination source thread : ℕ) (part : List ℕ) → thread ≤ 7 → length part + 2 ≤ 1024
      → get_or j.kept thread false ≡ true → together first rest ≡ response_sent destination source thread part
      → Delivers j first rest (message_of (get_or j.sources thread 0) source response thread (part ++ two_bytes successful)) b
  unfolding message_of completed
  response-delivered destination source thread part t few kept e =
      let m : List ℕ = response_sent destination source thread part in
      let to : ℕ = get_or j.sources thread 0 in
      let n : length (part ++ two_bytes successful) ≡ length part + 2 = length-append part (two_bytes successful) in
      let bytes : completed to m ≡ message_of to source response thread (part ++ two_bytes successful) =
      ap (λ (k : ℕ). head_bytes to source response thread k ++ (part ++ two_bytes successful)) (sym n) in
      delivers (Ok (Some to)) m (message_of to source response thread (part ++ two_bytes successful)) e (omega arith) (omega arith)
      (whole-response j m (omega arith) t (omega arith) refl (omega arith) kept) (ap (λ (n : ℕ). Ok (Some n)) (omega arith)) bytes
