-- All that a message comes to.
use Prim.Native.Nat.{◌+◌, ◌-◌, ℕ, ◌≤◌}
use Rattle.std.specs.Prelude.{Option, Result, Ok, Err, Some}
use mathlib.Core.Bool.{not, ◌||◌}
use mathlib.Core.List.{List, [], ◌∷◌}
use mathlib.Core.Path.{ap, refl, sym, ◌∙◌, ◌≡◌}
use native.Mathlib.Omega.{arith}
use lib.Dec.{eqb, ltb}
use lib.ListN.{drop, get_or, length, length-append, replicate, take}
use lib.Seq.{take_at}
use Rattle.book.specs.Book.{Lawful}
use Rattle.book.specs.declared.Book.{Book}
use Rattle.lists.proofs.Onto.{prefix}
use Rattle.lists.specs.Lists.{checks, onto}
use Rattle.message.specs.Message.{part_of}
use Rattle.message.specs.declared.Head.{Head}
use Rattle.replies.proofs.Checking.{passed-room as least-room, through-checking}
use Rattle.replies.specs.Replies.{Answers, answer_of}
use Rattle.replies.specs.Said.{said_answer}
use Rattle.store.specs.Store.{Handling, checked, deed_of, elsewhere, handled, obeys}
use Rattle.tapa.specs.Address.{category_of}
use Rattle.tapa.specs.Numbers.{word_at}
use Rattle.tapa.specs.Said.{Said, refused}
use Rattle.tapa.specs.declared.Refusal.{Refusal}

pub passed-room : (room : ℕ) (message : List ℕ) (h : Head) → checked room message ≡ Ok h → 398 ≤ room
passed-room room message h e = least-room elsewhere 398 room message h e

module _ (b : Book) (area message before : List ℕ) where
  pub refusing : (r : Refusal) → Lawful b area → checked (length before) message ≡ Err r
      → Handling (handled b area message before) area before (record { answer = Err r; next = b })
  unfolding handled
  refusing r law e = rw e (record { answer = refl; next = refl; area' = refl; reply' = refl; law = law })

  pub obeyed : (h : Head) (next : Book) (area₁ after : List ℕ) (a : Result (Option ℕ) Refusal) → Lawful next area₁ → checked (length before) message ≡ Ok h
      → next ≡ (deed_of h.kind (part_of message) b area).book → area₁ ≡ (deed_of h.kind (part_of message) b area).area
      → Answers h (Some (deed_of h.kind (part_of message) b area).part) before after a
      → Handling (handled b area message before) area₁ after (record { answer = a; next = next })
  unfolding handled
  obeyed h next area₁ after a law e n m r = rw e (record { answer = r.answer; next = n; area' = m; reply' = r.reply; law = law })

-- the data that were written are the start of the buffer
pub start_is : (body part : List ℕ) (n : ℕ) → body ≡ onto part (replicate 390 0) → n ≡ length part → take (n - 0) (drop 0 body) ≡ part
start_is body part n e k =
    prefix n body ∙ ap (λ (l : List ℕ). take n l) e ∙ take_at part (drop (length part) (replicate 390 0)) n (sym k)

-- and they are no longer than it
pub start_fits : (body part : List ℕ) → body ≡ onto part (replicate 390 0) → length body ≡ 390 → length part ≤ 390
start_fits body part e k = omega (arith, ap length e, length-append part (drop (length part) (replicate 390 0)), k)

-- 9, 1, 2, 3, 19, 15, in this order; else what the command comes to
pub said-answer : (b : Book) (area s reply : List ℕ) → said_answer (handled b area s reply).answer
    ≡ checks
    ((ltb (length reply) 398, refused 9)
    ∷ (ltb (length s) 8, refused 1)
    ∷ (ltb 1024 (word_at s 6), refused 2)
    ∷ (ltb (length s) (8 + word_at s 6), refused 3)
    ∷ (ltb (8 + word_at s 6) (length s), refused 19)
    ∷ (not (eqb (category_of (word_at s 0)) 0x05) || eqb (get_or s 4 0) 0xFF, refused 15)
    ∷ [])
    (said_answer (answer_of (Some (deed_of (get_or s 4 0) (part_of s) b area).part)))
unfolding handled elsewhere
said-answer b area s reply = through-checking elsewhere 398 (length reply) s said
  where
    said : Result Head Refusal → Said
    said c = said_answer (obeys c (part_of s) b area reply).answer
