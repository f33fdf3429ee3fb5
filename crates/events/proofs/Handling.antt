-- Laws of all that a message comes to.
use Prim.Native.Nat.{ℕ, ◌+◌, ◌≤◌}
use Rattle.std.specs.Prelude.{Option, Result, Ok, Err}
use mathlib.Core.Path.{◌≡◌, refl}
use mathlib.Core.Bool.{not, ◌||◌}
use mathlib.Core.List.{List, [], ◌∷◌}
use lib.Dec.{eqb, ltb}
use lib.ListN.{length, get_or}
use Rattle.lists.specs.Lists.{checks}
use Rattle.tapa.specs.Numbers.{word_at}
use Rattle.tapa.specs.Address.{handler_of}
use Rattle.tapa.specs.Said.{Said, refused}
use Rattle.tapa.specs.declared.Refusal.{Refusal}
use Rattle.message.specs.declared.Head.{Head}
use Rattle.message.specs.Message.{part_of}
use Rattle.replies.specs.Replies.{answer_of, Answers}
use Rattle.replies.specs.Said.{said_answer}
use Rattle.replies.proofs.Checking.{passed-room as least-room, through-checking}
use Rattle.queue.specs.declared.Event.{Event}
use Rattle.queue.specs.declared.Queue.{Queue}
use Rattle.queue.specs.Places.{events_of, Lawful, start_of, HoldsAt}
use Rattle.events.specs.declared.Outcome.{Outcome}
use Rattle.events.specs.Events.{elsewhere, checked, command_of, judge, apply, carried, obeys, handled}
use Rattle.events.specs.Ring.{start_after, start_handled, HandlingAt}

pub passed-room : (room : ℕ) (message : List ℕ) (h : Head) → checked room message ≡ Ok h → 13 ≤ room
passed-room room message h e = least-room elsewhere 13 room message h e

module _ (q : Queue) (message before : List ℕ) where
  pub refusing : (r : Refusal) → Lawful q → checked (length before) message ≡ Err r
      → HandlingAt q message before before (record { answer = Err r; next = q })
  unfolding handled start_handled
  refusing r w e = record { handling = rw e (record { answer = refl; next = record { events = refl; law = w }; reply = refl }); begins = rw e }

  pub obeyed : (h : Head) (o : Outcome) (a : Result (Option ℕ) Refusal) (next : Queue) (after : List ℕ) → checked (length before) message ≡ Ok h
      → o ≡ judge (events_of q) (command_of h.kind (part_of message)) → HoldsAt next (apply o (events_of q)) (start_after o (events_of q) (start_of q)) → Answers h (carried o) before after a
      → HandlingAt q message before after (record { answer = a; next = next })
  unfolding handled start_handled
  obeyed h o a next after e k w r = record {
    handling = rw (e, ← k) (record { answer = r.answer; next = w.holds; reply = r.reply });
    begins = rw (e, ← k) w.begins;
  }

-- 9, 1, 2, 3, 19, 15, in this order; else what the command comes to
pub said-answer : (es : List Event) (s reply : List ℕ) → said_answer (handled es s reply).answer
    ≡ checks
    ((ltb (length reply) 13, refused 9)
    ∷ (ltb (length s) 8, refused 1)
    ∷ (ltb 1024 (word_at s 6), refused 2)
    ∷ (ltb (length s) (8 + word_at s 6), refused 3)
    ∷ (ltb (8 + word_at s 6) (length s), refused 19)
    ∷ (not (eqb (handler_of (word_at s 0)) 0x0700) || eqb (get_or s 4 0) 0xFF, refused 15)
    ∷ [])
    (said_answer (answer_of (carried (judge es (command_of (get_or s 4 0) (part_of s))))))
unfolding handled elsewhere
said-answer es s reply = through-checking elsewhere 13 (length reply) s said
  where
    said : Result Head Refusal → Said
    said c = said_answer (obeys c es (part_of s) reply).answer
