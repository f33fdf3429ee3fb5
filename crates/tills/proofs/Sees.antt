-- How far a step sees: two views in which the rows, the places of its thread and the busyness of the handler that it asks are the same give it the
-- same outcome.
use Prim.Native.Nat.{ℕ}
use Rattle.tapa.specs.declared.Refusal.{Refusal}
use Rattle.message.specs.declared.Head.{Head}
use Rattle.std.specs.Prelude.{Result, Ok, Err, Option, Some}
use mathlib.Core.Path.{◌≡◌, refl}
use mathlib.Core.Logic.{inl}
use mathlib.Core.List.{List}
use lib.ListN.{length}
use Rattle.lists.specs.Lists.{some_of, In}
use Rattle.tapa.specs.Address.{handler_of}
use Rattle.message.specs.Message.{read_of, part_of, code_of}
use Rattle.places.specs.Places.{on_slot}
use Rattle.rules.specs.View.{View}
use Rattle.rules.specs.Judge.{judge_read, judge_message}
use Rattle.rules.proofs.Apart.{part, of_thread, kind-same, give-up-same}
use Rattle.tills.specs.Tills.{Step, message, give_up, outcome_of, read_thread, thread_of}
use Rattle.tills.specs.Less.{read_asks, asks_of}

module _ (v w : View) (rows : v.rows ≡ w.rows) where
  -- the places of the thread, if there is one
  abbrev pub ThreadSame : Option ℕ → Type 0
  ThreadSame thread = (t : ℕ) → thread ≡ Some t → part (of_thread t) v.places ≡ part (of_thread t) w.places

  -- whether those that are asked have a command under way
  abbrev pub BusySame : Option ℕ → List ℕ → Type 0
  BusySame thread asked = (t : ℕ) → thread ≡ Some t → (h : ℕ) → In h asked → some_of (on_slot h t) v.places ≡ some_of (on_slot h t) w.places

  read_same : (r : Result Head Refusal) (code : Option ℕ) → ThreadSame (read_thread r) → BusySame (read_thread r) (read_asks r) → judge_read v r code ≡ judge_read w r code
  unfolding judge_read
  read_same (Err z) code e f = refl
  read_same (Ok h) code e f =
      rw (kind-same v w rows h (e h.thread refl) code (λ p q. f h.thread refl (handler_of h.destination) (rw (p, q) (inl refl))), rows)

  pub message-same : (room : ℕ) (s : List ℕ) → ThreadSame (read_thread (read_of s)) → BusySame (read_thread (read_of s)) (read_asks (read_of s))
      → judge_message v room s ≡ judge_message w room s
  unfolding judge_message
  message-same room s e f = rw (read_same (read_of s) (code_of (part_of s)) e f)

  pub outcome-same : (c : Step) → ThreadSame (thread_of c) → BusySame (thread_of c) (asks_of c) → outcome_of v c ≡ outcome_of w c
  outcome-same (message s buffer) e f = message-same (length buffer) s e f
  outcome-same (give_up t a buffer) e f = give-up-same v w t (e t refl) (length buffer) a
