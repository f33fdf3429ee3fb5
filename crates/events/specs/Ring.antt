-- Where the queue's ring begins after a message (request 03). What the message comes to, and which events are then held, is said in Events.
use Rattle.std.specs.Prelude.{ℕ, ◌≡◌, List, length, Result, Ok, Err}
use Rattle.tapa.specs.declared.Refusal.{Refusal}
use Rattle.message.specs.declared.Head.{Head}
use Rattle.message.specs.Message.{part_of}
use Rattle.queue.specs.declared.Event.{Event}
use Rattle.queue.specs.declared.Queue.{Queue}
use Rattle.queue.specs.Places.{events_of, start_of, start_without}
use Rattle.events.specs.declared.Outcome.{Outcome}
use Rattle.events.specs.declared.Outcome.TheVariants.{Added, Ignored, Taken, Emptied, Coded}
use Rattle.events.specs.declared.Handled.{Handled}
use Rattle.events.specs.Events.{checked, command_of, judge, handled, Handling}

-- after an outcome; the events are those that were held before it
unfoldable pub start_after : Outcome → List Event → ℕ → ℕ
-- an added event follows the newest: the same place
start_after (Added e) es start = start
start_after Ignored es start = start
-- 'taking the oldest moves no event': the next place; 'Find may still close a gap', towards the newest: the same place
start_after (Taken e) es start = start_without e es start
-- an emptied queue is a fresh one: place 0
start_after Emptied es start = 0
start_after (Coded code) es start = start

-- after a message; a refusal changes nothing
abbrev pub start_obeyed : Result Head Refusal → List Event → List ℕ → ℕ → ℕ
start_obeyed (Err r) es part start = start
start_obeyed (Ok h) es part start = start_after (judge es (command_of h.kind part)) es start

unfoldable pub start_handled : List Event → ℕ → List ℕ → List ℕ → ℕ
start_handled es start message reply = start_obeyed (checked (length reply) message) es (part_of message) start

-- ---- what the functions promise

-- a message to a queue: what it came to and what the lent buffer then holds, and where the next queue's ring begins
pub record HandlingAt (q : Queue) (message before after : List ℕ) (h : Handled) : Type 0 where
  pub handling : Handling (handled (events_of q) message before) after h
  pub begins : start_of h.next ≡ start_handled (events_of q) (start_of q) message before
