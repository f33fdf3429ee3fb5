-- Demand 2, of the event queue: a run as the contract of `event_answers::handle` tells it. It begins with a fresh queue and goes on with messages, each on
-- the queue that the last one left. The history lists the messages with the reply buffers that were lent, and what came of each.
use Rattle.std.specs.Prelude.{ℕ, ◌≤◌, ◌≡◌, List, [], ◌∷◌, length}
use Rattle.lists.specs.Lists.{onto}
use Rattle.queue.specs.declared.Event.{Event}
use Rattle.queue.specs.declared.Queue.{Queue}
use Rattle.queue.specs.Places.{events_of, HoldsAt, Lawful}
use Rattle.events.specs.declared.Handled.{Handled}
use Rattle.events.specs.Events.{handled, Answered}
use Rattle.events.specs.Ring.{HandlingAt}
use Rattle.demands.specs.Stored.{Exchange}

-- the newest exchange stands first
pub data Queued : List Exchange → Queue → Type 0 where
  begun : (q : Queue) → HoldsAt q [] 0 → Queued [] q
  went_on : (h : List Exchange) (q : Queue) → Queued h q
      → (message before after : List ℕ) (out : Handled) → HandlingAt q message before after out
      → Queued (record { message = message; before = before; answer = out.answer; after = after } ∷ h) out.next

-- ---- the same messages, said of a plain list of events alone, the oldest first

abbrev pub events_after : List Exchange → List Event
events_after [] = []
events_after (x ∷ h) = (handled (events_after h) x.message x.before).events

abbrev pub ToldBy : Answered → Exchange → Type 0
ToldBy w x = (x.answer ≡ w.answer) × (x.after ≡ w.reply)

abbrev pub EachTold : List Exchange → Type 0
EachTold [] = Unit {0}
EachTold (x ∷ h) = ToldBy (handled (events_after h) x.message x.before) x × EachTold h

pub record AsEvents (h : List Exchange) (q : Queue) : Type 0 where
  -- 'the law shown of every state', which is all that a call requires
  pub law : Lawful q
  -- 'It holds at most 100 events'
  pub few : length (events_of q) ≤ 100
  -- what is held, every answer and every byte of the replies are those of the plain list
  pub events : events_of q ≡ events_after h
  pub told : EachTold h

-- ---- request 01, in bytes: Flush of an empty queue 'answers 'FF72' and stays empty', of another one '0000'
pub record Flushing : Type 0 where
  pub empty : (s₁ s₂ thread : ℕ) (buffer : List ℕ) → s₂ ≤ 255 → 13 ≤ length buffer
      → (handled [] (0x07 ∷ 0x00 ∷ s₁ ∷ s₂ ∷ 0xC3 ∷ thread ∷ 0x00 ∷ 0x00 ∷ []) buffer).reply
      ≡ onto (s₁ ∷ s₂ ∷ 0x07 ∷ 0x00 ∷ 0xFF ∷ thread ∷ 0x00 ∷ 0x02 ∷ 0xFF ∷ 0x72 ∷ []) buffer
  pub stays-empty : (thread : ℕ) (buffer : List ℕ) → (handled [] (0x07 ∷ 0x00 ∷ 0x01 ∷ 0x00 ∷ 0xC3 ∷ thread ∷ 0x00 ∷ 0x00 ∷ []) buffer).events ≡ []
  pub full : (e : Event) (es : List Event) (s₁ s₂ thread : ℕ) (buffer : List ℕ) → s₂ ≤ 255 → 13 ≤ length buffer
      → ((handled (e ∷ es) (0x07 ∷ 0x00 ∷ s₁ ∷ s₂ ∷ 0xC3 ∷ thread ∷ 0x00 ∷ 0x00 ∷ []) buffer).reply
      ≡ onto (s₁ ∷ s₂ ∷ 0x07 ∷ 0x00 ∷ 0xFF ∷ thread ∷ 0x00 ∷ 0x02 ∷ 0x00 ∷ 0x00 ∷ []) buffer)
      × ((handled (e ∷ es) (0x07 ∷ 0x00 ∷ s₁ ∷ s₂ ∷ 0xC3 ∷ thread ∷ 0x00 ∷ 0x00 ∷ []) buffer).events ≡ [])
