-- Demand 2 holds of the event queue: every run of it is that of a plain list of events.
use Prim.Native.Nat.{ℕ, ◌+◌, ◌*◌, ◌/◌, ◌%◌, ◌≤◌}
use mathlib.Core.Path.{◌≡◌, ap, ◌∙◌}
use mathlib.Core.List.{List}
use native.Mathlib.Omega.{arith}
use lib.Dec.{ltb}
use lib.ListN.{length}
use borrow.Author.Tests.{le-ltb}
use Rattle.lists.proofs.Tests.{split}
use Rattle.tapa.specs.Address.{handler_of}
use Rattle.message.specs.Message.{message_of, read_of, part_of}
use Rattle.queue.specs.declared.Queue.{Queue}
use Rattle.queue.specs.Places.{events_of}
use Rattle.queue.proofs.Once.{at_most}
use Rattle.events.specs.Events.{apply, command_of, elsewhere, handled, judge, Answered}
use Rattle.demands.specs.Queued.{Queued, begun, went_on, events_after, AsEvents, Flushing}
use Rattle.demands.specs.Stored.{Exchange}

pub queued-as-events : {h : List Exchange} {q : Queue} → Queued h q → AsEvents h q
queued-as-events (begun q x) = record { law = x.holds.law; few = at_most q x.holds.law; events = x.holds.events; told = tt }
queued-as-events (went_on h q w message before after out c) =
    let i = queued-as-events w in
    let e : handled (events_of q) message before ≡ handled (events_after h) message before = ap (λ es. handled es message before) i.events in
    record {
      law = c.handling.next.law;
      few = at_most out.next c.handling.next.law;
      events = c.handling.next.events ∙ ap (λ (x : Answered). x.events) e;
      told = ((c.handling.answer ∙ ap (λ (x : Answered). x.answer) e, c.handling.reply ∙ ap (λ (x : Answered). x.reply) e), i.told);
    }

-- ---- Flush, in bytes

module _ (s₁ s₂ : ℕ) (small : s₂ ≤ 255) where
  high : (s₁ * 256 + s₂) / 256 ≡ s₁
  high = omega arith

  low : (s₁ * 256 + s₂) % 256 ≡ s₂
  low = omega arith

pub flushing : Flushing
unfolding handled read_of part_of message_of handler_of elsewhere command_of judge apply
flushing = record {
  empty = λ s₁ s₂ thread buffer small room. rw (le-ltb (length buffer) 13 room, high s₁ s₂ small, low s₁ s₂ small);
  stays-empty = λ thread buffer. split (ltb (length buffer) 13) (λ p. rw p) (λ p. rw p);
  full = λ e es s₁ s₂ thread buffer small room. (rw (le-ltb (length buffer) 13 room, high s₁ s₂ small, low s₁ s₂ small), rw (le-ltb (length buffer) 13 room));
}
