-- How far the contract reaches: two calls on the same inputs that meet it hand back the same answer, the same next queue and the same buffer.
use Prim.Native.Nat.{ℕ}
use Rattle.tapa.specs.declared.Refusal.{Refusal}
use Rattle.std.specs.Prelude.{Option, Result}
use mathlib.Core.Path.{◌≡◌, sym, ◌∙◌}
use mathlib.Core.List.{List}
use Rattle.queue.specs.declared.Queue.{Queue}
use Rattle.queue.proofs.Once.{one-queue}
use Rattle.events.specs.declared.Handled.{Handled}
use Rattle.events.specs.Ring.{HandlingAt}

same-handled : (a b : Result (Option ℕ) Refusal) (p q : Queue) → a ≡ b → p ≡ q → ◌≡◌ {A = Handled} (record { answer = a; next = p }) (record { answer = b; next = q })
same-handled a b p q e f = cc

pub one-handle : (q : Queue) (message before a b : List ℕ) (h k : Handled) → HandlingAt q message before a h → HandlingAt q message before b k → (h ≡ k) × (a ≡ b)
one-handle q message before a b h k x y = (
  same-handled h.answer k.answer h.next k.next (x.handling.answer ∙ sym y.handling.answer)
      (one-queue h.next k.next _ _ (record { holds = x.handling.next; begins = x.begins }) (record { holds = y.handling.next; begins = y.begins })),
  x.handling.reply ∙ sym y.handling.reply,
)
