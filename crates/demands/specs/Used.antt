-- Demand 3, of the code: a run as the contracts of the router's methods tell it. It begins with a fresh router, as every public start hands one
-- back, and goes on with calls, each on the state that the last one handed back. The history lists the calls with their bytes and outcomes, and
-- what went out.
use Rattle.std.specs.Prelude.{ℕ, ◌≡◌, List, [], ◌∷◌, length}
use Rattle.rules.specs.declared.Outcome.{Outcome}
use Rattle.rules.specs.Judge.{Call, message, give_up, replaced, judge_message, judge_give_up, judge_replaced}
use Rattle.rules.specs.Apply.{sent}
use Rattle.router.specs.declared.Router.{Router}
use Rattle.router.specs.declared.Routed.{Routed}
use Rattle.router.specs.Router.{view_of, Lawful, Routing, Replacing}
use Rattle.history.specs.History.{Entry}

-- 'A fresh router has no waits and owes nothing.'
pub record Fresh (r : Router) : Type 0 where
  pub law : Lawful r
  pub no-places : (view_of r).places ≡ []

-- an entry: the call, with the size of the reply buffer that was lent, what came of it, and the bytes to send
abbrev pub made : (room : ℕ) → Call → Outcome → List ℕ → Entry
made room call o out = record { step = record { room = room; call = call }; outcome = o; out = out }

-- the bytes to send are those that `part_to_send` hands out of the message and of the reply buffer after the call
pub data Used (first : Router) : List Entry → Router → Type 0 where
  started : Used first [] first
  routed : (h : List Entry) (r : Router) → Used first h r
      → (bytes before after : List ℕ) (out : Routed) → Routing (judge_message (view_of r) (length before) bytes) r before after out
      → Used first (made (length before) (message bytes) out.outcome (sent out.outcome bytes after) ∷ h) out.next
  gave-up : (h : List Entry) (r : Router) → Used first h r
      → (thread address : ℕ) (before after : List ℕ) (out : Routed) → Routing (judge_give_up (view_of r) (length before) thread address) r before after out
      → Used first (made (length before) (give_up thread address) out.outcome (sent out.outcome [] after) ∷ h) out.next
  was-replaced : (h : List Entry) (r : Router) → Used first h r
      → (address : ℕ) (out : Routed) → Replacing (judge_replaced (view_of r) address) r out
      → Used first (made 0 (replaced address) out.outcome [] ∷ h) out.next
