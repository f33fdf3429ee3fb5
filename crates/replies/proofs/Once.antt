-- How far the contract of `with_part` and `with_code` reaches: two calls on the same inputs that meet it answer the same and leave the same buffer.
use Prim.Native.Nat.{ℕ}
use Rattle.tapa.specs.declared.Refusal.{Refusal}
use Rattle.std.specs.Prelude.{Option, Result}
use mathlib.Core.Path.{◌≡◌, sym, ◌∙◌}
use mathlib.Core.List.{List}
use Rattle.message.specs.declared.Head.{Head}
use Rattle.replies.specs.Replies.{Replies}

pub one-reply : (h : Head) (part before after after' : List ℕ) (a a' : Result (Option ℕ) Refusal) → Replies h part before after a → Replies h part before after' a' → (a ≡ a') × (after ≡ after')
one-reply h part before after after' a a' x y = (x.answer ∙ sym y.answer, x.reply ∙ sym y.reply)
