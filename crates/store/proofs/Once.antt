-- How far the contract reaches: two calls on the same inputs that meet it hand back the same answer, the same next book, the same area and the same buffer.
use Prim.Native.Nat.{ℕ}
use Rattle.tapa.specs.declared.Refusal.{Refusal}
use Rattle.std.specs.Prelude.{Result, Option}
use mathlib.Core.List.{List}
use mathlib.Core.Path.{sym, ◌∙◌, ◌≡◌}
use Rattle.book.specs.declared.Book.{Book}
use Rattle.store.specs.Store.{Handling, Answered}
use Rattle.store.specs.declared.Handled.{Handled}

same-handled : (a b : Result (Option ℕ) Refusal) (p q : Book) → a ≡ b → p ≡ q → ◌≡◌ {A = Handled} (record { answer = a; next = p }) (record { answer = b; next = q })
same-handled a b p q e f = cc

pub one-handle : (w : Answered) (area_a area_b reply_a reply_b : List ℕ) (h k : Handled) → Handling w area_a reply_a h → Handling w area_b reply_b k → (h ≡ k) × (area_a ≡ area_b) × (reply_a ≡ reply_b)
one-handle w area_a area_b reply_a reply_b h k x y = (
  same-handled h.answer k.answer h.next k.next (x.answer ∙ sym y.answer) (x.next ∙ sym y.next),
  x.area' ∙ sym y.area',
  x.reply' ∙ sym y.reply',
)
