-- What is left from a place on, by the answer of `next_at`: the lines, the stores, and where the next field starts. Assumes nothing.
use Prim.Native.Nat.{◌+◌, suc, ℕ, ◌≤◌}
use mathlib.Core.Bool.{false, true}
use mathlib.Core.List.{List, [], ◌∷◌}
use mathlib.Core.Path.{ap, refl, sym, ◌∙◌, ◌≡◌}
use lib.ListN.{length}
use Rattle.book.specs.declared.Book.{Book}
use Rattle.fields.proofs.Left.{StepInside, step-inside, steps-at}
use Rattle.fields.specs.Places.{between, step_at, steps_at, steps_by}
use Rattle.fields.specs.declared.NextStep.{NextStep}
use Rattle.fields.specs.declared.NextStep.TheVariants.{Broken as BrokenStep, End as Ended, GiveUp, Message as MessageStep, Replaced}
use Rattle.ledger.specs.Ledger.{Store, after, heard, line_of, lines_of, next_of, store}
use Rattle.ledger.specs.declared.Next.{Next}
use Rattle.ledger.specs.declared.Next.TheVariants.{Broken, End, Message}
use Rattle.lines.specs.Lines.{broken_line}
use Rattle.store.specs.Store.{Answered}

-- from a place on, where a field of this number stands
abbrev pub lines_at : List ℕ → Book → List ℕ → (at number : ℕ) → List (List ℕ)
lines_at s b area at n = lines_of n b area (steps_at s n at)

abbrev pub store_at : ℕ → List ℕ → Book → List ℕ → (at number : ℕ) → Store
store_at k s b area at n = after k b area (steps_at s n at)

module _ (s : List ℕ) (b : Book) (area : List ℕ) where
  -- ---- the same by an answer

  abbrev pub lines_by : ℕ → Next → List (List ℕ)
  lines_by n End = []
  lines_by n Broken = broken_line n ∷ []
  lines_by n (Message a e) =
      let w : Answered = heard b area (between s a e) in
      line_of n w ∷ lines_at s w.book w.area e (n + 1)

  abbrev pub store_by : ℕ → ℕ → Next → Store
  store_by k n End = store b area
  store_by k n Broken = store b area
  store_by k n (Message a e) =
      let w : Answered = heard b area (between s a e) in
      store_at k s w.book w.area e (n + 1)

  lines-by : (n : ℕ) (x : NextStep) → lines_of n b area (steps_by s n x) ≡ lines_by n (next_of x)
  lines-by n (MessageStep a e) = refl
  lines-by n (GiveUp t x e) = refl
  lines-by n (Replaced x e) = refl
  lines-by n BrokenStep = refl
  lines-by n Ended = refl

  store_by_lem : (k n : ℕ) (x : NextStep) → after (suc k) b area (steps_by s n x) ≡ store_by k n (next_of x)
  store_by_lem k n (MessageStep a e) = refl
  store_by_lem k n (GiveUp t x e) = refl
  store_by_lem k n (Replaced x e) = refl
  store_by_lem k n BrokenStep = refl
  store_by_lem k n Ended = refl

  module _ (at n : ℕ) (x : Next) (e : x ≡ next_of (step_at s at)) where
    pub lines_at_lem : lines_at s b area at n ≡ lines_by n x
    lines_at_lem = ap (lines_of n b area) (steps-at s n at) ∙ (lines-by n (step_at s at) ∙ ap (lines_by n) (sym e))

    pub store_at_lem : (k : ℕ) → store_at (suc k) s b area at n ≡ store_by k n x
    store_at_lem k = ap (after (suc k) b area) (steps-at s n at) ∙ (store_by_lem k n (step_at s at) ∙ ap (store_by k n) (sym e))

-- ---- where the next field starts

abbrev pub NextInside : List ℕ → ℕ → Next → Type 0
NextInside s at End = Unit {0}
NextInside s at Broken = Unit {0}
NextInside s at (Message start next) = (at + 3 ≤ start) × (start ≤ next) × (next ≤ length s)

inside-by : (s : List ℕ) (at : ℕ) (x : NextStep) → StepInside s at x → NextInside s at (next_of x)
inside-by s at (MessageStep a e) h = h
inside-by s at (GiveUp t x e) h = tt
inside-by s at (Replaced x e) h = tt
inside-by s at BrokenStep h = tt
inside-by s at Ended h = tt

pub next-inside : (s : List ℕ) (at : ℕ) (x : Next) → x ≡ next_of (step_at s at) → NextInside s at x
next-inside s at x e = rw e (inside-by s at (step_at s at) (step-inside s at))
