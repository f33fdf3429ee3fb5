-- What is left from a place on, by the answers of `row_at` and `step_at`; and where the next field starts. Assumes nothing.
use Prim.Native.Nat.{ℕ, ◌+◌, ◌-◌, ◌≤◌}
use Rattle.std.specs.Prelude.{Option, Some, None}
use mathlib.Core.Path.{◌≡◌, refl, ap, ◌∙◌}
use mathlib.Core.Bool.{Bool, ◌&&◌}
use mathlib.Core.List.{List}
use native.Mathlib.Omega.{arith}
use lib.Dec.{eqb}
use lib.ListN.{length, take, drop}
use borrow.Table.Steps.{cases}
use borrow.Author.Tests.{eqb-true}
use Rattle.fields.specs.Fields.{file_of, row_of, step_of, Step, message, give-up, replaced, step_then, steps_of, row_then, script_of}
use Rattle.fields.specs.Places.{read_at, seen, row_placed, row_from, row_at, step_placed, step_from, step_at, steps_at, script_at, script_by, steps_by}
use Rattle.fields.proofs.Unfold.{unfolds, inside}
use Rattle.fields.proofs.Contents.{long}
use Rattle.fields.specs.declared.Read.{Read}
use Rattle.fields.specs.declared.Read.TheVariants.{End, Cut, Field}
use Rattle.fields.specs.declared.NextRow.{NextRow}
use Rattle.fields.specs.declared.NextRow.TheVariants.{Row, Torn, Over}
use Rattle.fields.specs.declared.NextStep.{NextStep}
use Rattle.fields.specs.declared.NextStep.TheVariants.{Message, GiveUp, Replaced, Broken, End as Ended}

-- ---- rows

row_by : (s : List ℕ) (n at next : ℕ) (o : Option (ℕ × Bool)) → row_then n o (script_at s (n + 1) next) ≡ script_by s n at (row_placed next o)
row_by s n at next None = refl
row_by s n at next (Some r) = refl

script-in : (s : List ℕ) (n at : ℕ) (r : Read) → file_of (drop at s) ≡ seen s r → script_of n (seen s r) ≡ script_by s n at (row_from s r)
unfolding steps_at script_at
script-in s n at End u = rw u
script-in s n at (Cut t) u = cases (eqb t 1) (λ e. rw e) (λ e. rw (e, u))
script-in s n at (Field t a k) u =
    cases (eqb t 1)
    (λ e. rw e (row_by s n at (a + k) (row_of (take k (drop a s)))))
    (λ e. rw (e, u))

-- the script from a place on, by the row there
pub script-at : (s : List ℕ) (n at : ℕ) → script_at s n at ≡ script_by s n at (row_at s at)
unfolding script_at
script-at s n at = ap (script_of n) (unfolds s at) ∙ script-in s n at (read_at s at) (unfolds s at)

-- ---- steps

-- a message is all of its field's contents
message-whole : (t : ℕ) (c m : List ℕ) → step_of t c ≡ Some (message m) → m ≡ c
unfolding step_of
message-whole t c m =
    cases (eqb t 2) (λ e. rw e (λ p. cc))
    (λ e. cases (eqb t 3 && eqb (length c) 3) (λ f. rw (e, f) (λ p. let z : ◌≡◌ {A = ℕ} 0 1 = cc in absurd (omega arith)))
    (λ f. cases (eqb t 4 && eqb (length c) 2) (λ g. rw (e, f, g) (λ p. let z : ◌≡◌ {A = ℕ} 0 1 = cc in absurd (omega arith)))
    (λ g. rw (e, f, g) (λ p. let z : ◌≡◌ {A = ℕ} 0 1 = cc in absurd (omega arith)))))

step_by : (s : List ℕ) (n t a k : ℕ) (o : Option Step)
    → step_of t (take k (drop a s)) ≡ o
    → step_then n o (steps_at s (n + 1) (a + k)) ≡ steps_by s n (step_placed a (a + k) o)
step_by s n t a k None e = refl
step_by s n t a k (Some (message m)) e =
    let l : a + k - a ≡ k = omega arith in
    rw (message-whole t (take k (drop a s)) m e, l)
step_by s n t a k (Some (give-up x y)) e = refl
step_by s n t a k (Some (replaced x)) e = refl

steps-in : (s : List ℕ) (n : ℕ) (r : Read) → steps_of n (seen s r) ≡ steps_by s n (step_from s r)
unfolding steps_at
steps-in s n End = refl
steps-in s n (Cut t) = refl
steps-in s n (Field t a k) = step_by s n t a k (step_of t (take k (drop a s))) refl

-- the steps from a place on, by the step there
pub steps-at : (s : List ℕ) (n at : ℕ) → steps_at s n at ≡ steps_by s n (step_at s at)
unfolding steps_at
steps-at s n at = ap (steps_of n) (unfolds s at) ∙ steps-in s n (read_at s at)

-- ---- where the next field starts

-- a whole row has 6 bytes
abbrev pub RowInside : List ℕ → ℕ → NextRow → Type 0
RowInside s at (Row x o next) = (at + 6 ≡ next) × (next ≤ length s)
RowInside s at Torn = Unit {0}
RowInside s at Over = Unit {0}

row-three : (c : List ℕ) (r : ℕ × Bool) → row_of c ≡ Some r → length c ≡ 3
unfolding row_of
row-three c r =
    cases (eqb (length c) 3) (λ e p. eqb-true (length c) 3 e)
    (λ e. rw e (λ p. let z : ◌≡◌ {A = ℕ} 0 1 = cc in absurd (omega arith)))

placed-row-inside : (s : List ℕ) (at a n : ℕ) → at + 3 ≡ a → a + n ≤ length s
    → (o : Option (ℕ × Bool)) → row_of (take n (drop a s)) ≡ o
    → RowInside s at (row_placed (a + n) o)
placed-row-inside s at a n h k None e = tt
placed-row-inside s at a n h k (Some r) e = (omega (arith, row-three (take n (drop a s)) r e, long s a n k), k)

row-inside-in : (s : List ℕ) (at : ℕ) (r : Read) → read_at s at ≡ r → RowInside s at (row_from s r)
row-inside-in s at End e = tt
row-inside-in s at (Cut t) e = cases (eqb t 1) (λ b. rw b tt) (λ b. rw b tt)
row-inside-in s at (Field t a n) e =
    let w = inside s at t a n e in
    cases (eqb t 1)
    (λ b. rw b (placed-row-inside s at a n w.0 w.1 (row_of (take n (drop a s))) refl))
    (λ b. rw b tt)

pub row_inside : (s : List ℕ) (at : ℕ) → RowInside s at (row_at s at)
row_inside s at = row-inside-in s at (read_at s at) refl

abbrev pub StepInside : List ℕ → ℕ → NextStep → Type 0
StepInside s at (Message start next) = (at + 3 ≤ start) × (start ≤ next) × (next ≤ length s)
StepInside s at (GiveUp t x next) = (at + 3 ≤ next) × (next ≤ length s)
StepInside s at (Replaced x next) = (at + 3 ≤ next) × (next ≤ length s)
StepInside s at Broken = Unit {0}
StepInside s at Ended = Unit {0}

placed-step-inside : (s : List ℕ) (at a next : ℕ) (o : Option Step) → at + 3 ≤ a → a ≤ next → next ≤ length s → StepInside s at (step_placed a next o)
placed-step-inside s at a next None h k l = tt
placed-step-inside s at a next (Some (message m)) h k l = (h, k, l)
placed-step-inside s at a next (Some (give-up t x)) h k l = (omega arith, l)
placed-step-inside s at a next (Some (replaced x)) h k l = (omega arith, l)

step-inside-in : (s : List ℕ) (at : ℕ) (r : Read) → read_at s at ≡ r → StepInside s at (step_from s r)
step-inside-in s at End e = tt
step-inside-in s at (Cut t) e = tt
step-inside-in s at (Field t a n) e =
    let w = inside s at t a n e in
    placed-step-inside s at a (a + n) (step_of t (take n (drop a s))) (omega arith) (omega arith) w.1

pub step-inside : (s : List ℕ) (at : ℕ) → StepInside s at (step_at s at)
step-inside s at = step-inside-in s at (read_at s at) refl
