-- A turn takes one item away from those that are left. Assumes nothing.
use Prim.Native.Nat.{ℕ, ◌<◌}
use native.Mathlib.Omega.{arith}
use mathlib.Core.Path.{◌≡◌, refl, sym, ap, ◌∙◌}
use mathlib.Core.Bool.{true, false}
use mathlib.Core.List.{List, [], ◌∷◌}
use lib.Dec.{ltb}
use lib.ListN.{length}
use borrow.Table.Steps.{cases}
use Rattle.rules.specs.View.{View}
use Rattle.router.specs.Router.{view_of}
use Rattle.fields.specs.declared.NextStep.{NextStep}
use Rattle.fields.specs.declared.NextStep.TheVariants as next
use Rattle.fields.specs.Places.{step_at, steps_by}
use Rattle.fields.proofs.Left.{steps-at}
use Rattle.run.specs.declared.Stage.{Stage}
use Rattle.run.specs.declared.Stage.TheVariants.{Steps as steps, Settled}
use Rattle.run.specs.declared.Item.{Item}
use Rattle.run.specs.declared.Item.TheVariants.{Came, Over, Broken, Refused, TooLong, Nothing}
use Rattle.run.specs.declared.Ahead.{Ahead}
use Rattle.run.specs.declared.Ahead.TheVariants as ahead
use Rattle.run.specs.declared.Cursor.{Cursor}
use Rattle.run.specs.declared.Session.{Session}
use Rattle.run.specs.declared.Turn.{Turn}
use Rattle.run.specs.State.{items_from, followed, hands_out, left_by, items_left, sight_of, items_in, Shown, shown, ahead_in, ahead_by, ahead_of, next_by, next_of, turned, Turns}

-- an item, and what is left after it
abbrev taken : List ℕ → Shown → List Item
taken s x = followed x.item (items_left s x.view x.cursor)

next-in : (s : List ℕ) (v : View) (c : Cursor) → ltb 65536 (length s) ≡ false → (i : NextStep)
    → items_from v c.tally c.step (steps_by s c.number i) ≡ taken s (next_by s v c (ahead_in c.number i))
unfolding items_left
next-in s v c e (next.Message a b) = rw e
next-in s v c e (next.GiveUp t a b) = rw e
next-in s v c e (next.Replaced a b) = rw e
next-in s v c e next.Broken = refl
next-in s v c e next.End = refl

left_by_lem : (s : List ℕ) (v : View) (c : Cursor) (g : Stage) → left_by s v c g ≡ taken s (next_by s v c (ahead_by s c g))
unfolding items_left
left_by_lem s v c steps =
    cases (ltb 65536 (length s)) (λ e. rw e)
    (λ e. rw (e, steps-at s c.number c.at) (next-in s v c e (step_at s c.at)))
left_by_lem s v c (Settled i) = refl

left-next : (s : List ℕ) (v : View) (c : Cursor) → items_left s v c ≡ taken s (next_of s v c)
unfolding items_left ahead_of
left-next s v c = left_by_lem s v c c.stage

follows : (i : Item) (l : List Item) → hands_out i ≡ true → followed i l ≡ i ∷ l
follows (Came k o) l h = refl
follows (Over t) l h = refl
follows (Broken n) l h = refl
follows (Refused r) l h = refl
follows TooLong l h = refl
follows Nothing l h = let z : ◌≡◌ {A = ℕ} 0 1 = cc in absurd (omega arith)

ends : (i : Item) (l : List Item) → hands_out i ≡ false → followed i l ≡ []
ends (Came k o) l h = let z : ◌≡◌ {A = ℕ} 0 1 = cc in absurd (omega arith)
ends (Over t) l h = let z : ◌≡◌ {A = ℕ} 0 1 = cc in absurd (omega arith)
ends (Broken n) l h = let z : ◌≡◌ {A = ℕ} 0 1 = cc in absurd (omega arith)
ends (Refused r) l h = let z : ◌≡◌ {A = ℕ} 0 1 = cc in absurd (omega arith)
ends TooLong l h = let z : ◌≡◌ {A = ℕ} 0 1 = cc in absurd (omega arith)
ends Nothing l h = refl

nothing-by : (s : List ℕ) (v : View) (c : Cursor) (a : Ahead) → hands_out (next_by s v c a).item ≡ false
    → items_left s (next_by s v c a).view (next_by s v c a).cursor ≡ []
unfolding items_left
nothing-by s v c (ahead.Message x y) h = let z : ◌≡◌ {A = ℕ} 0 1 = cc in absurd (omega arith)
nothing-by s v c (ahead.GiveUp t x y) h = let z : ◌≡◌ {A = ℕ} 0 1 = cc in absurd (omega arith)
nothing-by s v c (ahead.Replaced x y) h = let z : ◌≡◌ {A = ℕ} 0 1 = cc in absurd (omega arith)
nothing-by s v c ahead.Over h = refl
nothing-by s v c (ahead.Last i) h = refl

-- what a turn shows: the first item that is left, or that nothing is left
module _ (s : List ℕ) (v : View) (c : Cursor) (x : Shown) (e : x ≡ next_of s v c) where
  some_next : hands_out x.item ≡ true → items_left s v c ≡ x.item ∷ items_left s x.view x.cursor
  some_next h = left-next s v c ∙ (sym (ap (taken s) e) ∙ follows x.item (items_left s x.view x.cursor) h)

  none-next : hands_out x.item ≡ false → (items_left s v c ≡ []) × (items_left s x.view x.cursor ≡ [])
  none-next h = (
    left-next s v c ∙ (sym (ap (taken s) e) ∙ ends x.item (items_left s x.view x.cursor) h),
    ap (λ (y : Shown). items_left s y.view y.cursor) e ∙ nothing-by s v c (ahead_of s c) (ap (λ (y : Shown). hands_out y.item) (sym e) ∙ h),
  )

-- ---- a turn of a session, from its contract

module _ (s : List ℕ) (w : Session) (t : Turn) (g : Turns s w t) where
  pub first-left : t.more ≡ true → items_in s w ≡ t.item ∷ items_in s t.next
  first-left y = some_next s (view_of w.router) w.cursor (shown t) g.same (sym g.more ∙ y)

  pub fewer-left : t.more ≡ true → length (items_in s t.next) < length (items_in s w)
  fewer-left y = omega (arith, ap length (first-left y))

  pub none_left : t.more ≡ false → (items_in s w ≡ []) × (items_in s t.next ≡ [])
  none_left y = none-next s (view_of w.router) w.cursor (shown t) g.same (sym g.more ∙ y)

  pub its-sight : sight_of t.next ≡ turned s (sight_of w)
  its-sight = λ i. record { view = (g.same i).view; cursor = (g.same i).cursor }
