-- The history tells the open marks: an answered Open or Close Handler moves one exactly when its code is '0000', an accepted replaced call closes.
use Prim.Native.Nat.{ℕ}
use Rattle.std.specs.Prelude.{Option}
use mathlib.Core.Path.{◌≡◌, refl, sym, ap, ◌∙◌}
use mathlib.Core.Logic.{◌⊎◌, inl, inr}
use mathlib.Core.List.{List, [], ◌∷◌}
use native.Mathlib.Omega.{arith}
use Rattle.lists.specs.Lists.{In}
use Rattle.lists.proofs.Members.{only, in_kept}
use Rattle.table.specs.declared.Row.{Row}
use Rattle.place.specs.declared.Place.{Place}
use Rattle.places.specs.Places.{asks_exactly, owing}
use Rattle.rules.specs.View.{View}
use Rattle.rules.specs.declared.Outcome.{Outcome}
use Rattle.rules.specs.declared.Outcome.TheVariants.{Passed, Answered, Swallowed, Event, Turned, Given, Reset, Refused}
use Rattle.rules.specs.Apply.{answered_rows, rows_after}
use Rattle.rules.specs.Conduct.{Conduct}
use Rattle.rules.specs.Judge.{judge}
use Rattle.rules.proofs.After.{exact-once}
use Rattle.rules.proofs.Allowed.{Allowed, Leaf, allowed}
use Rattle.rules.proofs.Opening.{answered-moves}
use Rattle.history.specs.History.{Step, Entry, view_after, history, Sent, sent, standing, meets, ended}
use Rattle.history.specs.Opening.{marked_by, answered_by, moved_by, rows_in}
use Rattle.history.proofs.Ends.{met, one_ended, stood-in}
use Rattle.history.proofs.Law.{conduct-after}
use Rattle.history.proofs.Told.{stood, told, stands-as}

-- a command stands with the type and the asked address with which it was passed
same-question : (c y : Place) → (y ≡ c) ⊎ (y ≡ owing c) → (y.kind ≡ c.kind) × (y.asked ≡ c.asked)
same-question c y (inl e) = rw e (refl, refl)
same-question c y (inr e) = rw e (refl, refl)

same-mark : (p q : Place) (code : ℕ) (rows : List Row) → p.kind ≡ q.kind → p.asked ≡ q.asked → marked_by p code rows ≡ marked_by q code rows
same-mark p q code rows k a = rw (k, a)

module _ (h : List Entry) (v : View) (c : Conduct v) (k : stood h (sent h) ≡ v.places) where
  -- the command that an answer ends is the wait that it finds
  the-wait : (asker asked t code : ℕ) (l : Leaf v asker asked t) (d : Sent) → In d (ended h (Answered asked asker t code))
      → (l.it.kind ≡ d.command.kind) × (l.it.asked ≡ d.command.asked)
  the-wait asker asked t code l d i =
      let p = in_kept (λ (x : Sent). meets (asks_exactly asked t) (standing h x)) d (sent h) i in
      let m = met (asks_exactly asked t) (standing h d) p.1 in
      let y = m.0 in
      let e : y ≡ l.it =
      only (asks_exactly asked t) v.places l.it y (omega (arith, exact-once v c asked t)) l.found (rw k at (stood-in h (sent h) d y p.0 m.1)) m.2 in
      let q = same-question d.command y (stands-as h d y m.1) in
      (ap (λ (x : Place). x.kind) (sym e) ∙ q.0, ap (λ (x : Place). x.asked) (sym e) ∙ q.1)

  moved : (o : Outcome) → Allowed v o → rows_after o v ≡ moved_by h o v.rows
  moved (Passed asker asked kind t) a = refl
  moved (Answered asked asker t code) a =
      let e = one_ended h v c k (Answered asked asker t code) a refl in
      let q = the-wait asker asked t code a e.0 (rw e.1 (inl refl)) in
      ap (λ (w : Option Place). answered_rows w code v.rows) a.found
      ∙ answered-moves a.it code v.rows
      ∙ same-mark a.it e.0.command code v.rows q.0 q.1
      ∙ ap (λ (cs : List Sent). answered_by cs code v.rows) (sym e.1)
  moved (Swallowed asked t) a = refl
  moved Event a = refl
  moved (Turned asker asked t code) a = refl
  moved (Given asker asked t) a = refl
  moved (Reset a) i = refl
  moved (Refused r) a = refl

pub rows_told : (rows : List Row) (steps : List Step) → (view_after rows steps).rows ≡ rows_in rows (history rows steps)
rows_told rows [] = refl
rows_told rows (s ∷ steps) =
    let v = view_after rows steps in
    let h = history rows steps in
    let o = judge v s.room s.call in
    moved h v (conduct-after rows steps) (told rows steps) o (allowed v s.room s.call) ∙ ap (moved_by h o) (rows_told rows steps)
