-- Demand 3 holds of every history, and of every run of code that meets the contracts.
use Prim.Native.Nat.{ℕ}
use mathlib.Core.Path.{◌≡◌, refl, sym, ap, ◌∙◌}
use mathlib.Core.Bool.{true}
use mathlib.Core.List.{List, [], ◌∷◌}
use native.Mathlib.Omega.{arith}
use lib.ListN.{length}
use Rattle.lists.specs.Lists.{In}
use Rattle.table.specs.declared.Row.{Row}
use Rattle.table.specs.Table.{Proper}
use Rattle.rules.specs.View.{View}
use Rattle.rules.specs.Judge.{judge}
use Rattle.rules.specs.Says.{Says}
use Rattle.rules.proofs.Says.{says}
use Rattle.rules.proofs.Words.{worded}
use Rattle.history.specs.History.{Step, Entry, entry, view_after, history, Each, is_passed, Sent, starts, Went}
use Rattle.history.specs.Marks.{Honest}
use Rattle.history.specs.Never.{EventOr10, IsCommand, SentAs}
use Rattle.history.specs.Opening.{rows_in}
use Rattle.history.specs.Promise.{Ran, begun, going, EndsOne, ConcernsIt, EachBears, Promise, Bounded}
use Rattle.history.proofs.Went.{went}
use Rattle.history.proofs.Law.{conduct-after}
use Rattle.history.proofs.Bound.{bounded-after}
use Rattle.history.proofs.Told.{waits-told, owings-told, how-many-open}
use Rattle.history.proofs.Ends.{ends-exactly-one, ends-its-own}
use Rattle.history.proofs.Opening.{rows_told}
use Rattle.history.proofs.Fates.{fate}
use Rattle.history.proofs.Totals.{balanced}
use Rattle.history.proofs.Marks.{marks}
use Rattle.history.proofs.Never.{event-or-10, passed_is, sent-as, all-answerable}

-- what holds of the next entry, after any steps, holds of each
each : (P : List Entry → Entry → Type 0) (rows : List Row)
    → ((steps : List Step) (s : Step) → P (history rows steps) (entry s (judge (view_after rows steps) s.room s.call)))
    → (steps : List Step) → Each P (history rows steps)
each P rows f [] = tt
each P rows f (s ∷ steps) = (f steps s, each P rows f steps)

each-bears : (mark : ℕ → ℕ) (rows : List Row) (steps : List Step) → Honest mark (history rows steps) → EachBears mark (history rows steps)
each-bears mark rows [] m = tt
each-bears mark rows (s ∷ steps) m = (marks mark rows steps s m, each-bears mark rows steps m.1)

-- ---- the definitions' own runs

pub promise : (rows : List Row) (steps : List Step) → Promise (history rows steps) (view_after rows steps)
promise rows steps = record {
  law = worded (view_after rows steps) (conduct-after rows steps);
  opens = waits-told rows steps;
  owes = owings-told rows steps;
  fates = fate (history rows steps);
  ends-one = each EndsOne rows (ends-exactly-one rows) steps;
  to-asker = each ConcernsIt rows (ends-its-own rows) steps;
  went = each (λ h e. Went e) rows (λ before s. went s _ (says (view_after rows before) s.room s.call)) steps;
  bytes = each (λ h e. Says e.step.call e.outcome) rows (λ before s. says (view_after rows before) s.room s.call) steps;
  event-or-10 = each (λ h e. EventOr10 e) rows (λ before s. event-or-10 (view_after rows before) s) steps;
  sent-as = each (λ h e. (c : Sent) → In c (starts (length h) e.outcome) → SentAs e (length h) c) rows (λ before s. sent-as (view_after rows before) s _) steps;
  passed_is = each (λ h e. is_passed e.outcome ≡ true → IsCommand e) rows (λ before s. passed_is (view_after rows before) s) steps;
  answerable = all-answerable rows steps;
  balance = omega (arith, balanced rows steps, how-many-open rows steps);
}

-- ---- a run that the contracts tell

-- it is the definitions' run of the same calls
pub record Same (rows : List Row) (h : List Entry) (v : View) : Type 0 where
  pub steps : List Step
  pub entries : history rows steps ≡ h
  pub view : view_after rows steps ≡ v

pub same : (rows : List Row) {h : List Entry} {v : View} → Ran rows h v → Same rows h v
same rows (begun v e) = record { steps = []; entries = refl; view = sym e }
same rows (going g v r s o b w e k f) =
    let i = same rows r in
    let q : judge (view_after rows i.steps) s.room s.call ≡ o = ap (λ (x : View). judge x s.room s.call) i.view ∙ sym e in
    record { steps = s ∷ i.steps; entries = rw (q, k, i.entries); view = rw (q, i.view) (sym f) }

pub promise-ran : (rows : List Row) {h : List Entry} {v : View} → Ran rows h v → Promise h v
promise-ran rows r = let i = same rows r in rw (i.entries, i.view) at (promise rows i.steps)

pub bounded-ran : (rows : List Row) {h : List Entry} {v : View} → Proper rows → Ran rows h v → Bounded rows h v
bounded-ran rows p r = let i = same rows r in rw (i.entries, i.view) at (bounded-after rows i.steps p)

pub marks-ran : (mark : ℕ → ℕ) (rows : List Row) {h : List Entry} {v : View} → Ran rows h v → Honest mark h → EachBears mark h
marks-ran mark rows r m = let i = same rows r in rw i.entries at (each-bears mark rows i.steps (rw i.entries m))

pub rows-ran : (rows : List Row) {h : List Entry} {v : View} → Ran rows h v → v.rows ≡ rows_in rows h
rows-ran rows r = let i = same rows r in rw (i.entries, i.view) at (rows_told rows i.steps)
