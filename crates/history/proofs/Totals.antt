-- The totals balance: 'accepted, answered, given up, waiting'.
use Prim.Native.Nat.{ℕ, suc, ◌+◌}
use mathlib.Core.Path.{◌≡◌, refl, ◌∙◌}
use mathlib.Core.List.{List, [], ◌∷◌}
use native.Mathlib.Omega.{arith}
use lib.ListN.{length}
use Rattle.lists.specs.Lists.{one, without}
use Rattle.lists.proofs.Tests.{split}
use Rattle.lists.proofs.First.{length-first}
use Rattle.table.specs.declared.Row.{Row}
use Rattle.places.specs.Places.{waits, asks_exactly}
use Rattle.rules.specs.View.{View}
use Rattle.rules.specs.declared.Outcome.{Outcome}
use Rattle.rules.specs.declared.Outcome.TheVariants.{Passed, Answered, Swallowed, Event, Turned, Given, Reset, Refused}
use Rattle.rules.specs.Judge.{judge}
use Rattle.rules.specs.Apply.{places_after}
use Rattle.places.proofs.Two.{waits-stay}
use Rattle.rules.proofs.Waits.{waits-answered, waits-given, waits-swallowed, found-waits}
use Rattle.rules.proofs.Allowed.{Allowed, Leaf, allowed}
use Rattle.history.specs.History.{Step, Entry, view_after, history, sent, is_passed, is_answered, is_given, total}

-- each passed outcome is one command
pub accepted-sent : (h : List Entry) → total is_passed h ≡ length (sent h)
accepted-sent [] = refl
accepted-sent (e ∷ h) =
    split (is_passed e.outcome) (λ p. rw p (omega (arith, accepted-sent h))) (λ p. rw p (omega (arith, accepted-sent h)))

ended-wait : (v : View) (asker asked t : ℕ) → Leaf v asker asked t
    → length (waits v.places) ≡ suc (length (without (asks_exactly asked t) (waits v.places)))
ended-wait v asker asked t i = length-first (asks_exactly asked t) (waits v.places) i.it (found-waits asked t v.places ∙ i.found)

step-balances : (v : View) (o : Outcome) → Allowed v o
    → one (is_passed o) + length (waits v.places) ≡ one (is_answered o) + one (is_given o) + length (waits (places_after o v.places))
step-balances v (Passed asker asked kind t) a = omega arith
step-balances v (Answered asked asker t k) a = rw (waits-answered asked t v.places) (omega (arith, ended-wait v asker asked t a))
step-balances v (Swallowed asked t) a = rw (waits-swallowed asked t v.places) (omega arith)
step-balances v Event a = omega arith
step-balances v (Turned asker asked t k) a = omega arith
step-balances v (Given asker asked t) a = rw (waits-given asked t v.places) (omega (arith, ended-wait v asker asked t a))
step-balances v (Reset h) a = rw (waits-stay h v.places) (omega arith)
step-balances v (Refused r) a = omega arith

-- accepted = answered + given up + waiting, at every moment
pub balanced : (rows : List Row) (steps : List Step)
    → total is_passed (history rows steps)
    ≡ total is_answered (history rows steps) + total is_given (history rows steps) + length (waits (view_after rows steps).places)
balanced rows [] = refl
balanced rows (s ∷ steps) =
    let v = view_after rows steps in
    omega (arith, step-balances v (judge v s.room s.call) (allowed v s.room s.call), balanced rows steps)
