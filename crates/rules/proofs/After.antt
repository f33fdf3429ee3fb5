-- What stands after an outcome, in the page's words.
use Prim.Native.Nat.{ℕ, ◌+◌, ◌≤◌}
use Rattle.std.specs.Prelude.{Some}
use mathlib.Core.Path.{◌≡◌, refl, ap, ◌∙◌}
use mathlib.Core.Bool.{Bool, true, false, not, ◌||◌, ◌&&◌, or-true}
use mathlib.Core.List.{List}
use native.Mathlib.Omega.{arith}
use lib.Dec.{eqb}
use borrow.Author.Tests.{eqb-true, eq-eqb}
use Rattle.lists.specs.Lists.{count, some_of, first}
use Rattle.lists.proofs.Tests.{split, clash, and_yes, eqb_same}
use Rattle.lists.proofs.Counts.{count-apart, some-kept, none-le}
use Rattle.lists.proofs.First.{some-changed, first-yes, first-meets, none_left, changed-meets}
use Rattle.tapa.specs.Address.{handler_of, multi}
use Rattle.tapa.specs.Codes.{successful, open_handler, close_handler}
use Rattle.table.specs.declared.Row.{Row}
use Rattle.table.specs.Table.{listed, opened_at, set_opened, Proper}
use Rattle.place.specs.declared.Place.{Place}
use Rattle.places.specs.Places.{is_owed, on_thread, open_on, owed_on, asks_exactly, owes_exactly, asks, stands_in, on_slot, not_owed_by, owing}
use Rattle.table.proofs.Marks.{set-opened}
use Rattle.rules.specs.View.{View}
use Rattle.rules.specs.declared.Outcome.TheVariants.{Passed, Answered, Swallowed, Given, Reset}
use Rattle.rules.specs.Judge.{busy}
use Rattle.rules.specs.Apply.{place, answered_rows, applied}
use Rattle.rules.specs.Conduct.{Conduct}
use Rattle.rules.proofs.Waits.{open-thread, exact-on}
use Rattle.rules.proofs.Allowed.{Leaf, Idle}

-- ---- one command on an exact address and thread

exact-slot : (a t : ℕ) (p : Place) → asks_exactly a t p ≡ true → on_slot (handler_of a) t p ≡ true
exact-slot a t p q =
    let y = and_yes (open_on t p) (eqb p.asked a) q in
    let e : asks (handler_of a) p ≡ true = eq-eqb (handler_of p.asked) (handler_of a) (ap handler_of (eqb-true p.asked a y.1)) in
    rw (e, open-thread t p y.0, or-true)

owes-slot : (a t : ℕ) (p : Place) → owes_exactly a t p ≡ true → (asks_exactly a t p ≡ false) × (on_slot (handler_of a) t p ≡ true)
owes-slot a t p q =
    let y = and_yes (owed_on t p) (eqb p.asked a) q in
    let z = and_yes (is_owed p) (on_thread t p) y.0 in
    let e : asks (handler_of a) p ≡ true = eq-eqb (handler_of p.asked) (handler_of a) (ap handler_of (eqb-true p.asked a y.1)) in
    (rw z.0, rw (e, z.1, or-true))

-- a wait or an owing, and not two
pub exact-once : (v : View) → Conduct v → (a t : ℕ) → count (asks_exactly a t) v.places + count (owes_exactly a t) v.places ≤ 1
exact-once v c a t =
    omega (arith, c.once (handler_of a) t, count-apart (asks_exactly a t) (owes_exactly a t) (on_slot (handler_of a) t) (exact-slot a t) (owes-slot a t) v.places)

-- ---- 'it is passed and becomes' a wait of its thread's tree, the newest

pub passed-newest : (v : View) (asker asked kind t : ℕ)
    → first (open_on t) (applied (Passed asker asked kind t) v).places ≡ Some (place asker asked kind t)
passed-newest v asker asked kind t = rw (eqb_same t)

-- ---- 'it is answered and the wait ends'; 'the message is swallowed ... and the owing ends'

pub answered-ends : (v : View) → Conduct v → (asked asker t k : ℕ) → count (asks_exactly asked t) (applied (Answered asked asker t k) v).places ≡ 0
answered-ends v c asked asker t k = none_left (asks_exactly asked t) v.places (omega (arith, exact-once v c asked t))

pub swallowed-ends : (v : View) → Conduct v → (asked t : ℕ) → count (owes_exactly asked t) (applied (Swallowed asked t) v).places ≡ 0
swallowed-ends v c asked t = none_left (owes_exactly asked t) v.places (omega (arith, exact-once v c asked t))

-- ---- a wait that is given up 'becomes an owing'

pub given-owes : (v : View) (asker asked t : ℕ) → Leaf v asker asked t → some_of (owes_exactly asked t) (applied (Given asker asked t) v).places ≡ true
given-owes v asker asked t i =
    let y = first-yes (asks_exactly asked t) v.places i.it i.found in
    let o : owes_exactly asked t (owing i.it) ≡ true = rw (open-thread t i.it (exact-on asked t i.it y)) (eq-eqb i.it.asked asked i.its-asked) in
    changed-meets owing (owes_exactly asked t) (asks_exactly asked t) v.places i.it i.found o

-- 'Freeing a handler at give-up' is the wrong turning: whose wait was given up is still busy, on its thread and, where it is single, on any
pub given-busy : (v : View) (asker asked t : ℕ) → Leaf v asker asked t → (next u : ℕ) → (not (multi (handler_of asked)) || eqb t u) ≡ true
    → busy (applied (Given asker asked t) v).places next (handler_of asked) u ≡ true
unfolding busy
given-busy v asker asked t i next u e =
    let h = handler_of asked in
    let y = first-yes (asks_exactly asked t) v.places i.it i.found in
    let k : i.it.thread ≡ t = eqb-true i.it.thread t (open-thread t i.it (exact-on asked t i.it y)) in
    let s : on_slot h u i.it ≡ true = rw (i.its-asked, k, eqb_same h) e in
    rw (some-changed owing (on_slot h u) (asks_exactly asked t) (λ x. refl) v.places, first-meets (on_slot h u) (asks_exactly asked t) v.places i.it i.found s, or-true, or-true)

-- ---- Replaced: 'its owings end and it is closed'

pub reset-ends : (v : View) (h : ℕ) → Idle v h → some_of (asks h) (applied (Reset h) v).places ≡ false
reset-ends v h i =
    some-kept (asks h) (not_owed_by h) v.places
    ∙ none-le (λ (p : Place). not_owed_by h p && asks h p) (stands_in h) stays v.places i.no-wait
  where
    stays : (p : Place) → (not_owed_by h p && asks h p) ≡ true → stands_in h p ≡ true
    stays p q =
        let y = and_yes (not_owed_by h p) (asks h p) q in
        split (is_owed p) (λ b. let n : not true ≡ true = rw (b, y.1) at y.0 in clash false n refl) (λ b. rw (b, y.1, or-true))

-- the mark of a handler of the table
marked-now : (h : ℕ) (b : Bool) (rows : List Row) → Proper rows → listed h rows ≡ true → opened_at h (set_opened h b rows) ≡ b
marked-now h b rows p y = set-opened h b rows (p.once h) ∙ rw y

pub reset-closes : (v : View) (h : ℕ) → Proper v.rows → Idle v h → opened_at h (applied (Reset h) v).rows ≡ false
reset-closes v h p i = marked-now h false v.rows p i.in_table

-- ---- 'If it was Open Handler or Close Handler and the code is '0000', the handler becomes open or closed.'

module _ (v : View) (asker asked t : ℕ) (i : Leaf v asker asked t) (p : Proper v.rows) (y : listed (handler_of asked) v.rows ≡ true) where
  pub answered-opens : i.it.kind ≡ open_handler → opened_at (handler_of asked) (applied (Answered asked asker t successful) v).rows ≡ true
  unfolding answered_rows
  answered-opens k = rw (i.found, k, i.its-asked) (marked-now (handler_of asked) true v.rows p y)

  pub answered-closes : i.it.kind ≡ close_handler → opened_at (handler_of asked) (applied (Answered asked asker t successful) v).rows ≡ false
  unfolding answered_rows
  answered-closes k = rw (i.found, k, i.its-asked) (marked-now (handler_of asked) false v.rows p y)
