-- The law is kept: an accepted table stays proper, and the conduct holds in the fresh view and after every outcome that `judge` can give.
use Prim.Native.Nat.{ℕ, ◌≤◌}
use Rattle.std.specs.Prelude.{Option, Some, None}
use mathlib.Core.Path.{◌≡◌, refl, ◌∙◌}
use mathlib.Core.Bool.{Bool, true, false, not, ◌||◌, ◌&&◌}
use mathlib.Core.List.{List, [], ◌∷◌}
use native.Mathlib.Omega.{arith}
use lib.Dec.{eqb}
use borrow.Author.Tests.{eqb-true}
use Rattle.lists.specs.Lists.{count, some_of, keep, first, without, changed, All}
use Rattle.lists.proofs.Tests.{split, or_no, and_yes}
use Rattle.lists.proofs.Counts.{count-le, none-zero, count-keep, All-keep, All-map}
use Rattle.lists.proofs.First.{count-without, count-changed, All-without, All-changed}
use Rattle.tapa.specs.Address.{category_of, handler_of, multi}
use Rattle.tapa.specs.Codes.{successful, open_handler, close_handler}
use Rattle.table.specs.declared.Row.{Row}
use Rattle.table.specs.Table.{listed, set_opened, Proper}
use Rattle.place.specs.declared.Place.{Place}
use Rattle.places.specs.Places.{waits, on_thread, asks_exactly, owes_exactly, asks, stands_on, on_slot, not_owed_by, owing}
use Rattle.table.proofs.Marks.{set-proper, set-listed}
use Rattle.places.proofs.Two.{waits-stay}
use Rattle.rules.specs.View.{View, fresh}
use Rattle.rules.specs.declared.Outcome.{Outcome}
use Rattle.rules.specs.declared.Outcome.TheVariants.{Passed, Answered, Swallowed, Event, Turned, Given, Reset, Refused}
use Rattle.rules.specs.Judge.{busy, Call, judge}
use Rattle.rules.specs.Apply.{place, answered_rows, rows_after, applied}
use Rattle.rules.specs.Conduct.{Placed, Tree, Conduct}
use Rattle.rules.proofs.Waits.{waits-given, waits-swallowed, found-waits, held-waits, tree-waits, waits-tree}
use Rattle.rules.proofs.Trees.{tree-passed, tree-ended}
use Rattle.rules.proofs.Allowed.{Allowed, Leaf, allowed}

-- ---- the rows

-- what holds of the rows, and still with a handler marked open or closed, holds after any outcome
answered-rows-by : (P : List Row → Type 0) (rows : List Row) → P rows → ((h : ℕ) (b : Bool) → P (set_opened h b rows))
    → (o : Option Place) (k : ℕ) → P (answered_rows o k rows)
unfolding answered_rows
answered-rows-by P rows p f None k = p
answered-rows-by P rows p f (Some w) k =
    split (eqb k successful && eqb w.kind open_handler) (λ b. rw b (f (handler_of w.asked) true))
    (λ b. rw b (split (eqb k successful && eqb w.kind close_handler) (λ q. rw q (f (handler_of w.asked) false)) (λ q. rw q p)))

pub rows-by : (P : List Row → Type 0) (v : View) → P v.rows → ((h : ℕ) (b : Bool) → P (set_opened h b v.rows)) → (o : Outcome) → P (rows_after o v)
rows-by P v p f (Passed asker asked kind t) = p
rows-by P v p f (Answered asked asker t k) = answered-rows-by P v.rows p f (first (asks_exactly asked t) v.places) k
rows-by P v p f (Swallowed asked t) = p
rows-by P v p f Event = p
rows-by P v p f (Turned asker asked t k) = p
rows-by P v p f (Given asker asked t) = p
rows-by P v p f (Reset h) = f h false
rows-by P v p f (Refused r) = p

pub proper-kept : (v : View) (o : Outcome) → Proper v.rows → Proper (applied o v).rows
proper-kept v o p = rows-by Proper v p (λ h b. set-proper h b v.rows p) o

-- a handler is in the table after an outcome as before it
pub listed_kept : (a : ℕ) (v : View) (o : Outcome) → listed a (applied o v).rows ≡ listed a v.rows
listed_kept a v o = rows-by (λ (rows : List Row). listed a rows ≡ listed a v.rows) v refl (λ h b. set-listed h b a v.rows) o

placed-rows : (v : View) (o : Outcome) (l : List Place) → All (Placed v.rows) l → All (Placed (applied o v).rows) l
placed-rows v o l a =
    All-map (Placed v.rows) (Placed (applied o v).rows) (λ p q. (listed_kept (handler_of p.asked) v o ∙ q.0, q.1)) l a

-- ---- slots

-- two places on one slot are on each other's
slot_same : (h t : ℕ) (p q : Place) → on_slot h t p ≡ true → on_slot h t q ≡ true → on_slot (handler_of p.asked) p.thread q ≡ true
slot_same h t p q a b =
    let x = and_yes (asks h p) (not (multi h) || on_thread t p) a in
    let y = and_yes (asks h q) (not (multi h) || on_thread t q) b in
    let e : handler_of p.asked ≡ h = eqb-true (handler_of p.asked) h x.0 in
    rw (e, y.0) (split (multi h)
    (λ m. rw m (let f : p.thread ≡ t = eqb-true p.thread t (rw m at x.1) in rw f (rw m at y.1)))
    (λ m. rw m))

-- rule e, part by part
pub record Free (places : List Place) (asker h t : ℕ) : Type 0 where
  pub not-asker : eqb h (handler_of asker) ≡ false
  pub not-standing : some_of (stands_on t h) places ≡ false
  pub not_taken : some_of (on_slot h t) places ≡ false

pub free_of : (places : List Place) (asker h t : ℕ) → busy places asker h t ≡ false → Free places asker h t
unfolding busy
free_of places asker h t e =
    let a = or_no (eqb h (handler_of asker)) (some_of (stands_on t h) places || some_of (on_slot h t) places) e in
    let b = or_no (some_of (stands_on t h) places) (some_of (on_slot h t) places) a.1 in
    record { not-asker = a.0; not-standing = b.0; not_taken = b.1 }

once-passed : (p : Place) (l : List Place) → some_of (on_slot (handler_of p.asked) p.thread) l ≡ false
    → ((h t : ℕ) → count (on_slot h t) l ≤ 1) → (h t : ℕ) → count (on_slot h t) (p ∷ l) ≤ 1
once-passed p l n f h t =
    split (on_slot h t p)
    (λ q. rw q (omega (
      arith,
      none-zero (on_slot (handler_of p.asked) p.thread) l n,
      count-le (on_slot h t) (on_slot (handler_of p.asked) p.thread) (λ x r. slot_same h t p x q r) l,
    )))
    (λ q. rw q (omega (arith, f h t)))

-- ---- the trees once a leaf was given up, and where the waits stay

given-tree : (v : View) (asker asked t : ℕ) → Leaf v asker asked t → (u : ℕ) → Tree u v.places → Tree u (changed owing (asks_exactly asked t) v.places)
given-tree v asker asked t i u g =
    waits-tree u (changed owing (asks_exactly asked t) v.places)
    (rw (waits-given asked t v.places)
    (tree-ended u t asked (waits v.places) i.it (found-waits asked t v.places ∙ i.found) (held-waits asked t v.places ∙ i.holds-none) (tree-waits u v.places g)))

-- other places, with the same waits: the same trees
same-tree : (t : ℕ) (l m : List Place) → waits m ≡ waits l → Tree t l → Tree t m
same-tree t l m e g = waits-tree t m (rw e (tree-waits t l g))

-- ---- the step

pub conduct-kept : (v : View) (o : Outcome) → Conduct v → Allowed v o → Conduct (applied o v)
conduct-kept v (Passed asker asked kind t) c f =
    let p = place asker asked kind t in
    let e = free_of v.places asker (handler_of asked) t f.met.free in record {
      once = once-passed p v.places e.not_taken c.once;
      trees = λ u. tree-passed u v.places p f.met.may e.not-standing e.not-asker (c.trees u);
      placed = ((f.met.asked-listed, f.thread-small), c.placed);
    }
conduct-kept v (Answered asked asker t k) c i = record {
  once = λ h u. omega (arith, c.once h u, count-without (on_slot h u) (asks_exactly asked t) v.places);
  trees = λ u. tree-ended u t asked v.places i.it i.found i.holds-none (c.trees u);
  placed = placed-rows v (Answered asked asker t k) (without (asks_exactly asked t) v.places)
      (All-without (Placed v.rows) (asks_exactly asked t) v.places c.placed);
}
conduct-kept v (Swallowed asked t) c f = record {
  once = λ h u. omega (arith, c.once h u, count-without (on_slot h u) (owes_exactly asked t) v.places);
  trees = λ u. same-tree u v.places (without (owes_exactly asked t) v.places) (waits-swallowed asked t v.places) (c.trees u);
  placed = All-without (Placed v.rows) (owes_exactly asked t) v.places c.placed;
}
conduct-kept v Event c f = c
conduct-kept v (Turned asker asked t k) c f = c
conduct-kept v (Given asker asked t) c i = record {
  once = λ h u. omega (arith, c.once h u, count-changed owing (on_slot h u) (asks_exactly asked t) (λ x. refl) v.places);
  trees = λ u. given-tree v asker asked t i u (c.trees u);
  placed = All-changed (Placed v.rows) owing (asks_exactly asked t) (λ x a. a) v.places c.placed;
}
conduct-kept v (Reset h) c f = record {
  once = λ a u. omega (arith, c.once a u, count-keep (on_slot a u) (not_owed_by h) v.places);
  trees = λ u. same-tree u v.places (keep (not_owed_by h) v.places) (waits-stay h v.places) (c.trees u);
  placed = placed-rows v (Reset h) (keep (not_owed_by h) v.places) (All-keep (Placed v.rows) (not_owed_by h) v.places c.placed);
}
conduct-kept v (Refused r) c f = c

-- ---- the start

no-tree : (t : ℕ) → Tree t []
unfolding category_of
no-tree t = record { root = 0x0100; driver = refl; grown = tt }

pub conduct-fresh : (rows : List Row) → Conduct (fresh rows)
conduct-fresh rows = record { once = λ h t. omega arith; trees = no-tree; placed = tt }

-- ---- any call

-- the law of a view: its table is an accepted one, and its places keep the conduct
pub record Lawful (v : View) : Type 0 where
  pub table : Proper v.rows
  pub conduct : Conduct v

pub lawful-fresh : (rows : List Row) → Proper rows → Lawful (fresh rows)
lawful-fresh rows p = record { table = p; conduct = conduct-fresh rows }

pub lawful-call : (v : View) (room : ℕ) (c : Call) → Lawful v → Lawful (applied (judge v room c) v)
lawful-call v room c l = record {
  table = proper-kept v (judge v room c) l.table;
  conduct = conduct-kept v (judge v room c) l.conduct (allowed v room c);
}
