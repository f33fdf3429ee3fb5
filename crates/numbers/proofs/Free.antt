-- The answer by the kept number is the answer of the full walk.
use Prim.Native.Nat.{ℕ, ◌+◌, ◌*◌, ◌≤◌}
use Rattle.std.specs.Prelude.{Option, Some, None}
use mathlib.Core.Path.{◌≡◌, refl, sym, ap, ◌∙◌}
use mathlib.Core.Bool.{Bool, true, false, not, ◌||◌, ◌&&◌, cond}
use mathlib.Core.List.{List, [], ◌∷◌}
use native.Mathlib.Omega.{arith}
use lib.Dec.{eqb, ltb}
use lib.ListN.{length, get_or}
use borrow.Author.Tests.{eqb-true, eqb-false, ne_eqb, eq-eqb, ltb-false}
use Rattle.lists.specs.Lists.{count, find, some_of}
use Rattle.lists.proofs.Tests.{split, clash, eqb_same}
use Rattle.lists.proofs.Counts.{none-zero, count-some, count-all}
use Rattle.lists.proofs.Numbers.{find-inside, find_none, found_some}
use Rattle.lists.proofs.First.{none_passes}
use Rattle.tapa.specs.Address.{handler_of, multi}
use Rattle.table.specs.declared.Row.{Row}
use Rattle.table.specs.Table.{is_at, Proper}
use Rattle.place.specs.declared.Place.{Place}
use Rattle.places.specs.Places.{waits, owings, is_owed, on_thread, asks, on_slot}
use Rattle.rules.specs.View.{View}
use Rattle.rules.specs.Conduct.{Placed, Conduct}
use Rattle.numbers.specs.Numbers.{cell_in, cell_of, in_cell, Counted}
use Rattle.numbers.specs.Free.{asks_there, engaged, free_of, free_by, free_in}
use Rattle.numbers.proofs.Cells.{low, cell_at, cell-asks}

-- ---- the request's sentence is rule e's slot

on-slot : (h t : ℕ) (x : Place) → asks_there h t x ≡ on_slot h t x
on-slot h t x = ap (λ (b : Bool). asks h x && b) (by (multi h) (on_thread t x))
  where
    by : (m b : Bool) → cond m b true ≡ (not m || b)
    by true b = refl
    by false b = refl

-- what is not owed is a wait, so waits and owings are all places
pub engaged-is : (h t : ℕ) (places : List Place) → engaged places h t ≡ some_of (on_slot h t) places
engaged-is h t [] = refl
engaged-is h t (x ∷ l) =
    let ih = engaged-is h t l in
    split (is_owed x)
    (λ p. rw (p, on-slot h t x, sym ih) (turn (some_of (asks_there h t) (waits l)) (on_slot h t x) (some_of (asks_there h t) (owings l))))
    (λ p. rw (p, on-slot h t x, sym ih) (join (on_slot h t x) (some_of (asks_there h t) (waits l)) (some_of (asks_there h t) (owings l))))
  where
    turn : (a b c : Bool) → (a || (b || c)) ≡ (b || (a || c))
    turn true true c = refl
    turn true false c = refl
    turn false true c = refl
    turn false false c = refl

    join : (a b c : Bool) → ((a || b) || c) ≡ (a || (b || c))
    join true b c = refl
    join false b c = refl

-- ---- a handler's cell

pub slot-cell : (rows : List Row) (h t i : ℕ) (x : Place) → t ≤ 7 → length rows ≤ 16 → find (is_at h) rows ≡ Some i → Placed rows x
    → in_cell rows (cell_of rows h t) x ≡ on_slot h t x
slot-cell rows h t i x l few e p =
    let k = cell_at rows h t i e in
    let inside = find-inside (is_at h) rows i e in
    let small = low (multi h) t l in
    split (asks h x)
    (λ a. let g : handler_of x.asked ≡ h = eqb-true (handler_of x.asked) h a in
    rw (g, k, cell_at rows h x.thread i e, eqb_same h) (by (multi h)))
    (λ a. rw a (ne_eqb (cell_of rows (handler_of x.asked) x.thread) (cell_of rows h t)
    (λ z. let q : in_cell rows (cell_of rows h t) x ≡ true = eq-eqb _ _ z in
    clash (asks h x) (cell-asks rows h i (cell_of rows h t) x p (omega arith) (omega arith) e q) a)))
  where
    by : (m : Bool) → eqb (8 * i + cond m x.thread 0) (8 * i + cond m t 0) ≡ (not m || on_thread t x)
    by true = split (eqb x.thread t) (λ b. rw (b, eqb-true x.thread t b) (eqb_same (8 * i + t)))
        (λ b. rw b (ne_eqb (8 * i + x.thread) (8 * i + t) (λ z. eqb-false x.thread t b (omega arith))))
    by false = eqb_same (8 * i + 0)

-- ---- the answer

module _ (v : View) (n : List ℕ) (p : Proper v.rows) (d : Conduct v) (c : Counted v.rows v.places n) (h t i : ℕ) (l : t ≤ 7) (e : find (is_at h) v.rows ≡ Some i) where
  -- the kept number is the count of the full walk
  pub number_is : get_or n (cell_in i h t) 0 ≡ count (on_slot h t) v.places
  number_is =
      let k = cell_at v.rows h t i e in
      let inside = find-inside (is_at h) v.rows i e in
      let few = p.few in
      let s = count-all (Placed v.rows) (in_cell v.rows (cell_of v.rows h t)) (on_slot h t) (λ x q. slot-cell v.rows h t i x l few e q) v.places d.placed in
      ap (λ (j : ℕ). get_or n j 0) (sym k) ∙ c.each (cell_of v.rows h t) (omega (arith, low (multi h) t l)) ∙ s

  -- 'yes exactly when that number is 0': where no place is on the handler's slot
  pub free-is : eqb (get_or n (cell_in i h t) 0) 0 ≡ not (some_of (on_slot h t) v.places)
  free-is =
      split (some_of (on_slot h t) v.places)
      (λ b. rw b (ne_eqb (get_or n (cell_in i h t) 0) 0 (λ z. omega (arith, number_is, count-some (on_slot h t) v.places b))))
      (λ b. rw b (eq-eqb (get_or n (cell_in i h t) 0) 0 (omega (arith, number_is, none-zero (on_slot h t) v.places b))))

-- refusals too
pub free-as-walked : (v : View) (n : List ℕ) → Proper v.rows → Conduct v → Counted v.rows v.places n → (a t : ℕ) → free_in v.rows n a t ≡ free_of v a t
unfolding free_of free_in
free-as-walked v n p d c a t = go (find (is_at (handler_of a)) v.rows) refl
  where
    go : (w : Option ℕ) → find (is_at (handler_of a)) v.rows ≡ w → free_by w n (handler_of a) t ≡ free_of v a t
    go None e = rw (none_passes (is_at (handler_of a)) v.rows (find_none (is_at (handler_of a)) v.rows e))
    go (Some i) e =
        rw (found_some (is_at (handler_of a)) v.rows i e)
        (split (ltb 7 t) (λ b. rw b)
        (λ b. rw (b, free-is v n p d c (handler_of a) t i (ltb-false 7 t b) e, engaged-is (handler_of a) t v.places)
        (split (some_of (on_slot (handler_of a) t) v.places) (λ q. rw q) (λ q. rw q))))
