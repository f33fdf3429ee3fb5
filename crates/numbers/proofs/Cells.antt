-- Where a number stands: a cell is of one row, and a row is of one handler.
use Prim.Native.Nat.{ℕ, zero, suc, ◌+◌, ◌/◌, ◌<◌, ◌≤◌}
use Rattle.std.specs.Prelude.{Option, Some, None}
use mathlib.Core.Path.{◌≡◌, refl, sym, ap, ◌∙◌}
use mathlib.Core.Bool.{Bool, true, false, cond}
use mathlib.Core.List.{List, [], ◌∷◌}
use native.Mathlib.Omega.{arith}
use lib.Dec.{eqb, ltb}
use lib.ListN.{length, get_or, set, length-set}
use lib.Seq.{get_or-set_same, get_or-set_other, set_out}
use borrow.Author.Tests.{eqb-true, eqb-false, eq-eqb, ltb-false}
use Rattle.lists.specs.Lists.{find}
use Rattle.lists.proofs.Tests.{split, differ}
use Rattle.lists.proofs.Numbers.{find-inside, find-changed}
use Rattle.tapa.specs.Address.{handler_of, multi}
use Rattle.table.specs.declared.Row.{Row}
use Rattle.table.specs.Table.{is_at, marked}
use Rattle.place.specs.declared.Place.{Place}
use Rattle.places.specs.Places.{asks}
use Rattle.rules.specs.View.{View}
use Rattle.rules.specs.declared.Outcome.{Outcome}
use Rattle.rules.specs.Apply.{rows_after}
use Rattle.rules.specs.Conduct.{Placed}
use Rattle.rules.proofs.Kept.{rows-by}
use Rattle.numbers.specs.Numbers.{cell_in, cell_by, cell_of, in_cell, put_at, wiped}

-- ---- a row's number is its handler's alone

pub one-row : (g h : ℕ) (rows : List Row) (i : ℕ) → find (is_at g) rows ≡ Some i → find (is_at h) rows ≡ Some i → g ≡ h
one-row g h [] i e f = differ (cc)
one-row g h (r ∷ rows) i e f =
    split (is_at g r)
    (λ p. let e' : Some (length rows) ≡ Some i = rw p at e in let k : length rows ≡ i = cc in
    split (is_at h r) (λ q. sym (eqb-true r.address g p) ∙ eqb-true r.address h q)
    (λ q. let f' : find (is_at h) rows ≡ Some i = rw q at f in absurd (omega (arith, find-inside (is_at h) rows i f'))))
    (λ p. let e' : find (is_at g) rows ≡ Some i = rw p at e in
    split (is_at h r)
    (λ q. let f' : Some (length rows) ≡ Some i = rw q at f in let k : length rows ≡ i = cc in absurd (omega (arith, find-inside (is_at g) rows i e')))
    (λ q. one-row g h rows i e' (rw q at f)))

-- opening and closing move no row
row_stays : (v : View) (o : Outcome) (h : ℕ) → find (is_at h) (rows_after o v) ≡ find (is_at h) v.rows
row_stays v o h =
    rows-by (λ (rows : List Row). find (is_at h) rows ≡ find (is_at h) v.rows) v refl
    (λ g b. find-changed (marked b) (is_at h) (is_at g) (λ r. refl) v.rows) o

pub cell_stays : (v : View) (o : Outcome) (h t : ℕ) → cell_of (rows_after o v) h t ≡ cell_of v.rows h t
unfolding cell_of
cell_stays v o h t = ap (λ (f : Option ℕ). cell_by f h t) (row_stays v o h)

-- ---- a cell names its row

pub low : (b : Bool) (t : ℕ) → t ≤ 7 → cond b t 0 ≤ 7
low true t l = l
low false t l = omega arith

pub cell-is : (rows : List Row) (g t j : ℕ) → t ≤ 7 → j < 128 → cell_of rows g t ≡ j → find (is_at g) rows ≡ Some (j / 8)
unfolding cell_of
cell-is rows g t j l m e = go (find (is_at g) rows) refl e
  where
    go : (f : Option ℕ) → find (is_at g) rows ≡ f → cell_by f g t ≡ j → find (is_at g) rows ≡ Some (j / 8)
    go None q z = let z' : 128 ≡ j = z in absurd (omega arith)
    go (Some i) q z =
        let z' : cell_in i g t ≡ j = z in
        let d : i ≡ j / 8 = omega (arith, low (multi g) t l) in q ∙ ap Some d

pub cell_at : (rows : List Row) (g t i : ℕ) → find (is_at g) rows ≡ Some i → cell_of rows g t ≡ cell_in i g t
unfolding cell_of
cell_at rows g t i e = ap (λ (f : Option ℕ). cell_by f g t) e

pub cell-none : (rows : List Row) (g t : ℕ) → find (is_at g) rows ≡ None → cell_of rows g t ≡ 128
unfolding cell_of
cell-none rows g t e = ap (λ (f : Option ℕ). cell_by f g t) e

-- the places of a cell ask the handler of its row, and those that ask it stand in a cell of its row
pub cell-asks : (rows : List Row) (h i j : ℕ) (x : Place) → Placed rows x → j < 128 → j / 8 ≡ i → find (is_at h) rows ≡ Some i → in_cell rows j x ≡ true
    → asks h x ≡ true
cell-asks rows h i j x p m d e q =
    let g = handler_of x.asked in
    let z = cell-is rows g x.thread j p.1 m (eqb-true (cell_of rows g x.thread) j q) in
    eq-eqb g h (one-row g h rows i (z ∙ ap Some d) e)

pub asks-cell : (rows : List Row) (h i j : ℕ) (x : Place) → Placed rows x → find (is_at h) rows ≡ Some i → in_cell rows j x ≡ true → asks h x ≡ true
    → j / 8 ≡ i
asks-cell rows h i j x p e q a =
    let g = handler_of x.asked in
    let f : find (is_at g) rows ≡ Some i = ap (λ (k : ℕ). find (is_at k) rows) (eqb-true g h a) ∙ e in
    let z = cell_at rows g x.thread i f in
    let y = eqb-true (cell_of rows g x.thread) j q in
    omega (arith, low (multi g) x.thread p.1)

-- ---- a cell that is written, and cells that are wiped

pub put-set : (k x : ℕ) (n : List ℕ) → length n ≡ 128 → put_at k x n ≡ set n k x
put-set k x n e = split (ltb k 128) (λ b. rw b) (λ b. rw b (sym (set_out n k x (omega (arith, ltb-false k 128 b)))))

pub wiped-long : (at k : ℕ) (n : List ℕ) → length (wiped at k n) ≡ length n
wiped-long at zero n = refl
wiped-long at (suc k) n = simp length-set (wiped-long at k n)

pub wiped-there : (at k : ℕ) (n : List ℕ) (j : ℕ) → at + k ≤ length n → at ≤ j → j < at + k → get_or (wiped at k n) j 0 ≡ 0
wiped-there at zero n j s l m = absurd (omega arith)
wiped-there at (suc k) n j s l m =
    split (eqb (at + k) j)
    (λ e. let q : at + k ≡ j = eqb-true (at + k) j e in
    ap (λ (i : ℕ). get_or (wiped at (suc k) n) i 0) (sym q) ∙ get_or-set_same (wiped at k n) (at + k) 0 0 (omega (arith, wiped-long at k n)))
    (λ e. let q : at + k ≡ j → ⊥ = eqb-false (at + k) j e in
    get_or-set_other (wiped at k n) (at + k) j 0 0 (λ z. q (sym z)) ∙ wiped-there at k n j (omega arith) l (omega (arith, q)))

pub wiped-off : (at k : ℕ) (n : List ℕ) (j : ℕ) → (at ≤ j → j < at + k → ⊥) → get_or (wiped at k n) j 0 ≡ get_or n j 0
wiped-off at zero n j f = refl
wiped-off at (suc k) n j f =
    get_or-set_other (wiped at k n) (at + k) j 0 0 (λ z. f (omega arith) (omega arith)) ∙ wiped-off at k n j (λ a b. f a (omega arith))
