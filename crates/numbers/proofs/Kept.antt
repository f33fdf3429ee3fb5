-- After every outcome that a call can have each number is the count of the full walk.
use Prim.Native.Nat.{ℕ, ◌+◌, ◌*◌, ◌-◌, ◌/◌, ◌<◌, ◌≤◌}
use Rattle.std.specs.Prelude.{Option, Some, None}
use mathlib.Core.Path.{◌≡◌, refl, sym, ap, ◌∙◌}
use mathlib.Core.Bool.{Bool, true, false, cond, or-true, and-false}
use mathlib.Core.List.{List, [], ◌∷◌}
use native.Mathlib.Omega.{arith}
use lib.Dec.{eqb}
use lib.ListN.{length, get_or, set, length-set, length-replicate}
use lib.Seq.{get_or-set_same, get_or-set_other}
use borrow.Author.Tests.{eqb-true, eqb-false}
use Rattle.lists.specs.Lists.{one, count, find, first, some_of, keep, without, All}
use Rattle.lists.proofs.Tests.{split, clash, and_yes}
use Rattle.lists.proofs.Counts.{count-ext, count-gone, count_kept, All-none}
use Rattle.lists.proofs.Numbers.{find-inside, find_none}
use Rattle.lists.proofs.Cells.{same-all}
use Rattle.lists.proofs.First.{count-first, count-changed, first-yes, first_some, none_passes}
use Rattle.tapa.specs.Address.{handler_of}
use Rattle.table.specs.declared.Row.{Row}
use Rattle.table.specs.Table.{is_at, Proper}
use Rattle.place.specs.declared.Place.{Place}
use Rattle.places.specs.Places.{is_owed, is_open, on_thread, open_on, owed_on, asks_exactly, owes_exactly, asks, stands_in, not_owed_by, owing}
use Rattle.rules.specs.View.{View}
use Rattle.rules.specs.declared.Outcome.{Outcome}
use Rattle.rules.specs.declared.Outcome.TheVariants.{Passed, Answered, Swallowed, Event, Turned, Given, Reset, Refused}
use Rattle.rules.specs.Apply.{place, rows_after, places_after, applied}
use Rattle.rules.specs.Conduct.{Placed, Conduct}
use Rattle.rules.proofs.Allowed.{Allowed}
use Rattle.numbers.specs.Numbers.{cell_of, in_cell, Counted, no_numbers, put_at, raised_at, lowered_at, wiped, wiped_row, numbers_after}
use Rattle.numbers.proofs.Cells.{put-set, cell_stays, cell-asks, asks-cell, wiped-long, wiped-there, wiped-off}

-- ---- one number changed

-- the cell of a place, which an outcome names by address and thread
asked-cell : (rows : List Row) (a t j : ℕ) (x : Place) → x.asked ≡ a → x.thread ≡ t → in_cell rows j x ≡ eqb (cell_of rows (handler_of a) t) j
asked-cell rows a t j x e f = rw (e, f)

put : (rows : List Row) (ps qs : List Place) (n : List ℕ) (k w : ℕ) → Counted rows ps n
    → ((j : ℕ) → j < 128 → count (in_cell rows j) qs ≡ cond (eqb k j) w (count (in_cell rows j) ps))
    → Counted rows qs (put_at k w n)
put rows ps qs n k w c f =
    rw (put-set k w n c.long)
    (record {
      long = simp length-set c.long;
      each = λ j l. split (eqb k j)
          (λ e. let q : k ≡ j = eqb-true k j e in
          let z : count (in_cell rows j) qs ≡ w = f j l ∙ rw e in
          ap (λ (i : ℕ). get_or (set n k w) i 0) (sym q) ∙ get_or-set_same n k w 0 (omega (arith, c.long)) ∙ sym z)
          (λ e. let z : count (in_cell rows j) qs ≡ count (in_cell rows j) ps = f j l ∙ rw e in
          get_or-set_other n k j w 0 (λ q. eqb-false k j e (sym q)) ∙ c.each j l ∙ sym z);
    })

-- one place more on its cell, and one less
more : (rows : List Row) (ps : List Place) (n : List ℕ) (p : Place) → Counted rows ps n
    → Counted rows (p ∷ ps) (raised_at (cell_of rows (handler_of p.asked) p.thread) n)
more rows ps n p c =
    let k = cell_of rows (handler_of p.asked) p.thread in
    put rows ps (p ∷ ps) n k (get_or n k 0 + 1) c
    (λ j l. split (eqb k j)
    (λ e. let q : k ≡ j = eqb-true k j e in
    let g : get_or n k 0 ≡ count (in_cell rows j) ps = ap (λ (i : ℕ). get_or n i 0) q ∙ c.each j l in rw e (omega arith))
    (λ e. rw e (omega arith)))

less : (rows : List Row) (ps : List Place) (n : List ℕ) (r : Place → Bool) (x : Place) (a t : ℕ) → first r ps ≡ Some x → x.asked ≡ a → x.thread ≡ t
    → Counted rows ps n → Counted rows (without r ps) (lowered_at (cell_of rows (handler_of a) t) n)
less rows ps n r x a t f ea et c =
    let k = cell_of rows (handler_of a) t in
    put rows ps (without r ps) n k (get_or n k 0 - 1) c
    (λ j l.
    let s : count (in_cell rows j) ps ≡ one (eqb k j) + count (in_cell rows j) (without r ps) =
    count-first (in_cell rows j) r ps x f ∙ ap (λ (b : Bool). one b + count (in_cell rows j) (without r ps)) (asked-cell rows a t j x ea et) in
    split (eqb k j)
    (λ e. let q : k ≡ j = eqb-true k j e in
    let g : get_or n k 0 ≡ count (in_cell rows j) ps = ap (λ (i : ℕ). get_or n i 0) q ∙ c.each j l in
    let s' : count (in_cell rows j) ps ≡ 1 + count (in_cell rows j) (without r ps) = rw e at s in rw e (omega arith))
    (λ e. let s' : count (in_cell rows j) ps ≡ 0 + count (in_cell rows j) (without r ps) = rw e at s in rw e (omega arith)))

-- ---- Replaced

-- what counts in the row's eight cells is owed by its handler, and what counts in others is not
reset-row : (rows : List Row) (ps : List Place) (n : List ℕ) (h i : ℕ) → length rows ≤ 16 → All (Placed rows) ps → some_of (stands_in h) ps ≡ false
    → find (is_at h) rows ≡ Some i → Counted rows ps n → Counted rows (keep (not_owed_by h) ps) (wiped (8 * i) 8 n)
reset-row rows ps n h i few pl idle e c =
    let inside = find-inside (is_at h) rows i e in
    record {
      long = wiped-long (8 * i) 8 n ∙ c.long;
      each = λ j l. split (eqb (j / 8) i)
          (λ b. let d : j / 8 ≡ i = eqb-true (j / 8) i b in
          wiped-there (8 * i) 8 n j (omega (arith, c.long)) (omega arith) (omega arith)
          ∙ sym (count-gone (λ (x : Place). Placed rows x × (stands_in h x ≡ false)) (in_cell rows j) (not_owed_by h)
          (λ x p q. let a = cell-asks rows h i j x p.0 l d e q in gone x a p.1) ps (All-none (Placed rows) (stands_in h) ps pl idle)))
          (λ b. let d : j / 8 ≡ i → ⊥ = eqb-false (j / 8) i b in
          wiped-off (8 * i) 8 n j (λ y z. d (omega arith)) ∙ c.each j l
          ∙ sym (count_kept (Placed rows) (in_cell rows j) (not_owed_by h)
          (λ x p q. split (asks h x) (λ a. absurd (d (asks-cell rows h i j x p e q a))) (λ a. rw (a, and-false))) ps pl));
    }
  where
    gone : (x : Place) → asks h x ≡ true → stands_in h x ≡ false → not_owed_by h x ≡ false
    gone x a s = split (is_owed x) (λ b. rw (b, a)) (λ b. let s' : true ≡ false = rw (b, a, or-true) at s in clash true refl s')

-- ---- the step

-- opening and closing move no cell
rerow : (v : View) (o : Outcome) (ps : List Place) (n : List ℕ) → Counted v.rows ps n → Counted (rows_after o v) ps n
rerow v o ps n c = record {
  long = c.long;
  each = λ j l. c.each j l
      ∙ count-ext (in_cell v.rows j) (in_cell (rows_after o v) j) (λ p. ap (λ (k : ℕ). eqb k j) (sym (cell_stays v o (handler_of p.asked) p.thread))) ps;
}

exact-open : (a t : ℕ) (x : Place) → asks_exactly a t x ≡ true → (x.asked ≡ a) × (x.thread ≡ t)
exact-open a t x p =
    let q = and_yes (open_on t x) (eqb x.asked a) p in
    (eqb-true x.asked a q.1, eqb-true x.thread t (and_yes (is_open x) (on_thread t x) q.0).1)

exact-owed : (a t : ℕ) (x : Place) → owes_exactly a t x ≡ true → (x.asked ≡ a) × (x.thread ≡ t)
exact-owed a t x p =
    let q = and_yes (owed_on t x) (eqb x.asked a) p in
    (eqb-true x.asked a q.1, eqb-true x.thread t (and_yes (is_owed x) (on_thread t x) q.0).1)

-- over the rows of before
counted-in : (v : View) (o : Outcome) (n : List ℕ) → Proper v.rows → Conduct v → Allowed v o → Counted v.rows v.places n
    → Counted v.rows (places_after o v.places) (numbers_after v.rows o n)
counted-in v (Passed asker asked kind t) n p d f c = more v.rows v.places n (place asker asked kind t) c
counted-in v (Answered asked asker t k) n p d f c =
    let x = exact-open asked t f.it (first-yes (asks_exactly asked t) v.places f.it f.found) in
    less v.rows v.places n (asks_exactly asked t) f.it asked t f.found x.0 x.1 c
counted-in v (Swallowed asked t) n p d f c =
    let i = first_some (owes_exactly asked t) v.places f.0 in
    let x = exact-owed asked t i.0 (first-yes (owes_exactly asked t) v.places i.0 i.1) in
    less v.rows v.places n (owes_exactly asked t) i.0 asked t i.1 x.0 x.1 c
counted-in v Event n p d f c = c
counted-in v (Turned asker asked t k) n p d f c = c
counted-in v (Given asker asked t) n p d f c = record {
  long = c.long;
  each = λ j l. c.each j l ∙ sym (count-changed owing (in_cell v.rows j) (asks_exactly asked t) (λ x. refl) v.places);
}
counted-in v (Reset h) n p d f c = go (find (is_at h) v.rows) refl
  where
    go : (w : Option ℕ) → find (is_at h) v.rows ≡ w → Counted v.rows (keep (not_owed_by h) v.places) (wiped_row w n)
    go None e = clash (some_of (is_at h) v.rows) f.in_table (none_passes (is_at h) v.rows (find_none (is_at h) v.rows e))
    go (Some i) e = reset-row v.rows v.places n h i p.few d.placed f.no-wait e c
counted-in v (Refused r) n p d f c = c

-- 'after every call, replaced included': the numbers are those of the next view
pub counted : (v : View) (o : Outcome) (n : List ℕ) → Proper v.rows → Conduct v → Allowed v o → Counted v.rows v.places n
    → Counted (applied o v).rows (applied o v).places (numbers_after v.rows o n)
counted v o n p d f c = rerow v o (places_after o v.places) (numbers_after v.rows o n) (counted-in v o n p d f c)

-- after every start
pub counted-fresh : (rows : List Row) → Counted rows [] no_numbers
counted-fresh rows = record { long = length-replicate {A = ℕ} 128 0; each = λ j l. same-all {A = ℕ} 128 j 0 }
