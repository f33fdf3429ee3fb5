-- Each number is 0 or 1: 'one command a thread' for a multi handler, 'one altogether' for a single one.
use Prim.Native.Nat.{ℕ, ◌<◌, ◌≤◌}
use mathlib.Core.Path.{◌≡◌, sym, ap, ◌∙◌}
use mathlib.Core.Bool.{true}
use mathlib.Core.List.{List}
use native.Mathlib.Omega.{arith}
use lib.Dec.{ltb}
use lib.ListN.{get_or}
use borrow.Author.Tests.{eqb-true, lt-ltb, ltb-true}
use Rattle.lists.specs.Lists.{count, some_of}
use Rattle.lists.proofs.Tests.{split}
use Rattle.lists.proofs.Counts.{none-zero, count-all}
use Rattle.lists.proofs.First.{first-yes, first_some, first-has}
use Rattle.tapa.specs.Address.{handler_of}
use Rattle.table.specs.Table.{Proper}
use Rattle.places.specs.Places.{on_slot}
use Rattle.rules.specs.View.{View}
use Rattle.rules.specs.Conduct.{Placed, Conduct}
use Rattle.numbers.specs.Numbers.{cell_of, in_cell, Counted, raised_at, Few, raised_in}
use Rattle.numbers.proofs.Cells.{cell-is}
use Rattle.numbers.proofs.Free.{slot-cell}

module _ (v : View) (p : Proper v.rows) (d : Conduct v) where
  -- all that counts in a cell is on the slot of one handler and thread
  few-in : (j : ℕ) → j < 128 → count (in_cell v.rows j) v.places ≤ 1
  few-in j l = split (some_of (in_cell v.rows j) v.places) some_in (λ b. omega (arith, none-zero (in_cell v.rows j) v.places b))
    where
      some_in : some_of (in_cell v.rows j) v.places ≡ true → count (in_cell v.rows j) v.places ≤ 1
      some_in b =
          let f = first_some (in_cell v.rows j) v.places b in
          let x = f.0 in
          let pl = first-has (Placed v.rows) (in_cell v.rows j) v.places x f.1 d.placed in
          let h = handler_of x.asked in
          let k : cell_of v.rows h x.thread ≡ j = eqb-true (cell_of v.rows h x.thread) j (first-yes (in_cell v.rows j) v.places x f.1) in
          let e = cell-is v.rows h x.thread j pl.1 l k in
          let s : count (in_cell v.rows j) v.places ≡ count (on_slot h x.thread) v.places =
          ap (λ (c : ℕ). count (in_cell v.rows c) v.places) (sym k)
          ∙ count-all (Placed v.rows) (in_cell v.rows (cell_of v.rows h x.thread)) (on_slot h x.thread)
          (λ y q. slot-cell v.rows h x.thread _ y pl.1 p.few e q) v.places d.placed in
          omega (arith, s, d.once h x.thread)

  -- 'also where a law shows them to be 0 or 1'
  pub number_small : (n : List ℕ) → Counted v.rows v.places n → Few n
  number_small n c j l = omega (arith, c.each j l, few-in j l)

-- so a byte has room for one more
pub raised-small : (k : ℕ) (n : List ℕ) → Few n → raised_in k n ≡ raised_at k n
raised-small k n f =
    split (ltb k 128) (λ b. let l = f k (ltb-true k 128 b) in rw (lt-ltb (get_or n k 0) 255 (omega arith))) (λ b. rw b)
