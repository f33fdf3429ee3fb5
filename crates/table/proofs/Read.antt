-- Rows that are read one by one: what is held then, and that the table is judged as the list of all lent rows.
use Prim.Native.Nat.{ℕ, zero, suc, ◌+◌, ◌≤◌, ◌<◌}
use Rattle.tapa.specs.declared.Refusal.{Refusal}
use Rattle.std.specs.Prelude.{Result, Ok, Err, ⊤}
use mathlib.Core.Path.{◌≡◌, refl, sym, ap, ◌∙◌}
use mathlib.Core.Bool.{Bool, true, false}
use mathlib.Core.List.{List, [], ◌∷◌, ◌++◌, reverse_aux, reverse, append-nil}
use native.Mathlib.Nat.{not-suc-le-zero, le_of_suc-le-suc}
use native.Mathlib.Omega.{arith}
use lib.Dec.{ltb}
use lib.ListN.{length, take, set, length-append}
use lib.Seq.{append_snoc, take_all, length-take-le}
use borrow.Author.Tests.{ltb-true, ltb-false, lt-ltb, le-ltb}
use Rattle.lists.proofs.Tests.{split, differ}
use Rattle.lists.proofs.Arrays.{push-room, none-held as nothing}
use Rattle.tapa.specs.Said.{refused}
use Rattle.tapa.specs.declared.Refusal.TheVariants.{RowCountOrShape}
use Rattle.table.specs.declared.Row.{Row}
use Rattle.table.specs.declared.Rows.{Rows}
use Rattle.table.specs.Said.{said_checked}
use Rattle.table.specs.Table.{pack, unpack, Proper, held_rows, Held, no_rows, with_row, with_rows, rows_read, column, first_rows, judge_table, judge_rows, kept_by}
use Rattle.table.proofs.Cells.{row_back, exact}
use Rattle.table.proofs.Judged.{judge-many, judge-reverse, accepted, none-proper}

-- ---- one row more

pub with-held : (t : Rows) (r : Row) → Held t → Held (with_row t r)
unfolding with_row
with-held t r h =
    split (ltb t.count 16)
    (λ e. rw e (push-room 16 pack unpack t.cells t.count h r (pack r) (ltb-true t.count 16 e) refl (row_back r)).law)
    (λ e. rw e h)

module _ (t : Rows) (r : Row) (few : t.count < 16) where
  with_rows_lem : Held t → held_rows (with_row t r) ≡ r ∷ held_rows t
  unfolding with_row
  with_rows_lem h =
      rw (lt-ltb t.count 16 few)
      (push-room 16 pack unpack t.cells t.count h r (pack r) few refl (row_back r)).holds

  with-count : (with_row t r).count ≡ t.count + 1
  unfolding with_row
  with-count = rw (lt-ltb t.count 16 few)

  with-more : (with_row t r).more ≡ t.more
  unfolding with_row
  with-more = rw (lt-ltb t.count 16 few)

full-more : (t : Rows) (r : Row) → 16 ≤ t.count → (with_row t r).more ≡ true
unfolding with_row
full-more t r full = rw (le-ltb t.count 16 full)

-- ---- many rows

read-few : (ys : List Row) (t : Rows) → Held t → t.more ≡ false → t.count + length ys ≤ 16
    → (held_rows (with_rows t ys) ≡ reverse_aux ys (held_rows t)) × ((with_rows t ys).more ≡ false)
read-few [] t h m l = (refl, m)
read-few (r ∷ ys) t h m l =
    let k : t.count < 16 = omega arith in
    let p = read-few ys (with_row t r) (with-held t r h) (with-more t r k ∙ m) (omega (arith, with-count t r k)) in
    (p.0 ∙ ap (reverse_aux ys) (with_rows_lem t r k h), p.1)

-- a row too many is not forgotten
more_stays : (ys : List Row) (t : Rows) → t.more ≡ true → (with_rows t ys).more ≡ true
more_stays [] t m = m
more_stays (r ∷ ys) t m = more_stays ys (with_row t r) (go (ltb t.count 16) refl)
  where
    go : (b : Bool) → ltb t.count 16 ≡ b → (with_row t r).more ≡ true
    go true e = with-more t r (ltb-true t.count 16 e) ∙ m
    go false e = full-more t r (ltb-false t.count 16 e)

read-many : (ys : List Row) (t : Rows) → t.count ≤ 16 → 16 < t.count + length ys → (with_rows t ys).more ≡ true
read-many [] t f l = absurd (omega arith)
read-many (r ∷ ys) t f l = go (ltb t.count 16) refl (read-many ys (with_row t r))
  where
    go : (b : Bool) → ltb t.count 16 ≡ b → ((with_row t r).count ≤ 16 → 16 < (with_row t r).count + length ys → (with_rows (with_row t r) ys).more ≡ true)
        → (with_rows (with_row t r) ys).more ≡ true
    go true e ih =
        let k = ltb-true t.count 16 e in
        ih (omega (arith, with-count t r k)) (omega (arith, with-count t r k))
    go false e ih = more_stays ys (with_row t r) (full-more t r (ltb-false t.count 16 e))

-- ---- lent rows

pub withs-held : (ys : List Row) (t : Rows) → Held t → Held (with_rows t ys)
withs-held [] t h = h
withs-held (r ∷ ys) t h = withs-held ys (with_row t r) (with-held t r h)

pub none-held : Held no_rows
none-held = (nothing 16 pack unpack (exact 0)).law

pub read_held : (rows : List Row) → Held (rows_read rows)
read_held rows = withs-held rows no_rows none-held

-- up to sixteen rows are held, the last first
pub read-rows : (rows : List Row) → length rows ≤ 16 → held_rows (rows_read rows) ≡ reverse rows
read-rows rows l = (read-few rows no_rows none-held refl (omega arith)).0

-- the rows are judged as the list of all lent rows is
pub judge-read : (rows : List Row) → judge_rows (rows_read rows) ≡ judge_table rows
unfolding judge_rows
judge-read rows = go (ltb 16 (length rows)) refl
  where
    go : (b : Bool) → ltb 16 (length rows) ≡ b → judge_rows (rows_read rows) ≡ judge_table rows
    go true e =
        let l = ltb-true 16 (length rows) e in
        rw (read-many rows no_rows (omega arith) (omega arith)) (sym (judge-many rows l))
    go false e =
        let l = ltb-false 16 (length rows) e in
        rw ((read-few rows no_rows none-held refl (omega arith)).1, read-rows rows l) (judge-reverse rows)

-- rows that are accepted are a table
pub rows-proper : (t : Rows) → judge_rows t ≡ Ok tt → Proper (held_rows t)
unfolding judge_rows
rows-proper t e =
    split t.more (λ p. let z : Err RowCountOrShape ≡ Ok tt = rw p at e in differ (cc)) (λ p. accepted (held_rows t) (rw p at e))

-- a row too many is a wrong row count
pub says-more : (t : Rows) → t.more ≡ true → said_checked (judge_rows t) ≡ refused 11
unfolding judge_rows
says-more t e = rw e

-- what set-up keeps of rows is a table or none at all, and held
pub kept-proper : (t : Rows) → Proper (held_rows (kept_by (judge_rows t) t))
kept-proper t = go (judge_rows t) refl
  where
    go : (c : Result ⊤ Refusal) → judge_rows t ≡ c → Proper (held_rows (kept_by c t))
    go (Ok tt) e = rows-proper t e
    go (Err r) e = none-proper

pub kept-held : (t : Rows) → Held t → Held (kept_by (judge_rows t) t)
kept-held t h = go (judge_rows t)
  where
    go : (c : Result ⊤ Refusal) → Held (kept_by c t)
    go (Ok tt) = h
    go (Err r) = none-held

-- ---- the same said at once

column-more : (k : ℕ) (zs : List Row) (r : Row) → length zs < k → set (column k zs) (length zs) (pack r) ≡ column k (zs ++ (r ∷ []))
column-more zero zs r l = absurd (not-suc-le-zero l)
column-more (suc k) [] r l = refl
column-more (suc k) (z ∷ zs) r l = ap {B = List ℕ} (λ ys. pack z ∷ ys) (column-more k zs r (le_of_suc-le-suc l))

column-full : (k : ℕ) (zs : List Row) (r : Row) → k ≤ length zs → column k (zs ++ (r ∷ [])) ≡ column k zs
column-full zero zs r l = refl
column-full (suc k) [] r l = absurd (not-suc-le-zero l)
column-full (suc k) (z ∷ zs) r l = ap {B = List ℕ} (λ ys. pack z ∷ ys) (column-full k zs r (le_of_suc-le-suc l))

together : (c c' : List ℕ) (n n' : ℕ) (m m' : Bool) → c ≡ c' → n ≡ n' → m ≡ m'
    → ◌≡◌ {A = Rows} (record { cells = c; count = n; more = m }) (record { cells = c'; count = n'; more = m' })
together c c' n n' m m' p s u = cc

-- the first rows of a list and one row more
first_more : (zs : List Row) (r : Row) → with_row (first_rows zs) r ≡ first_rows (zs ++ (r ∷ []))
unfolding with_row
first_more zs r =
    split (ltb (length zs) 16)
    (λ e. let l : length zs < 16 = ltb-true (length zs) 16 e in
    let c : length (take 16 zs) ≡ length zs = ap length (take_all 16 zs (omega arith)) in
    let d : length (take 16 (zs ++ (r ∷ []))) ≡ length zs + 1 = ap length (take_all 16 (zs ++ (r ∷ [])) (omega (arith, n))) ∙ n in
    rw (c, e)
    (together _ _ _ _ _ _ (column-more 16 zs r l) (sym d)
    (le-ltb 16 (length zs) (omega arith) ∙ sym (le-ltb 16 (length (zs ++ (r ∷ []))) (omega (arith, n))))))
    (λ e. let l : 16 ≤ length zs = ltb-false (length zs) 16 e in
    let c : length (take 16 zs) ≡ 16 = length-take-le 16 zs l in
    let d : length (take 16 (zs ++ (r ∷ []))) ≡ 16 = length-take-le 16 (zs ++ (r ∷ [])) (omega (arith, n)) in
    rw c
    (together _ _ _ _ _ _ (sym (column-full 16 zs r l)) (sym d)
    (sym (lt-ltb 16 (length (zs ++ (r ∷ []))) (omega (arith, n))))))
  where
    n : length (zs ++ (r ∷ [])) ≡ length zs + 1
    n = length-append zs (r ∷ [])

first-all : (zs ys : List Row) → with_rows (first_rows zs) ys ≡ first_rows (zs ++ ys)
first-all zs [] = ap first_rows (sym (append-nil zs))
first-all zs (r ∷ ys) = ap (λ (t : Rows). with_rows t ys) (first_more zs r) ∙ first-all (zs ++ (r ∷ [])) ys ∙ ap first_rows (append_snoc zs r ys)

-- the rows that were read are the first sixteen lent rows, with their number and whether there were more
pub read_first : (rows : List Row) → rows_read rows ≡ first_rows rows
read_first rows = first-all [] rows

-- reading one row more
pub read_next : (rows : List Row) (r : Row) → with_row (rows_read rows) r ≡ rows_read (rows ++ (r ∷ []))
read_next rows r = ap (λ (t : Rows). with_row t r) (read_first rows) ∙ first_more rows r ∙ sym (read_first (rows ++ (r ∷ [])))
