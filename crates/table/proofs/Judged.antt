-- The outcomes of a table's checks, each from the tests that lead to it; and what an accepted table is.
use Prim.Native.Nat.{ℕ, ◌+◌, ◌*◌, ◌/◌, ◌%◌, ◌≤◌, ◌<◌}
use Rattle.std.specs.Prelude.{Result, Ok, Err, ⊤}
use mathlib.Core.Path.{◌≡◌, refl, sym, ap, ◌∙◌}
use mathlib.Core.Bool.{Bool, true, false, not, ◌&&◌, ◌||◌, cond, and-false}
use mathlib.Core.List.{List, [], ◌∷◌, reverse}
use native.Mathlib.Omega.{arith}
use lib.Dec.{eqb, leb, ltb}
use lib.ListN.{length, length-reverse}
use borrow.Author.Tests.{lt-ltb, le-ltb, ltb-false, leb-true, lt-leb, eqb-true, eq-eqb, ne_eqb, not-false}
use Rattle.lists.specs.Lists.{one, count, some_of, All}
use Rattle.lists.proofs.Tests.{or_no}
use Rattle.lists.proofs.Counts.{none-zero, zero-none, some-reverse, count-reverse}
use Rattle.tapa.specs.Address.{category_of, sub_address_of, handler_of}
use Rattle.tapa.specs.Codes.{event_handler}
use Rattle.tapa.specs.Said.{refused, says, accepted as accepted_word}
use Rattle.tapa.specs.declared.Refusal.{Refusal}
use Rattle.tapa.specs.declared.Refusal.TheVariants.{RowCountOrShape, Repeat, TooManyMulti}
use Rattle.table.specs.declared.Row.{Row}
use Rattle.table.specs.Said.{said_checked}
use Rattle.table.specs.Table.{is_at, listed, shaped, misshapen, is_multi, repeats, judge_table, Proper}

module _ (rows : List Row) where
  pub judge-none : length rows < 1 → judge_table rows ≡ Err RowCountOrShape
  unfolding judge_table
  judge-none h = rw (lt-ltb (length rows) 1 h)

  pub judge-many : 16 < length rows → judge_table rows ≡ Err RowCountOrShape
  unfolding judge_table
  judge-many h = rw (le-ltb (length rows) 1 (omega arith), lt-ltb 16 (length rows) h)

  module _ (some : 1 ≤ length rows) (few : length rows ≤ 16) where
    pub judge-shape : some_of misshapen rows ≡ true → judge_table rows ≡ Err RowCountOrShape
    unfolding judge_table
    judge-shape e = rw (le-ltb (length rows) 1 some, le-ltb 16 (length rows) few, e)

    module _ (shapes : some_of misshapen rows ≡ false) where
      pub judge-repeat : repeats rows ≡ true → judge_table rows ≡ Err Repeat
      unfolding judge_table
      judge-repeat e = rw (le-ltb (length rows) 1 some, le-ltb 16 (length rows) few, shapes, e)

      module _ (once : repeats rows ≡ false) where
        pub judge-multi : 4 < count is_multi rows → judge_table rows ≡ Err TooManyMulti
        unfolding judge_table
        judge-multi h = rw (le-ltb (length rows) 1 some, le-ltb 16 (length rows) few, shapes, once, lt-ltb 4 (count is_multi rows) h)

        pub judge-accepted : count is_multi rows ≤ 4 → judge_table rows ≡ Ok tt
        unfolding judge_table
        judge-accepted h = rw (le-ltb (length rows) 1 some, le-ltb 16 (length rows) few, shapes, once, le-ltb 4 (count is_multi rows) h)

-- ---- the same in the page's numbers: 'row count, then each row's shape (11), repeats (12), multi count (13)'

-- 'category at most 7; sub-address at most 127; category 07 only as '0700''
pub category-over : (a : ℕ) → 7 < category_of a → shaped a ≡ false
unfolding shaped
category-over a h = rw (lt-leb (category_of a) 7 h)

pub sub-address-over : (a : ℕ) → 127 < sub_address_of a → shaped a ≡ false
unfolding shaped
sub-address-over a h = rw (lt-leb (sub_address_of a) 127 h, and-false)

pub other-event-address : (a : ℕ) → category_of a ≡ 7 → (a ≡ 0x0700 → ⊥) → shaped a ≡ false
unfolding shaped
other-event-address a e n = rw (eq-eqb (category_of a) 7 e, ne_eqb a 0x0700 n, and-false, and-false)

module _ (rows : List Row) where
  pub says_none : length rows < 1 → said_checked (judge_table rows) ≡ refused 11
  says_none h = ap said_checked (judge-none rows h)

  pub says-many : 16 < length rows → said_checked (judge_table rows) ≡ refused 11
  says-many h = ap said_checked (judge-many rows h)

  module _ (some : 1 ≤ length rows) (few : length rows ≤ 16) where
    pub says-shape : some_of misshapen rows ≡ true → said_checked (judge_table rows) ≡ refused 11
    says-shape e = ap said_checked (judge-shape rows some few e)

    module _ (shapes : some_of misshapen rows ≡ false) where
      pub says-repeat : repeats rows ≡ true → said_checked (judge_table rows) ≡ refused 12
      says-repeat e = ap said_checked (judge-repeat rows some few shapes e)

      module _ (once : repeats rows ≡ false) where
        pub says-multi : 4 < count is_multi rows → said_checked (judge_table rows) ≡ refused 13
        says-multi h = ap said_checked (judge-multi rows some few shapes once h)

        pub says-accepted : count is_multi rows ≤ 4 → said_checked (judge_table rows) ≡ says accepted_word []
        says-accepted h = ap said_checked (judge-accepted rows some few shapes once h)

-- ---- repeats are counts over one

pub once : (rows : List Row) → repeats rows ≡ false → (h : ℕ) → count (is_at h) rows ≤ 1
once [] e h = omega arith
once (r ∷ rows) e h =
    let p = or_no (listed r.address rows) (repeats rows) e in
    go (eqb r.address h) refl (once rows p.1 h) p.0
  where
    go : (b : Bool) → eqb r.address h ≡ b → count (is_at h) rows ≤ 1 → listed r.address rows ≡ false → one b + count (is_at h) rows ≤ 1
    go true f l n = omega (arith, none-zero (is_at h) rows (rw (sym (eqb-true r.address h f)) n))
    go false f l n = omega arith

pub apart : (rows : List Row) → ((h : ℕ) → count (is_at h) rows ≤ 1) → repeats rows ≡ false
apart [] l = refl
apart (r ∷ rows) l =
    let here : one (eqb r.address r.address) + count (is_at r.address) rows ≤ 1 = l r.address in
    let none : count (is_at r.address) rows ≡ 0 = omega (arith, rw (eq-eqb r.address r.address refl) at here) in
    rw (zero-none (is_at r.address) rows none) (apart rows (λ h. omega (arith, l h)))

-- two lists in which each handler stands as often have repeats both or neither
pub repeats-same : (l m : List Row) → ((h : ℕ) → count (is_at h) l ≡ count (is_at h) m) → repeats l ≡ repeats m
repeats-same l m same = go (repeats l) (repeats m) refl refl
  where
    go : (x y : Bool) → repeats l ≡ x → repeats m ≡ y → repeats l ≡ repeats m
    go true true e f = e ∙ sym f
    go false false e f = e ∙ sym f
    go true false e f = apart l (λ h. omega (arith, same h, once m f h)) ∙ sym f
    go false true e f = e ∙ sym (apart m (λ h. omega (arith, same h, once l e h)))

-- ---- what an accepted table is

pub shaped-all : (rows : List Row) → some_of misshapen rows ≡ false → All (λ (r : Row). shaped r.address ≡ true) rows
shaped-all [] e = tt
shaped-all (r ∷ rows) e =
    let p = or_no (misshapen r) (some_of misshapen rows) e in
    (not-false (shaped r.address) p.0, shaped-all rows p.1)

pub all-shaped : (rows : List Row) → All (λ (r : Row). shaped r.address ≡ true) rows → some_of misshapen rows ≡ false
all-shaped [] a = refl
all-shaped (r ∷ rows) a = rw a.0 (all-shaped rows a.1)

never : (f : Bool) (r : Result ⊤ Refusal) (rest : Result ⊤ Refusal) → (r ≡ Ok tt → ⊥) → cond f r rest ≡ Ok tt → (f ≡ false) × (rest ≡ Ok tt)
never true r rest n e = absurd (n e)
never false r rest n e = (refl, e)

not-accepted : (r : Refusal) → ◌≡◌ {A = Result ⊤ Refusal} (Err r) (Ok tt) → ⊥
not-accepted r e = let z : ◌≡◌ {A = ℕ} 0 1 = cc in omega arith

-- an accepted table has a row
pub has-row : (rows : List Row) → judge_table rows ≡ Ok tt → 1 ≤ length rows
unfolding judge_table
has-row rows e =
    let a = never (ltb (length rows) 1 || ltb 16 (length rows)) _ _ (not-accepted RowCountOrShape) e in
    ltb-false (length rows) 1 (or_no (ltb (length rows) 1) (ltb 16 (length rows)) a.0).0

pub none-proper : Proper []
none-proper = record { few = omega arith; shapes = tt; once = λ h. omega arith; multis = omega arith }

-- and is proper
pub accepted : (rows : List Row) → judge_table rows ≡ Ok tt → Proper rows
unfolding judge_table
accepted rows e =
    let a = never (ltb (length rows) 1 || ltb 16 (length rows)) _ _ (not-accepted RowCountOrShape) e in
    let b = never (some_of misshapen rows) _ _ (not-accepted RowCountOrShape) a.1 in
    let c = never (repeats rows) _ _ (not-accepted Repeat) b.1 in
    let d = never (ltb 4 (count is_multi rows)) _ _ (not-accepted TooManyMulti) c.1 in
    let n = or_no (ltb (length rows) 1) (ltb 16 (length rows)) a.0 in
    record {
      few = ltb-false 16 (length rows) n.1;
      shapes = shaped-all rows b.0;
      once = once rows c.0;
      multis = ltb-false 4 (count is_multi rows) d.0;
    }

pub proper : (rows : List Row) → 1 ≤ length rows → Proper rows → judge_table rows ≡ Ok tt
proper rows l p = judge-accepted rows l p.few (all-shaped rows p.shapes) (apart rows p.once) p.multis

-- a row of such a table names its handler
pub shaped-handler : (a : ℕ) → shaped a ≡ true → handler_of a ≡ a
unfolding shaped sub_address_of handler_of
shaped-handler a e = go (leb (category_of a) 7) (leb (a % 256) 127) refl e
  where
    go : (x y : Bool) → leb (a % 256) 127 ≡ y → x && (y && (not (eqb (category_of a) 7) || eqb a event_handler)) ≡ true → a / 256 * 256 + a % 256 % 128 ≡ a
    go true true f g = omega (arith, leb-true (a % 256) 127 f)
    go true false f g = absurd (let z : ◌≡◌ {A = ℕ} 0 1 = cc in omega arith)
    go false y f g = absurd (let z : ◌≡◌ {A = ℕ} 0 1 = cc in omega arith)

-- ---- the order of the rows does not matter

pub judge-reverse : (rows : List Row) → judge_table (reverse rows) ≡ judge_table rows
unfolding judge_table
judge-reverse rows =
    rw (length-reverse rows, some-reverse misshapen rows, repeats-same (reverse rows) rows (λ h. count-reverse (is_at h) rows), count-reverse is_multi rows)
