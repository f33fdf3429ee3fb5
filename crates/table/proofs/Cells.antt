-- A row and its number; and what is asked of a column, row by row.
use Prim.Native.Nat.{ℕ, zero, suc, ◌+◌, ◌*◌, ◌-◌, ◌/◌, ◌%◌, ◌≤◌, ◌<◌}
use Rattle.std.specs.Prelude.{Some, None}
use mathlib.Core.Path.{◌≡◌, refl, sym, ap, ◌∙◌}
use mathlib.Core.Bool.{Bool, true, false}
use mathlib.Core.List.{List, [], ◌∷◌}
use native.Mathlib.Nat.{not-suc-le-zero}
use native.Mathlib.Omega.{arith}
use lib.Dec.{eqb, leb}
use lib.ListN.{length, get_or, set}
use lib.Seq.{get_or-set_same}
use borrow.Author.Tests.{eq-eqb, ne_eqb, eqb-true, eqb-false, leb-true, lt-ltb, le-ltb, not-false}
use Rattle.lists.specs.Lists.{one, some_of}
use Rattle.lists.specs.Lists.{find}
use Rattle.lists.specs.Arrays.{Exact}
use Rattle.lists.proofs.Tests.{split, or_no, and_yes}
use Rattle.lists.proofs.Numbers.{change-found, find-none-changed}
use Rattle.lists.proofs.Arrays.{back_one, changed-now}
use Rattle.tapa.specs.Address.{category_of}
use Rattle.table.specs.declared.Row.{Row}
use Rattle.table.specs.Table.{pack, unpack, address_at, is_at, is_open_at, marked, listed, repeats, shaped, misshapen, rows_of, Column, Narrow, Opened}

-- ---- a row and its number

same_row : (a a' : ℕ) (o o' : Bool) → a ≡ a' → o ≡ o' → ◌≡◌ {A = Row} (record { address = a; opened = o }) (record { address = a'; opened = o' })
same_row a a' o o' p q = cc

pub row_back : (r : Row) → unpack (pack r) ≡ r
row_back r = go r.address r.opened
  where
    go : (a : ℕ) (o : Bool) → unpack (a * 2 + one o) ≡ record { address = a; opened = o }
    go a true =
        let p : (a * 2 + 1) / 2 ≡ a = omega arith in
        let q : eqb ((a * 2 + 1) % 2) 1 ≡ true = eq-eqb ((a * 2 + 1) % 2) 1 (omega arith) in
        same_row _ _ _ _ p q
    go a false =
        let p : (a * 2 + 0) / 2 ≡ a = omega arith in
        let z : (a * 2 + 0) % 2 ≡ 0 = omega arith in
        let q : eqb ((a * 2 + 0) % 2) 1 ≡ false = ne_eqb ((a * 2 + 0) % 2) 1 (λ (e : (a * 2 + 0) % 2 ≡ 1). omega arith) in
        same_row _ _ _ _ p q

pub exact : (x : ℕ) → Exact pack unpack x
exact x =
    split (eqb (x % 2) 1) (λ e. rw e (omega (arith, eqb-true (x % 2) 1 e))) (λ e. rw e (omega (arith, eqb-false (x % 2) 1 e)))

-- an open row's number is odd
pub open_at : (x h : ℕ) → x ≡ h * 2 + 1 → is_open_at h (unpack x) ≡ true
open_at x h e = rw (eq-eqb (x / 2) h (omega arith), eq-eqb (x % 2) 1 (omega arith))

pub not-open-at : (x h : ℕ) → (x ≡ h * 2 + 1 → ⊥) → is_open_at h (unpack x) ≡ false
not-open-at x h n =
    split (eqb (x / 2) h)
    (λ e. rw (e, ne_eqb (x % 2) 1 (λ f. n (omega (arith, eqb-true (x / 2) h e)))))
    (λ e. rw e)

-- ---- the address of a row

-- '0202' open, '0700' closed, and no third row
pub address-written : (address_at (0x0405 ∷ 0x0E00 ∷ []) 0 ≡ 0x0202) × (address_at (0x0405 ∷ 0x0E00 ∷ []) 1 ≡ 0x0700) × (address_at (0x0405 ∷ 0x0E00 ∷ []) 2 ≡ 0)
address-written = (refl, refl, refl)

-- the address that a row was put there with
pub address-back : (c : List ℕ) (i : ℕ) (r : Row) → i < 16 → i < length c → r.address < 0x10000 → address_at (set c i (pack r)) i ≡ r.address
address-back c i r f k l =
    rw (lt-ltb i 16 f, get_or-set_same c i (pack r) 0 k)
    (let p : pack r / 2 ≡ r.address = ap (λ (x : Row). x.address) (row_back r) in
    omega (arith, p))

-- of narrow rows it is the address that they hold
pub address-held : (c : List ℕ) (n i : ℕ) → Narrow c n → i < n → address_at c i ≡ get_or c i 0 / 2
address-held c n i w k = rw (lt-ltb i 16 (omega (arith, w.few))) (omega (arith, w.narrow i k))

pub address-past : (c : List ℕ) (i : ℕ) → 16 ≤ i → address_at c i ≡ 0
address-past c i k = rw (le-ltb i 16 k)

-- ---- repeats, on the way down

module _ (c : List ℕ) (i : ℕ) (pos : 0 < i) where
  module _ (a : ℕ) (k : a ≡ get_or c (i - 1) 0 / 2) where
    pub repeat-here : {r : Bool} → repeats (rows_of c i) ≡ r → listed a (rows_of c (i - 1)) ≡ true → true ≡ r
    repeat-here e t = sym (ap repeats (back_one unpack c i pos) ∙ rw (rw k at t)) ∙ e

    pub repeat_past : {r : Bool} → repeats (rows_of c i) ≡ r → listed a (rows_of c (i - 1)) ≡ false → repeats (rows_of c (i - 1)) ≡ r
    repeat_past e t = sym (ap repeats (back_one unpack c i pos) ∙ rw (rw k at t)) ∙ e

-- ---- rows that are shaped have addresses of two bytes

shaped-small : (a : ℕ) → shaped a ≡ true → a < 0x10000
unfolding shaped category_of
shaped-small a e = omega (arith, leb-true (a / 256) 7 (and_yes (leb (a / 256) 7) _ e).0)

pub narrow : (c : List ℕ) (n : ℕ) → n ≤ 16 → some_of misshapen (rows_of c n) ≡ false → Narrow c n
narrow c n l e = record { few = l; narrow = go n e }
  where
    go : (m : ℕ) → some_of misshapen (rows_of c m) ≡ false → (j : ℕ) → j < m → get_or c j 0 / 2 < 0x10000
    go zero f j h = absurd (not-suc-le-zero h)
    go (suc m) f j h =
        let p = or_no (misshapen (unpack (get_or c m 0))) (some_of misshapen (rows_of c m)) f in
        split (eqb j m)
        (λ q. rw (eqb-true j m q) (shaped-small (get_or c m 0 / 2) (not-false (shaped (get_or c m 0 / 2)) p.0)))
        (λ q. go m p.1 j (omega (arith, eqb-false j m q)))

-- ---- a mark that is set

pub opens : (c : List ℕ) (n h : ℕ) (b : Bool) (i v : ℕ) → Column c n → i < n → find (is_at h) (rows_of c n) ≡ Some i → get_or c i 0 / 2 ≡ h
    → v ≡ pack (record { address = h; opened = b }) → Opened c (set c i v) n h b
opens c n h b i v w k f e p =
    let back : unpack v ≡ record { address = h; opened = b } = ap unpack p ∙ row_back (record { address = h; opened = b }) in
    let same : unpack v ≡ marked b (unpack (get_or c i 0)) = back ∙ ap (λ (a : ℕ). record { address = a; opened = b }) (sym e) in
    let z = changed-now 16 pack unpack c n w (marked b) i v k (exact v) same in
    record { holds = z.holds ∙ change-found (marked b) (is_at h) (rows_of c n) i f; law = z.law }

pub opens-none : (c : List ℕ) (n h : ℕ) (b : Bool) → Column c n → find (is_at h) (rows_of c n) ≡ None → Opened c c n h b
opens-none c n h b w f = record { holds = sym (find-none-changed (marked b) (is_at h) (rows_of c n) f); law = w }
