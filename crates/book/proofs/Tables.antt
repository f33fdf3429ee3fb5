-- The table of files: the row of a file, the first free one, and the law of a book with another table.
use Prim.Native.Nat.{◌%◌, ◌+◌, ◌-◌, ◌<◌, suc, zero, ℕ, ◌≤◌}
use Rattle.std.specs.Prelude.{Some}
use mathlib.Core.Bool.{Bool, cond, false, not, true}
use mathlib.Core.List.{List, [], ◌∷◌}
use mathlib.Core.Logic.{◌⊎◌, ⊎_elim}
use mathlib.Core.Path.{ap, refl, sym, ◌∙◌, ◌≡◌}
use native.Mathlib.Nat.{mod-eq_of_lt}
use native.Mathlib.Numerals.{add-one}
use Rattle.std.proofs.Common.{zero-add}
use native.Mathlib.Omega.{arith}
use lib.Dec.{ltb}
use lib.ListN.{get_or-eq_default, get_or, length, length-set, replicate, set}
use borrow.Author.Tests.{ltb-false, ltb-true}
use Rattle.std.proofs.lemmas.List.Recursion.{is_count_by}
use Rattle.std.proofs.lemmas.Iterator.Adapters.{position_from-zero}
use Rattle.std.specs.List.{count_by, position, position_from}
use Rattle.book.proofs.Laws.{lawful-of}
use Rattle.book.specs.Book.{Lawful, Limits, book_of, created_at, free_kind, is_made, kind, kind_of, no_kind, no_kinds, with_kind, with_kinds}
use Rattle.book.specs.declared.Book.{Book}
use Rattle.book.specs.declared.Created.{Created}
use Rattle.book.specs.declared.Kind.{Kind}
use Rattle.lists.proofs.ByPlace.{set_past}
use Rattle.lists.proofs.Tests.{clash, differ, split}
use Rattle.lists.specs.Lists.{All, count, one}

pub kind-none : (ks : List Kind) (f : ℕ) → length ks ≡ 16 → (f ≡ 0) ⊎ (16 < f) → no_kind ≡ kind_of ks f
kind-none ks zero h z = refl
kind-none ks (suc n) h z =
    ⊎_elim (λ (e : suc n ≡ 0). absurd (omega arith)) (λ (e : 16 < suc n). sym (get_or-eq_default ks no_kind {n = n} (omega arith))) z

pub kind-some : (ks : List Kind) (f r : ℕ) → r ≡ f → (f ≡ 0 → ⊥) → get_or ks (r - 1) no_kind ≡ kind_of ks f
kind-some ks zero r e h = absurd (h refl)
kind-some ks (suc n) r e h = let k : r - 1 ≡ n = omega arith in rw k

-- the row of a file that is made
pub made_row : (ks : List Kind) (f : ℕ) → (kind_of ks f).made ≡ true → (1 ≤ f) × (get_or ks (f - 1) no_kind ≡ kind_of ks f)
made_row ks zero t = clash false t refl
made_row ks (suc n) t = let m : suc n - 1 ≡ n = omega arith in (omega arith, rw m)

-- .. is one of the 16
pub made-few : (ks : List Kind) (f : ℕ) → length ks ≡ 16 → (kind_of ks f).made ≡ true → f ≤ 16
made-few ks zero h t = omega arith
made-few ks (suc n) h t =
    split (ltb n 16) (λ u. omega (arith, ltb-true n 16 u))
    (λ u. clash (get_or ks n no_kind).made t (ap (λ (k : Kind). k.made) (get_or-eq_default ks no_kind {n = n} (omega (arith, ltb-false n 16 u)))))

-- ---- the search
pub record Free (ks : List Kind) (i : ℕ) : Type 0 where
  pub inside : i < length ks
  pub free : (get_or ks i no_kind).made ≡ false

free-from : (n k : ℕ) (ks : List Kind) → free_kind n ks ≡ Some (n + k) → Free ks k
free-from n k [] e = differ (cc)
free-from n zero (x ∷ ks) e =
    split x.made (λ t. absurd (omega (arith, after (suc n) ks (n + 0) (rw t at e)))) (λ t. record { inside = omega arith; free = t })
  where
    after : (n : ℕ) (ks : List Kind) (j : ℕ) → free_kind n ks ≡ Some j → n ≤ j
    after n [] j e = differ (cc)
    after n (x ∷ ks) j e = split x.made (λ t. omega (arith, after (suc n) ks j (rw t at e))) (λ t. let f : Some n ≡ Some j = rw t at e in let m : n ≡ j = cc in omega arith)
free-from n (suc k) (x ∷ ks) e =
    split x.made
    (λ t. let f : free_kind (suc n) ks ≡ Some (n + suc k) = rw t at e in let m : n + suc k ≡ suc n + k = omega arith in
    let r = free-from (suc n) k ks (f ∙ ap Some m) in record { inside = omega (arith, r.inside); free = r.free })
    (λ t. let f : Some n ≡ Some (n + suc k) = rw t at e in let m : n ≡ n + suc k = cc in absurd (omega arith))

pub free-at : (ks : List Kind) (i : ℕ) → free_kind 0 ks ≡ Some i → Free ks i
free-at ks i e = free-from 0 i ks (e ∙ ap Some (let m : i ≡ 0 + i = omega arith in m))

-- the first that is not made, found by its place
free-place : (n : ℕ) (ks : List Kind) → position_from (λ (k : Kind). not k.made) n ks ≡ free_kind n ks
free-place n [] = refl
free-place n (k ∷ ks) =
    split k.made (λ t. rw t (ap (λ (m : ℕ). position_from (λ (x : Kind). not x.made) m ks) (add-one n) ∙ free-place (suc n) ks)) (λ t. rw t)

pub free-first : (ks : List Kind) → position (λ (k : Kind). not k.made) ks ≡ free_kind 0 ks
free-first ks = position_from-zero (λ (k : Kind). not k.made) ks ∙ free-place 0 ks

-- ---- the fresh store is lawful: the law can be met
pub fresh-law : (area : List ℕ) → length area ≡ 98048 → Lawful (book_of no_kinds []) area
unfolding no_kinds
fresh-law area h = lawful-of no_kinds [] area (omega arith) sixteen none_made h tt (λ s. omega arith)
  where
    none-limits : Limits no_kind
    none-limits = record { key = omega arith; body = omega arith }

    many : (n : ℕ) → All Limits (replicate n no_kind)
    many zero = tt
    many (suc n) = (none-limits, many n)

    none_made : All Limits no_kinds
    none_made = many 16

    sixteen : length no_kinds ≡ 16
    sixteen = refl

pub created : (b : Book) (k r i : ℕ) → i < 16 → free_kind 0 b.kinds ≡ Some i
    → ◌≡◌ {A = Created} (record { id = i % 65535 + 1; next = record { kinds = set b.kinds i (kind k r); entries = b.entries; count = b.count } }) (created_at b k r (free_kind 0 b.kinds))
created b k r i h e =
    ap (λ (n : ℕ). record { id = n + 1; next = record { kinds = set b.kinds i (kind k r); entries = b.entries; count = b.count } }) (mod-eq_of_lt (let z : i < 65535 = omega arith in z))
    ∙ sym (ap (created_at b k r) e)

-- ---- the files held

-- how many are made, counted by a chain
pub counted : (ks : List Kind) → count is_made ks ≡ count_by is_made ks
counted ks = is_count_by (count is_made) is_made refl (λ k l. step k.made (count is_made l)) ks
  where
    step : (b : Bool) (n : ℕ) → one b + n ≡ cond b (1 + n) n
    step true n = refl
    step false n = zero-add n

-- ---- another row for a file

pub row-none : (b : Book) (f : ℕ) (k : Kind) → length b.kinds ≡ 16 → (f ≡ 0) ⊎ (16 < f) → b ≡ with_kinds b (with_kind b.kinds f k)
row-none b zero k h z = refl
row-none b (suc n) k h z =
    ⊎_elim (λ (e : suc n ≡ 0). absurd (omega arith)) (λ (e : 16 < suc n). ap (with_kinds b) (sym (set_past b.kinds n k (omega arith)))) z

pub row-some : (b : Book) (f r : ℕ) (k : Kind) → r ≡ f → (f ≡ 0 → ⊥) → with_kinds b (set b.kinds (r - 1) k) ≡ with_kinds b (with_kind b.kinds f k)
row-some b zero r k e h = absurd (h refl)
row-some b (suc n) r k e h = let m : r - 1 ≡ n = omega arith in rw m

pub row-long : (ks : List Kind) (f : ℕ) (k : Kind) → length (with_kind ks f k) ≡ length ks
row-long ks zero k = refl
row-long ks (suc n) k = length-set ks n k

pub no-kinds : (ks : List Kind) → ks ≡ replicate 16 no_kind → ks ≡ no_kinds
unfolding no_kinds
no-kinds ks e = e
