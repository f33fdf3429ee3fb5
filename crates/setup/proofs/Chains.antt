-- A chain over the cells in use, or over the numbers of the rows, gives what the list of rows gives.
use Rattle.std.proofs.Common.{ℕ, zero, suc, ◌≡◌, ◌+◌, ◌<◌, ◌≤◌, ◌/◌, Bool, true, false, ◌||◌, cond, List, [], ◌∷◌, ◌++◌, length, take, get_or, refl, ap, ◌∙◌, arith, add-zero, zero-add, length-append}
use Rattle.std.specs.List.{filter, list_any, range_with_len}
use Rattle.std.proofs.lemmas.List.Folds.{list_any-append}
use Rattle.std.proofs.lemmas.List.Elements.{filter-append}
use Rattle.std.proofs.Math.Seq.{take-suc}
use Rattle.lists.specs.Lists.{one, some_of, count}
use Rattle.table.specs.declared.Row.{Row}
use Rattle.table.specs.Table.{unpack, address_at, listed, repeats, rows_of}

last_first : (a b : Bool) → (a || (b || false)) ≡ (b || a)
last_first true true = refl
last_first true false = refl
last_first false true = refl
last_first false false = refl

-- a test of the cells in use
pub any-cells : (p : ℕ → Bool) (q : Row → Bool) → ((x : ℕ) → p x ≡ q (unpack x)) → (l : List ℕ) (n : ℕ) → n ≤ length l → list_any p (take n l) ≡ some_of q (rows_of l n)
any-cells p q s l zero h = refl
any-cells p q s l (suc n) h =
    rw (take-suc l n 0 (omega arith), list_any-append p (take n l) (get_or l n 0 ∷ []), any-cells p q s l n (omega arith), s (get_or l n 0))
    (last_first (some_of q (rows_of l n)) (q (unpack (get_or l n 0))))

-- the numbers below n, and one more
numbers_more : (a n : ℕ) → range_with_len a (suc n) ≡ range_with_len a n ++ ((a + n) ∷ [])
numbers_more a zero = rw (add-zero a)
numbers_more a (suc n) =
    let e : a + 1 + n ≡ a + suc n = omega arith in
    ap {B = List ℕ} (λ l. a ∷ l) (numbers_more (a + 1) n ∙ ap {B = List ℕ} (λ k. range_with_len (a + 1) n ++ (k ∷ [])) e)

module _ (c : List ℕ) where
  -- whether a row's address stands in an older one
  abbrev pub older : ℕ → Bool
  older i = listed (address_at c i) (rows_of c i)

  pub any-older : (n : ℕ) → ((j : ℕ) → j < n → address_at c j ≡ get_or c j 0 / 2)
      → list_any older (range_with_len 0 n) ≡ repeats (rows_of c n)
  any-older zero h = refl
  any-older (suc n) h =
      ap (list_any older) (numbers_more 0 n)
      ∙ list_any-append older (range_with_len 0 n) ((0 + n) ∷ [])
      ∙ rw (any-older n (λ j k. h j (omega arith)), zero-add n, h n (omega arith)) (last_first (repeats (rows_of c n)) (listed (get_or c n 0 / 2) (rows_of c n)))

  -- how many rows pass a test, by their numbers
  pub count-numbers : (p : ℕ → Bool) (q : Row → Bool) (n : ℕ) → ((j : ℕ) → j < n → p j ≡ q (unpack (get_or c j 0)))
      → length (filter p (range_with_len 0 n)) ≡ count q (rows_of c n)
  count-numbers p q zero h = refl
  count-numbers p q (suc n) h =
      ap (λ (l : List ℕ). length (filter p l)) (numbers_more 0 n)
      ∙ ap length (filter-append p (range_with_len 0 n) ((0 + n) ∷ []))
      ∙ length-append (filter p (range_with_len 0 n)) (filter p ((0 + n) ∷ []))
      ∙ rw (zero-add n, count-numbers p q n (λ j k. h j (omega arith)), h n (omega arith)) (go (q (unpack (get_or c n 0))) (count q (rows_of c n)))
    where
      go : (b : Bool) (m : ℕ) → m + length (cond b (n ∷ []) []) ≡ one b + m
      go true m = omega arith
      go false m = omega arith
