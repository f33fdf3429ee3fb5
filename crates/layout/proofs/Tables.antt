-- The rows of a table, looked at one by one. Assumes nothing.
use Prim.Native.Nat.{◌*◌, ◌+◌, ◌-◌, ◌<◌, suc, ℕ, ◌≤◌}
use mathlib.Core.Bool.{◌&&◌, Bool, false, true}
use mathlib.Core.List.{List}
use mathlib.Core.Path.{ap, sym, ◌∙◌, ◌≡◌}
use native.Mathlib.Omega.{arith}
use Rattle.layout.specs.Judged.{row_fits, rows_fit, table_fits}

module _ (img : List ℕ) where
  -- the rows from row i on
  abbrev pub rows_from : ℕ → Bool
  rows_from i = rows_fit img (14 + i * 3) (16 - i)

  -- all of them (the start and the number stand for 14 and 16: so large a number would be counted down here)
  pub rows_all : (at n : ℕ) → at ≡ 14 → n ≡ 16 → rows_fit img at n ≡ table_fits img
  unfolding table_fits
  rows_all at n e f = λ j. rows_fit img (e j) (f j)

  rows_step : (i : ℕ) → i < 16 → rows_from i ≡ row_fits img (14 + i * 3) && rows_from (i + 1)
  rows_step i h =
      ap (rows_fit img (14 + i * 3)) (let e : 16 - i ≡ suc (16 - (i + 1)) = omega arith in e)
      ∙ ap (λ (p : ℕ). row_fits img (14 + i * 3) && rows_fit img p (16 - (i + 1))) (let e : (14 + i * 3) + 3 ≡ 14 + (i + 1) * 3 = omega arith in e)

  pub rows_more : (i : ℕ) → i < 16 → row_fits img (14 + i * 3) ≡ true → rows_from (i + 1) ≡ rows_from i
  rows_more i h t = sym (rows_step i h ∙ ap (λ (b : Bool). b && rows_from (i + 1)) t)

  pub rows-bad : (i : ℕ) → i < 16 → row_fits img (14 + i * 3) ≡ false → rows_from i ≡ false
  rows-bad i h t = rows_step i h ∙ ap (λ (b : Bool). b && rows_from (i + 1)) t

  pub rows_end : (i : ℕ) → 16 ≤ i → rows_from i ≡ true
  rows_end i h = ap (rows_fit img (14 + i * 3)) (let e : 16 - i ≡ 0 = omega arith in e)
