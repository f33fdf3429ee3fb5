-- Sums at the desk, C12: 'four multi rows: accepted; five: 13.'
use Prim.Native.Nat.{ℕ, ◌≤◌, ◌<◌}
use Rattle.std.specs.Prelude.{Ok, Err}
use mathlib.Core.Path.{◌≡◌, refl}
use mathlib.Core.Bool.{true}
use mathlib.Core.List.{List, [], ◌∷◌}
use lib.ListN.{length}
use Rattle.lists.specs.Lists.{count, All}
use Rattle.tapa.specs.Address.{category_of, sub_address_of, multi}
use Rattle.tapa.specs.Refusals.{number_of}
use Rattle.tapa.specs.declared.Refusal.TheVariants.{TooManyMulti}
use Rattle.table.specs.declared.Row.{Row}
use Rattle.table.specs.Table.{is_at, is_multi, shaped, judge_table}
use Rattle.table.proofs.Judged.{proper, judge-multi, all-shaped, apart}

abbrev opened : ℕ → Row
opened a = record { address = a; opened = true }

pub four-multi : judge_table (opened 0x0100 ∷ opened 0x0000 ∷ opened 0x0001 ∷ opened 0x0101 ∷ opened 0x0202 ∷ []) ≡ Ok tt
unfolding judge_table shaped category_of sub_address_of multi
four-multi = refl

pub five-multi : judge_table (opened 0x0100 ∷ opened 0x0000 ∷ opened 0x0001 ∷ opened 0x0101 ∷ opened 0x0002 ∷ []) ≡ Err TooManyMulti
unfolding judge_table shaped category_of sub_address_of multi
five-multi = refl

pub thirteen : number_of TooManyMulti ≡ 13
thirteen = refl

-- and so for every table that passes the checks before
module _ (rows : List Row) (some : 1 ≤ length rows) (few : length rows ≤ 16)
    (shapes : All (λ (r : Row). shaped r.address ≡ true) rows) (once : (h : ℕ) → count (is_at h) rows ≤ 1) where
  pub up-to-four : count is_multi rows ≤ 4 → judge_table rows ≡ Ok tt
  up-to-four l = proper rows some (record { few = few; shapes = shapes; once = once; multis = l })

  pub over-four : 4 < count is_multi rows → judge_table rows ≡ Err TooManyMulti
  over-four l = judge-multi rows some few (all-shaped rows shapes) (apart rows once) l
