-- The page's numbers of a table, written out: which addresses a row may have, whole tables with what is said of them, and a row's number.
use Prim.Native.Nat.{ℕ, ◌+◌, ◌*◌, ◌≤◌}
use mathlib.Core.Path.{◌≡◌, refl}
use mathlib.Core.Bool.{Bool, true, false}
use mathlib.Core.List.{List, [], ◌∷◌, map}
use native.Mathlib.Omega.{arith}
use borrow.Author.Tests.{le-leb, ne_eqb}
use Rattle.tapa.specs.Address.{category_of, sub_address_of, multi}
use Rattle.tapa.specs.Said.{Said, refused, says, accepted}
use Rattle.tapa.proofs.Bytes.{address}
use Rattle.table.specs.declared.Row.{Row}
use Rattle.table.specs.Said.{said_checked}
use Rattle.table.specs.Table.{shaped, judge_table, pack, unpack}

-- ---- 'category at most 7; sub-address at most 127; category 07 only as '0700''

pub shapes : map shaped (0x0000 ∷ 0x007F ∷ 0x0080 ∷ 0x0100 ∷ 0x017F ∷ 0x0180 ∷ 0x0282 ∷ 0x067F ∷ 0x0680 ∷ 0x0700 ∷ 0x0701 ∷ 0x077F ∷ 0x0780 ∷ 0x0800 ∷ 0xFF00 ∷ [])
    ≡ true ∷ true ∷ false ∷ true ∷ true ∷ false ∷ false ∷ true ∷ false ∷ true ∷ false ∷ false ∷ false ∷ false ∷ false ∷ []
unfolding shaped category_of sub_address_of
shapes = refl

-- every address of categories 0 to 6 and sub-addresses 0 to 127 is one; what is none is said in Judged
pub shaped-where : (category sub : ℕ) → category ≤ 6 → sub ≤ 127 → shaped (category * 256 + sub) ≡ true
unfolding shaped
shaped-where category sub c s =
    let a = address category sub (omega arith) in
    rw (a.0, a.1, le-leb category 7 (omega arith), le-leb sub 127 s, ne_eqb category 7 (λ e. omega arith))

-- ---- whole tables

abbrev row : ℕ → Bool → Row
row a o = record { address = a; opened = o }

abbrev opened : ℕ → Row
opened a = row a true

abbrev judged : List ℕ → Said
judged addresses = said_checked (judge_table (map opened addresses))

pub record Tables : Type 0 where
  -- '1 to 16 rows'
  pub none : judged [] ≡ refused 11
  pub one : judged (0x0100 ∷ []) ≡ says accepted []
  pub sixteen : judged (0x0000 ∷ 0x007F ∷ 0x0100 ∷ 0x0101 ∷ 0x0200 ∷ 0x0201 ∷ 0x0202 ∷ 0x0300 ∷ 0x0301 ∷ 0x0304 ∷ 0x0400 ∷ 0x0401 ∷ 0x0500 ∷ 0x0600 ∷ 0x067F ∷ 0x0700 ∷ [])
      ≡ says accepted []
  pub seventeen : judged (0x0000 ∷ 0x007F ∷ 0x0100 ∷ 0x0101 ∷ 0x0200 ∷ 0x0201 ∷ 0x0202 ∷ 0x0300 ∷ 0x0301 ∷ 0x0304 ∷ 0x0400 ∷ 0x0401 ∷ 0x0500 ∷ 0x0501 ∷ 0x0600 ∷ 0x067F ∷ 0x0700 ∷ [])
      ≡ refused 11
  -- a shape that is none, in the last row
  pub category-8 : judged (0x0100 ∷ 0x0800 ∷ []) ≡ refused 11
  pub sub-address-128 : judged (0x0100 ∷ 0x0280 ∷ []) ≡ refused 11
  pub other-event : judged (0x0100 ∷ 0x0701 ∷ []) ≡ refused 11
  -- the same address twice, whatever the marks
  pub repeated : said_checked (judge_table (row 0x0100 true ∷ row 0x0202 true ∷ row 0x0202 false ∷ [])) ≡ refused 12
  -- five multi rows, of both categories
  pub five-multi : judged (0x0000 ∷ 0x0001 ∷ 0x0100 ∷ 0x0101 ∷ 0x0102 ∷ []) ≡ refused 13
  -- 'Order of checks: row count, then each row's shape (11), repeats (12), multi count (13)'
  pub shape-first : judged (0x0100 ∷ 0x0100 ∷ 0x0800 ∷ []) ≡ refused 11
  pub repeat-apart : judged (0x0202 ∷ 0x0100 ∷ 0x0301 ∷ 0x0202 ∷ []) ≡ refused 12
  pub repeat-next : judged (0x0000 ∷ 0x0001 ∷ 0x0100 ∷ 0x0101 ∷ 0x0101 ∷ []) ≡ refused 12

pub tables : Tables
unfolding judge_table shaped category_of sub_address_of multi
tables = record {
  none = refl;
  one = refl;
  sixteen = refl;
  seventeen = refl;
  category-8 = refl;
  sub-address-128 = refl;
  other-event = refl;
  repeated = refl;
  five-multi = refl;
  shape-first = refl;
  repeat-apart = refl;
  repeat-next = refl;
}

-- ---- a row as one number, and back

pub numbers : (pack (row 0x0202 true) ≡ 0x0405) × (pack (row 0x0202 false) ≡ 0x0404) × (unpack 0x0405 ≡ row 0x0202 true) × (unpack 0x0404 ≡ row 0x0202 false)
numbers = (refl, refl, refl, refl)
