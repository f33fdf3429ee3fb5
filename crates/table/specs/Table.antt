-- The table of handlers: 'A table is rows of address and open or closed, lent by the caller and read in order.'
use Rattle.std.specs.Prelude.{ℕ, zero, suc, ◌+◌, ◌*◌, ◌/◌, ◌%◌, ◌≤◌, ◌<◌, ◌≡◌, Bool, true, false, not, ◌&&◌, ◌||◌, cond, List, [], ◌∷◌, eqb, leb, ltb, length, get_or, replicate, set, take, Result, Ok, Err, ⊤}
use Rattle.tapa.specs.declared.Refusal.{Refusal}
use Rattle.lists.specs.Lists.{one, checks, count, some_of, changed, All}
use Rattle.lists.specs.Arrays.{held, Holding, Becoming}
use Rattle.tapa.specs.Address.{category_of, sub_address_of, multi}
use Rattle.tapa.specs.Codes.{event_handler}
use Rattle.tapa.specs.declared.Refusal.TheVariants.{RowCountOrShape, Repeat, TooManyMulti}
use Rattle.table.specs.declared.Row.{Row}
use Rattle.table.specs.declared.Rows.{Rows}

-- ---- what is asked of a table

-- the row of a handler
abbrev pub is_at : ℕ → Row → Bool
is_at h r = eqb r.address h

abbrev pub is_open_at : ℕ → Row → Bool
is_open_at h r = is_at h r && r.opened

-- whether a handler is in the table
abbrev pub listed : ℕ → List Row → Bool
listed h rows = some_of (is_at h) rows

-- whether a handler is in the table and open
abbrev pub opened_at : ℕ → List Row → Bool
opened_at h rows = some_of (is_open_at h) rows

-- a row with another mark
abbrev pub marked : Bool → Row → Row
marked b r = record { address = r.address; opened = b }

-- the table once a handler has become open or closed
abbrev pub set_opened : ℕ → Bool → List Row → List Row
set_opened h b rows = changed (marked b) (is_at h) rows

-- ---- acceptance

-- 'category at most 7; sub-address at most 127; category 07 only as '0700''
unfoldable pub shaped : ℕ → Bool
shaped a =
    leb (category_of a) 7
    && (leb (sub_address_of a) 127
    && (not (eqb (category_of a) 7) || eqb a event_handler))

abbrev pub misshapen : Row → Bool
misshapen r = not (shaped r.address)

abbrev pub is_multi : Row → Bool
is_multi r = multi r.address

-- whether some address stands in two rows
abbrev pub repeats : List Row → Bool
repeats [] = false
repeats (r ∷ rows) = listed r.address rows || repeats rows

-- 'Order of checks: row count, then each row's shape (11), repeats (12), multi count (13).'
unfoldable pub judge_table : List Row → Result ⊤ Refusal
judge_table rows =
    checks
    ((ltb (length rows) 1 || ltb 16 (length rows), Err RowCountOrShape)
    ∷ (some_of misshapen rows, Err RowCountOrShape)
    ∷ (repeats rows, Err Repeat)
    ∷ (ltb 4 (count is_multi rows), Err TooManyMulti)
    ∷ [])
    (Ok tt)

-- what an accepted table is, but for having a row at all: 'to 16 rows', each of them shaped, no handler twice, 'at most 4 multi rows'.
-- So the rows that a refused table leaves, none, are proper too, and the law holds of every state that a start hands back.
pub record Proper (rows : List Row) : Type 0 where
  pub few : length rows ≤ 16
  pub shapes : All (λ (r : Row). shaped r.address ≡ true) rows
  pub once : (h : ℕ) → count (is_at h) rows ≤ 1
  pub multis : count is_multi rows ≤ 4

-- ---- the column of a table that is held by value

-- a row as one number: twice its address, and one more where it is open
abbrev pub pack : Row → ℕ
pack r = r.address * 2 + one r.opened

abbrev pub unpack : ℕ → Row
unpack x = record { address = x / 2; opened = eqb (x % 2) 1 }

-- the address of row i in two bytes, as it is handed out; past the 16 cells it is 0
abbrev pub address_at : List ℕ → ℕ → ℕ
address_at c i = cond (ltb i 16) (get_or c i 0 / 2 % 0x10000) 0

-- the first n rows, last first
abbrev pub rows_of : List ℕ → ℕ → List Row
rows_of c n = held unpack c n

-- the law of a column: sixteen cells, of which those past the rows are zeros
abbrev pub Column : List ℕ → ℕ → Type 0
Column c n = Holding 16 pack unpack c n

-- at most sixteen rows, whose addresses have two bytes
pub record Narrow (c : List ℕ) (n : ℕ) : Type 0 where
  pub few : n ≤ 16
  pub narrow : (j : ℕ) → j < n → get_or c j 0 / 2 < 0x10000

-- the column once a handler has become open or closed
abbrev pub Opened : List ℕ → List ℕ → ℕ → ℕ → Bool → Type 0
Opened before after n h b = Becoming 16 pack unpack after n (set_opened h b (rows_of before n))

-- ---- rows by value

abbrev pub held_rows : Rows → List Row
held_rows t = rows_of t.cells t.count

abbrev pub Held : Rows → Type 0
Held t = Column t.cells t.count

abbrev pub no_rows : Rows
no_rows = record { cells = replicate 16 0; count = 0; more = false }

-- one row more: in the next cell, or, where 16 are there, a note that there was another
unfoldable pub with_row : Rows → Row → Rows
with_row t r =
    cond (ltb t.count 16)
    (record { cells = set t.cells t.count (pack r); count = t.count + 1; more = t.more })
    (record { cells = t.cells; count = t.count; more = true })

-- what is said of rows by value: a row that found no cell is one too many
unfoldable pub judge_rows : Rows → Result ⊤ Refusal
judge_rows t = checks ((t.more, Err RowCountOrShape) ∷ []) (judge_table (held_rows t))

-- ---- reading lent rows

-- every row of a list, in order
abbrev pub with_rows : Rows → List Row → Rows
with_rows t [] = t
with_rows t (r ∷ rows) = with_rows (with_row t r) rows

abbrev pub rows_read : List Row → Rows
rows_read rows = with_rows no_rows rows

-- the same said at once: the numbers of the first k rows, filled up
abbrev pub column : ℕ → List Row → List ℕ
column zero rows = []
column (suc k) [] = 0 ∷ column k []
column (suc k) (r ∷ rows) = pack r ∷ column k rows

-- the first sixteen rows, how many they are, and whether there are more
abbrev pub first_rows : List Row → Rows
first_rows rows = record {
  cells = column 16 rows;
  count = length (take 16 rows);
  more = ltb 16 (length rows);
}

-- ---- what set-up keeps

-- an accepted table is kept, a refused one leaves no rows
abbrev pub kept_by : Result ⊤ Refusal → Rows → Rows
kept_by (Ok tt) t = t
kept_by (Err r) t = no_rows
