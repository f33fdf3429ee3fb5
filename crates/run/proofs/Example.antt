-- Session files written out in bytes, and their runs: what each field hands on, and in which order the checks come. Assumes nothing.
use Prim.Native.Nat.{ℕ, ◌≤◌, ◌<◌}
use mathlib.Core.Path.{◌≡◌, refl}
use mathlib.Core.List.{List, [], ◌∷◌, ◌++◌}
use lib.ListN.{length}
use borrow.Author.Tests.{lt-ltb, le-ltb}
use Rattle.tapa.specs.Address.{category_of, sub_address_of, handler_of, multi}
use Rattle.tapa.specs.declared.Refusal.TheVariants.{RowCountOrShape, Repeat}
use Rattle.known_types.specs.Types.{own, common}
use Rattle.message.specs.Message.{read_of, part_of, code_of}
use Rattle.table.specs.Table.{shaped, judge_table}
use Rattle.rules.specs.Judge.{busy, judge_command, judge_kind, judge_read, judge_message, yields, judge_give_up, judge_replaced}
use Rattle.rules.specs.declared.Outcome.TheVariants.{Passed, Given, Reset}
use Rattle.fields.specs.Fields.{file_of, row_of, step_of, script_of}
use Rattle.run.specs.declared.Item.TheVariants.{Came, Over, Broken, Refused, TooLong}
use Rattle.run.specs.Run.{no_reply, script_items, run_of}

-- ---- the fields, in bytes

-- the rows '0100' and '0202', both open
abbrev kiosk : List ℕ
kiosk = 0x01 ∷ 0x00 ∷ 0x03 ∷ 0x01 ∷ 0x00 ∷ 0x01 ∷ []

abbrev reader : List ℕ
reader = 0x01 ∷ 0x00 ∷ 0x03 ∷ 0x02 ∷ 0x02 ∷ 0x01 ∷ []

-- '0100' asks '0202' on thread 3
abbrev asks : List ℕ
asks = 0x02 ∷ 0x00 ∷ 0x08 ∷ 0x02 ∷ 0x02 ∷ 0x01 ∷ 0x00 ∷ 0x45 ∷ 0x03 ∷ 0x00 ∷ 0x00 ∷ []

-- '0202' is given up on thread 3
abbrev gives : List ℕ
gives = 0x03 ∷ 0x00 ∷ 0x03 ∷ 0x03 ∷ 0x02 ∷ 0x02 ∷ []

-- '0202' is replaced
abbrev replaces : List ℕ
replaces = 0x04 ∷ 0x00 ∷ 0x02 ∷ 0x02 ∷ 0x02 ∷ []

-- ---- the steps

pub asked : run_of (kiosk ++ (reader ++ asks))
    ≡ Came 1 (Passed 0x0100 0x0202 0x45 3)
    ∷ Over (record { accepted = 1; answered = 0; given = 0; waiting = 1; owing = 0 })
    ∷ []
unfolding run_of file_of row_of step_of shaped judge_table read_of part_of code_of category_of sub_address_of handler_of multi own common busy judge_command judge_kind judge_read judge_message
asked = refl

pub given-up : run_of (kiosk ++ (reader ++ (asks ++ gives)))
    ≡ Came 1 (Passed 0x0100 0x0202 0x45 3)
    ∷ Came 2 (Given 0x0100 0x0202 3)
    ∷ Over (record { accepted = 1; answered = 0; given = 1; waiting = 0; owing = 1 })
    ∷ []
unfolding run_of file_of row_of step_of shaped judge_table read_of part_of code_of category_of sub_address_of handler_of multi own common busy judge_command judge_kind judge_read judge_message yields judge_give_up
given-up = refl

pub replaced : run_of (kiosk ++ (reader ++ (asks ++ (gives ++ replaces))))
    ≡ Came 1 (Passed 0x0100 0x0202 0x45 3)
    ∷ Came 2 (Given 0x0100 0x0202 3)
    ∷ Came 3 (Reset 0x0202)
    ∷ Over (record { accepted = 1; answered = 0; given = 1; waiting = 0; owing = 0 })
    ∷ []
unfolding run_of file_of row_of step_of shaped judge_table read_of part_of code_of category_of sub_address_of handler_of multi own common busy judge_command judge_kind judge_read judge_message yields judge_give_up judge_replaced
replaced = refl

-- the reply buffer before a call
pub ten-zeros : no_reply ≡ 0 ∷ 0 ∷ 0 ∷ 0 ∷ 0 ∷ 0 ∷ 0 ∷ 0 ∷ 0 ∷ 0 ∷ []
ten-zeros = refl

-- ---- the checks before the steps

-- the table is checked: '0100' stands in it twice
pub repeated : run_of (kiosk ++ (kiosk ++ asks)) ≡ Refused Repeat ∷ []
unfolding run_of file_of row_of step_of shaped judge_table category_of sub_address_of
repeated = refl

-- a broken row comes before that
pub torn : run_of (kiosk ++ (kiosk ++ (0x01 ∷ 0x00 ∷ []))) ≡ Broken 3 ∷ []
unfolding run_of file_of row_of
torn = refl

-- before the first later field is judged, whatever that is: of an unknown tag, or cut
pub repeated-first : (run_of (kiosk ++ (kiosk ++ (0x05 ∷ 0x00 ∷ 0x00 ∷ []))) ≡ Refused Repeat ∷ []) × (run_of (kiosk ++ (kiosk ++ (0x02 ∷ 0x00 ∷ []))) ≡ Refused Repeat ∷ [])
unfolding run_of file_of row_of step_of shaped judge_table category_of sub_address_of
repeated-first = (refl, refl)

-- or at the end; an empty input has no row
pub repeated-alone : (run_of (kiosk ++ kiosk) ≡ Refused Repeat ∷ []) × (run_of [] ≡ Refused RowCountOrShape ∷ [])
unfolding run_of file_of row_of shaped judge_table category_of sub_address_of
repeated-alone = (refl, refl)

-- rows alone: totals of nothing; 'Neither prints totals': a step, and a broken field after it
pub rows-alone : run_of (kiosk ++ reader) ≡ Over (record { accepted = 0; answered = 0; given = 0; waiting = 0; owing = 0 }) ∷ []
unfolding run_of file_of row_of shaped judge_table category_of sub_address_of multi
rows-alone = refl

pub broken-last : run_of (kiosk ++ (reader ++ (asks ++ (0x05 ∷ 0x00 ∷ 0x00 ∷ asks)))) ≡ Came 1 (Passed 0x0100 0x0202 0x45 3) ∷ Broken 4 ∷ []
unfolding run_of file_of row_of step_of shaped judge_table read_of part_of code_of category_of sub_address_of handler_of multi own common busy judge_command judge_kind judge_read judge_message
broken-last = refl

-- and all of it after the length
pub too_long : (s : List ℕ) → 65536 < length s → run_of s ≡ TooLong ∷ []
unfolding run_of
too_long s h = rw (lt-ltb 65536 (length s) h)

pub not-too-long : (s : List ℕ) → length s ≤ 65536 → run_of s ≡ script_items [] (script_of 1 (file_of s))
unfolding run_of
not-too-long s h = rw (le-ltb 65536 (length s) h)
