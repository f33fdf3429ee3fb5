-- The session that the page prints, computed from the definitions. Assumes nothing.
use Prim.Native.Nat.{ℕ}
use mathlib.Core.Path.{◌≡◌, refl}
use mathlib.Core.List.{List, [], ◌∷◌, ◌++◌}
use Rattle.tapa.specs.Address.{category_of, sub_address_of, handler_of, multi}
use Rattle.known_types.specs.Types.{common, own}
use Rattle.message.specs.Message.{read_of, part_of, code_of, message_of, response_of}
use Rattle.table.specs.Table.{shaped, judge_table}
use Rattle.rules.specs.Judge.{late, reply, judge_response, busy, judge_command, judge_kind, judge_read, judge_message, yields, judge_give_up, judge_replaced}
use Rattle.rules.specs.Apply.{answered_rows}
use Rattle.fields.specs.Fields.{file_of, row_of, step_of, field_bytes}
use Rattle.text.specs.Text.{ascii, decimal_of}
use Rattle.lines.specs.Lines.{word_of, text_of}
use Rattle.run.specs.Run.{run_of}
use Rattle.transcript.specs.Prescribed.{line_with, prescribed}

abbrev session : List ℕ
session =
    field_bytes 0x01 (0x01 ∷ 0x00 ∷ 0x01 ∷ [])
    ++ (field_bytes 0x01 (0x00 ∷ 0x01 ∷ 0x01 ∷ [])
    ++ (field_bytes 0x01 (0x02 ∷ 0x02 ∷ 0x01 ∷ [])
    ++ (field_bytes 0x02 (0x00 ∷ 0x01 ∷ 0x01 ∷ 0x00 ∷ 0x42 ∷ 0x03 ∷ 0x00 ∷ 0x01 ∷ 0xAA ∷ [])
    ++ (field_bytes 0x02 (0x02 ∷ 0x02 ∷ 0x00 ∷ 0x01 ∷ 0x45 ∷ 0x03 ∷ 0x00 ∷ 0x00 ∷ [])
    ++ (field_bytes 0x02 (0x00 ∷ 0x01 ∷ 0x02 ∷ 0x02 ∷ 0xFF ∷ 0x03 ∷ 0x00 ∷ 0x02 ∷ 0xFF ∷ 0x24 ∷ [])
    ++ field_bytes 0x03 (0x03 ∷ 0x00 ∷ 0x01 ∷ []))))))

pub page-session : prescribed session
    ≡ ascii "1 passed 0001\n"
    ∷ ascii "2 passed 0202\n"
    ∷ ascii "3 answered 0001\n"
    ∷ ascii "4 given 01000001FF030002FFF3\n"
    ∷ ascii "totals 2 1 1 0 1\n"
    ∷ []
unfolding run_of line_with file_of row_of step_of shaped judge_table category_of sub_address_of handler_of multi common own read_of part_of code_of message_of response_of late reply judge_response busy judge_command judge_kind judge_read judge_message yields judge_give_up judge_replaced answered_rows decimal_of word_of text_of
page-session = refl
