-- The page's session, a wrong turning, and the sums at the desk C5 and C11, computed by the definitions.
use Prim.Native.Nat.{ℕ, ◌≤◌}
use Rattle.std.specs.Prelude.{Ok}
use mathlib.Core.Path.{◌≡◌, refl}
use mathlib.Core.Bool.{Bool, true, false}
use mathlib.Core.List.{List, [], ◌∷◌}
use native.Mathlib.Omega.{arith}
use lib.ListN.{length, take, drop}
use Rattle.tapa.specs.Address.{category_of, handler_of, multi}
use Rattle.known_types.specs.Types.{own, common}
use Rattle.tapa.specs.Codes.{must_be_opened}
use Rattle.tapa.specs.declared.Refusal.TheVariants.{ThreadAbove7, StrayResponse}
use Rattle.message.specs.declared.Head.{Head}
use Rattle.message.specs.Message.{read_of, part_of, code_of, message_of, response_of}
use Rattle.table.specs.declared.Row.{Row}
use Rattle.table.specs.Table.{listed}
use Rattle.places.specs.Places.{waits, owings}
use Rattle.rules.specs.View.{View, fresh}
use Rattle.rules.specs.declared.Outcome.{Outcome}
use Rattle.rules.specs.declared.Outcome.TheVariants.{Passed, Answered, Given, Turned, Refused}
use Rattle.rules.specs.Judge.{late, reply, judge_response, busy, judge_command, judge_kind, judge_read, judge_message, yields, judge_give_up, Call, message, give_up, judge}
use Rattle.rules.specs.Apply.{place, answered_rows, applied, written}
use Rattle.rules.proofs.Steps.{message-thread}

abbrev pub row : ℕ → Bool → Row
row a b = record { address = a; opened = b }

-- ---- the session: its three rows, its four calls, with a reply buffer of ten bytes

abbrev pub rows : List Row
rows = row 0x0100 true ∷ row 0x0001 true ∷ row 0x0202 true ∷ []

abbrev pub first-call : Call
first-call = message (0x00 ∷ 0x01 ∷ 0x01 ∷ 0x00 ∷ 0x42 ∷ 0x03 ∷ 0x00 ∷ 0x01 ∷ 0xAA ∷ [])

abbrev pub second_call : Call
second_call = message (0x02 ∷ 0x02 ∷ 0x00 ∷ 0x01 ∷ 0x45 ∷ 0x03 ∷ 0x00 ∷ 0x00 ∷ [])

abbrev pub third-call : Call
third-call = message (0x00 ∷ 0x01 ∷ 0x02 ∷ 0x02 ∷ 0xFF ∷ 0x03 ∷ 0x00 ∷ 0x02 ∷ 0xFF ∷ 0x24 ∷ [])

abbrev pub fourth-call : Call
fourth-call = give_up 3 0x0001

abbrev pub one-passed : View
one-passed = record { rows = rows; places = place 0x0100 0x0001 0x42 3 ∷ [] }

abbrev pub two-passed : View
two-passed = record { rows = rows; places = place 0x0001 0x0202 0x45 3 ∷ place 0x0100 0x0001 0x42 3 ∷ [] }

abbrev pub one-owed : View
one-owed = record { rows = rows; places = record { asker = 0x0100; asked = 0x0001; kind = 0x42; thread = 3; owed = true } ∷ [] }

-- a call in a view: what comes of it, and the view after it
pub record Goes (v : View) (c : Call) (o : Outcome) (w : View) : Type 0 where
  pub outcome : judge v 10 c ≡ o
  pub after : applied o v ≡ w

-- '1 passed 0001', '2 passed 0202', '3 answered 0001', '4 given 01000001FF030002FFF3'
pub record Session : Type 0 where
  pub first-line : Goes (fresh rows) first-call (Passed 0x0100 0x0001 0x42 3) one-passed
  pub second-line : Goes one-passed second_call (Passed 0x0001 0x0202 0x45 3) two-passed
  pub third-line : Goes two-passed third-call (Answered 0x0202 0x0001 3 0xFF24) one-passed
  pub fourth-line : Goes one-passed fourth-call (Given 0x0100 0x0001 3) one-owed
  pub reply : (buffer : List ℕ) → written (Given 0x0100 0x0001 3) buffer
      ≡ 0x01 ∷ 0x00 ∷ 0x00 ∷ 0x01 ∷ 0xFF ∷ 0x03 ∷ 0x00 ∷ 0x02 ∷ 0xFF ∷ 0xF3 ∷ drop 10 buffer
  pub waiting : length (waits one-owed.places) ≡ 0
  pub owing : length (owings one-owed.places) ≡ 1

pub session : Session
unfolding read_of part_of code_of message_of response_of category_of handler_of multi own common late reply judge_response busy judge_command judge_kind judge_read judge_message yields judge_give_up answered_rows
session = record {
  first-line = record { outcome = refl; after = refl };
  second-line = record { outcome = refl; after = refl };
  third-line = record { outcome = refl; after = refl };
  fourth-line = record { outcome = refl; after = refl };
  reply = λ buffer. refl;
  waiting = refl;
  owing = refl;
}

-- 'Turned back writes only a response, in the first 10 reply bytes', and a give up likewise: both addresses exact, and the rest of the buffer stays
pub only-ten : (buffer : List ℕ)
    → (written (Turned 0x0180 0x0282 3 0xFFF5) buffer ≡ 0x01 ∷ 0x80 ∷ 0x02 ∷ 0x82 ∷ 0xFF ∷ 0x03 ∷ 0x00 ∷ 0x02 ∷ 0xFF ∷ 0xF5 ∷ drop 10 buffer)
    × (written (Given 0x0180 0x0282 3) buffer ≡ 0x01 ∷ 0x80 ∷ 0x02 ∷ 0x82 ∷ 0xFF ∷ 0x03 ∷ 0x00 ∷ 0x02 ∷ 0xFF ∷ 0xF3 ∷ drop 10 buffer)
unfolding message_of response_of
only-ten buffer = (refl, refl)

-- ---- 'Knowing a reply by thread alone, or by category: '0202' must not answer for '0282'.'

abbrev pub enciphered : View
enciphered = record { rows = rows; places = place 0x0100 0x0282 0x45 3 ∷ [] }

abbrev pub reply-from : ℕ → Call
reply-from low = message (0x01 ∷ 0x00 ∷ 0x02 ∷ low ∷ 0xFF ∷ 0x03 ∷ 0x00 ∷ 0x02 ∷ 0x00 ∷ 0x00 ∷ [])

pub not-for-another : judge enciphered 10 (reply-from 0x02) ≡ Refused StrayResponse
unfolding read_of part_of code_of category_of handler_of multi late reply judge_response judge_kind judge_read judge_message
not-for-another = refl

pub for-itself : judge enciphered 10 (reply-from 0x82) ≡ Answered 0x0282 0x0100 3 0
unfolding read_of part_of code_of category_of handler_of multi late reply judge_response judge_kind judge_read judge_message
for-itself = refl

-- ---- 'C5 '0202' closed, `0202 0100 45 03 0000`: turned, `0100 0202 FF 03 0002 FFF7`.'

abbrev pub closed-rows : List Row
closed-rows = row 0x0100 true ∷ row 0x0202 false ∷ []

abbrev pub c5-bytes : List ℕ
c5-bytes = 0x02 ∷ 0x02 ∷ 0x01 ∷ 0x00 ∷ 0x45 ∷ 0x03 ∷ 0x00 ∷ 0x00 ∷ []

pub record C5 : Type 0 where
  pub outcome : judge (fresh closed-rows) 10 (message c5-bytes) ≡ Turned 0x0100 0x0202 3 must_be_opened
  pub reply : (buffer : List ℕ) → take 10 (written (Turned 0x0100 0x0202 3 must_be_opened) buffer)
      ≡ 0x01 ∷ 0x00 ∷ 0x02 ∷ 0x02 ∷ 0xFF ∷ 0x03 ∷ 0x00 ∷ 0x02 ∷ 0xFF ∷ 0xF7 ∷ []

pub c5 : C5
unfolding read_of part_of code_of message_of response_of category_of handler_of multi own common late reply judge_response busy judge_command judge_kind judge_read judge_message
c5 = record { outcome = refl; reply = λ buffer. refl }

-- ---- 'C11 thread 8: 5.': for every message from a handler of the table, in every view

pub c11 : (v : View) (room : ℕ) (s : List ℕ) (h : Head) → 10 ≤ room → read_of s ≡ Ok h → listed (handler_of h.source) v.rows ≡ true → h.thread ≡ 8
    → judge v room (message s) ≡ Refused ThreadAbove7
c11 v room s h enough e y t = message-thread v room s enough (read_of s) refl h e y (omega arith)
