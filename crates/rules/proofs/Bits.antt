-- The top bit of a sub-address, computed: what says 'handler' does not see it, and what says 'exact' does. The handlers '0100' and '0202' speak here
-- as '0180' and '0282'.
use Prim.Native.Nat.{ℕ}
use mathlib.Core.Path.{◌≡◌, refl}
use mathlib.Core.Bool.{Bool, true, false}
use mathlib.Core.List.{List, [], ◌∷◌}
use Rattle.tapa.specs.Address.{category_of, handler_of, multi}
use Rattle.tapa.specs.Said.{Said, refused, says, passed, answered, swallowed, event, turned, given, reset}
use Rattle.known_types.specs.Types.{own, common}
use Rattle.message.specs.Message.{read_of, part_of, code_of, message_of, response_of}
use Rattle.table.specs.declared.Row.{Row}
use Rattle.place.specs.declared.Place.{Place}
use Rattle.rules.specs.View.{View, fresh}
use Rattle.rules.specs.Judge.{Call, message, give_up, replaced, judge, late, reply, judge_response, busy, judge_command, judge_kind, judge_read, judge_message, yields, judge_give_up, judge_replaced}
use Rattle.rules.specs.Apply.{applied}
use Rattle.rules.specs.Said.{said_outcome}
use Rattle.rules.proofs.Sums.{row}

abbrev rows : (queue_open : Bool) → List Row
rows o = row 0x0100 true ∷ row 0x0202 true ∷ row 0x0301 true ∷ row 0x0700 o ∷ []

-- on thread 3 '0180' asked '0282', as a wait or as an owing
abbrev asked : (owed : Bool) → View
asked o = record { rows = rows true; places = record { asker = 0x0180; asked = 0x0282; kind = 0x45; thread = 3; owed = o } ∷ [] }

-- the modules '0001' and '0002' owe late replies: the one on the threads 3 and 4, by either address, the other on thread 4
abbrev owes : (asked thread : ℕ) → Place
owes a t = record { asker = 0x0100; asked = a; kind = 0x42; thread = t; owed = true }

abbrev owed-by-modules : View
owed-by-modules = record {
  rows = row 0x0100 true ∷ row 0x0001 true ∷ row 0x0002 true ∷ row 0x0202 true ∷ [];
  places = owes 0x0001 3 ∷ owes 0x0002 4 ∷ owes 0x0081 4 ∷ [];
}

-- a message in bytes: destination, source, type, thread; a response has the code '0000'
abbrev sent : (d₁ d₂ s₁ s₂ kind thread : ℕ) → Call
sent d₁ d₂ s₁ s₂ kind thread = message (d₁ ∷ d₂ ∷ s₁ ∷ s₂ ∷ kind ∷ thread ∷ 0x00 ∷ 0x00 ∷ [])

abbrev response : (d₁ d₂ s₁ s₂ thread : ℕ) → Call
response d₁ d₂ s₁ s₂ thread = message (d₁ ∷ d₂ ∷ s₁ ∷ s₂ ∷ 0xFF ∷ thread ∷ 0x00 ∷ 0x02 ∷ 0x00 ∷ 0x00 ∷ [])

-- what is said of a call in a view
abbrev says_of : View → Call → Said
says_of v c = said_outcome (judge v 10 c)

pub record Bits : Type 0 where
  -- 'source handler not in the table', rules a to d, all by handler; what is passed is said exactly
  pub passes : says_of (fresh (rows true)) (sent 0x02 0x82 0x01 0x80 0x45 3) ≡ says passed (0x0282 ∷ [])
  -- 'exactly this source', 'a destination other than its asker is refused (8)'
  pub answers : says_of (asked false) (response 0x01 0x80 0x02 0x82 3) ≡ says answered (0x0180 ∷ [])
  pub by-handler : says_of (asked false) (response 0x01 0x80 0x02 0x02 3) ≡ refused 7
  pub to-handler : says_of (asked false) (response 0x01 0x00 0x02 0x82 3) ≡ refused 8
  -- 'this exact source is owed on this thread .., its destination not looked at'
  pub swallows : says_of (asked true) (response 0x03 0x01 0x02 0x82 3) ≡ says swallowed []
  pub not-owed : says_of (asked true) (response 0x01 0x80 0x02 0x02 3) ≡ refused 7
  pub not_there : says_of (asked true) (response 0x01 0x80 0x02 0x82 4) ≡ refused 7
  -- d: the asked handler may ask, by either address; e: it is asked already, on this thread and, being single, on any
  pub asks-on : says_of (asked false) (sent 0x03 0x01 0x02 0x02 0x61 3) ≡ says passed (0x0301 ∷ [])
  pub asks-itself : says_of (asked false) (sent 0x02 0x02 0x02 0x82 0x45 3) ≡ says turned (0x02 ∷ 0x82 ∷ 0x02 ∷ 0x02 ∷ 0xFF ∷ 0x03 ∷ 0x00 ∷ 0x02 ∷ 0xFF ∷ 0xF5 ∷ [])
  pub busy-here : says_of (asked false) (sent 0x02 0x02 0x01 0x00 0x45 3) ≡ says turned (0x01 ∷ 0x00 ∷ 0x02 ∷ 0x02 ∷ 0xFF ∷ 0x03 ∷ 0x00 ∷ 0x02 ∷ 0xFF ∷ 0xF5 ∷ [])
  pub busy-there : says_of (asked false) (sent 0x02 0x02 0x01 0x00 0x45 4) ≡ says turned (0x01 ∷ 0x00 ∷ 0x02 ∷ 0x02 ∷ 0xFF ∷ 0x04 ∷ 0x00 ∷ 0x02 ∷ 0xFF ∷ 0xF5 ∷ [])
  pub owes-there : says_of (asked true) (sent 0x02 0x02 0x01 0x00 0x45 4) ≡ says turned (0x01 ∷ 0x00 ∷ 0x02 ∷ 0x02 ∷ 0xFF ∷ 0x04 ∷ 0x00 ∷ 0x02 ∷ 0xFF ∷ 0xF5 ∷ [])
  -- e: 'asked handler is the asker', also where the tree is empty; a multi handler is taken on its own thread alone
  pub asks-itself-first : says_of (fresh (rows true)) (sent 0x01 0x80 0x01 0x00 0xF4 3) ≡ says turned (0x01 ∷ 0x00 ∷ 0x01 ∷ 0x80 ∷ 0xFF ∷ 0x03 ∷ 0x00 ∷ 0x02 ∷ 0xFF ∷ 0xF5 ∷ [])
  pub module-owes : says_of owed-by-modules (sent 0x00 0x01 0x01 0x00 0x42 3) ≡ says turned (0x01 ∷ 0x00 ∷ 0x00 ∷ 0x01 ∷ 0xFF ∷ 0x03 ∷ 0x00 ∷ 0x02 ∷ 0xFF ∷ 0xF5 ∷ [])
  pub module-free : says_of owed-by-modules (sent 0x00 0x01 0x01 0x00 0x42 5) ≡ says passed (0x0001 ∷ [])
  -- d: 'for an empty tree, category 01': a module begins none
  pub module-begins : says_of owed-by-modules (sent 0x02 0x02 0x00 0x01 0x45 5) ≡ says turned (0x00 ∷ 0x01 ∷ 0x02 ∷ 0x02 ∷ 0xFF ∷ 0x05 ∷ 0x00 ∷ 0x02 ∷ 0xFF ∷ 0xF3 ∷ [])
  -- 'Give up takes a thread and an exact asked address'
  pub gives : says_of (asked false) (give_up 3 0x0282) ≡ says given (0x01 ∷ 0x80 ∷ 0x02 ∷ 0x82 ∷ 0xFF ∷ 0x03 ∷ 0x00 ∷ 0x02 ∷ 0xFF ∷ 0xF3 ∷ [])
  pub gives_none : says_of (asked false) (give_up 3 0x0202) ≡ refused 14
  -- 'handler stands in a wait as asker or asked (16)', by either address; one that stands in none, or in an owing, does not
  pub asker-stands : (says_of (asked false) (replaced 0x0100) ≡ refused 16) × (says_of (asked false) (replaced 0x0180) ≡ refused 16)
  pub asked-stands : (says_of (asked false) (replaced 0x0202) ≡ refused 16) × (says_of (asked false) (replaced 0x0282) ≡ refused 16)
  pub none-stands : (says_of (asked false) (replaced 0x0301) ≡ says reset []) × (says_of (asked false) (replaced 0x0381) ≡ says reset [])
  pub owing-stands : (says_of (asked true) (replaced 0x0100) ≡ says reset []) × (says_of (asked true) (replaced 0x0202) ≡ says reset [])
  pub not_listed : says_of (asked false) (replaced 0x0382) ≡ refused 4
  -- 'Else its owings end and it is closed': those of '0282' are the handler's, whichever address is replaced; all of them end, and no other's
  pub ends-by-bit : applied (judge (asked true) 10 (replaced 0x0282)) (asked true)
      ≡ record { rows = row 0x0100 true ∷ row 0x0202 false ∷ row 0x0301 true ∷ row 0x0700 true ∷ []; places = [] }
  pub ends-all : applied (judge owed-by-modules 10 (replaced 0x0001)) owed-by-modules
      ≡ record { rows = row 0x0100 true ∷ row 0x0001 false ∷ row 0x0002 true ∷ row 0x0202 true ∷ []; places = owes 0x0002 4 ∷ [] }
  pub ends : applied (judge (asked true) 10 (replaced 0x0202)) (asked true)
      ≡ record { rows = row 0x0100 true ∷ row 0x0202 false ∷ row 0x0301 true ∷ row 0x0700 true ∷ []; places = [] }
  -- 'Type 'C0' to handler '0700'', open, closed and missing
  pub adds : (says_of (asked false) (sent 0x07 0x00 0x02 0x82 0xC0 3) ≡ says event []) × (says_of (asked false) (sent 0x07 0x80 0x02 0x02 0xC0 5) ≡ says event [])
  pub adds-closed : (says_of (fresh (rows false)) (sent 0x07 0x00 0x01 0x00 0xC0 3) ≡ refused 10) × (says_of (fresh (rows false)) (sent 0x07 0x80 0x01 0x00 0xC0 3) ≡ refused 10)
  pub adds-nowhere : says_of (fresh (row 0x0100 true ∷ [])) (sent 0x07 0x80 0x01 0x00 0xC0 3) ≡ refused 10
  -- another type to it is a command, and so is 'C0' to another handler
  pub gets : says_of (fresh (rows true)) (sent 0x07 0x80 0x01 0x00 0xC1 3) ≡ says passed (0x0780 ∷ [])
  pub adds-elsewhere : says_of (fresh (rows true)) (sent 0x07 0x01 0x01 0x00 0xC0 3) ≡ says turned (0x01 ∷ 0x00 ∷ 0x07 ∷ 0x01 ∷ 0xFF ∷ 0x03 ∷ 0x00 ∷ 0x02 ∷ 0xFF ∷ 0xF1 ∷ [])

pub bits : Bits
unfolding read_of part_of code_of message_of response_of category_of handler_of multi own common late reply judge_response busy judge_command judge_kind judge_read judge_message yields judge_give_up judge_replaced
bits = record {
  passes = refl;
  answers = refl;
  by-handler = refl;
  to-handler = refl;
  swallows = refl;
  not-owed = refl;
  not_there = refl;
  asks-on = refl;
  asks-itself = refl;
  busy-here = refl;
  busy-there = refl;
  owes-there = refl;
  asks-itself-first = refl;
  module-owes = refl;
  module-free = refl;
  module-begins = refl;
  gives = refl;
  gives_none = refl;
  asker-stands = (refl, refl);
  asked-stands = (refl, refl);
  none-stands = (refl, refl);
  owing-stands = (refl, refl);
  not_listed = refl;
  ends-by-bit = refl;
  ends-all = refl;
  ends = refl;
  adds = (refl, refl);
  adds-closed = (refl, refl);
  adds-nowhere = refl;
  gets = refl;
  adds-elsewhere = refl;
}
