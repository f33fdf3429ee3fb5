-- Who is free, call by call, and where the numbers stand: all computed.
use Prim.Native.Nat.{ℕ}
use mathlib.Core.Path.{◌≡◌, refl}
use mathlib.Core.Bool.{true}
use mathlib.Core.List.{List, [], ◌∷◌, map}
use lib.ListN.{take, drop, replicate}
use Rattle.tapa.specs.Address.{category_of, handler_of, multi}
use Rattle.known_types.specs.Types.{own, common}
use Rattle.message.specs.Message.{read_of, part_of, code_of}
use Rattle.table.specs.declared.Row.{Row}
use Rattle.rules.specs.View.{View, fresh}
use Rattle.rules.specs.Judge.{Call, message, give_up, replaced, judge, late, reply, judge_response, busy, judge_command, judge_kind, judge_read, judge_message, yields, judge_give_up, judge_replaced}
use Rattle.rules.specs.Apply.{applied, answered_rows}
use Rattle.numbers.specs.Numbers.{cell_in, cell_of, no_numbers, numbers_after, raised_in}
use Rattle.numbers.specs.Free.{free_of, free_in}
use Rattle.numbers.specs.Said.{Said, refused, says, yes, no, said_freedom}

-- ---- a fresh router with some calls, the newest first: the view, and the numbers beside it

abbrev row : ℕ → Row
row a = record { address = a; opened = true }

-- the till driver is row 0, the security module row 1, the reader row 2
abbrev rows : List Row
rows = row 0x0202 ∷ row 0x0001 ∷ row 0x0100 ∷ []

record Kept : Type 0 where
  pub view : View
  pub numbers : List ℕ

abbrev next : Kept → Call → Kept
next k c = record {
  view = applied (judge k.view 10 c) k.view;
  numbers = numbers_after k.view.rows (judge k.view 10 c) k.numbers;
}

abbrev after : List Call → Kept
after [] = record { view = fresh rows; numbers = no_numbers }
after (c ∷ cs) = next (after cs) c

-- ---- the calls

-- the till asks the module on a thread, and the module answers
abbrev ask_module : (thread : ℕ) → Call
ask_module t = message (0x00 ∷ 0x01 ∷ 0x01 ∷ 0x00 ∷ 0x42 ∷ t ∷ 0x00 ∷ 0x00 ∷ [])

abbrev module_answers : (thread : ℕ) → Call
module_answers t = message (0x01 ∷ 0x00 ∷ 0x00 ∷ 0x01 ∷ 0xFF ∷ t ∷ 0x00 ∷ 0x02 ∷ 0x00 ∷ 0x00 ∷ [])

-- the module asks the reader for an enciphered response, '0282', on thread 3, and the reader answers
abbrev ask_reader : Call
ask_reader = message (0x02 ∷ 0x82 ∷ 0x00 ∷ 0x01 ∷ 0x45 ∷ 0x03 ∷ 0x00 ∷ 0x00 ∷ [])

abbrev reader_answers : Call
reader_answers = message (0x00 ∷ 0x01 ∷ 0x02 ∷ 0x82 ∷ 0xFF ∷ 0x03 ∷ 0x00 ∷ 0x02 ∷ 0x00 ∷ 0x00 ∷ [])

-- ---- what is asked: the module on threads 3 and 5, the reader on threads 3 and 5

abbrev questions : List (ℕ × ℕ)
questions = (0x0001, 3) ∷ (0x0001, 5) ∷ (0x0202, 3) ∷ (0x0202, 5) ∷ []

-- by the numbers, and by the full walk
abbrev told : List Call → List Said
told cs = map (λ (q : ℕ × ℕ). said_freedom (free_in (after cs).view.rows (after cs).numbers q.0 q.1)) questions

abbrev walked : List Call → List Said
walked cs = map (λ (q : ℕ × ℕ). said_freedom (free_of (after cs).view q.0 q.1)) questions

abbrev answers : (a b c d : Said) → List Said
answers a b c d = a ∷ b ∷ c ∷ d ∷ []

abbrev y : Said
y = says yes []

abbrev n : Said
n = says no []

-- both say so
pub record Says (cs : List Call) (answer : List Said) : Type 0 where
  pub by_number : told cs ≡ answer
  pub by-walk : walked cs ≡ answer

pub record Example : Type 0 where
  pub at_first : Says [] (answers y y y y)
  -- a multi handler that is asked on one thread is free on another
  pub asked : Says (ask_module 3 ∷ []) (answers n y y y)
  -- a single one is free on none
  pub asked-on : Says (ask_reader ∷ ask_module 3 ∷ []) (answers n y n n)
  pub answered : Says (reader_answers ∷ ask_reader ∷ ask_module 3 ∷ []) (answers n y y y)
  pub all-answered : Says (module_answers 3 ∷ reader_answers ∷ ask_reader ∷ ask_module 3 ∷ []) (answers y y y y)
  -- given up, it owes its reply; that comes late, or the handler is replaced
  pub given-up : Says (give_up 3 0x0282 ∷ ask_reader ∷ ask_module 3 ∷ []) (answers n y n n)
  pub swallowed : Says (reader_answers ∷ give_up 3 0x0282 ∷ ask_reader ∷ ask_module 3 ∷ []) (answers n y y y)
  pub was-replaced : Says (replaced 0x0202 ∷ give_up 3 0x0282 ∷ ask_reader ∷ ask_module 3 ∷ []) (answers n y y y)
  -- a multi one that owes on two threads, and is replaced on all
  pub owes-twice : Says (give_up 5 0x0001 ∷ ask_module 5 ∷ give_up 3 0x0001 ∷ ask_module 3 ∷ []) (answers n n y y)
  pub replaced-on-all : Says (replaced 0x0001 ∷ give_up 5 0x0001 ∷ ask_module 5 ∷ give_up 3 0x0001 ∷ ask_module 3 ∷ []) (answers y y y y)
  -- what is refused or turned back moves no number: replaced while asked (16), a stray response (7), asked again ('FFF5')
  pub unmoved : Says (replaced 0x0001 ∷ module_answers 5 ∷ ask_module 3 ∷ ask_module 3 ∷ []) (answers n y y y)

pub example : Example
unfolding cell_of free_of free_in read_of part_of code_of category_of handler_of multi own common late reply judge_response busy judge_command judge_kind judge_read judge_message yields judge_give_up judge_replaced answered_rows
example = record {
  at_first = record { by_number = refl; by-walk = refl };
  asked = record { by_number = refl; by-walk = refl };
  asked-on = record { by_number = refl; by-walk = refl };
  answered = record { by_number = refl; by-walk = refl };
  all-answered = record { by_number = refl; by-walk = refl };
  given-up = record { by_number = refl; by-walk = refl };
  swallowed = record { by_number = refl; by-walk = refl };
  was-replaced = record { by_number = refl; by-walk = refl };
  owes-twice = record { by_number = refl; by-walk = refl };
  replaced-on-all = record { by_number = refl; by-walk = refl };
  unmoved = record { by_number = refl; by-walk = refl };
}

-- ---- 'Refusals: 4, then 5.'

-- what is said of an address and a thread while the module and the reader are asked, by the number and by the walk
abbrev busy_desk : List Call
busy_desk = ask_reader ∷ ask_module 3 ∷ []

pub record Told (a t : ℕ) (answer : Said) : Type 0 where
  pub by_number : said_freedom (free_in rows (after busy_desk).numbers a t) ≡ answer
  pub by-walk : said_freedom (free_of (after busy_desk).view a t) ≡ answer

pub record Refusals : Type 0 where
  -- no row: 4, whatever the thread
  pub unlisted : Told 0x0203 3 (refused 4)
  pub unlisted-and-above : Told 0x0203 8 (refused 4)
  -- a thread above 7: 5, of a multi and of a single handler, with and without the top bit
  pub above : Told 0x0001 8 (refused 5)
  pub single-above : Told 0x0202 8 (refused 5)
  pub far-above : Told 0x0282 255 (refused 5)
  -- the last thread is one
  pub last-thread : Told 0x0001 7 (says yes [])
  -- 'Its handler is the address with that bit cleared'
  pub top_bit : Told 0x0282 0 (says no [])
  pub module-top-bit : Told 0x0081 3 (says no [])
  -- the till driver asks, and is not asked
  pub asker : Told 0x0100 3 (says yes [])

pub refusals : Refusals
unfolding cell_of free_of free_in read_of part_of code_of category_of handler_of multi own common busy judge_command judge_kind judge_read judge_message
refusals = record {
  unlisted = record { by_number = refl; by-walk = refl };
  unlisted-and-above = record { by_number = refl; by-walk = refl };
  above = record { by_number = refl; by-walk = refl };
  single-above = record { by_number = refl; by-walk = refl };
  far-above = record { by_number = refl; by-walk = refl };
  last-thread = record { by_number = refl; by-walk = refl };
  top_bit = record { by_number = refl; by-walk = refl };
  module-top-bit = record { by_number = refl; by-walk = refl };
  asker = record { by_number = refl; by-walk = refl };
}

-- ---- where the numbers stand

pub record Stand : Type 0 where
  -- 8 x row + thread for a multi handler, 8 x row for a single one
  pub first_cell : cell_in 0 0x0100 0 ≡ 0
  pub last-cell : cell_in 15 0x0001 7 ≡ 127
  pub single-cell : cell_in 15 0x0202 7 ≡ 120
  -- the module of row 1 on thread 3, and the reader of row 2
  pub three-rows : take 24 (after busy_desk).numbers
      ≡ 0 ∷ 0 ∷ 0 ∷ 0 ∷ 0 ∷ 0 ∷ 0 ∷ 0 ∷ 0 ∷ 0 ∷ 0 ∷ 1 ∷ 0 ∷ 0 ∷ 0 ∷ 0 ∷ 1 ∷ 0 ∷ 0 ∷ 0 ∷ 0 ∷ 0 ∷ 0 ∷ 0 ∷ []
  pub no-more-rows : drop 24 (after busy_desk).numbers ≡ replicate 104 0
  -- a byte takes one more up to 255
  pub byte-254 : raised_in 0 (254 ∷ []) ≡ 255 ∷ []
  pub byte-255 : raised_in 0 (255 ∷ []) ≡ 255 ∷ []

pub stand : Stand
unfolding cell_of read_of part_of code_of category_of handler_of multi own common busy judge_command judge_kind judge_read judge_message
stand = record {
  first_cell = refl;
  last-cell = refl;
  single-cell = refl;
  three-rows = refl;
  no-more-rows = refl;
  byte-254 = refl;
  byte-255 = refl;
}
