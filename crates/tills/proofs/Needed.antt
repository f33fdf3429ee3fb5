-- For each part of the premise, two steps that meet the other parts, and of which the second has another outcome when it comes first.
use Prim.Native.Nat.{ℕ, ◌≤◌}
use mathlib.Core.Path.{◌≡◌, refl, ap}
use mathlib.Core.Logic.{inl, inr}
use mathlib.Core.Bool.{true, false}
use mathlib.Core.List.{List, [], ◌∷◌}
use native.Mathlib.Omega.{arith}
use lib.ListN.{length}
use Rattle.lists.specs.Lists.{In}
use Rattle.tapa.specs.Address.{category_of, sub_address_of, handler_of, multi}
use Rattle.known_types.specs.Types.{own, common}
use Rattle.message.specs.Message.{read_of, part_of, code_of, message_of, response_of}
use Rattle.table.specs.declared.Row.{Row}
use Rattle.table.specs.Table.{shaped, judge_table}
use Rattle.rules.specs.Judge.{late, reply, judge_response, busy, judge_command, judge_kind, judge_read, judge_message}
use Rattle.rules.specs.Apply.{answered_rows}
use Rattle.rules.proofs.Sums.{row}
use Rattle.tills.specs.Tills.{Step, message, Shown}
use Rattle.tills.specs.Needed.{Needed}
use Rattle.tills.proofs.Example.{rows, ten, says, two-threads}

-- how many bytes go out: 8 of a command that is passed, 10 of one that is turned back
abbrev size : Shown → ℕ
size s = length s.out

-- both on thread 3: the till asks the module, and the module asks on
abbrev module-asked : Step
module-asked = says 0x0001 0x0100 0x42 3

abbrev module-asks : Step
module-asks = says 0x0202 0x0001 0x45 3

-- two tills that want one reader
abbrev reader-wanted : ℕ → ℕ → Step
reader-wanted till t = says 0x0202 till 0x45 t

-- the module is closed, and was told on thread 3 to open
abbrev closed-rows : List Row
closed-rows = row 0x0100 true ∷ row 0x0101 true ∷ row 0x0001 false ∷ []

abbrev module-told : Step
module-told = says 0x0001 0x0100 0xF0 3

abbrev module-opens : Step
module-opens = message (response_of 0x0100 0x0001 3 0) ten

abbrev module-wanted : Step
module-wanted = says 0x0001 0x0101 0x42 4

pub needed : Needed
unfolding read_of part_of code_of message_of response_of category_of sub_address_of handler_of multi shaped judge_table own common late reply judge_response busy judge_command judge_kind judge_read judge_message answered_rows
needed = record {
  threads = record {
    rows = rows;
    accepted = refl;
    before = [];
    one = module-asked;
    other = module-asks;
    meets = (module-only, ((refl, refl), (refl, refl)));
    disturbed = λ u. absurd (omega (arith, ap size u.second));
  };
  shared = record {
    rows = rows;
    accepted = refl;
    before = [];
    one = reader-wanted 0x0100 3;
    other = reader-wanted 0x0101 4;
    meets = (two-threads, ((refl, refl), (refl, refl)));
    disturbed = λ u. absurd (omega (arith, ap size u.second));
  };
  steady = record {
    rows = closed-rows;
    accepted = refl;
    before = module-told ∷ [];
    one = module-opens;
    other = module-wanted;
    meets = (two-threads, multi-only);
    disturbed = λ u. absurd (omega (arith, ap size u.second));
  };
}
  where
    module-only : (h : ℕ) → In h (0x0100 ∷ 0x0001 ∷ []) → In h (0x0001 ∷ 0x0202 ∷ []) → category_of h ≤ 1
    module-only h (inl e) j = let f : ◌≡◌ {A = ℕ} 0x0100 h = e in omega arith
    module-only h (inr (inl e)) j = let f : ◌≡◌ {A = ℕ} 1 h = e in omega arith
    module-only h (inr (inr i)) j = absurd i

    multi-only : (h : ℕ) → In h (0x0001 ∷ 0x0100 ∷ []) → In h (0x0101 ∷ 0x0001 ∷ []) → category_of h ≤ 1
    multi-only h (inl e) j = let f : ◌≡◌ {A = ℕ} 1 h = e in omega arith
    multi-only h (inr (inl e)) j = let f : ◌≡◌ {A = ℕ} 0x0100 h = e in omega arith
    multi-only h (inr (inr i)) j = absurd i
