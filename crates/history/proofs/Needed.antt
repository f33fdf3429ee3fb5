-- Three histories, one for each premise on marks that is left out.
use Prim.Native.Nat.{ℕ}
use mathlib.Core.Path.{◌≡◌, refl, ap}
use mathlib.Core.Logic.{inl, inr}
use mathlib.Core.Bool.{true, false}
use mathlib.Core.List.{List, [], ◌∷◌}
use native.Mathlib.Omega.{arith}
use Rattle.lists.proofs.Tests.{clash}
use Rattle.tapa.specs.Address.{category_of, handler_of, multi}
use Rattle.known_types.specs.Types.{own, common}
use Rattle.message.specs.Message.{read_of, part_of, code_of}
use Rattle.rules.specs.Judge.{late, reply, judge_response, busy, judge_command, judge_kind, judge_read, judge_message, yields, judge_give_up, judge_replaced}
use Rattle.rules.specs.Apply.{place, answered_rows}
use Rattle.rules.proofs.Sums.{rows, first-call, second_call, third-call}
use Rattle.history.specs.History.{Step, Sent}
use Rattle.history.specs.Needed.{Needed}
use Rattle.history.proofs.Example.{step, lent, ask, answer, replaced-run}

-- the number of the one command that an outcome ends
abbrev number : List Sent → ℕ
number [] = 0
number (c ∷ cs) = c.no

-- the address: the reader answers, with the mark of the question to the PSAM
abbrev answered-run : List Step
answered-run = step third-call ∷ step second_call ∷ step first-call ∷ []

-- two responses with one mark: the reader is asked twice, and answers twice for the first question
abbrev twice-run : List Step
twice-run = step answer ∷ step ask ∷ step answer ∷ step ask ∷ []

pub needed : Needed
unfolding read_of part_of code_of category_of handler_of multi own common late reply judge_response busy judge_command judge_kind judge_read judge_message yields judge_give_up judge_replaced answered_rows
needed = record {
  address = record {
    rows = rows;
    steps = answered-run;
    mark = λ n. 0;
    honest = (
      λ e. record { of-it = record { no = 0; command = place 0x0100 0x0001 0x42 3 }; numbered = refl; passed-before = inr (inl refl); meets = (refl, refl) },
      (λ (e : false ≡ true). clash false e refl, (λ (e : false ≡ true). clash false e refl, tt)),
    );
    not-borne = λ b. let x = b.0 refl in absurd (omega (arith, ap number x.1, x.2));
  };
  once = record {
    rows = lent;
    steps = twice-run;
    mark = λ n. 0;
    honest = (
      λ e. record { of-it = record { no = 0; command = place 0x0100 0x0202 0x45 3 }; numbered = refl; passed-before = inr (inl refl); meets = (refl, refl) },
      (
        λ (e : false ≡ true). clash false e refl,
        (
          λ e. record { of-it = record { no = 0; command = place 0x0100 0x0202 0x45 3 }; numbered = refl; passed-before = inl refl; meets = (refl, refl) },
          (λ (e : false ≡ true). clash false e refl, tt),
        ),
      ),
    );
    not-borne = λ b. let x = b.0 refl in absurd (omega (arith, ap number x.1, x.2));
  };
  replaced = record {
    rows = lent;
    steps = replaced-run;
    mark = λ n. 0;
    honest = (
      λ e. record { of-it = record { no = 0; command = place 0x0100 0x0202 0x45 3 }; numbered = refl; passed-before = inr (inl refl); meets = (refl, refl) },
      (λ (e : false ≡ true). clash false e refl, (λ (e : false ≡ true). clash false e refl, (λ (e : false ≡ true). clash false e refl, (λ (e : false ≡ true). clash false e refl, tt)))),
    );
    not-borne = λ b. let x = b.0 refl in absurd (omega (arith, ap number x.1, x.2));
  };
}
