-- The premises on marks let these histories in.
use Prim.Native.Nat.{ℕ}
use mathlib.Core.Path.{◌≡◌, refl}
use mathlib.Core.Logic.{inl, inr}
use mathlib.Core.Bool.{true, false}
use Rattle.lists.proofs.Tests.{clash}
use Rattle.tapa.specs.Address.{category_of, handler_of, multi}
use Rattle.known_types.specs.Types.{own, common}
use Rattle.message.specs.Message.{read_of, part_of, code_of, message_of, response_of}
use Rattle.rules.specs.Judge.{late, reply, judge_response, busy, judge_command, judge_kind, judge_read, judge_message, yields, judge_give_up, judge_replaced}
use Rattle.rules.specs.Apply.{place, answered_rows}
use Rattle.history.specs.History.{Sent}
use Rattle.history.specs.Admitted.{Admitted}

-- the till's question to the PSAM, as the first entry or as the second, and the PSAM's to the reader
abbrev asked : (n kind : ℕ) → Sent
asked n kind = record { no = n; command = place 0x0100 0x0001 kind 3 }

abbrev read : Sent
read = record { no = 1; command = place 0x0001 0x0202 0x45 3 }

-- an entry that is no response bears no mark
none : {A : Type 0} → false ≡ true → A
none e = clash false e refl

pub admitted : Admitted
unfolding read_of part_of code_of message_of response_of category_of handler_of multi own common late reply judge_response busy judge_command judge_kind judge_read judge_message yields judge_give_up judge_replaced answered_rows
admitted = record {
  again-said = refl;
  again-honest = (
    λ e. record { of-it = asked 0 0x42; numbered = refl; passed-before = inr (inl refl); meets = (refl, refl, refl) },
    (λ e. record { of-it = read; numbered = refl; passed-before = inl refl; meets = (refl, refl, refl) }, (λ e. none e, (λ e. none e, (λ e. none e, tt)))),
  );
  another-said = refl;
  another-honest = (λ e. record { of-it = asked 0 0x42; numbered = refl; passed-before = inl refl; meets = (refl, refl, refl) }, (λ e. none e, (λ e. none e, tt)));
  other-said = refl;
  other-honest = (λ e. record { of-it = asked 0 0x42; numbered = refl; passed-before = inl refl; meets = (refl, refl, refl) }, (λ e. none e, (λ e. none e, tt)));
  refused-said = refl;
  refused-honest = (λ e. record { of-it = asked 0 0x42; numbered = refl; passed-before = inl refl; meets = (refl, refl, refl) }, (λ e. none e, (λ e. none e, tt)));
  late-said = refl;
  late-honest = (λ e. record { of-it = asked 0 0x42; numbered = refl; passed-before = inl refl; meets = (refl, refl, refl) }, (λ e. none e, (λ e. none e, (λ e. none e, tt))));
  after-said = refl;
  after-honest = (λ e. record { of-it = asked 1 0xF0; numbered = refl; passed-before = inl refl; meets = (refl, refl, refl) }, (λ e. none e, (λ e. none e, tt)));
}
