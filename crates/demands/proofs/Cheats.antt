-- No such build meets the contract of `route`. Each is led to the page's session: a fresh router over its three rows, and its first message.
use Prim.Native.Nat.{ℕ}
use Rattle.std.specs.Prelude.{Ok}
use mathlib.Core.Path.{◌≡◌, refl, sym, ap, ◌∙◌}
use mathlib.Core.Bool.{true}
use mathlib.Core.List.{List, [], ◌∷◌, ◌++◌}
use native.Mathlib.Omega.{arith}
use lib.ListN.{length, get_or}
use Rattle.tapa.specs.Address.{category_of, sub_address_of, handler_of, multi}
use Rattle.tapa.specs.Codes.{handler_busy}
use Rattle.known_types.specs.Types.{own, common}
use Rattle.tapa.specs.declared.Refusal.{Refusal}
use Rattle.tapa.specs.declared.Refusal.TheVariants.{TooShort}
use Rattle.message.specs.Message.{read_of, part_of, code_of}
use Rattle.table.specs.declared.Row.{Row}
use Rattle.table.specs.Table.{shaped, judge_table}
use Rattle.places.specs.Places.{waits}
use Rattle.rules.specs.View.{View, fresh}
use Rattle.rules.specs.declared.Outcome.{Outcome}
use Rattle.rules.specs.declared.Outcome.TheVariants.{Passed, Answered, Turned, Refused}
use Rattle.rules.specs.Judge.{late, reply, judge_response, busy, judge_command, judge_kind, judge_read, judge_message}
use Rattle.rules.specs.Apply.{applied, answered_rows}
use Rattle.rules.proofs.Sums.{row, rows, one-passed}
use Rattle.router.specs.declared.Router.{Router}
use Rattle.router.specs.Router.{view_of, Lawful}
use Rattle.start.specs.Start.{start_of, router_left}
use Rattle.start.proofs.Starts.{lent_view, lent-law}
use Rattle.fields.specs.Fields.{file_of, row_of, step_of, field_bytes}
use Rattle.text.specs.Text.{ascii, decimal_of}
use Rattle.lines.specs.Lines.{word_of, text_of}
use Rattle.run.specs.Run.{run_of}
use Rattle.transcript.specs.Prescribed.{line_with, prescribed}
use Rattle.demands.specs.Cheats.{Build, Meets, RefusesAll, OneOutcome, DoesNothing, ten, Echoes, Printing, Prints, MadeUp}
use Rattle.demands.proofs.Used.{start-fresh}

-- ---- the page's session, up to its first message, and what may come after it

abbrev lent : List Row
lent = row 0x0202 true ∷ row 0x0001 true ∷ row 0x0100 true ∷ []

accepted : judge_table lent ≡ Ok tt
unfolding judge_table shaped category_of sub_address_of multi
accepted = refl

abbrev began : Router
began = router_left (start_of lent)

-- the till asks the PSAM, and the PSAM answers
abbrev ask : List ℕ
ask = 0x00 ∷ 0x01 ∷ 0x01 ∷ 0x00 ∷ 0x42 ∷ 0x03 ∷ 0x00 ∷ 0x01 ∷ 0xAA ∷ []

abbrev answer : List ℕ
answer = 0x01 ∷ 0x00 ∷ 0x00 ∷ 0x01 ∷ 0xFF ∷ 0x03 ∷ 0x00 ∷ 0x02 ∷ 0x00 ∷ 0x00 ∷ []

abbrev passes : Outcome
passes = Passed 0x0100 0x0001 0x42 3

-- what comes of them, by the definitions
record Computed : Type 0 where
  pub too_short : judge_message (fresh rows) 10 [] ≡ Refused TooShort
  pub asked : judge_message (fresh rows) 10 ask ≡ passes
  pub waits-on : applied passes (fresh rows) ≡ one-passed
  pub asked-again : judge_message one-passed 10 ask ≡ Turned 0x0100 0x0001 3 handler_busy
  pub answered : judge_message one-passed 10 answer ≡ Answered 0x0001 0x0100 3 0
  pub waits-no-more : applied (Answered 0x0001 0x0100 3 0) one-passed ≡ fresh rows

computed : Computed
unfolding read_of part_of code_of category_of handler_of multi own common late reply judge_response busy judge_command judge_kind judge_read judge_message answered_rows
computed = record { too_short = refl; asked = refl; waits-on = refl; asked-again = refl; answered = refl; waits-no-more = refl }

module _ (b : Build) (m : Meets b) where
  -- one message: its outcome, and the next state
  record Step (r : Router) (s : List ℕ) (o : Outcome) (w : View) : Type 0 where
    pub outcome : (b r s ten).routed.outcome ≡ o
    pub view : view_of (b r s ten).routed.next ≡ w
    pub law : Lawful (b r s ten).routed.next

  step : (r : Router) (v : View) → Lawful r → view_of r ≡ v → (s : List ℕ) (o : Outcome) (w : View) → judge_message v 10 s ≡ o → applied o v ≡ w → Step r s o w
  step r v l e s o w j a =
      let c = m r l s ten in
      let k : judge_message (view_of r) 10 s ≡ o = ap (λ (x : View). judge_message x 10 s) e ∙ j in
      record { outcome = c.outcome ∙ k; view = c.view ∙ ap (λ (x : Outcome). applied x (view_of r)) k ∙ ap (applied o) e ∙ a; law = c.law }

  first : Step began ask passes one-passed
  first = step began (fresh rows) (lent-law lent) (lent_view lent accepted) ask passes one-passed computed.asked computed.waits-on

  abbrev on : Router
  on = (b began ask ten).routed.next

  second : Step on answer (Answered 0x0001 0x0100 3 0) (fresh rows)
  second = step on one-passed first.law first.view answer _ (fresh rows) computed.answered computed.waits-no-more

  pub refuses-all : RefusesAll b → ⊥
  refuses-all c = let r = c began (lent-law lent) ask ten in differ r.0 (sym r.1 ∙ first.outcome)
    where
      differ : (k : Refusal) → Refused k ≡ passes → ⊥
      differ k e = let z : ◌≡◌ {A = ℕ} 0 1 = cc in omega arith

  pub one-outcome : OneOutcome b → ⊥
  one-outcome c = differ (sym short.outcome ∙ c.1 began (lent-law lent) [] ten ∙ sym (c.1 began (lent-law lent) ask ten) ∙ first.outcome)
    where
      short : Step began [] (Refused TooShort) (fresh rows)
      short = step began (fresh rows) (lent-law lent) (lent_view lent accepted) [] (Refused TooShort) (fresh rows) computed.too_short refl

      differ : Refused TooShort ≡ passes → ⊥
      differ e = let z : ◌≡◌ {A = ℕ} 0 1 = cc in omega arith

  pub does-nothing : DoesNothing b → ⊥
  does-nothing c =
      let n : ◌≡◌ {A = ℕ} 1 0 =
      ap (λ (v : View). length (waits v.places)) (sym first.view) ∙ ap length (c began (lent-law lent) ask ten) ∙ ap (λ (v : View). length (waits v.places)) (lent_view lent accepted) in
      omega arith

  -- the till asks again: with nothing between it is turned back, and with the answer between it is passed
  pub echoes : Echoes b → ⊥
  echoes c = differ (sym turned.outcome ∙ c.1 began (start-fresh lent) ask [] ask ∙ sym (c.1 began (start-fresh lent) ask (answer ∷ []) ask) ∙ passed.outcome)
    where
      turned : Step on ask (Turned 0x0100 0x0001 3 handler_busy) one-passed
      turned = step on one-passed first.law first.view ask _ one-passed computed.asked-again refl

      passed : Step (b on answer ten).routed.next ask passes one-passed
      passed = step _ (fresh rows) second.law second.view ask passes one-passed computed.asked computed.waits-on

      differ : Turned 0x0100 0x0001 3 handler_busy ≡ passes → ⊥
      differ e = let z : ◌≡◌ {A = ℕ} 0 1 = cc in omega arith

-- ---- made_up totals: two inputs of one length, each with one line before the totals; the one has a message that is passed, the other one that is
-- refused

abbrev input : (length : ℕ) → List ℕ
input n =
    field_bytes 0x01 (0x01 ∷ 0x00 ∷ 0x01 ∷ [])
    ++ (field_bytes 0x01 (0x00 ∷ 0x01 ∷ 0x01 ∷ [])
    ++ field_bytes 0x02 (0x00 ∷ 0x01 ∷ 0x01 ∷ 0x00 ∷ 0x42 ∷ 0x03 ∷ 0x00 ∷ n ∷ 0xAA ∷ []))

record Printed : Type 0 where
  pub one-passed : prescribed (input 1) ≡ ascii "1 passed 0001\n" ∷ ascii "totals 1 0 0 1 0\n" ∷ []
  pub one-refused : prescribed (input 0) ≡ ascii "1 refused 19\n" ∷ ascii "totals 0 0 0 0 0\n" ∷ []

printed : Printed
unfolding run_of line_with file_of row_of step_of shaped judge_table category_of sub_address_of handler_of multi common own read_of part_of code_of busy judge_command judge_kind judge_read judge_message decimal_of word_of text_of
printed = record { one-passed = refl; one-refused = refl }

pub made_up : (p : Printing) → Prints p → MadeUp p → ⊥
made_up p m c =
    let a = m (input 1) ∙ printed.one-passed in
    let b = m (input 0) ∙ printed.one-refused in
    let x : c.0 (length (input 1)) 2 ≡ ascii "totals 1 0 0 1 0\n" = rw a at (sym (c.1 (input 1))) in
    let y : c.0 (length (input 0)) 2 ≡ ascii "totals 0 0 0 0 0\n" = rw b at (sym (c.1 (input 0))) in
    let z : ◌≡◌ {A = ℕ} 49 48 = ap (λ (l : List ℕ). get_or l 7 0) (sym x ∙ y) in
    absurd (omega arith)
