-- The old list of rules, a to f (specs/Old.antt): rule f was never met, and so a to e decide what a to f decided; and what rule f said.
use Prim.Native.Nat.{ℕ, ◌≤◌, ◌<◌}
use Rattle.std.specs.Prelude.{Ok}
use mathlib.Core.Path.{◌≡◌, refl, sym, ap, ◌∙◌}
use mathlib.Core.Logic.{inl, inr}
use mathlib.Core.Bool.{Bool, true, false}
use mathlib.Core.List.{List, []}
use native.Mathlib.Omega.{arith}
use lib.ListN.{length}
use borrow.Author.Tests.{lt-leb, le-leb}
use Rattle.lists.specs.Lists.{In}
use Rattle.lists.proofs.Tests.{checks-skip, checks-said}
use Rattle.tapa.specs.Address.{handler_of}
use Rattle.tapa.specs.Codes.{insufficient_resources, response}
use Rattle.message.specs.declared.Head.{Head}
use Rattle.message.specs.Message.{read_of}
use Rattle.table.specs.Table.{listed, Proper}
use Rattle.rules.specs.View.{View}
use Rattle.rules.specs.declared.Outcome.{Outcome}
use Rattle.rules.specs.declared.Outcome.TheVariants.{Passed, Answered, Swallowed, Event, Turned, Given, Reset, Refused}
use Rattle.rules.specs.Judge.{is_add_event, rules, judge_command, Call, message, judge}
use Rattle.rules.specs.Old.{rule_f, old_command, with_f, old_judge}
use Rattle.rules.specs.Conduct.{Conduct}
use Rattle.rules.specs.Words.{turn_codes}
use Rattle.rules.proofs.Steps.{message-kind, kind-command}
use Rattle.rules.proofs.Allowed.{Allowed, allowed}
use Rattle.rules.proofs.Bound.{bound_all, sized}

-- ---- rule f was never met

module _ (v : View) (p : Proper v.rows) (c : Conduct v) where
  -- 'waits plus owings are already 48' is never so
  pub f-never : (asker asked t : ℕ) → (rule_f v asker asked t).0 ≡ false
  f-never asker asked t = lt-leb _ (length v.places) (omega (arith, bound_all v (sized v.rows p) c))

  -- and so the rules a to e decide what a to f decided, of every command
  pub f-goes : (h : Head) → old_command v h ≡ judge_command v h
  unfolding judge_command
  f-goes h =
      let f = rule_f v h.source h.destination h.thread in
      checks-skip (rules v h) [] f.0 f.1 (Passed h.source h.destination h.kind h.thread) (f-never h.source h.destination h.thread)

  -- and of every call
  pub f-goes-call : (room : ℕ) (k : Call) → old_judge v room k ≡ judge v room k
  f-goes-call room k = go (judge v room k)
    where
      go : (o : Outcome) → with_f v o ≡ o
      go (Passed asker asked kind t) = rw (f-never asker asked t)
      go (Answered asked asker t j) = refl
      go (Swallowed asked t) = refl
      go Event = refl
      go (Turned asker asked t j) = refl
      go (Given asker asked t) = refl
      go (Reset h) = refl
      go (Refused r) = refl

-- ---- what it said, in any view

-- f was asked last: the old list made of a command what `with_f` makes of what a to e decide
pub f-last : (v : View) (h : Head) → old_command v h ≡ with_f v (judge_command v h)
unfolding judge_command
f-last v h = sym (checks-said (with_f v) (rules v h) (Passed h.source h.destination h.kind h.thread))

-- where a to e pass a command: 'waits plus owings are already 48: 'FFF6'', and otherwise it is passed
module _ (v : View) (h : Head) (e : judge_command v h ≡ Passed h.source h.destination h.kind h.thread) where
  abbrev test : Bool
  test = (rule_f v h.source h.destination h.thread).0

  pub f-turned : 48 ≤ length v.places → old_command v h ≡ Turned h.source h.destination h.thread 0xFFF6
  f-turned full = let t : test ≡ true = le-leb _ (length v.places) (omega (arith, full)) in f-last v h ∙ rw (e, t)

  pub f-passed : length v.places < 48 → old_command v h ≡ Passed h.source h.destination h.kind h.thread
  f-passed room = let t : test ≡ false = lt-leb _ (length v.places) (omega (arith, room)) in f-last v h ∙ rw (e, t)

-- a message that is a command had of the old judge what the old list made of it
pub old-of-command : (v : View) (room : ℕ) (s : List ℕ) (h : Head) → 10 ≤ room → read_of s ≡ Ok h → listed (handler_of h.source) v.rows ≡ true
    → h.thread ≤ 7 → (h.kind ≡ response → ⊥) → is_add_event h ≡ false → old_judge v room (message s) ≡ old_command v h
old-of-command v room s h enough r y small k e =
    ap (with_f v) (message-kind v room s enough (read_of s) refl h r y small ∙ kind-command v h _ k e) ∙ sym (f-last v h)

-- ---- without it

-- 'FFF6' is none of the five codes
no-code-of-rules : In insufficient_resources turn_codes → ⊥
no-code-of-rules (inl e) = let z : ◌≡◌ {A = ℕ} 0xFFF1 0xFFF6 = e in omega arith
no-code-of-rules (inr (inl e)) = let z : ◌≡◌ {A = ℕ} 0xFFFB 0xFFF6 = e in omega arith
no-code-of-rules (inr (inr (inl e))) = let z : ◌≡◌ {A = ℕ} 0xFFF7 0xFFF6 = e in omega arith
no-code-of-rules (inr (inr (inr (inl e)))) = let z : ◌≡◌ {A = ℕ} 0xFFF3 0xFFF6 = e in omega arith
no-code-of-rules (inr (inr (inr (inr (inl e))))) = let z : ◌≡◌ {A = ℕ} 0xFFF5 0xFFF6 = e in omega arith
no-code-of-rules (inr (inr (inr (inr (inr e))))) = e

-- no command is turned back with 'FFF6', whatever the view and the call
pub never-f : (v : View) (room : ℕ) (k : Call) (asker asked t : ℕ) → judge v room k ≡ Turned asker asked t insufficient_resources → ⊥
never-f v room k asker asked t e =
    let a : Allowed v (Turned asker asked t insufficient_resources) = rw e at (allowed v room k) in
    no-code-of-rules a.2
