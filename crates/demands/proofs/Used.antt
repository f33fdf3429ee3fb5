-- Demand 3 holds of the code: of every run of the router, from every public start.
use Prim.Native.Nat.{ℕ}
use Rattle.std.specs.Prelude.{Result, Ok, Err}
use mathlib.Core.Path.{◌≡◌, refl, sym, ap, ◌∙◌}
use mathlib.Core.List.{List, [], ◌∷◌}
use lib.ListN.{length, replicate}
use Rattle.lists.specs.Lists.{some_of}
use Rattle.lists.proofs.Tests.{split}
use Rattle.tapa.specs.declared.Refusal.{Refusal}
use Rattle.tapa.specs.Address.{handler_of}
use Rattle.message.specs.Message.{message_of, response_of}
use Rattle.table.specs.declared.Row.{Row}
use Rattle.table.specs.declared.Rows.{Rows}
use Rattle.table.specs.Table.{Held, no_rows, listed}
use Rattle.table.proofs.Judged.{none-proper}
use Rattle.table.proofs.Read.{none-held}
use Rattle.setup.specs.declared.Accepted.{Accepted}
use Rattle.setup.specs.Setup.{set_up_with, set_up_of, Settled}
use Rattle.places.specs.Places.{stands_in}
use Rattle.rules.specs.View.{View}
use Rattle.rules.specs.declared.Outcome.{Outcome}
use Rattle.rules.specs.declared.Outcome.TheVariants.{Passed, Answered, Swallowed, Event, Turned, Given, Reset, Refused}
use Rattle.rules.specs.Judge.{Call, message, give_up, replaced, judge, judge_replaced}
use Rattle.rules.specs.Apply.{applied, written, sent}
use Rattle.router.specs.declared.Router.{Router}
use Rattle.router.specs.Router.{view_of, Lawful}
use Rattle.start.specs.Start.{blank, started as started_router, start_with, start_of, router_left}
use Rattle.start.proofs.Starts.{fresh-lawful, from-law, start-law, lent-law}
use Rattle.history.specs.History.{Entry, goes_out}
use Rattle.history.specs.Marks.{Honest}
use Rattle.history.specs.Opening.{rows_in}
use Rattle.history.specs.Promise.{Ran, begun, going, EachBears, Promise, Bounded}
use Rattle.history.proofs.Promise.{promise-ran, bounded-ran, marks-ran, rows-ran}
use Rattle.demands.specs.Used.{Fresh, made, Used, started, routed, gave-up, was-replaced}

-- ---- the public starts: over no rows, from what set-up hands back, over rows by value, and over lent rows (`start_from` after `setup::set_up`)

pub blank-fresh : Fresh blank
blank-fresh = record { law = fresh-lawful no_rows none-held none-proper; no-places = refl }

-- whatever set-up answers, no place is left
none-left : (s : Result Accepted Refusal) → (view_of (router_left (started_router s))).places ≡ []
none-left (Ok u) = refl
none-left (Err k) = refl

pub start-from-fresh : (s : Result Accepted Refusal) → ((u : Accepted) → s ≡ Ok u → Settled u) → Fresh (router_left (started_router s))
start-from-fresh s f = record { law = from-law s f; no-places = none-left s }

pub start-with-fresh : (t : Rows) → Held t → Fresh (router_left (start_with t))
start-with-fresh t h = record { law = start-law t h; no-places = none-left (set_up_with t) }

pub start-fresh : (rows : List Row) → Fresh (router_left (start_of rows))
start-fresh rows = record { law = lent-law rows; no-places = none-left (set_up_of rows) }

-- ---- the bytes to send

-- what stood in the reply buffer before does not show in them
same_out : (o : Outcome) (bytes a b : List ℕ) → sent o bytes (written o a) ≡ sent o bytes (written o b)
unfolding message_of response_of
same_out (Passed asker asked kind t) bytes a b = refl
same_out (Answered asked asker t k) bytes a b = refl
same_out (Swallowed asked t) bytes a b = refl
same_out Event bytes a b = refl
same_out (Turned asker asked t k) bytes a b = refl
same_out (Given asker asked t) bytes a b = refl
same_out (Reset h) bytes a b = refl
same_out (Refused r) bytes a b = refl

-- a replaced call sends nothing
none_out : (v : View) (a : ℕ) → [] ≡ sent (judge_replaced v a) [] (written (judge_replaced v a) [])
unfolding judge_replaced
none_out v a =
    split (listed (handler_of a) v.rows)
    (λ p. rw p (split (some_of (stands_in (handler_of a)) v.places) (λ q. rw q) (λ q. rw q)))
    (λ p. rw p)

-- ---- a run

module _ (first : Router) (f : Fresh first) where
  -- every state keeps the law, which is all that a call requires
  pub used-lawful : {h : List Entry} {r : Router} → Used first h r → Lawful r
  used-lawful started = f.law
  used-lawful (routed h r u bytes before after out c) = c.law
  used-lawful (gave-up h r u thread address before after out c) = c.law
  used-lawful (was-replaced h r u address out c) = c.law

  abbrev rows : List Row
  rows = (view_of first).rows

  next : (h : List Entry) (v : View) → Ran rows h v → (room : ℕ) (call : Call) (o : Outcome) (b : List ℕ) (w : View)
      → o ≡ judge v room call → b ≡ goes_out (record { room = room; call = call }) (judge v room call) → w ≡ applied (judge v room call) v
      → Ran rows (made room call o b ∷ h) w
  next h v r room call o b w p k q =
      going h v r record { room = room; call = call } o b w p (k ∙ ap (goes_out (record { room = room; call = call })) (sym p)) (q ∙ ap (λ (x : Outcome). applied x v) (sym p))

  buffered : (o p : Outcome) (bytes before after : List ℕ) → p ≡ o → after ≡ written o before
      → sent p bytes after ≡ sent o bytes (written o (replicate (length before) 0))
  buffered o p bytes before after e k = rw (e, k) (same_out o bytes before (replicate (length before) 0))

  used-ran : {h : List Entry} {r : Router} → Used first h r → Ran rows h (view_of r)
  used-ran started = begun _ (λ i. record { rows = rows; places = f.no-places i })
  used-ran (routed h r u bytes before after out c) =
      next h (view_of r) (used-ran u) _ (message bytes) _ _ (view_of out.next) c.outcome (buffered _ _ bytes before after c.outcome c.reply) c.view
  used-ran (gave-up h r u thread address before after out c) =
      next h (view_of r) (used-ran u) _ (give_up thread address) _ _ (view_of out.next) c.outcome (buffered _ _ [] before after c.outcome c.reply) c.view
  used-ran (was-replaced h r u address out c) =
      next h (view_of r) (used-ran u) 0 (replaced address) _ _ (view_of out.next) c.outcome (none_out (view_of r) address) c.view

  pub promise-used : {h : List Entry} {r : Router} → Used first h r → Promise h (view_of r)
  promise-used u = promise-ran rows (used-ran u)

  pub bounded-used : {h : List Entry} {r : Router} → Used first h r → Bounded rows h (view_of r)
  bounded-used u = bounded-ran rows f.law.table (used-ran u)

  pub marks-used : (mark : ℕ → ℕ) {h : List Entry} {r : Router} → Used first h r → Honest mark h → EachBears mark h
  marks-used mark u m = marks-ran mark rows (used-ran u) m

  pub rows-used : {h : List Entry} {r : Router} → Used first h r → (view_of r).rows ≡ rows_in rows h
  rows-used u = rows-ran rows (used-ran u)
