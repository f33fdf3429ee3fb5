-- One item: what each part of `next` hands back, over plain values; and that the law is kept. Assumes nothing.
use Prim.Native.Nat.{ℕ, ◌+◌, ◌≤◌, ◌<◌}
use mathlib.Core.Path.{◌≡◌, refl, sym, ap, subst, ◌∙◌}
use mathlib.Core.List.{List}
use native.Mathlib.Omega.{arith}
use lib.Dec.{ltb}
use lib.ListN.{length}
use borrow.Table.Steps.{cases}
use borrow.Author.Tests.{ltb-false, lt-ltb, le-ltb}
use Rattle.lists.specs.Lists.{count, some_of}
use Rattle.tapa.specs.Address.{handler_of}
use Rattle.table.specs.Table.{listed}
use Rattle.place.specs.declared.Place.{Place}
use Rattle.places.specs.Places.{is_open, is_owed, stands_in}
use Rattle.places.proofs.Points.{len}
use Rattle.rules.specs.View.{View}
use Rattle.rules.specs.Judge.{judge_replaced}
use Rattle.rules.specs.declared.Outcome.{Outcome}
use Rattle.rules.specs.declared.Outcome.TheVariants.{Passed, Answered, Swallowed, Event, Turned, Given, Reset, Refused}
use Rattle.routing.specs.declared.Step as routing
use Rattle.router.specs.Router.{view_of, Routing, Replacing, routed_to}
use Rattle.router.proofs.Counts.{open-or-owed}
use Rattle.fields.specs.declared.NextStep.{NextStep}
use Rattle.fields.specs.declared.NextStep.TheVariants as next
use Rattle.fields.specs.Fields.{Step, replaced}
use Rattle.fields.specs.Places.{step_at}
use Rattle.fields.proofs.Left.{StepInside, step-inside}
use Rattle.run.specs.declared.Tally.{Tally}
use Rattle.run.specs.declared.Totals.{Totals}
use Rattle.run.specs.declared.Item.{Item}
use Rattle.run.specs.declared.Item.TheVariants.{Came, Over, Broken, Refused as RefusedTable, TooLong, Nothing}
use Rattle.run.specs.declared.Stage.{Stage}
use Rattle.run.specs.declared.Stage.TheVariants.{Steps as steps, Settled}
use Rattle.run.specs.declared.Cursor.{Cursor}
use Rattle.run.specs.declared.Ahead.{Ahead}
use Rattle.run.specs.declared.Ahead.TheVariants as ahead
use Rattle.run.specs.declared.Session.{Session}
use Rattle.run.specs.declared.Turn.{Turn}
use Rattle.run.specs.declared.Went.{Went}
use Rattle.run.specs.Run.{no_reply, reply_of, reply_in, outcome_of}
use Rattle.run.specs.State.{tallied, totals_of, hands_out, Small, Settles, SettledIn, Sound, Ready, Shown, went_by, went, closed, ended, ended_in, ahead_in, ahead_by, ahead_of, next_by, Stepped, Turns, turn_of, came_to}

-- ---- a step

-- the case that the match found
pub counts : (o found : Outcome) (n m : Tally) → o ≡ found → m ≡ tallied found n → m ≡ tallied o n
counts o found n m e f = rw e f

pub goes : (c : Cursor) (o : Outcome) (nx : ℕ) (y : Tally) → y ≡ tallied o c.tally
    → ◌≡◌ {A = Cursor} (record { at = nx; number = c.number + 1; step = c.step + 1; tally = y; stage = steps }) (went_by c o nx)
goes c o nx y e = λ i. record { at = nx; number = c.number + 1; step = c.step + 1; tally = e i; stage = steps }

-- after a call of the router, in place
module _ (w : Session) (st : Step) (nx : ℕ) (d : routing.Step) (reply : List ℕ) (x : Went) (a : x ≡ came_to w.cursor d reply nx) (c : List ℕ) (n : ℕ) (l : List ℕ) where
  stepped : Replacing (outcome_of (view_of w.router) st) w.router (routed_to d c n l) → reply ≡ reply_of (outcome_of (view_of w.router) st)
      → Stepped w st nx (turn_of x c n l)
  stepped y e =
      rw a
      (record {
        same = λ i. record { item = Came w.cursor.step (y.outcome i); reply = e i; cursor = went_by w.cursor (y.outcome i) nx; view = y.view i };
        more = refl;
        law = y.law;
      })

  pub stepped-reply : Routing (outcome_of (view_of w.router) st) w.router no_reply reply (routed_to d c n l) → Stepped w st nx (turn_of x c n l)
  stepped-reply y = stepped (record { outcome = y.outcome; view = y.view; law = y.law }) y.reply

-- a replaced call has no reply
no-reply : (v : View) (a : ℕ) → no_reply ≡ reply_of (outcome_of v (replaced a))
unfolding judge_replaced
no-reply v a =
    cases (listed (handler_of a) v.rows)
    (λ e. rw e (cases (some_of (stands_in (handler_of a)) v.places) (λ f. rw f) (λ f. rw f)))
    (λ e. rw e)

pub stepped-replaced : (w : Session) (a nx : ℕ) (d : routing.Step) (x : Went) → x ≡ came_to w.cursor d no_reply nx → (c : List ℕ) (n : ℕ) (l : List ℕ)
    → Replacing (outcome_of (view_of w.router) (replaced a)) w.router (routed_to d c n l)
    → Stepped w (replaced a) nx (turn_of x c n l)
stepped-replaced w a nx d x e c n l y = stepped w (replaced a) nx d no_reply x e c n l y (no-reply (view_of w.router) a)

-- what the places say is under way
pub sums : (n : Tally) (ps : List Place) (waiting owing : ℕ) → waiting ≡ count is_open ps → owing ≡ count is_owed ps
    → ◌≡◌ {A = Totals} (record { accepted = n.accepted; answered = n.answered; given = n.given; waiting = waiting; owing = owing }) (totals_of n ps)
sums n ps waiting owing a b =
    λ i. record { accepted = n.accepted; answered = n.answered; given = n.given; waiting = a i; owing = b i }

-- ---- the law

-- no count grows by more than one
grows : (o : Outcome) (n : Tally)
    → ((tallied o n).accepted ≤ n.accepted + 1) × ((tallied o n).answered ≤ n.answered + 1) × ((tallied o n).given ≤ n.given + 1)
grows (Passed asker asked kind t) n = (omega arith, omega arith, omega arith)
grows (Answered asked asker t k) n = (omega arith, omega arith, omega arith)
grows (Swallowed asked t) n = (omega arith, omega arith, omega arith)
grows Event n = (omega arith, omega arith, omega arith)
grows (Turned asker asked t k) n = (omega arith, omega arith, omega arith)
grows (Given asker asked t) n = (omega arith, omega arith, omega arith)
grows (Reset h) n = (omega arith, omega arith, omega arith)
grows (Refused r) n = (omega arith, omega arith, omega arith)

sound-went : (c : Cursor) (o : Outcome) (nx : ℕ) → Sound c → c.at + 3 ≤ nx → nx ≤ 65536 → Sound (went_by c o nx)
sound-went c o nx h a b =
    let g = grows o c.tally in
    record {
      small = b;
      fields = omega (arith, h.fields);
      steps = omega (arith, h.steps);
      accepted = omega (arith, h.accepted, g.0);
      answered = omega (arith, h.answered, g.1);
      given = omega (arith, h.given, g.2);
      settled = tt;
    }

sound-closed : (c : Cursor) → Sound c → Sound (closed c)
sound-closed c h = record {
  small = h.small;
  fields = h.fields;
  steps = h.steps;
  accepted = h.accepted;
  answered = h.answered;
  given = h.given;
  settled = tt;
}

-- a router never has more than 48 places
pub small-totals : (w : Session) → Ready w → Small (Over (totals_of w.cursor.tally (view_of w.router).places))
small-totals w h =
    let n = open-or-owed (view_of w.router).places in
    let m = len w.router.list w.router.len in
    let k = h.law.held.few in (
      omega (arith, h.sound.accepted, h.sound.small),
      omega (arith, h.sound.answered, h.sound.small),
      omega (arith, h.sound.given, h.sound.small),
      omega (arith, n, m, k),
      omega (arith, n, m, k),
    )

-- ---- what comes next lies inside the input

abbrev pub Inside : List ℕ → Cursor → Ahead → Type 0
Inside s c (ahead.Message a b) = (c.at + 3 ≤ a) × (a ≤ b) × (b ≤ length s) × (b ≤ 65536)
Inside s c (ahead.GiveUp t a b) = (c.at + 3 ≤ b) × (b ≤ 65536)
Inside s c (ahead.Replaced a b) = (c.at + 3 ≤ b) × (b ≤ 65536)
Inside s c ahead.Over = Unit {0}
Inside s c (ahead.Last i) = Sound c → Settles i

inside-in : (s : List ℕ) (c : Cursor) → length s ≤ 65536 → (i : NextStep) → StepInside s c.at i → Inside s c (ahead_in c.number i)
inside-in s c h (next.Message a b) x = (x.0, x.1, x.2, omega (arith, x.2))
inside-in s c h (next.GiveUp t a b) x = (x.0, omega (arith, x.1))
inside-in s c h (next.Replaced a b) x = (x.0, omega (arith, x.1))
inside-in s c h next.Broken x = λ k. omega (arith, k.fields, k.small)
inside-in s c h next.End x = tt

inside-by : (s : List ℕ) (c : Cursor) (g : Stage) → c.stage ≡ g → Inside s c (ahead_by s c g)
inside-by s c steps e =
    cases (ltb 65536 (length s)) (λ b. rw b (λ k. tt))
    (λ b. rw b (inside-in s c (ltb-false 65536 (length s) b) (step_at s c.at) (step-inside s c.at)))
inside-by s c (Settled i) e = λ k. subst (λ (g : Stage). SettledIn g) e k.settled

inside : (s : List ℕ) (c : Cursor) → Inside s c (ahead_of s c)
unfolding ahead_of
inside s c = inside-by s c c.stage refl

-- ---- the arms of `next`

module _ (s : List ℕ) (w : Session) (h : Ready w) (i : Ahead) (e : ahead_of s w.cursor ≡ i) where
  pub inside_of : Inside s w.cursor i
  inside_of = subst (λ (x : Ahead). Inside s w.cursor x) e (inside s w.cursor)

  pub on_step : (st : Step) (nx : ℕ) (t : Turn)
      → next_by s (view_of w.router) w.cursor i ≡ went (view_of w.router) w.cursor st nx
      → w.cursor.at + 3 ≤ nx
      → nx ≤ 65536
      → Stepped w st nx t
      → Turns s w t
  on_step st nx t n a b p =
      let o : Outcome = outcome_of (view_of w.router) st in
      record {
        same = p.same ∙ sym (ap (next_by s (view_of w.router) w.cursor) e ∙ n);
        more = p.more ∙ sym (ap (λ (x : Shown). hands_out x.item) p.same);
        ready = record {
          law = p.law;
          sound = subst (λ (x : Cursor). Sound x) (sym (ap (λ (x : Shown). x.cursor) p.same)) (sound-went w.cursor o nx h.sound a b);
        };
        little = subst (λ (x : Item). Small x) (sym (ap (λ (x : Shown). x.item) p.same)) (omega (arith, h.sound.steps, h.sound.small));
        answer = ap (λ (x : Shown). x.reply) p.same ∙ sym (ap (λ (x : Shown). reply_in x.item) p.same);
      }

  pub on-last : (x : Item) (t : Turn)
      → next_by s (view_of w.router) w.cursor i ≡ ended (view_of w.router) w.cursor x
      → Small x
      → no_reply ≡ reply_in x
      → t ≡ ended_in w x
      → Turns s w t
  on-last x t n m a f =
      rw f
      (record {
        same = sym (ap (next_by s (view_of w.router) w.cursor) e ∙ n);
        more = refl;
        ready = record { law = h.law; sound = sound-closed w.cursor h.sound };
        little = m;
        answer = a;
      })

-- what is settled is small, and has no reply
settled-small : (i : Item) → Settles i → Small i
settled-small (Came k o) h = absurd h
settled-small (Over t) h = absurd h
settled-small (Broken n) h = h
settled-small (RefusedTable r) h = tt
settled-small TooLong h = tt
settled-small Nothing h = tt

settled-reply : (i : Item) → Settles i → no_reply ≡ reply_in i
settled-reply (Came k o) h = absurd h
settled-reply (Over t) h = absurd h
settled-reply (Broken n) h = refl
settled-reply (RefusedTable r) h = refl
settled-reply TooLong h = refl
settled-reply Nothing h = refl

pub on-settled : (s : List ℕ) (w : Session) → Ready w → (x : Item) (t : Turn) → ahead_of s w.cursor ≡ ahead.Last x → t ≡ ended_in w x → Turns s w t
on-settled s w h x t e f =
    let k = inside_of s w h (ahead.Last x) e h.sound in
    on-last s w h (ahead.Last x) e x t refl (settled-small x k) (settled-reply x k) f

-- ---- the arms of `look_ahead`

module _ (s : List ℕ) (c : Cursor) where
  pub settles : (i : Item) → c.stage ≡ Settled i → ahead.Last i ≡ ahead_of s c
  unfolding ahead_of
  settles i e = rw e

  pub long-ahead : c.stage ≡ steps → 65536 < length s → ahead.Last TooLong ≡ ahead_of s c
  unfolding ahead_of
  long-ahead e h = rw (e, lt-ltb 65536 (length s) h)

  pub step-ahead : (x : Ahead) (i : NextStep) → c.stage ≡ steps → length s ≤ 65536 → step_at s c.at ≡ i → x ≡ ahead_in c.number i → x ≡ ahead_of s c
  unfolding ahead_of
  step-ahead x i e h f g = rw (e, le-ltb 65536 (length s) h, f) g
