-- A state of a run: what is left in it, its law, and the state after an item.
use Rattle.std.specs.Prelude.{ℕ, ◌+◌, ◌≤◌, ◌≡◌, Bool, true, false, cond, List, [], ◌∷◌, ltb, length}
use Rattle.lists.specs.Lists.{count}
use Rattle.place.specs.declared.Place.{Place}
use Rattle.places.specs.Places.{is_open, is_owed}
use Rattle.rules.specs.View.{View}
use Rattle.rules.specs.Apply.{applied}
use Rattle.rules.specs.declared.Outcome.{Outcome}
use Rattle.rules.specs.declared.Outcome.TheVariants.{Passed, Answered, Swallowed, Event, Turned, Given, Reset, Refused as RefusedStep}
use Rattle.routing.specs.declared.Step as routing
use Rattle.router.specs.Router.{view_of, Lawful, state_of}
use Rattle.fields.specs.declared.NextStep.{NextStep}
use Rattle.fields.specs.declared.NextStep.TheVariants as next
use Rattle.fields.specs.Fields.{Step, message, give-up, replaced, Steps, over, broken, then}
use Rattle.fields.specs.Places.{step_at, steps_at, between}
use Rattle.run.specs.declared.Tally.{Tally}
use Rattle.run.specs.declared.Totals.{Totals}
use Rattle.run.specs.declared.Item.{Item}
use Rattle.run.specs.declared.Item.TheVariants.{Came, Over, Broken, Refused, TooLong, Nothing}
use Rattle.run.specs.declared.Stage.{Stage}
use Rattle.run.specs.declared.Stage.TheVariants.{Steps as steps, Settled}
use Rattle.run.specs.declared.Cursor.{Cursor}
use Rattle.run.specs.declared.Ahead.{Ahead}
use Rattle.run.specs.declared.Ahead.TheVariants as ahead
use Rattle.run.specs.declared.Session.{Session}
use Rattle.run.specs.declared.Turn.{Turn}
use Rattle.run.specs.declared.Went.{Went}
use Rattle.run.specs.Run.{no_reply, reply_of, reply_in, outcome_of}

-- ---- the counts

abbrev pub no_tally : Tally
no_tally = record { accepted = 0; answered = 0; given = 0 }

abbrev pub tallied : Outcome → Tally → Tally
tallied (Passed asker asked kind t) n = record { accepted = n.accepted + 1; answered = n.answered; given = n.given }
tallied (Answered asked asker t k) n = record { accepted = n.accepted; answered = n.answered + 1; given = n.given }
tallied (Given asker asked t) n = record { accepted = n.accepted; answered = n.answered; given = n.given + 1 }
tallied (Swallowed asked t) n = n
tallied Event n = n
tallied (Turned asker asked t k) n = n
tallied (Reset h) n = n
tallied (RefusedStep r) n = n

abbrev pub totals_of : Tally → List Place → Totals
totals_of n ps = record {
  accepted = n.accepted;
  answered = n.answered;
  given = n.given;
  waiting = count is_open ps;
  owing = count is_owed ps;
}

-- ---- the items that are left

abbrev pub items_from : View → Tally → (k : ℕ) → Steps → List Item
items_from v n k over = Over (totals_of n v.places) ∷ []
items_from v n k (broken b) = Broken b ∷ []
items_from v n k (then st m) = Came k (outcome_of v st) ∷ items_from (applied (outcome_of v st) v) (tallied (outcome_of v st) n) (k + 1) m

-- an item and those after it; where nothing is left, no item
abbrev pub followed : Item → List Item → List Item
followed (Came k o) l = Came k o ∷ l
followed (Over t) l = Over t ∷ l
followed (Broken n) l = Broken n ∷ l
followed (Refused r) l = Refused r ∷ l
followed TooLong l = TooLong ∷ l
followed Nothing l = []

abbrev pub hands_out : Item → Bool
hands_out (Came k o) = true
hands_out (Over t) = true
hands_out (Broken n) = true
hands_out (Refused r) = true
hands_out TooLong = true
hands_out Nothing = false

abbrev pub left_by : List ℕ → View → Cursor → Stage → List Item
left_by s v c steps =
    cond (ltb 65536 (length s)) (TooLong ∷ []) (items_from v c.tally c.step (steps_at s c.number c.at))
left_by s v c (Settled i) = followed i []

unfoldable pub items_left : List ℕ → View → Cursor → List Item
items_left s v c = left_by s v c c.stage

-- ---- the law of a cursor: no number is above what was read

-- numbers of five digits
abbrev pub Small : Item → Type 0
Small (Came k o) = k ≤ 65537
Small (Over t) = (t.accepted ≤ 65537) × (t.answered ≤ 65537) × (t.given ≤ 65537) × (t.waiting ≤ 65537) × (t.owing ≤ 65537)
Small (Broken n) = n ≤ 65537
Small (Refused r) = Unit {0}
Small TooLong = Unit {0}
Small Nothing = Unit {0}

-- what can be settled before the steps
abbrev pub Settles : Item → Type 0
Settles (Came k o) = ⊥
Settles (Over t) = ⊥
Settles (Broken n) = n ≤ 65537
Settles (Refused r) = Unit {0}
Settles TooLong = Unit {0}
Settles Nothing = Unit {0}

abbrev pub SettledIn : Stage → Type 0
SettledIn steps = Unit {0}
SettledIn (Settled i) = Settles i

pub record Sound (c : Cursor) : Type 0 where
  pub small : c.at ≤ 65536
  pub fields : c.number ≤ c.at + 1
  pub steps : c.step ≤ c.at + 1
  pub accepted : c.tally.accepted ≤ c.at
  pub answered : c.tally.answered ≤ c.at
  pub given : c.tally.given ≤ c.at
  pub settled : SettledIn c.stage

-- ---- a session

-- the law of every session that `begin` or `next` hands back
pub record Ready (w : Session) : Type 0 where
  pub law : Lawful w.router
  pub sound : Sound w.cursor

-- a session as it means
pub record Sight : Type 0 where
  pub view : View
  pub cursor : Cursor

abbrev pub sight_of : Session → Sight
sight_of w = record { view = view_of w.router; cursor = w.cursor }

abbrev pub items_in : List ℕ → Session → List Item
items_in s w = items_left s (view_of w.router) w.cursor

-- ---- one item

-- what a turn hands back, with the router's view
pub record Shown : Type 0 where
  pub item : Item
  pub reply : List ℕ
  pub cursor : Cursor
  pub view : View

abbrev pub shown : Turn → Shown
shown t = record { item = t.item; reply = t.reply; cursor = t.next.cursor; view = view_of t.next.router }

-- after a step whose field ends at nx
abbrev pub went_by : Cursor → Outcome → (nx : ℕ) → Cursor
went_by c o nx = record { at = nx; number = c.number + 1; step = c.step + 1; tally = tallied o c.tally; stage = steps }

abbrev pub went : View → Cursor → Step → (nx : ℕ) → Shown
went v c st nx = record {
  item = Came c.step (outcome_of v st);
  reply = reply_of (outcome_of v st);
  cursor = went_by c (outcome_of v st) nx;
  view = applied (outcome_of v st) v;
}

-- after the last item
abbrev pub closed : Cursor → Cursor
closed c = record { at = c.at; number = c.number; step = c.step; tally = c.tally; stage = Settled Nothing }

abbrev pub ended : View → Cursor → Item → Shown
ended v c i = record { item = i; reply = no_reply; cursor = closed c; view = v }

abbrev pub ended_in : Session → Item → Turn
ended_in w i = record { item = i; reply = no_reply; more = hands_out i; next = record { cursor = closed w.cursor; router = w.router } }

-- what comes next, before the router is asked
abbrev pub ahead_in : (number : ℕ) → NextStep → Ahead
ahead_in n (next.Message a b) = ahead.Message a b
ahead_in n (next.GiveUp t a b) = ahead.GiveUp t a b
ahead_in n (next.Replaced a b) = ahead.Replaced a b
ahead_in n next.Broken = ahead.Last (Broken n)
ahead_in n next.End = ahead.Over

abbrev pub ahead_by : List ℕ → Cursor → Stage → Ahead
ahead_by s c steps = cond (ltb 65536 (length s)) (ahead.Last TooLong) (ahead_in c.number (step_at s c.at))
ahead_by s c (Settled i) = ahead.Last i

unfoldable pub ahead_of : List ℕ → Cursor → Ahead
ahead_of s c = ahead_by s c c.stage

abbrev pub next_by : List ℕ → View → Cursor → Ahead → Shown
next_by s v c (ahead.Message a b) = went v c (message (between s a b)) b
next_by s v c (ahead.GiveUp t a b) = went v c (give-up t a) b
next_by s v c (ahead.Replaced a b) = went v c (replaced a) b
next_by s v c ahead.Over = ended v c (Over (totals_of c.tally v.places))
next_by s v c (ahead.Last i) = ended v c i

abbrev pub next_of : List ℕ → View → Cursor → Shown
next_of s v c = next_by s v c (ahead_of s c)

-- what a session means after one item
abbrev pub turned : List ℕ → Sight → Sight
turned s x = record { view = (next_of s x.view x.cursor).view; cursor = (next_of s x.view x.cursor).cursor }

-- the contract of a step: what it hands back, and the router's law
pub record Stepped (w : Session) (st : Step) (nx : ℕ) (t : Turn) : Type 0 where
  pub same : shown t ≡ went (view_of w.router) w.cursor st nx
  pub more : t.more ≡ true
  pub law : Lawful t.next.router

-- the contract of `next`
pub record Turns (s : List ℕ) (w : Session) (t : Turn) : Type 0 where
  pub same : shown t ≡ next_of s (view_of w.router) w.cursor
  pub more : t.more ≡ hands_out t.item
  pub ready : Ready t.next
  pub little : Small t.item
  pub answer : t.reply ≡ reply_in t.item

-- ---- in place: the arrays of the router are lent

-- a session is its parts
abbrev pub session_of : (cells : List ℕ) → (count : ℕ) → (list : List ℕ) → (len : ℕ) → Cursor → Session
session_of c n l k x = record { cursor = x; router = state_of c n l k }

-- what is handed out, with what the arrays then hold
abbrev pub turn_of : Went → (cells : List ℕ) → (count : ℕ) → (list : List ℕ) → Turn
turn_of w c n l = record { item = w.item; reply = w.reply; more = w.more; next = session_of c n l w.len w.cursor }

-- after a call of the router, and after the last item
abbrev pub came_to : Cursor → routing.Step → (reply : List ℕ) → (nx : ℕ) → Went
came_to c d y nx = record { item = Came c.step d.outcome; reply = y; more = true; cursor = went_by c d.outcome nx; len = d.len }

abbrev pub ended_at : Cursor → Item → (len : ℕ) → Went
ended_at c i k = record { item = i; reply = no_reply; more = hands_out i; cursor = closed c; len = k }
