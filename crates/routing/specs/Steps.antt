-- What the functions that change the state's arrays in place show.
use Rattle.std.specs.Prelude.{ℕ, ◌≡◌, List, length, Option, Some}
use Rattle.lists.specs.Arrays.{Becoming}
use Rattle.tapa.specs.declared.Refusal.{Refusal}
use Rattle.message.specs.declared.Head.{Head}
use Rattle.table.specs.declared.Row.{Row}
use Rattle.table.specs.Table.{pack, unpack, rows_of}
use Rattle.place.specs.declared.Place.{Place}
use Rattle.places.specs.Places.{Becomes}
use Rattle.rules.specs.View.{View}
use Rattle.rules.specs.declared.Outcome.{Outcome}
use Rattle.rules.specs.declared.Outcome.TheVariants.{Refused}
use Rattle.rules.specs.Judge.{judge_message, judge_response, judge_give_up, judge_replaced}
use Rattle.rules.specs.Apply.{answered_rows, rows_after, places_after, written}
use Rattle.ruling.specs.Ruling.{Lent, Shown, places_in, view_in}
use Rattle.routing.specs.declared.Step.{Step}

-- the step of a refusal
abbrev pub refusing : Refusal → (len : ℕ) → Step
refusing r n = record { outcome = Refused r; len = n }

-- the cells of n rows hold these rows, and keep their law
abbrev pub Tabled : (cells : List ℕ) → (n : ℕ) → List Row → Type 0
Tabled c n rows = Becoming 16 pack unpack c n rows

-- ---- a step with the outcome o

-- over the places ps: the array holds the next ones
pub record Placing (o : Outcome) (ps : List Place) (l : List ℕ) (s : Step) : Type 0 where
  pub outcome : s.outcome ≡ o
  pub places : Becomes l s.len (places_after o ps)

-- and what the reply buffer then holds
pub record Writing (o : Outcome) (ps : List Place) (l before after : List ℕ) (s : Step) : Type 0 where
  pub placing : Placing o ps l s
  pub reply : after ≡ written o before

-- over a view: the cells hold the next rows too
pub record Moving (o : Outcome) (v : View) (c : List ℕ) (n : ℕ) (l : List ℕ) (s : Step) : Type 0 where
  pub placing : Placing o v.places l s
  pub table : Tabled c n (rows_after o v)

-- and what the reply buffer then holds
pub record Stepping (o : Outcome) (v : View) (c : List ℕ) (n : ℕ) (l before after : List ℕ) (s : Step) : Type 0 where
  pub moving : Moving o v c n l s
  pub reply : after ≡ written o before

-- ---- the same of arrays that are lent, from a call's entry to its exit

abbrev pub Placed : Outcome → (list : Lent) → (k : ℕ) → Step → Type 0
Placed o list k s = Placing o (places_in list k) list.exit.now s

abbrev pub Wrote : Outcome → (list : Lent) → (k : ℕ) → (reply : Lent) → Step → Type 0
Wrote o list k reply s = Writing o (places_in list k) list.exit.now reply.entry.now reply.exit.now s

abbrev pub Moved : Outcome → (cells : Lent) → (n : ℕ) → (list : Lent) → (k : ℕ) → Step → Type 0
Moved o cells n list k s = Moving o (view_in cells n list k) cells.exit.now n list.exit.now s

abbrev pub Stepped : Outcome → (cells : Lent) → (n : ℕ) → (list : Lent) → (k : ℕ) → (reply : Lent) → Step → Type 0
Stepped o cells n list k reply s =
    Stepping o (view_in cells n list k) cells.exit.now n list.exit.now reply.entry.now reply.exit.now s

-- ---- the calls

abbrev pub OnMessage : (cells : Lent) → (n : ℕ) → (list : Lent) → (k : ℕ) → (message : Shown) → (reply : Lent) → Step → Type 0
OnMessage cells n list k message reply s =
    Stepped (judge_message (view_in cells n list k) (length reply.entry.now) message.entry.now) cells n list k reply s

-- a give up looks at no row: this holds of any
abbrev pub OnGiveUp : (list : Lent) → (k thread address : ℕ) → (reply : Lent) → Step → Type 0
OnGiveUp list k t a reply s =
    (rows : List Row) → Wrote (judge_give_up (record { rows = rows; places = places_in list k }) (length reply.entry.now) t a) list k reply s

abbrev pub OnReplaced : (cells : Lent) → (n : ℕ) → (list : Lent) → (k address : ℕ) → Step → Type 0
OnReplaced cells n list k a s = Moved (judge_replaced (view_in cells n list k) a) cells n list k s

-- ---- Type 'FF'

abbrev pub OnResponse : (cells : Lent) → (n : ℕ) → (list : Lent) → (k : ℕ) → Head → Option ℕ → Step → Type 0
OnResponse cells n list k h coded s = Moved (judge_response (places_in list k) h coded) cells n list k s

-- the cells once the wait w was answered with a code
abbrev pub OpenOrClosed : (before after : List ℕ) → (n : ℕ) → Place → (code : ℕ) → Type 0
OpenOrClosed before after n w code = Tabled after n (answered_rows (Some w) code (rows_of before n))
