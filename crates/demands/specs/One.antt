-- Demand 1: 'Every public function has a contract that leaves, for every input, refusals too, one result and one content of lent memory possible.'
--
-- A contract is an equation between the answer (or a lent buffer at the end) and a definition, or a relation that has a name. Of equations it
-- is shown once for all (proofs/One.antt, `equations`). Of the relations it is this record: a field a function, over the very name that the
-- function ensures. docs/PROMISES.md has every public function with its theorem.
use Rattle.std.specs.Prelude.{ℕ, ◌≡◌, List, Bool, Option, Result}
use Rattle.tapa.specs.declared.Refusal.{Refusal}
use Rattle.std.specs.Borrow.{Bor, MutBor}
use Rattle.message.specs.declared.Head.{Head}
use Rattle.message.specs.Message.{Wrote, DataPart}
use Rattle.table.specs.Table.{Opened}
use Rattle.place.specs.declared.Place.{Place}
use Rattle.place.specs.Place.{Packed}
use Rattle.places.specs.Places.{Becomes}
use Rattle.rules.specs.declared.Outcome.{Outcome}
use Rattle.router.specs.declared.Router.{Router}
use Rattle.ruling.specs.Ruling.{Shown, lent, ruled}
use Rattle.routing.specs.declared.Step.{Step}
use Rattle.routing.specs.Steps.{OnMessage, OnResponse, OnGiveUp, OnReplaced}
use Rattle.router.specs.Router.{Routes, GivesUp, Replaces, routed_to}
use Rattle.sending.specs.Sending.{Sending}
use Rattle.replies.specs.Replies.{Replies}
use Rattle.queue.specs.declared.Event.{Event}
use Rattle.queue.specs.declared.Queue.{Queue}
use Rattle.queue.specs.Places.{Packs, Stretch, queue_of, stretch_of, HoldsAt}
use Rattle.events.specs.Ring.{HandlingAt}
use Rattle.store.specs.Store as store
use Rattle.store.specs.declared.Handled.{Handled}
use Rattle.cutter.specs.declared.Cutter.{Cutter}
use Rattle.cutter.specs.declared.Begun.{Begun}
use Rattle.cutter.specs.Cutting.{PartToCut, HandsOut, Steps, Begins, Firsts}
use Rattle.slots.specs.Slots.{SlotPart}
use Rattle.joiner.specs.declared.Joiner.{Joiner}
use Rattle.joiner.specs.Joining.{Joins, PartFor, Asks}
use Rattle.run.specs.declared.Session.{Session}
use Rattle.run.specs.declared.Went.{Went}
use Rattle.run.specs.State.{Turns, turn_of}
use Rattle.run.specs.Start as run
use Rattle.pages.specs.Pages.{Paged}
use Rattle.text.specs.declared.Writer.{Writer}
use Rattle.text.specs.Text as text
use Rattle.forms.specs.declared.Span.{Span}
use Rattle.forms.specs.Forms.{Spans}
use Rattle.hexes.specs.declared.Cursor as hexes
use Rattle.hexes.specs.Reading.{Reads}
use Rattle.hexes.specs.Writing.{Writes}

-- one answer is left
abbrev pub One : {A : Type 0} → (A → Type 0) → Type 0
One {A} P = (x y : A) → P x → P y → x ≡ y

-- one answer, and one content of the lent memory at the end
abbrev pub OneWith : {A B : Type 0} → (A → B → Type 0) → Type 0
OneWith {A} {B} P = (x y : A) (a b : B) → P x a → P y b → (x ≡ y) × (a ≡ b)

-- one part of a lent slice: its bytes, and where it stands
abbrev pub SamePart : (x y : Bor (List ℕ)) → Type 0
SamePart x y = (x.now ≡ y.now) × (x.ref_ptr ≡ y.ref_ptr)

abbrev pub OnePart : (Bor (List ℕ) → Type 0) → Type 0
OnePart P = (x y : Bor (List ℕ)) → P x → P y → SamePart x y

pub record OneResult : Type 0 where
  -- message
  pub write : (destination source kind thread : ℕ) (part before : List ℕ) → OneWith (λ w after. Wrote destination source kind thread part before after w)
  pub data-part : (message : Bor (List ℕ)) → OnePart (DataPart message)
  -- table: the rows' numbers
  pub set-open : (before : List ℕ) (count handler : ℕ) (to : Bool) → One (λ after. Opened before after count handler to)
  -- place: the number of a place
  pub pack-of : (p : Place) → One (Packed p)
  -- places: the count and the list (push, owe, remove, drop_owed)
  pub list : (places : List Place) → OneWith (λ count after. Becomes after count places)
  -- ruling
  pub rule-for : (h : Head) (o : Outcome) → One (λ r. ruled h r ≡ o)
  -- routing: the answer, the list of places, the cells of the rows, the reply buffer
  pub on-message : (list l l' : MutBor (List ℕ)) (k : ℕ) (s s' : Step) (cells c c' : MutBor (List ℕ)) (n : ℕ) (message : Shown) (reply b b' : MutBor (List ℕ))
      → OnMessage (lent cells c) n (lent list l) k message (lent reply b) s
      → OnMessage (lent cells c') n (lent list l') k message (lent reply b') s'
      → (s ≡ s') × (l.now ≡ l'.now) × (c.now ≡ c'.now) × (b.now ≡ b'.now)
  pub on-response : (list l l' : MutBor (List ℕ)) (k : ℕ) (s s' : Step) (cells c c' : MutBor (List ℕ)) (n : ℕ) (h : Head) (coded : Option ℕ)
      → OnResponse (lent cells c) n (lent list l) k h coded s
      → OnResponse (lent cells c') n (lent list l') k h coded s'
      → (s ≡ s') × (l.now ≡ l'.now) × (c.now ≡ c'.now)
  pub on-give-up : (list l l' : MutBor (List ℕ)) (k : ℕ) (s s' : Step) (thread address : ℕ) (reply b b' : MutBor (List ℕ))
      → OnGiveUp (lent list l) k thread address (lent reply b) s
      → OnGiveUp (lent list l') k thread address (lent reply b') s'
      → (s ≡ s') × (l.now ≡ l'.now) × (b.now ≡ b'.now)
  pub on-replaced : (list l l' : MutBor (List ℕ)) (k : ℕ) (s s' : Step) (cells c c' : MutBor (List ℕ)) (n address : ℕ)
      → OnReplaced (lent cells c) n (lent list l) k address s
      → OnReplaced (lent cells c') n (lent list l') k address s'
      → (s ≡ s') × (l.now ≡ l'.now) × (c.now ≡ c'.now)
  -- router
  pub route : (r : Router) (message before : List ℕ) → OneWith (λ out after. Routes r message before after out)
  pub give-up : (r : Router) (thread address : ℕ) (before : List ℕ) → OneWith (λ out after. GivesUp r thread address before after out)
  pub replaced : (r : Router) (address : ℕ) → One (Replaces r address)
  -- the same in place: the answer, the list of places, the cells of the rows, the reply buffer
  pub route-in : (r : Router) (n : ℕ) (s s' : Step) (c c' l l' message before after after' : List ℕ)
      → Routes r message before after (routed_to s c n l)
      → Routes r message before after' (routed_to s' c' n l')
      → (s ≡ s') × (l ≡ l') × (c ≡ c') × (after ≡ after')
  pub give-up-in : (r : Router) (n : ℕ) (s s' : Step) (c c' l l' : List ℕ) (thread address : ℕ) (before after after' : List ℕ)
      → GivesUp r thread address before after (routed_to s c n l)
      → GivesUp r thread address before after' (routed_to s' c' n l')
      → (s ≡ s') × (l ≡ l') × (c ≡ c') × (after ≡ after')
  pub replaced-in : (r : Router) (n : ℕ) (s s' : Step) (c c' l l' : List ℕ) (address : ℕ)
      → Replaces r address (routed_to s c n l)
      → Replaces r address (routed_to s' c' n l')
      → (s ≡ s') × (l ≡ l') × (c ≡ c')
  pub part-to-send : (o : Outcome) (message reply : Bor (List ℕ)) → OnePart (Sending o message reply)
  -- replies (with_part, with_code)
  pub reply : (h : Head) (part before : List ℕ) → OneWith (λ a after. Replies h part before after a)
  -- queue: the number of an event (pack), a queue (fresh, add, take, clear), its stretch and its array; events
  pub pack : (e : Event) → One (Packs e)
  pub queue : (events : List Event) (start : ℕ) → One (λ q. HoldsAt q events start)
  pub lent-queue : (events : List Event) (start : ℕ) → OneWith (λ (s : Stretch) (places : List ℕ). HoldsAt (queue_of places s) events start)
  pub lent-whole : (q : Queue) → queue_of q.places (stretch_of q) ≡ q
  pub handle : (q : Queue) (message before : List ℕ) → OneWith (λ h after. HandlingAt q message before after h)
  -- store: the answer and the next book, the area, the reply buffer
  pub slot-part : (area : Bor (List ℕ)) (s at n : ℕ) → OnePart (λ (p : Bor (List ℕ)). SlotPart area p s at n)
  pub store-handle : (w : store.Answered) (area area' before before' : List ℕ) (h k : Handled) → store.Handling w area before h → store.Handling w area' before' k
      → (h ≡ k) × (area ≡ area') × (before ≡ before')
  -- cutter
  pub part-to-cut : (message : Bor (List ℕ)) → OnePart (PartToCut message)
  pub cut-next : (part : List ℕ) (thread at : ℕ) (before : List ℕ) → OneWith (λ h after. HandsOut part thread at before after h)
  pub next : (c : Cutter) (before : List ℕ) → OneWith (λ s after. Steps c before after s)
  pub first-command : (message before : List ℕ) → OneWith (λ f after. Firsts message before after f)
  pub begin : (message : Bor (List ℕ)) (b c : Begun) → Begins message b → Begins message c
      → (b.start ≡ c.start) × SamePart b.cutter.part c.cutter.part × (b.cutter.thread ≡ c.cutter.thread) × (b.cutter.at ≡ c.cutter.at)
  -- joiner
  pub join : (j : Joiner) (piece before : List ℕ) → OneWith (λ r after. Joins j piece before after r)
  pub joined-part : (answer : Result (Option ℕ) Refusal) (buffer : Bor (List ℕ)) → OnePart (PartFor answer buffer)
  pub get-next : (thread : ℕ) (before : List ℕ) → OneWith (λ w after. Asks thread before after w)
  -- run, pages
  pub session-begin : (input : List ℕ) → One (run.Begins input)
  pub session-next : (input : List ℕ) (w : Session) → One (Turns input w)
  pub session-next-in : (input : List ℕ) (w : Session) (n : ℕ) (x x' : Went) (c c' l l' : List ℕ)
      → Turns input w (turn_of x c n l)
      → Turns input w (turn_of x' c' n l')
      → (x ≡ x') × (l ≡ l') × (c ≡ c')
  pub fill-page : (input : List ℕ) (w : Session) (before : List ℕ) → OneWith (λ p after. Paged input w before after p)
  -- text: the buffer that a writer holds, its bytes and the place of the next one (all that writes by a writer: text, lines, show_forms, sentences)
  pub text-writes : (p q r : Writer) (t : List ℕ) → text.Writes p q t → text.Writes p r t
      → (q.bytes.ghost_name ≡ r.bytes.ghost_name) × (text.pen_of q ≡ text.pen_of r)
  -- forms: where a wording stands
  pub wording : (sheet : List ℕ) (n : ℕ) → One (λ (p : Span). Spans sheet n p)
  -- hexes
  pub hex-read : (text before : List ℕ) → OneWith (λ r after. Reads text before after r)
  pub hex-write : (c : hexes.Cursor) (part before : List ℕ) → OneWith (λ r after. Writes c part before after r)
