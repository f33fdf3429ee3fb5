-- Demand 1, of refusals: each has its number, and 'a refusal returns its number only and changes nothing, save the joiner's count and written piece as
-- said'. Over the very relations that the functions ensure.
use Rattle.std.specs.Prelude.{ℕ, ◌-◌, ◌≤◌, ◌<◌, ◌≡◌, List, [], ◌∷◌, ◌++◌, length, take, get_or, Option, Result, Err, Ok}
use Rattle.joiner.specs.declared.Piece.TheVariants.{Last}
use Rattle.lists.specs.Lists.{onto}
use Rattle.tapa.specs.declared.Refusal.{Refusal}
use Rattle.tapa.specs.declared.Refusal.TheVariants.{TooShort, TooLong, FewerThanAnnounced, NotInTable, ThreadAbove7, NoResponseCode, StrayResponse, WrongAsker, BufferTooSmall, EventCannotBeTaken, RowCountOrShape, Repeat, TooManyMulti, NothingToGiveUp, NotThisPartsMessage, StandsInAWait, NoSourceKept, StatusNotUsable, MoreThanAnnounced, HoldsAQuestion}
use Rattle.tapa.specs.Refusals.{number_of}
use Rattle.message.specs.declared.Head.{Head}
use Rattle.message.specs.Message.{Wrote}
use Rattle.table.specs.declared.Row.{Row}
use Rattle.rules.specs.declared.Outcome.TheVariants as outcome
use Rattle.router.specs.declared.Router.{Router}
use Rattle.router.specs.declared.Routed.{Routed}
use Rattle.router.specs.Router as router
use Rattle.start.specs.Start.{blank, start_of, router_left}
use Rattle.table.specs.Table.{judge_rows}
use Rattle.run.specs.declared.Heading.{Heading}
use Rattle.run.specs.Start.{started_by}
use Rattle.replies.specs.Replies.{Replies}
use Rattle.queue.specs.declared.Queue.{Queue}
use Rattle.queue.specs.Places as queue
use Rattle.events.specs.declared.Handled as events
use Rattle.events.specs.Ring.{HandlingAt}
use Rattle.book.specs.declared.Book.{Book}
use Rattle.store.specs.declared.Handled as store
use Rattle.store.specs.Store.{Handling, handled}
use Rattle.cutter.specs.declared.Cutter.{Cutter}
use Rattle.cutter.specs.declared.First.{First}
use Rattle.cutter.specs.declared.Handed.{Handed}
use Rattle.cutter.specs.declared.Step.{Step}
use Rattle.cutter.specs.Cutting.{HandsOut, Steps, Firsts}
use Rattle.joiner.specs.declared.Joined.{Joined}
use Rattle.joiner.specs.declared.Joiner.{Joiner}
use Rattle.joiner.specs.Joining.{taking_of, Joins, Asks, kept_of}

-- 'Refusal numbers': the page's table, with 19 of request 04 and 20 of request 05
abbrev pub refusal_table : List (ℕ × Refusal)
refusal_table =
    (1, TooShort)
    ∷ (2, TooLong)
    ∷ (3, FewerThanAnnounced)
    ∷ (4, NotInTable)
    ∷ (5, ThreadAbove7)
    ∷ (6, NoResponseCode)
    ∷ (7, StrayResponse)
    ∷ (8, WrongAsker)
    ∷ (9, BufferTooSmall)
    ∷ (10, EventCannotBeTaken)
    ∷ (11, RowCountOrShape)
    ∷ (12, Repeat)
    ∷ (13, TooManyMulti)
    ∷ (14, NothingToGiveUp)
    ∷ (15, NotThisPartsMessage)
    ∷ (16, StandsInAWait)
    ∷ (17, NoSourceKept)
    ∷ (18, StatusNotUsable)
    ∷ (19, MoreThanAnnounced)
    ∷ (20, HoldsAQuestion)
    ∷ []

-- a call of the router that was refused hands back the very state, and leaves the reply buffer as it was
abbrev pub Stays : Router → (before after : List ℕ) → Routed → Type 0
Stays r before after out = (k : Refusal) → out.outcome ≡ outcome.Refused k → (out.next ≡ r) × (after ≡ before)

-- the joiner: 'every joining refusal but 9 set[s] the joined count to 0; bytes already joined stay; a piece refused at the '9000' tests stays written,
-- one refused earlier writes nothing'; the sources stay
pub record NotJoined (j : Joiner) (piece before after : List ℕ) (next : Joiner) : Type 0 where
  pub by-9 : length before < 1032 → (next ≡ j) × (after ≡ before)
  pub count : 1032 ≤ length before → next ≡ record { joined = 0; sources = j.sources; kept = j.kept }
  pub earlier : (k : Refusal) → taking_of j.joined piece ≡ Err k → after ≡ before
  pub at-9000 : 1032 ≤ length before → taking_of j.joined piece ≡ Ok Last
      → after ≡ onto (take j.joined before ++ take (length piece - 2) piece) before

pub record Refusing : Type 0 where
  -- every refusal stands in the page's table with its number, and in that line
  pub numbered : (r : Refusal) → get_or refusal_table (number_of r - 1) (0, r) ≡ (number_of r, r)
  -- message: the writer, and a reply
  pub write : (destination source kind thread : ℕ) (part before after : List ℕ) (w : Result ℕ Refusal) → Wrote destination source kind thread part before after w
      → (k : Refusal) → w ≡ Err k → after ≡ before
  pub reply : (h : Head) (part before after : List ℕ) (a : Result (Option ℕ) Refusal) → Replies h part before after a → (k : Refusal) → a ≡ Err k → after ≡ before
  -- the table: a refused one leaves a router over no rows
  pub start : (rows : List Row) (k : Refusal) → start_of rows ≡ Err k → router_left (start_of rows) ≡ blank
  -- and so it is in a session, which goes on with that router
  pub session-start : (h : Heading) (k : Refusal) → judge_rows h.rows ≡ Err k → (started_by h).router ≡ blank
  -- the router
  pub route : (r : Router) → router.Lawful r → (message before after : List ℕ) (out : Routed) → router.Routes r message before after out → Stays r before after out
  pub give-up : (r : Router) → router.Lawful r → (thread address : ℕ) (before after : List ℕ) (out : Routed) → router.GivesUp r thread address before after out
      → Stays r before after out
  pub replaced : (r : Router) → router.Lawful r → (address : ℕ) (out : Routed) → router.Replaces r address out
      → (k : Refusal) → out.outcome ≡ outcome.Refused k → out.next ≡ r
  -- the event queue and the data store
  pub handle : (q : Queue) → queue.Lawful q → (message before after : List ℕ) (h : events.Handled) → HandlingAt q message before after h
      → (k : Refusal) → h.answer ≡ Err k → (h.next ≡ q) × (after ≡ before)
  pub store-handle : (b : Book) (area area' message before after : List ℕ) (h : store.Handled) → Handling (handled b area message before) area' after h
      → (k : Refusal) → h.answer ≡ Err k → (h.next ≡ b) × (area' ≡ area) × (after ≡ before)
  -- the cutter: 'the place kept'
  pub cut-next : (part : List ℕ) (thread at : ℕ) (before after : List ℕ) (h : Handed) → HandsOut part thread at before after h
      → (k : Refusal) → h.cut ≡ Err k → (h.next ≡ at) × (after ≡ before)
  pub next : (c : Cutter) (before after : List ℕ) (s : Step) → Steps c before after s → (k : Refusal) → s.cut ≡ Err k → (s.rest ≡ c) × (after ≡ before)
  pub first-command : (message before after : List ℕ) (f : First) → Firsts message before after f
      → (k : Refusal) → f.cut ≡ Err k → (f.next ≡ 0) × (after ≡ before)
  -- the joiner; 'Keeping a source'; Get Next
  pub join : (j : Joiner) (piece before after : List ℕ) (r : Joined) → Joins j piece before after r
      → (k : Refusal) → r.answer ≡ Err k → NotJoined j piece before after r.next
  pub keep : (j : Joiner) (message : List ℕ) (k : Refusal) → (kept_of j message).answer ≡ Err k → (kept_of j message).next ≡ j
  pub get-next : (thread : ℕ) (before after : List ℕ) (w : Result ℕ Refusal) → Asks thread before after w → (k : Refusal) → w ≡ Err k → after ≡ before
