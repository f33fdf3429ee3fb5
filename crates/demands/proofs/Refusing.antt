-- Demand 1, of refusals: what each contract leaves as it was.
use Prim.Native.Nat.{ℕ, ◌-◌, ◌≤◌, ◌<◌}
use Rattle.joiner.specs.declared.Piece.TheVariants.{NotLast, Last}
use Rattle.joiner.specs.declared.Piece.{Piece}
use Rattle.message.specs.declared.Head.{Head}
use Rattle.std.specs.Prelude.{Result, Ok, Err, ⊤, Option, Some, None}
use mathlib.Core.Path.{◌≡◌, refl, sym, ap, ◌∙◌}
use mathlib.Core.Bool.{Bool, true, false, cond}
use mathlib.Core.List.{List}
use lib.Dec.{ltb}
use lib.ListN.{length, get_or}
use borrow.Author.Tests.{lt-ltb, le-ltb}
use Rattle.lists.specs.Lists.{onto}
use Rattle.lists.proofs.Tests.{split, differ}
use Rattle.tapa.specs.declared.Refusal.{Refusal}
use Rattle.tapa.specs.declared.Refusal.TheVariants.{TooShort, TooLong, FewerThanAnnounced, NotInTable, ThreadAbove7, NoResponseCode, StrayResponse, WrongAsker, BufferTooSmall, EventCannotBeTaken, RowCountOrShape, Repeat, TooManyMulti, NothingToGiveUp, NotThisPartsMessage, StandsInAWait, NoSourceKept, StatusNotUsable, MoreThanAnnounced, HoldsAQuestion}
use Rattle.tapa.specs.Refusals.{number_of}
use Rattle.message.specs.Message.{read_of, part_of, message_of, writing_of, after_writing}
use Rattle.rules.specs.declared.Outcome.{Outcome}
use Rattle.rules.specs.declared.Outcome.TheVariants as outcome
use Rattle.rules.specs.Apply.{applied, written}
use Rattle.router.specs.declared.Router.{Router}
use Rattle.router.specs.declared.Routed.{Routed}
use Rattle.router.specs.Router as router
use Rattle.router.proofs.States.{determined}
use Rattle.table.specs.Table.{kept_by}
use Rattle.start.specs.Start.{router_left, fresh_over}
use Rattle.replies.specs.Replies.{response_to, answer_of, answer_after}
use Rattle.queue.specs.declared.Queue.{Queue}
use Rattle.queue.specs.Places as queue
use Rattle.queue.proofs.Once.{one-queue}
use Rattle.events.specs.declared.Handled as handled
use Rattle.events.specs.Events as events
use Rattle.events.specs.Ring.{HandlingAt, start_obeyed, start_handled}
use Rattle.book.specs.declared.Book.{Book}
use Rattle.store.specs.declared.Handled as done
use Rattle.store.specs.Store as store
use Rattle.cutter.specs.declared.First.{First}
use Rattle.cutter.specs.declared.Handed.{Handed}
use Rattle.cutter.specs.declared.Step.{Step}
use Rattle.cutter.specs.Cutting.{start_of, thread_of, to_cut, command_at, cut_at, place_after, buffer_after, cutter_at}
use Rattle.joiner.specs.declared.Joined.{Joined}
use Rattle.joiner.specs.declared.Joiner.{Joiner}
use Rattle.joiner.specs.Joining.{taking_of, joined_with, whole_of, whole_answer, whole_bytes, answer_to, count_to, answer_of as joined_as, next_of, buffer_of, Joins, get_next_bytes, keeping_on, keeper_on, kept_of}
use Rattle.demands.specs.Refusing.{refusal_table, Stays, NotJoined, Refusing}

-- ---- the numbers

numbered : (r : Refusal) → get_or refusal_table (number_of r - 1) (0, r) ≡ (number_of r, r)
numbered TooShort = refl
numbered TooLong = refl
numbered FewerThanAnnounced = refl
numbered NotInTable = refl
numbered ThreadAbove7 = refl
numbered NoResponseCode = refl
numbered StrayResponse = refl
numbered WrongAsker = refl
numbered BufferTooSmall = refl
numbered EventCannotBeTaken = refl
numbered RowCountOrShape = refl
numbered Repeat = refl
numbered TooManyMulti = refl
numbered NothingToGiveUp = refl
numbered NotThisPartsMessage = refl
numbered StandsInAWait = refl
numbered NoSourceKept = refl
numbered StatusNotUsable = refl
numbered MoreThanAnnounced = refl
numbered HoldsAQuestion = refl

-- ---- the writer

unwritten : (w : Result ℕ Refusal) (message before after : List ℕ) → after ≡ after_writing w message before → (k : Refusal) → w ≡ Err k → after ≡ before
unwritten w message before after e k r = e ∙ ap (λ (x : Result ℕ Refusal). after_writing x message before) r

refused-reply : (w : Result ℕ Refusal) (k : Refusal) → answer_after w ≡ Err k → w ≡ Err k
refused-reply (Ok n) k e = differ (cc)
refused-reply (Err r) k e = ap Err (cc)

-- ---- the router

router-stays : (o : Outcome) (r : Router) → router.Lawful r → (before after : List ℕ) (out : Routed) → router.Routing o r before after out → Stays r before after out
router-stays o r g before after out x k e =
    let q : o ≡ outcome.Refused k = sym x.outcome ∙ e in
    let v : router.view_of out.next ≡ router.view_of r = x.view ∙ ap (λ (p : Outcome). applied p (router.view_of r)) q in
    (determined out.next r x.law g v, x.reply ∙ ap (λ (p : Outcome). written p before) q)

replaced-stays : (o : Outcome) (r : Router) → router.Lawful r → (out : Routed) → router.Replacing o r out → (k : Refusal) → out.outcome ≡ outcome.Refused k → out.next ≡ r
replaced-stays o r g out x k e =
    determined out.next r x.law g (x.view ∙ ap (λ (p : Outcome). applied p (router.view_of r)) (sym x.outcome ∙ e))

-- ---- the event queue and the data store: what was obeyed is no refusal

not-refused : (part : Option (List ℕ)) (k : Refusal) → answer_of part ≡ Err k → ⊥
not-refused None k e = differ (cc)
not-refused (Some part) k e = differ (cc)

module _ (q : Queue) (message before : List ℕ) where
  pub record Same (w : events.Answered) (start : ℕ) : Type 0 where
    pub events : w.events ≡ queue.events_of q
    pub reply : w.reply ≡ before
    pub begins : start ≡ queue.start_of q

  queue-same : (k : Refusal) → (events.handled (queue.events_of q) message before).answer ≡ Err k
      → Same (events.handled (queue.events_of q) message before) (start_handled (queue.events_of q) (queue.start_of q) message before)
  unfolding events.handled start_handled
  queue-same k e = go (events.checked (length before) message) e
    where
      go : (c : Result Head Refusal) → (events.obeys c (queue.events_of q) (part_of message) before).answer ≡ Err k
          → Same (events.obeys c (queue.events_of q) (part_of message) before) (start_obeyed c (queue.events_of q) (part_of message) (queue.start_of q))
      go (Err r) f = record { events = refl; reply = refl; begins = refl }
      go (Ok h) f = absurd (not-refused (events.carried (events.judge (queue.events_of q) (events.command_of h.kind (part_of message)))) k f)

queue-stays : (q : Queue) → queue.Lawful q → (message before after : List ℕ) (h : handled.Handled) → HandlingAt q message before after h
    → (k : Refusal) → h.answer ≡ Err k → (h.next ≡ q) × (after ≡ before)
queue-stays q g message before after h x k e =
    let s = queue-same q message before k (sym x.handling.answer ∙ e) in (
      one-queue h.next q (queue.events_of q) (queue.start_of q)
          (record { holds = rw s.events at x.handling.next; begins = x.begins ∙ s.begins })
          (record { holds = record { events = refl; law = g }; begins = refl }),
      x.handling.reply ∙ s.reply,
    )

store-stays : (b : Book) (area area' message before after : List ℕ) (h : done.Handled) → store.Handling (store.handled b area message before) area' after h
    → (k : Refusal) → h.answer ≡ Err k → (h.next ≡ b) × (area' ≡ area) × (after ≡ before)
unfolding store.handled
store-stays b area area' message before after h x k e = go (store.checked (length before) message) (sym x.answer ∙ e) x.next x.area' x.reply'
  where
    go : (c : Result Head Refusal) → (store.obeys c (part_of message) b area before).answer ≡ Err k
        → h.next ≡ (store.obeys c (part_of message) b area before).book → area' ≡ (store.obeys c (part_of message) b area before).area
        → after ≡ (store.obeys c (part_of message) b area before).reply → (h.next ≡ b) × (area' ≡ area) × (after ≡ before)
    go (Err r) f n a m = (n, a, m)
    go (Ok p) f n a m = absurd (not-refused (Some (store.deed_of p.kind (part_of message) b area).part) k f)

-- ---- the cutter

cut-stays : (c : Result (Option ℕ) Refusal) (k : Refusal) → c ≡ Err k → (part : List ℕ) (at : ℕ) (command before : List ℕ)
    → (place_after c part at ≡ at) × (buffer_after c command before ≡ before)
cut-stays c k e part at command before =
    (ap (λ (x : Result (Option ℕ) Refusal). place_after x part at) e, ap (λ (x : Result (Option ℕ) Refusal). buffer_after x command before) e)

-- ---- the joiner

-- at '9000' a refusal leaves what was joined
whole-refused : (w : Result (Option ℕ) Refusal) (m : List ℕ) (k : Refusal) → whole_answer w m ≡ Err k → whole_bytes w m ≡ m
whole-refused (Err r) m k e = refl
whole-refused (Ok None) m k e = differ (cc)
whole-refused (Ok (Some source)) m k e = differ (cc)

module _ (j : Joiner) (piece before : List ℕ) where
  -- a piece that is no last one is refused before anything is written, and its count is gone
  count-gone : (t : Result Piece Refusal) (m : List ℕ) (n : ℕ) (k : Refusal) → answer_to t j m ≡ Err k → count_to t n ≡ 0
  count-gone (Err r) m n k e = refl
  count-gone (Ok NotLast) m n k e = differ (cc)
  count-gone (Ok Last) m n k e = refl

  module _ (few : length before < 1032) where
    small-next : next_of j piece before ≡ j
    unfolding next_of
    small-next = rw (lt-ltb (length before) 1032 few)

    small-buffer : buffer_of j piece before ≡ before
    unfolding buffer_of
    small-buffer = rw (lt-ltb (length before) 1032 few)

  module _ (room : 1032 ≤ length before) (k : Refusal) (e : joined_as j piece before ≡ Err k) where
    refused_as : answer_to (taking_of j.joined piece) j (joined_with j.joined piece before) ≡ Err k
    unfolding joined_as
    refused_as = rw (le-ltb (length before) 1032 room) at e

    counted : next_of j piece before ≡ record { joined = 0; sources = j.sources; kept = j.kept }
    unfolding next_of
    counted =
        rw (le-ltb (length before) 1032 room)
        (ap (λ (n : ℕ). record { joined = n; sources = j.sources; kept = j.kept }) (count-gone (taking_of j.joined piece) (joined_with j.joined piece before) _ k refused_as))

    last_written : taking_of j.joined piece ≡ Ok Last → buffer_of j piece before ≡ onto (joined_with j.joined piece before) before
    unfolding buffer_of
    last_written l =
        let m : List ℕ = joined_with j.joined piece before in
        let r : whole_answer (whole_of j m) m ≡ Err k = rw l at refused_as in
        rw (le-ltb (length before) 1032 room, l) (ap (λ (x : List ℕ). onto x before) (whole-refused (whole_of j m) m k r))

  -- refused before the last piece was seen
  not_taken : (r : Refusal) → taking_of j.joined piece ≡ Err r → buffer_of j piece before ≡ before
  unfolding buffer_of
  not_taken r e = split (ltb (length before) 1032) (λ b. rw b) (λ b. rw (b, e))

not-joined : (j : Joiner) (piece before after : List ℕ) (r : Joined) → Joins j piece before after r
    → (k : Refusal) → r.answer ≡ Err k → NotJoined j piece before after r.next
not-joined j piece before after r x k e =
    let a : joined_as j piece before ≡ Err k = sym x.answer ∙ e in record {
      by-9 = λ few. (x.next ∙ small-next j piece before few, x.buffer ∙ small-buffer j piece before few);
      count = λ room. x.next ∙ counted j piece before room k a;
      earlier = λ z t. x.buffer ∙ not_taken j piece before z t;
      at-9000 = λ room l. x.buffer ∙ last_written j piece before room k a l;
    }

not-kept : (r : Result Head Refusal) (c : Result ⊤ Refusal) (j : Joiner) (k : Refusal) → c ≡ Err k → keeper_on r c j ≡ j
not-kept (Ok h) c j k e = ap (λ (x : Result ⊤ Refusal). keeper_on (Ok h) x j) e
not-kept (Err z) c j k e = refl

-- ---- all of them

pub refusing : Refusing
unfolding kept_of
refusing = record {
  numbered = numbered;
  write = λ d s kind t part before after w x k e. unwritten (writing_of part before) (message_of d s kind t part) before after x.buffer k (sym x.answer ∙ e);
  reply = λ h part before after a x k e. unwritten (writing_of part before) (response_to h part) before after x.reply k (refused-reply (writing_of part before) k (sym x.answer ∙ e));
  start = λ rows k e. ap router_left e;
  session-start = λ h k e. ap (λ (c : Result ⊤ Refusal). fresh_over (kept_by c h.rows)) e;
  route = λ r g message before after out x. router-stays _ r g before after out x;
  give-up = λ r g thread address before after out x. router-stays _ r g before after out x;
  replaced = λ r g address out x. replaced-stays _ r g out x;
  handle = queue-stays;
  store-handle = store-stays;
  cut-next = λ part thread at before after h x k e.
      let c = cut-stays (cut_at part at before) k (sym (ap (λ (y : Handed). y.cut) x.answer) ∙ e) part at (command_at part thread at) before in
      (ap (λ (y : Handed). y.next) x.answer ∙ c.0, x.buffer ∙ c.1);
  next = λ c before after s x k e.
      let part = c.part.now in
      let z = cut-stays (cut_at part c.at before) k (sym (ap (λ (y : Step). y.cut) x.answer) ∙ e) part c.at (command_at part c.thread c.at) before in
      (ap (λ (y : Step). y.rest) x.answer ∙ ap (cutter_at c.part c.thread) z.0, x.buffer ∙ z.1);
  first-command = λ message before after f x k e.
      let part = to_cut message in
      let z = cut-stays (cut_at part 0 before) k (sym (ap (λ (y : First). y.cut) x.answer) ∙ e) part 0 (command_at part (thread_of (start_of message)) 0) before in
      (ap (λ (y : First). y.next) x.answer ∙ z.0, x.buffer ∙ z.1);
  join = not-joined;
  keep = λ j message k e. not-kept (read_of message) (keeping_on (read_of message)) j k e;
  get-next = λ thread before after w x k e. x.buffer ∙ not-asked (ltb (length before) 5) thread before k (sym x.answer ∙ e);
}
  where
    not-asked : (b : Bool) (thread : ℕ) (before : List ℕ) (k : Refusal) → cond {A = Result ℕ Refusal} b (Err BufferTooSmall) (Ok 5) ≡ Err k
        → cond b before (onto (get_next_bytes thread) before) ≡ before
    not-asked true thread before k e = refl
    not-asked false thread before k e = differ (cc)
