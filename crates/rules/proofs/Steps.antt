-- What `judge` decides, one law for each way that a call can go. The code is held to the rules by these: a new check is one entry of the rules and
-- one law here. A law that speaks of what a function answered takes it by name, with the equation that says what it is.
use Prim.Native.Nat.{ℕ, ◌≤◌, ◌<◌}
use Rattle.std.specs.Prelude.{Some, None, Result, Ok, Err, Option}
use mathlib.Core.Path.{◌≡◌, refl, ap, ◌∙◌}
use mathlib.Core.Logic.{inl, inr}
use mathlib.Core.Bool.{true, false, and-false}
use mathlib.Core.List.{List}
use borrow.Author.Tests.{lt-ltb, le-ltb, eq-eqb, ne_eqb, not-false}
use Rattle.lists.specs.Lists.{checks, some_of, In}
use Rattle.lists.proofs.Tests.{checks-are}
use Rattle.tapa.specs.Address.{category_of, handler_of}
use Rattle.tapa.specs.Codes.{invalid_destination, handler_error, handler_busy, must_be_opened, unsupported_operation, response, open_handler, event_handler}
use Rattle.known_types.specs.Types.{known}
use Rattle.tapa.specs.declared.Refusal.{Refusal}
use Rattle.tapa.specs.declared.Refusal.TheVariants.{NotInTable, ThreadAbove7, NoResponseCode, StrayResponse, WrongAsker, BufferTooSmall, EventCannotBeTaken, NothingToGiveUp, StandsInAWait, HoldsAQuestion}
use Rattle.message.specs.declared.Head.{Head}
use Rattle.message.specs.Message.{read_of, part_of, code_of}
use Rattle.table.specs.declared.Row.{Row}
use Rattle.table.specs.Table.{listed, opened_at}
use Rattle.place.specs.declared.Place.{Place}
use Rattle.places.specs.Places.{owes_exactly, stands_in, holding}
use Rattle.rules.specs.View.{View}
use Rattle.rules.specs.declared.Outcome.{Outcome}
use Rattle.rules.specs.declared.Outcome.TheVariants.{Passed, Answered, Swallowed, Event, Given, Reset, Refused}
use Rattle.rules.specs.Judge.{answerable, reply_tests, late, reply, judge_response, is_add_event, judge_event, closed_to, may_ask, busy, turned, rules, judge_command, common_tests, judge_kind, judge_read, judge_message, yields, judge_give_up, judge_replaced}
use Rattle.rules.specs.Words.{turn_codes}

-- ---- a message: the common checks
module _ (v : View) (room : ℕ) (s : List ℕ) where
  pub message-small : room < 10 → judge_message v room s ≡ Refused BufferTooSmall
  unfolding judge_message
  message-small l = rw (lt-ltb room 10 l)

  module _ (enough : 10 ≤ room) (r : Result Head Refusal) (e : r ≡ read_of s) where
    reads_on : judge_message v room s ≡ judge_read v r (code_of (part_of s))
    unfolding judge_message
    reads_on = rw (le-ltb room 10 enough, e)

    pub message-unread : (z : Refusal) → r ≡ Err z → judge_message v room s ≡ Refused z
    unfolding judge_read
    message-unread z q = reads_on ∙ ap (λ (x : Result Head Refusal). judge_read v x (code_of (part_of s))) q

    module _ (h : Head) (q : r ≡ Ok h) where
      message-read : judge_message v room s ≡ checks (common_tests v.rows h) (judge_kind v h (code_of (part_of s)))
      unfolding judge_read
      message-read = reads_on ∙ ap (λ (x : Result Head Refusal). judge_read v x (code_of (part_of s))) q

      pub message-unlisted : listed (handler_of h.source) v.rows ≡ false → judge_message v room s ≡ Refused NotInTable
      message-unlisted n = message-read ∙ rw n

      module _ (y : listed (handler_of h.source) v.rows ≡ true) where
        pub message-thread : 7 < h.thread → judge_message v room s ≡ Refused ThreadAbove7
        message-thread l = message-read ∙ rw (y, lt-ltb 7 h.thread l)

        pub message-kind : h.thread ≤ 7 → judge_message v room s ≡ judge_kind v h (code_of (part_of s))
        message-kind l = message-read ∙ rw (y, le-ltb 7 h.thread l)

-- ---- a message, by its type
module _ (v : View) (h : Head) (code : Option ℕ) where
  pub kind-response : h.kind ≡ response → judge_kind v h code ≡ judge_response v.places h code
  unfolding judge_kind
  kind-response e = rw (eq-eqb h.kind response e)

  module _ (n : h.kind ≡ response → ⊥) where
    pub kind-event : is_add_event h ≡ true → judge_kind v h code ≡ judge_event v.rows
    unfolding judge_kind
    kind-event e = rw (ne_eqb h.kind response n, e)

    pub kind-command : is_add_event h ≡ false → judge_kind v h code ≡ judge_command v h
    unfolding judge_kind
    kind-command e = rw (ne_eqb h.kind response n, e)

-- ---- an event
pub event-taken : (rows : List Row) → opened_at event_handler rows ≡ true → judge_event rows ≡ Event
event-taken rows e = rw e

pub event-refused : (rows : List Row) → opened_at event_handler rows ≡ false → judge_event rows ≡ Refused EventCannotBeTaken
event-refused rows e = rw e

-- ---- whom rule c turns back: all but Open Handler, where the asked handler is closed, and nobody where it is open
module _ (rows : List Row) (h kind : ℕ) where
  pub closed-to : opened_at h rows ≡ false → (kind ≡ open_handler → ⊥) → closed_to rows h kind ≡ true
  closed-to e n = rw (e, ne_eqb kind open_handler n)

  pub open-to : opened_at h rows ≡ true → closed_to rows h kind ≡ false
  open-to e = rw e

  pub opening-to : kind ≡ open_handler → closed_to rows h kind ≡ false
  opening-to e = rw (eq-eqb kind open_handler e, and-false)

-- ---- a command: 'The first that applies is turned back with its code'
module _ (v : View) (h : Head) where
  pub turned-a : listed (handler_of h.destination) v.rows ≡ false → judge_command v h ≡ turned h invalid_destination
  unfolding judge_command
  turned-a a = rw a

  module _ (a : listed (handler_of h.destination) v.rows ≡ true) where
    pub turned-b : known (category_of h.destination) h.kind ≡ false → judge_command v h ≡ turned h unsupported_operation
    unfolding judge_command
    turned-b b = rw (a, b)

    module _ (b : known (category_of h.destination) h.kind ≡ true) where
      pub turned-c : closed_to v.rows (handler_of h.destination) h.kind ≡ true → judge_command v h ≡ turned h must_be_opened
      unfolding judge_command
      turned-c c = rw (a, b, c)

      module _ (c : closed_to v.rows (handler_of h.destination) h.kind ≡ false) where
        pub turned-d : may_ask v.places h.thread h.source ≡ false → judge_command v h ≡ turned h handler_error
        unfolding judge_command
        turned-d d = rw (a, b, c, d)

        module _ (d : may_ask v.places h.thread h.source ≡ true) where
          pub turned-e : busy v.places h.source (handler_of h.destination) h.thread ≡ true → judge_command v h ≡ turned h handler_busy
          unfolding judge_command
          turned-e e = rw (a, b, c, d, e)

          module _ (e : busy v.places h.source (handler_of h.destination) h.thread ≡ false) where
            pub passes : judge_command v h ≡ Passed h.source h.destination h.kind h.thread
            unfolding judge_command
            passes = rw (a, b, c, d, e)

-- none of the rules a to e applies to a command
pub record NoRule (v : View) (asker asked kind t : ℕ) : Type 0 where
  pub asked-listed : listed (handler_of asked) v.rows ≡ true
  pub type-known : known (category_of asked) kind ≡ true
  pub open-or-opens : closed_to v.rows (handler_of asked) kind ≡ false
  pub may : may_ask v.places t asker ≡ true
  pub free : busy v.places asker (handler_of asked) t ≡ false

-- what holds of whatever is turned back with a code of the rules, and of what is passed where no rule applies, holds of a command. Nothing else
-- counts the rules.
pub command-is : (v : View) (h : Head) (P : Outcome → Type 0) → ((code : ℕ) → In code turn_codes → P (turned h code))
    → (NoRule v h.source h.destination h.kind h.thread → P (Passed h.source h.destination h.kind h.thread)) → P (judge_command v h)
unfolding judge_command
command-is v h P f g =
    checks-are P (rules v h) (Passed h.source h.destination h.kind h.thread)
    (f _ (inl refl), (f _ (inr (inl refl)), (f _ (inr (inr (inl refl))), (f _ (inr (inr (inr (inl refl)))), (f _ (inr (inr (inr (inr (inl refl))))), tt)))))
    (λ a. g (record {
      asked-listed = not-false _ a.0;
      type-known = not-false _ a.1.0;
      open-or-opens = a.1.1.0;
      may = not-false _ a.1.1.1.0;
      free = a.1.1.1.1.0;
    }))

-- ---- a response
module _ (places : List Place) (h : Head) where
  pub late-swallowed : some_of (owes_exactly h.source h.thread) places ≡ true → late places h ≡ Swallowed h.source h.thread
  unfolding late
  late-swallowed e = rw e

  pub late-stray : some_of (owes_exactly h.source h.thread) places ≡ false → late places h ≡ Refused StrayResponse
  unfolding late
  late-stray e = rw e

  module _ (coded : Option ℕ) where
    pub response-missing : coded ≡ None → judge_response places h coded ≡ Refused NoResponseCode
    unfolding judge_response
    response-missing e = ap (judge_response places h) e

    module _ (code : ℕ) (e : coded ≡ Some code) where
      -- no wait of the thread asks exactly this address
      pub response-late : answerable places h.source h.thread ≡ None → judge_response places h coded ≡ late places h
      unfolding judge_response reply
      response-late f = ap (judge_response places h) e ∙ ap (λ (o : Option Place). reply places o h code) f

      module _ (w : Place) (f : answerable places h.source h.thread ≡ Some w) where
        replied : judge_response places h coded ≡ checks (reply_tests places w h) (Answered h.source h.destination h.thread code)
        unfolding judge_response reply
        replied = ap (judge_response places h) e ∙ ap (λ (o : Option Place). reply places o h code) f

        pub response-holding : holding places h.source h.thread ≡ true → judge_response places h coded ≡ Refused StrayResponse
        response-holding b = replied ∙ rw b

        module _ (n : holding places h.source h.thread ≡ false) where
          pub response-wrong : (w.asker ≡ h.destination → ⊥) → judge_response places h coded ≡ Refused WrongAsker
          response-wrong x = replied ∙ rw (n, ne_eqb w.asker h.destination x)

          pub response-answered : w.asker ≡ h.destination → judge_response places h coded ≡ Answered h.source h.destination h.thread code
          response-answered y = replied ∙ rw (n, eq-eqb w.asker h.destination y)

-- ---- Give up
module _ (v : View) (room t a : ℕ) where
  pub give-up-small : room < 10 → judge_give_up v room t a ≡ Refused BufferTooSmall
  unfolding judge_give_up
  give-up-small l = rw (lt-ltb room 10 l)

  module _ (enough : 10 ≤ room) where
    pub give-up-thread : 7 < t → judge_give_up v room t a ≡ Refused ThreadAbove7
    unfolding judge_give_up
    give-up-thread l = rw (le-ltb room 10 enough, lt-ltb 7 t l)

    module _ (l : t ≤ 7) where
      pub give-up-none : answerable v.places a t ≡ None → judge_give_up v room t a ≡ Refused NothingToGiveUp
      unfolding judge_give_up yields
      give-up-none e = rw (le-ltb room 10 enough, le-ltb 7 t l, e)

      module _ (w : Place) (e : answerable v.places a t ≡ Some w) where
        pub give-up-holding : holding v.places a t ≡ true → judge_give_up v room t a ≡ Refused HoldsAQuestion
        unfolding judge_give_up yields
        give-up-holding b = rw (le-ltb room 10 enough, le-ltb 7 t l, e, b)

        pub give-up-given : holding v.places a t ≡ false → judge_give_up v room t a ≡ Given w.asker a t
        unfolding judge_give_up yields
        give-up-given b = rw (le-ltb room 10 enough, le-ltb 7 t l, e, b)

-- ---- Replaced
module _ (v : View) (a h : ℕ) (e : h ≡ handler_of a) where
  pub replaced-unlisted : listed h v.rows ≡ false → judge_replaced v a ≡ Refused NotInTable
  unfolding judge_replaced
  replaced-unlisted n = rw (← e, n)

  module _ (y : listed h v.rows ≡ true) where
    pub replaced-stands : some_of (stands_in h) v.places ≡ true → judge_replaced v a ≡ Refused StandsInAWait
    unfolding judge_replaced
    replaced-stands s = rw (← e, y, s)

    pub replaced-reset : some_of (stands_in h) v.places ≡ false → judge_replaced v a ≡ Reset h
    unfolding judge_replaced
    replaced-reset s = rw (← e, y, s)
