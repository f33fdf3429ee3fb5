-- The premise asks for what the request's sentences say of a step: no less, and no more.
use Prim.Native.Nat.{ℕ, ◌≤◌}
use Rattle.std.specs.Prelude.{Ok, Err, Some, None}
use mathlib.Core.Path.{◌≡◌, refl, ap, ◌∙◌}
use mathlib.Core.Logic.{◌⊎◌, inl, inr}
use mathlib.Core.Bool.{true, false}
use mathlib.Core.List.{List, [], ◌∷◌}
use lib.Dec.{eqb}
use lib.ListN.{length}
use borrow.Author.Tests.{eqb-true}
use Rattle.lists.specs.Lists.{In}
use Rattle.lists.proofs.Tests.{split, clash, differ}
use Rattle.tapa.specs.Address.{category_of, handler_of}
use Rattle.tapa.specs.Codes.{open_handler, close_handler}
use Rattle.tapa.specs.declared.Refusal.{Refusal}
use Rattle.message.specs.declared.Head.{Head}
use Rattle.message.specs.Message.{read_of}
use Rattle.place.specs.declared.Place.{Place}
use Rattle.rules.specs.View.{View}
use Rattle.rules.specs.declared.Outcome.{Outcome}
use Rattle.rules.specs.declared.Outcome.TheVariants.{Passed, Answered, Swallowed, Event, Turned, Given, Reset, Refused}
use Rattle.rules.specs.Judge as rules
use Rattle.rules.specs.Judge.{answerable}
use Rattle.rules.specs.Says.{GivesUp}
use Rattle.rules.proofs.Says.{says}
use Rattle.tills.specs.Tills.{Step, message, give_up, outcome_of, thread_of, names_of, opens_or_closes, wait_commands, answers_one, commands_one, Steady, Premise}

-- ---- a message

module _ (v : View) (s buffer : List ℕ) (h : Head) (e : read_of s ≡ Ok h) where
  pub message-thread : thread_of (message s buffer) ≡ Some h.thread
  message-thread = rw e

  -- 'as source or destination'
  pub message-names : names_of v (message s buffer) ≡ handler_of h.source ∷ handler_of h.destination ∷ []
  message-names = rw e

  -- 'is an Open or Close Handler command'
  pub message-commands : commands_one (message s buffer) ≡ opens_or_closes h.kind
  message-commands = rw e

module _ (v : View) (s buffer : List ℕ) (r : Refusal) (e : read_of s ≡ Err r) where
  pub unread-thread : thread_of (message s buffer) ≡ None
  unread-thread = rw e

  pub unread-names : names_of v (message s buffer) ≡ []
  unread-names = rw e

  pub unread-commands : commands_one (message s buffer) ≡ false
  unread-commands = rw e

-- by the types' own numbers
pub opens-or-closes : (kind : ℕ) → opens_or_closes kind ≡ true → (kind ≡ 0xF0) ⊎ (kind ≡ 0xF1)
opens-or-closes kind e =
    split (eqb kind open_handler) (λ p. inl (eqb-true kind open_handler p)) (λ p. inr (eqb-true kind close_handler (rw p at e)))

pub opening : opens_or_closes 0xF0 ≡ true
opening = refl

pub closing : opens_or_closes 0xF1 ≡ true
closing = refl

-- ---- 'or answers one'

module _ (v : View) (o : Outcome) where
  pub answered-one : (asked asker t k : ℕ) (w : Place) → o ≡ Answered asked asker t k → answerable v.places asked t ≡ Some w → answers_one v o ≡ opens_or_closes w.kind
  answered-one asked asker t k w e f = ap (answers_one v) e ∙ ap wait_commands f

-- whatever is not answered answers none: what is swallowed does not, nor what is refused
pub answers-none : (v : View) (o : Outcome) → ((asked asker t k : ℕ) → o ≡ Answered asked asker t k → ⊥) → answers_one v o ≡ false
answers-none v (Passed asker asked kind t) n = refl
answers-none v (Answered asked asker t k) n = absurd (n asked asker t k refl)
answers-none v (Swallowed asked t) n = refl
answers-none v Event n = refl
answers-none v (Turned asker asked t k) n = refl
answers-none v (Given asker asked t) n = refl
answers-none v (Reset h) n = refl
answers-none v (Refused r) n = refl

-- ---- a give up

module _ (v : View) (t a : ℕ) (buffer : List ℕ) where
  pub give-up-thread : thread_of (give_up t a buffer) ≡ Some t
  give-up-thread = refl

  -- 'as asker or asked of the wait given up'
  pub given-up-names : (asker asked u : ℕ) → outcome_of v (give_up t a buffer) ≡ Given asker asked u
      → names_of v (give_up t a buffer) ≡ handler_of asker ∷ handler_of asked ∷ []
  given-up-names asker asked u e = rw e

  -- one that is refused names nobody
  pub refused-names : (r : Refusal) → outcome_of v (give_up t a buffer) ≡ Refused r → names_of v (give_up t a buffer) ≡ []
  refused-names r e = rw e

  not-answered : (o : Outcome) → GivesUp t a o → (asked asker u k : ℕ) → o ≡ Answered asked asker u k → ⊥
  not-answered o (inl r) asked asker u k e = clash false (rw e at r) refl
  not-answered o (inr s) asked asker u k e = let z : Given s.0 a t ≡ Answered asked asker u k = rw s.1 at e in differ (cc)

  -- it is no such command, and answers none
  pub give-up-steady : Steady v (give_up t a buffer)
  give-up-steady = (refl, answers-none v _ (not-answered _ (says v (length buffer) (rules.give_up t a))))

-- ---- the whole premise is these, and nothing beside them

pub premise-by : (v : View) (c d : Step)
    → ((t : ℕ) → thread_of c ≡ Some t → thread_of d ≡ Some t → ⊥)
    → ((h : ℕ) → In h (names_of v c) → In h (names_of v d) → category_of h ≤ 1)
    → (commands_one c ≡ false) × (commands_one d ≡ false)
    → (answers_one v (outcome_of v c) ≡ false) × (answers_one v (outcome_of v d) ≡ false)
    → Premise v c d
premise-by v c d threads shared commands answers =
    record { threads = threads; shared = shared; steady = ((commands.0, answers.0), (commands.1, answers.1)) }
