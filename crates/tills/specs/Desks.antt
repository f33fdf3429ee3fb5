-- Two whole lists of steps, one on desk one's threads and one on desk two's, interleaved in any way.
use Rattle.std.specs.Prelude.{ℕ, ◌≤◌, ◌≡◌, Bool, true, not, ◌||◌, List, [], ◌∷◌, Some}
use Rattle.lists.specs.Lists.{In}
use Rattle.tapa.specs.Address.{category_of}
use Rattle.rules.specs.View.{View}
use Rattle.rules.specs.Words.{tree_of}
use Rattle.tills.specs.Tills.{Step, outcome_of, after, Shown, shown, thread_of, gives_of, names_of, Steady, owings_on}
use Rattle.tills.specs.Less.{asks_of, moves_of}

-- a desk: its threads, and the handlers that it has to do with
pub record Desk : Type 0 where
  pub threads : ℕ → Bool
  pub handlers : ℕ → Bool

-- two desks: no thread is shared, and no handler but of 00 and 01
pub record Separate (one two : Desk) : Type 0 where
  pub threads : (t : ℕ) → one.threads t ≡ true → two.threads t ≡ true → ⊥
  pub handlers : (h : ℕ) → one.handlers h ≡ true → two.handlers h ≡ true → category_of h ≤ 1

-- a step of a desk: it is on a thread of the desk, names handlers of the desk alone, and opens or closes nobody
pub record OfDesk (desk : Desk) (v : View) (c : Step) : Type 0 where
  pub thread : (t : ℕ) → thread_of c ≡ Some t → desk.threads t ≡ true
  pub names : (h : ℕ) → In h (names_of v c) → desk.handlers h ≡ true
  pub steady : Steady v c

-- less is enough: of the handlers that it names, those that it asks, those that it makes busy or frees, and the two of a wait that it gives up; and
-- it moves no open mark. So both desks may report events.
pub record KeepsTo (desk : Desk) (v : View) (c : Step) : Type 0 where
  pub thread : (t : ℕ) → thread_of c ≡ Some t → desk.threads t ≡ true
  pub asks : (h : ℕ) → In h (asks_of c) → desk.handlers h ≡ true
  pub moves : (h : ℕ) → In h (moves_of (outcome_of v c)) → desk.handlers h ≡ true
  pub gives : (h : ℕ) → In h (gives_of v c) → desk.handlers h ≡ true
  pub marks : (after v c).rows ≡ v.rows

-- each step of a list, the oldest first, has P when the desk is alone with the router
abbrev pub Throughout : (View → Step → Type 0) → View → List Step → Type 0
Throughout P v [] = Unit {0}
Throughout P v (c ∷ cs) = P v c × Throughout P (after v c) cs

-- what a desk sees when it is alone with the router, and what view it leaves
abbrev pub seen : View → List Step → List Shown
seen v [] = []
seen v (c ∷ cs) = shown v c ∷ seen (after v c) cs

abbrev pub after_all : View → List Step → View
after_all v [] = v
after_all v (c ∷ cs) = after_all (after v c) cs

-- ---- both desks

-- steps of the two desks, in the order in which they came
pub data Turn : Type 0 where
  at_one : Step → Turn
  at-two : Step → Turn

abbrev pub step_of : Turn → Step
step_of (at_one c) = c
step_of (at-two d) = d

abbrev pub after_turns : View → List Turn → View
after_turns v [] = v
after_turns v (e ∷ es) = after_turns (after v (step_of e)) es

-- each desk's own steps, and what it sees of all
abbrev pub ones : List Turn → List Step
ones [] = []
ones (at_one c ∷ es) = c ∷ ones es
ones (at-two d ∷ es) = ones es

abbrev pub twos : List Turn → List Step
twos [] = []
twos (at_one c ∷ es) = twos es
twos (at-two d ∷ es) = d ∷ twos es

abbrev pub seen_at_one : View → List Turn → List Shown
seen_at_one v [] = []
seen_at_one v (at_one c ∷ es) = shown v c ∷ seen_at_one (after v c) es
seen_at_one v (at-two d ∷ es) = seen_at_one (after v d) es

abbrev pub seen_at_two : View → List Turn → List Shown
seen_at_two v [] = []
seen_at_two v (at_one c ∷ es) = seen_at_two (after v c) es
seen_at_two v (at-two d ∷ es) = shown v d ∷ seen_at_two (after v d) es

-- on these threads the trees and the owings are the same
pub record SameOn (threads : ℕ → Bool) (v w : View) : Type 0 where
  pub trees : (t : ℕ) → threads t ≡ true → tree_of t v.places ≡ tree_of t w.places
  pub owings : (t : ℕ) → threads t ≡ true → owings_on t v.places ≡ owings_on t w.places

abbrev pub of_neither : (one two : Desk) → ℕ → Bool
of_neither one two t = not (one.threads t || two.threads t)

-- each desk sees what it would see alone, and leaves on its threads what it would leave alone; threads of neither desk and open marks are left
pub record AsAlone (one two : Desk) (v : View) (es : List Turn) : Type 0 where
  pub one-sees : seen_at_one v es ≡ seen v (ones es)
  pub two-sees : seen_at_two v es ≡ seen v (twos es)
  pub one-leaves : SameOn one.threads (after_turns v es) (after_all v (ones es))
  pub two-leaves : SameOn two.threads (after_turns v es) (after_all v (twos es))
  pub others : SameOn (of_neither one two) (after_turns v es) v
  pub marks : (after_turns v es).rows ≡ v.rows
