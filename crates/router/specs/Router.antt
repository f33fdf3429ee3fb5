-- The router's state: what it means, its law, and what a call of it shows.
use Rattle.std.specs.Prelude.{ℕ, ◌≡◌, List, length}
use Rattle.rules.specs.View.{View}
use Rattle.rules.specs.declared.Outcome.{Outcome}
use Rattle.rules.specs.Judge.{judge_message, judge_give_up, judge_replaced}
use Rattle.rules.specs.Apply.{applied, written}
use Rattle.ruling.specs.Ruling.{held_view}
use Rattle.routing.specs.declared.Step.{Step}
use Rattle.routing.specs.Law as routing
use Rattle.router.specs.declared.Router.{Router}
use Rattle.router.specs.declared.Routed.{Routed}

abbrev pub view_of : Router → View
view_of r = held_view r.cells r.count r.list r.len

-- the law of every state that a start or a call hands back: that of its parts
abbrev pub Lawful : Router → Type 0
Lawful r = routing.Lawful r.cells r.count r.list r.len

-- 'The router takes its state and hands the next one back.' With the outcome o: the next view, its law, and the whole reply buffer
pub record Routing (o : Outcome) (r : Router) (before after : List ℕ) (out : Routed) : Type 0 where
  pub outcome : out.outcome ≡ o
  pub view : view_of out.next ≡ applied o (view_of r)
  pub law : Lawful out.next
  pub reply : after ≡ written o before

-- the same for a replaced call, which has no reply buffer
pub record Replacing (o : Outcome) (r : Router) (out : Routed) : Type 0 where
  pub outcome : out.outcome ≡ o
  pub view : view_of out.next ≡ applied o (view_of r)
  pub law : Lawful out.next

-- ---- the three calls: what each ensures of the message, and of the reply buffer before and after

abbrev pub Routes : Router → (message before after : List ℕ) → Routed → Type 0
Routes r message before after out = Routing (judge_message (view_of r) (length before) message) r before after out

abbrev pub GivesUp : Router → (thread address : ℕ) → (before after : List ℕ) → Routed → Type 0
GivesUp r t a before after out = Routing (judge_give_up (view_of r) (length before) t a) r before after out

abbrev pub Replaces : Router → (address : ℕ) → Routed → Type 0
Replaces r a out = Replacing (judge_replaced (view_of r) a) r out

-- ---- the same with the arrays lent: a state is its parts

abbrev pub state_of : (cells : List ℕ) → (count : ℕ) → (list : List ℕ) → (len : ℕ) → Router
state_of c n l k = record { list = l; len = k; cells = c; count = n }

-- what a call in place answers, with what the arrays then hold
abbrev pub routed_to : Step → (cells : List ℕ) → (count : ℕ) → (list : List ℕ) → Routed
routed_to s c n l = record { outcome = s.outcome; next = state_of c n l s.len }
