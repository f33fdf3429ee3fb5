-- The same of the code: calls of one router, as the contracts of `route` and `give_up` tell them.
use Rattle.std.specs.Prelude.{ℕ, ◌≡◌, List, [], ◌∷◌}
use Rattle.rules.specs.declared.Outcome.{Outcome}
use Rattle.router.specs.declared.Router.{Router}
use Rattle.router.specs.declared.Routed.{Routed}
use Rattle.router.specs.Router.{view_of, Routes, GivesUp}
use Rattle.tills.specs.Tills.{Step, message, give_up, Same}
use Rattle.tills.specs.Desks.{Desk, Turn, at_one, at-two, SameOn}

-- a step as a call of the code: what it hands back, and what its reply buffer then holds
abbrev pub Called : Router → Step → (buffer : List ℕ) → Routed → Type 0
Called r (message s before) buffer out = Routes r s before buffer out
Called r (give_up t a before) buffer out = GivesUp r t a before buffer out

-- ---- two calls, in either order

-- two calls, the second of the router that the first handed back
pub record InTurn (r : Router) (c d : Step) : Type 0 where
  pub first : Routed
  pub first-buffer : List ℕ
  pub first-called : Called r c first-buffer first
  pub second : Routed
  pub second-buffer : List ℕ
  pub second-called : Called first.next d second-buffer second

-- either order: each step has the same outcome, and the same bytes in its reply buffer, four buffers in all; and the two routers have the same
-- trees, open marks and set of owings
pub record EitherOrder (r : Router) (c d : Step) (x : InTurn r c d) (y : InTurn r d c) : Type 0 where
  pub first-outcome : x.first.outcome ≡ y.second.outcome
  pub first-buffer : x.first-buffer ≡ y.second-buffer
  pub second-outcome : x.second.outcome ≡ y.first.outcome
  pub second-buffer : x.second-buffer ≡ y.first-buffer
  pub left : Same (view_of x.second.next) (view_of y.second.next)

-- ---- whole lists of calls

-- what a call hands back to its desk: the outcome, and the reply buffer
pub record Got : Type 0 where
  pub outcome : Outcome
  pub buffer : List ℕ

abbrev pub got : Routed → List ℕ → Got
got out buffer = record { outcome = out.outcome; buffer = buffer }

-- a desk's calls when it is alone with the router: what it got, and the router after them
pub data Alone : Router → List Step → List Got → Router → Type 0 where
  quiet : (r : Router) → Alone r [] [] r
  calls : (r : Router) (c : Step) (cs : List Step) (gs : List Got) (buffer : List ℕ) (out : Routed) (end : Router) → Called r c buffer out → Alone out.next cs gs end
      → Alone r (c ∷ cs) (got out buffer ∷ gs) end

-- both desks' calls in the order in which they came: what each desk got, and the router after them
pub data Together : Router → List Turn → List Got → List Got → Router → Type 0 where
  both-quiet : (r : Router) → Together r [] [] [] r
  one-calls : (r : Router) (c : Step) (es : List Turn) (gs hs : List Got) (buffer : List ℕ) (out : Routed) (end : Router) → Called r c buffer out
      → Together out.next es gs hs end → Together r (at_one c ∷ es) (got out buffer ∷ gs) hs end
  two-calls : (r : Router) (d : Step) (es : List Turn) (gs hs : List Got) (buffer : List ℕ) (out : Routed) (end : Router) → Called r d buffer out
      → Together out.next es gs hs end → Together r (at-two d ∷ es) gs (got out buffer ∷ hs) end

-- a desk got what it gets alone, and the routers have the same trees and owings on its threads
pub record GetsAlone (desk : Desk) (gots : List Got) (end : Router) (alone : List Got) (alone-end : Router) : Type 0 where
  pub gets : gots ≡ alone
  pub leaves : SameOn desk.threads (view_of end) (view_of alone-end)
