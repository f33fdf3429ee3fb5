-- From a step in place to the state by value; and that a state is known by its view.
use Prim.Native.Nat.{ℕ}
use mathlib.Core.Path.{◌≡◌, ap}
use mathlib.Core.List.{List}
use lib.ListN.{length}
use Rattle.table.proofs.Once as table
use Rattle.places.proofs.Once as held
use Rattle.rules.specs.View.{View}
use Rattle.rules.specs.Judge.{Call, give_up, judge, judge_give_up}
use Rattle.rules.proofs.Untouched.{give-up-rows}
use Rattle.routing.specs.declared.Step.{Step}
use Rattle.routing.specs.Steps.{Writing, Moving, Stepping}
use Rattle.routing.proofs.Law.{next-view, law-kept}
use Rattle.router.specs.declared.Router.{Router}
use Rattle.router.specs.Router.{view_of, Lawful, Routing, Replacing, state_of, routed_to}

module _ (r : Router) (g : Lawful r) (room : ℕ) (call : Call) where
  pub replaces : (c l : List ℕ) (s : Step)
      → Moving (judge (view_of r) room call) (view_of r) c r.count l s
      → Replacing (judge (view_of r) room call) r
      (routed_to s c r.count l)
  replaces c l s x = record {
    outcome = x.placing.outcome;
    view = next-view r.cells r.count r.list r.len g room call c l s x;
    law = law-kept r.cells r.count r.list r.len g room call c l s x;
  }

  pub routes : (c l before after : List ℕ) (s : Step)
      → Stepping (judge (view_of r) room call) (view_of r) c r.count l before after s
      → Routing (judge (view_of r) room call) r before after
      (routed_to s c r.count l)
  routes c l before after s x =
      let y = replaces c l s x.moving in
      record { outcome = y.outcome; view = y.view; law = y.law; reply = x.reply }

-- a give up looks at no row and moves none
pub gives_up : (r : Router) → Lawful r → (t a : ℕ) (l before after : List ℕ) (s : Step)
    → Writing (judge_give_up (view_of r) (length before) t a) (view_of r).places l before after s
    → Routing (judge_give_up (view_of r) (length before) t a) r before after
    (routed_to s r.cells r.count l)
gives_up r g t a l before after s x =
    routes r g (length before) (give_up t a) r.cells l before after s
    (record { moving = record { placing = x.placing; table = record { holds = give-up-rows (view_of r) (length before) t a; law = g.column } }; reply = x.reply })

-- ---- a lawful state is known by its view

together : (c c' : List ℕ) (n n' : ℕ) (l l' : List ℕ) (k k' : ℕ) → c ≡ c' → n ≡ n' → l ≡ l' → k ≡ k' → state_of c n l k ≡ state_of c' n' l' k'
together c c' n n' l l' k k' e1 e2 e3 e4 = cc

pub determined : (r s : Router) → Lawful r → Lawful s → view_of r ≡ view_of s → r ≡ s
determined r s g h e =
    let p = held.determined r.list s.list r.len s.len g.held h.held (ap (λ (v : View). v.places) e) in
    let q = table.determined r.cells s.cells r.count s.count g.column h.column (ap (λ (v : View). v.rows) e) in
    together r.cells s.cells r.count s.count r.list s.list r.len s.len q.1 q.0 p.1 p.0
