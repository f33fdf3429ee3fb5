-- Two calls of the code, in either order; and all calls of two desks.
use Prim.Native.Nat.{ℕ}
use mathlib.Core.Path.{◌≡◌, refl, sym, ap, ◌∙◌}
use mathlib.Core.List.{List, map}
use Rattle.rules.specs.View.{View}
use Rattle.rules.specs.Apply.{applied}
use Rattle.router.specs.declared.Router.{Router}
use Rattle.router.specs.declared.Routed.{Routed}
use Rattle.router.specs.Router.{view_of, Routing}
use Rattle.tills.specs.Tills.{Step, message, give_up, buffer_of, outcome_of, after, Shown, shown, Premise}
use Rattle.tills.specs.Desks.{Desk, Separate, KeepsTo, Throughout, seen, after_all, Turn, after_turns, ones, twos, seen_at_one, seen_at_two}
use Rattle.tills.specs.Calls.{Called, InTurn, EitherOrder, Got, got, GetsAlone, Alone, quiet, calls, Together, both-quiet, one-calls, two-calls}
use Rattle.tills.proofs.Tills.{undisturbed}
use Rattle.tills.proofs.Desks.{kept-alone}

-- the contract of a call tells its outcome, the next view and the reply buffer
told : (r : Router) (c : Step) (buffer : List ℕ) (out : Routed) → Called r c buffer out → Routing (outcome_of (view_of r) c) r (buffer_of c) buffer out
told r (message s before) buffer out x = x
told r (give_up t a before) buffer out x = x

module _ (r : Router) (c d : Step) (x : InTurn r c d) where
  first-told : Routing (outcome_of (view_of r) c) r (buffer_of c) x.first-buffer x.first
  first-told = told r c x.first-buffer x.first x.first-called

  between : view_of x.first.next ≡ after (view_of r) c
  between = first-told.view

  second-told : Routing (outcome_of (after (view_of r) c) d) x.first.next (buffer_of d) x.second-buffer x.second
  second-told = rw between at (told x.first.next d x.second-buffer x.second x.second-called)

  at-end : view_of x.second.next ≡ after (after (view_of r) c) d
  at-end = second-told.view ∙ ap (applied (outcome_of (after (view_of r) c) d)) between

pub either_order : (r : Router) (c d : Step) → Premise (view_of r) c d → (x : InTurn r c d) (y : InTurn r d c) → EitherOrder r c d x y
either_order r c d a x y =
    let u = undisturbed (view_of r) c d a in
    let f : outcome_of (view_of r) c ≡ outcome_of (after (view_of r) d) c = ap (λ (s : Shown). s.outcome) u.first in
    let g : outcome_of (after (view_of r) c) d ≡ outcome_of (view_of r) d = ap (λ (s : Shown). s.outcome) u.second in
    record {
      first-outcome = (first-told r c d x).outcome ∙ f ∙ sym (second-told r d c y).outcome;
      first-buffer = (first-told r c d x).reply ∙ ap (λ (s : Shown). s.buffer) u.first ∙ sym (second-told r d c y).reply;
      second-outcome = (second-told r c d x).outcome ∙ g ∙ sym (first-told r d c y).outcome;
      second-buffer = (second-told r c d x).reply ∙ ap (λ (s : Shown). s.buffer) u.second ∙ sym (first-told r d c y).reply;
      left = rw (at-end r c d x, at-end r d c y) u.left;
    }

-- ---- whole lists of calls

-- what a step shows, as the code hands it back
abbrev handed : Shown → Got
handed s = record { outcome = s.outcome; buffer = s.buffer }

module _ (r : Router) (v : View) (e : view_of r ≡ v) (c : Step) (buffer : List ℕ) (out : Routed) (x : Called r c buffer out) where
  call-told : Routing (outcome_of v c) r (buffer_of c) buffer out
  call-told = rw e at (told r c buffer out x)

  call-view : view_of out.next ≡ after v c
  call-view = call-told.view ∙ ap (applied (outcome_of v c)) e

  call-got : got out buffer ≡ handed (shown v c)
  call-got = rw (call-told.outcome, call-told.reply)

-- what the calls of a list tell: what was got, and the view at the end
alone-told : {r end : Router} {cs : List Step} {gs : List Got} → Alone r cs gs end → (v : View) → view_of r ≡ v
    → (gs ≡ map handed (seen v cs)) × (view_of end ≡ after_all v cs)
alone-told (quiet r) v e = (refl, e)
alone-told (calls r c cs gs buffer out end x a) v e =
    let ih = alone-told a (after v c) (call-view r v e c buffer out x) in (rw (call-got r v e c buffer out x, ih.0), ih.1)

together-told : {r end : Router} {es : List Turn} {gs hs : List Got} → Together r es gs hs end → (v : View) → view_of r ≡ v
    → (gs ≡ map handed (seen_at_one v es)) × (hs ≡ map handed (seen_at_two v es)) × (view_of end ≡ after_turns v es)
together-told (both-quiet r) v e = (refl, refl, e)
together-told (one-calls r c es gs hs buffer out end x a) v e =
    let ih = together-told a (after v c) (call-view r v e c buffer out x) in (rw (call-got r v e c buffer out x, ih.0), ih.1, ih.2)
together-told (two-calls r d es gs hs buffer out end x a) v e =
    let ih = together-told a (after v d) (call-view r v e d buffer out x) in (ih.0, rw (call-got r v e d buffer out x, ih.1), ih.2)

module _ (one two : Desk) (s : Separate one two) (r : Router) (es : List Turn) (i : Throughout (KeepsTo one) (view_of r) (ones es))
    (j : Throughout (KeepsTo two) (view_of r) (twos es)) (gs hs : List Got) (end : Router) (x : Together r es gs hs end) where
  -- each desk gets from the router what it would get alone
  pub one-gets : (alone : List Got) (alone-end : Router) → Alone r (ones es) alone alone-end → GetsAlone one gs end alone alone-end
  one-gets alone alone-end a =
      let t = together-told x (view_of r) refl in let u = alone-told a (view_of r) refl in
      let k = kept-alone one two s (view_of r) es i j in
      record { gets = t.0 ∙ ap (map handed) k.one-sees ∙ sym u.0; leaves = rw (t.2, u.1) k.one-leaves }

  pub two-gets : (alone : List Got) (alone-end : Router) → Alone r (twos es) alone alone-end → GetsAlone two hs end alone alone-end
  two-gets alone alone-end a =
      let t = together-told x (view_of r) refl in let u = alone-told a (view_of r) refl in
      let k = kept-alone one two s (view_of r) es i j in
      record { gets = t.1 ∙ ap (map handed) k.two-sees ∙ sym u.0; leaves = rw (t.2, u.1) k.two-leaves }
