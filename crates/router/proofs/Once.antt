-- The contracts leave one answer, one next state and one content of the reply buffer possible.
use Prim.Native.Nat.{ℕ}
use mathlib.Core.Path.{◌≡◌, sym, ap, ◌∙◌}
use mathlib.Core.List.{List}
use Rattle.rules.specs.declared.Outcome.{Outcome}
use Rattle.routing.specs.declared.Step.{Step}
use Rattle.router.specs.declared.Router.{Router}
use Rattle.router.specs.declared.Routed.{Routed}
use Rattle.router.specs.Router.{Routing, Replacing, Routes, GivesUp, Replaces, routed_to}
use Rattle.router.proofs.States.{determined}

same : (p q : Outcome) (r s : Router) → p ≡ q → r ≡ s → ◌≡◌ {A = Routed} (record { outcome = p; next = r }) (record { outcome = q; next = s })
same p q r s e f = cc

one-replacing : (o : Outcome) (r : Router) (x y : Routed) → Replacing o r x → Replacing o r y → x ≡ y
one-replacing o r x y a b =
    same x.outcome y.outcome x.next y.next (a.outcome ∙ sym b.outcome)
    (determined x.next y.next a.law b.law (a.view ∙ sym b.view))

one-routing : (o : Outcome) (r : Router) (before after after' : List ℕ) (x y : Routed)
    → Routing o r before after x
    → Routing o r before after' y
    → (x ≡ y) × (after ≡ after')
one-routing o r before after after' x y a b = (
  one-replacing o r x y (record { outcome = a.outcome; view = a.view; law = a.law }) (record { outcome = b.outcome; view = b.view; law = b.law }),
  a.reply ∙ sym b.reply,
)

module _ (r : Router) (x y : Routed) where
  pub one-route : (message before after after' : List ℕ) → Routes r message before after x → Routes r message before after' y → (x ≡ y) × (after ≡ after')
  one-route message before after after' = one-routing _ r before after after' x y

  pub one-give-up : (thread address : ℕ) (before after after' : List ℕ) → GivesUp r thread address before after x → GivesUp r thread address before after' y
      → (x ≡ y) × (after ≡ after')
  one-give-up thread address before after after' = one-routing _ r before after after' x y

  pub one-replaced : (address : ℕ) → Replaces r address x → Replaces r address y → x ≡ y
  one-replaced address = one-replacing _ r x y

-- ---- in place: one answer, and one content of the lent arrays

same_in : (n : ℕ) (s t : Step) (c d l m : List ℕ) → routed_to s c n l ≡ routed_to t d n m → (s ≡ t) × (l ≡ m) × (c ≡ d)
same_in n s t c d l m e = (
  (λ i. record { outcome = (e i).outcome; len = (e i).next.len }),
  ap (λ (x : Routed). x.next.list) e,
  ap (λ (x : Routed). x.next.cells) e,
)

module _ (r : Router) (n : ℕ) (s t : Step) (c d l m : List ℕ) where
  pub one-route-in : (message before after after' : List ℕ) → Routes r message before after (routed_to s c n l) → Routes r message before after' (routed_to t d n m)
      → (s ≡ t) × (l ≡ m) × (c ≡ d) × (after ≡ after')
  one-route-in message before after after' g h =
      let e = one-route r (routed_to s c n l) (routed_to t d n m) message before after after' g h in
      let f = same_in n s t c d l m e.0 in
      (f.0, f.1, f.2, e.1)

  pub one-give-up-in : (thread address : ℕ) (before after after' : List ℕ) → GivesUp r thread address before after (routed_to s c n l)
      → GivesUp r thread address before after' (routed_to t d n m)
      → (s ≡ t) × (l ≡ m) × (c ≡ d) × (after ≡ after')
  one-give-up-in thread address before after after' g h =
      let e = one-give-up r (routed_to s c n l) (routed_to t d n m) thread address before after after' g h in
      let f = same_in n s t c d l m e.0 in
      (f.0, f.1, f.2, e.1)

  pub one-replaced-in : (address : ℕ) → Replaces r address (routed_to s c n l) → Replaces r address (routed_to t d n m) → (s ≡ t) × (l ≡ m) × (c ≡ d)
  one-replaced-in address g h = same_in n s t c d l m (one-replaced r (routed_to s c n l) (routed_to t d n m) address g h)
