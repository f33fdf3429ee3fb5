-- A taken event is the one that was found; and where the ring begins without it.
use Prim.Native.Nat.{ℕ, suc, ◌-◌, ◌<◌}
use Rattle.std.specs.Prelude.{Some}
use mathlib.Core.Path.{◌≡◌, refl, ap, ◌∙◌}
use mathlib.Core.Bool.{Bool, true, false, cond}
use mathlib.Core.List.{List, [], ◌∷◌}
use native.Mathlib.Omega.{arith}
use lib.Dec.{eqb}
use borrow.Author.Tests.{eq-eqb, eqb-true}
use lib.ListN.{length}
use Rattle.lists.specs.Lists.{first, without, find, without_at}
use Rattle.lists.proofs.Tests.{split, differ, and_yes}
use Rattle.lists.proofs.First.{first-yes}
use Rattle.queue.specs.declared.Event.{Event}
use Rattle.std.specs.Prelude.{Some, None}
use Rattle.queue.specs.declared.Search.{Search}
use Rattle.queue.specs.Events.{oldest, by_location, by_type, by_both, known_search, meets, like_of}
use Rattle.queue.specs.Places.{place_from, start_without}

-- an event meets the search for its like, and only what is the same does
same-event : (k m k' m' : ℕ) → k ≡ k' → m ≡ m' → ◌≡◌ {A = Event} (record { kind = k; location = m }) (record { kind = k'; location = m' })
same-event k m k' m' e f = cc

pub alike : (e x : Event) → meets (like_of e) x ≡ true → x ≡ e
unfolding meets
alike e x t =
    let p = and_yes (eqb x.kind e.kind) (eqb x.location e.location) t in
    let k : x.kind ≡ e.kind = eqb-true x.kind e.kind p.0 in
    let m : x.location ≡ e.location = eqb-true x.location e.location p.1 in
    same-event x.kind x.location e.kind e.location k m

pub like-itself : (e : Event) → meets (like_of e) e ≡ true
unfolding meets
like-itself e = rw (eq-eqb e.kind e.kind refl, eq-eqb e.location e.location refl)

-- what meets a search meets a known one
pub meets-known : (s : Search) (e : Event) → meets s e ≡ true → known_search s.by ≡ true
unfolding meets known_search
meets-known s e t =
    split (eqb s.by by_location) (λ a. rw (eqb-true s.by by_location a))
    (λ a. split (eqb s.by by_type) (λ b. rw (eqb-true s.by by_type b))
    (λ b. split (eqb s.by by_both) (λ c. rw (eqb-true s.by by_both c)) (λ c. let z : false ≡ true = rw (a, b, c) at t in differ (cc))))

module _ (q : Event → Bool) (e : Event) where
  -- taking the oldest of its like takes the oldest that met the search
  pub takes-found : (es : List Event) → first q es ≡ Some e → without (meets (like_of e)) es ≡ without q es
  takes-found [] f = refl
  takes-found (x ∷ es) f = go (q x) refl (takes-found es) f
    where
      go : (b : Bool) → q x ≡ b → (first q es ≡ Some e → without (meets (like_of e)) es ≡ without q es)
          → cond b (Some x) (first q es) ≡ Some e → without (meets (like_of e)) (x ∷ es) ≡ without q (x ∷ es)
      go true t ih g =
          let z : x ≡ e = cc in
          let u : meets (like_of e) x ≡ true = ap (meets (like_of e)) z ∙ like-itself e in
          rw (t, u)
      go false t ih g = rw (t, unlike (meets (like_of e) x) refl, ih g)
        where
          unlike : (b : Bool) → meets (like_of e) x ≡ b → meets (like_of e) x ≡ false
          unlike true u =
              absurd
              (let y : q x ≡ true = ap q (alike e x u) ∙ first-yes q es e g in
              let z : ◌≡◌ {A = ℕ} 0 1 = cc in
              omega arith)
          unlike false u = u

-- ---- where the ring begins without it

-- an empty queue has nothing to take
pub none_left : (es : List Event) → oldest es ≡ None → es ≡ []
none_left [] o = refl
none_left (x ∷ es) o = cc

module _ (e x : Event) (s : ℕ) where
  pub some_left : (es : List Event) → oldest es ≡ Some x → 0 < length es
  some_left [] o = absurd (let z : ◌≡◌ {A = ℕ} 0 1 = cc in omega arith)
  some_left (y ∷ es) o = omega arith

  -- the oldest of all is taken: the others stay, and the ring begins at the next place
  pub rest-left : (es : List Event) → oldest es ≡ Some x → meets (like_of e) x ≡ true → without (meets (like_of e)) es ≡ without_at (length es - 1) es
  rest-left [] o t = refl
  rest-left (y ∷ es) o t =
      let z : y ≡ x = cc in
      rw (z, t, eq-eqb (suc (length es) - 1) (length es) (omega arith))

  pub goes_on : (es : List Event) → oldest es ≡ Some x → meets (like_of e) x ≡ true → start_without e es s ≡ place_from s 1
  goes_on [] o t = absurd (let z : ◌≡◌ {A = ℕ} 0 1 = cc in omega arith)
  goes_on (y ∷ es) o t =
      let z : y ≡ x = cc in
      rw (z, t)

  -- another one is taken, or none: the ring begins where it began
  pub stays : (es : List Event) → oldest es ≡ Some x → meets (like_of e) x ≡ false → start_without e es s ≡ s
  stays [] o t = refl
  stays (y ∷ es) o t =
      let z : y ≡ x = cc in
      rw (z, t)

-- an event that has an older one is not the oldest
pub stays-behind : (e : Event) (s : ℕ) (es : List Event) (k : ℕ) → find (meets (like_of e)) es ≡ Some k → suc k < length es → start_without e es s ≡ s
stays-behind e s [] k f h = refl
stays-behind e s (x ∷ es) k f h =
    split (meets (like_of e) x)
    (λ p. let g : Some (length es) ≡ Some k = rw p at f in
    let z : length es ≡ k = cc in
    absurd (omega arith))
    (λ p. rw p)
