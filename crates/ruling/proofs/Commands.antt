-- What decides of a command: whether it is Add Event, rule d and rule e.
use Prim.Native.Nat.{ℕ}
use mathlib.Core.Path.{◌≡◌, sym, ◌∙◌}
use mathlib.Core.Bool.{true, false}
use mathlib.Core.List.{List}
use lib.Dec.{eqb}
use borrow.Author.Tests.{eq-eqb, ne_eqb}
use Rattle.lists.specs.Lists.{some_of}
use Rattle.lists.proofs.Tests.{differ}
use Rattle.tapa.specs.Address.{category_of, handler_of}
use Rattle.tapa.specs.Codes.{add_event, event_handler}
use Rattle.message.specs.declared.Head.{Head}
use Rattle.place.specs.declared.Place.{Place}
use Rattle.places.specs.declared.Standing.{Standing}
use Rattle.places.specs.declared.Standing.TheVariants.{Within, Outside, Empty}
use Rattle.places.specs.Places.{stands_on, on_slot, standing_of}
use Rattle.places.proofs.Leaves.{standing-is}
use Rattle.rules.specs.Judge.{is_add_event, may_ask, busy}

-- ---- Type 'C0' to handler '0700'

module _ (h : Head) where
  pub no_add : (h.kind ≡ add_event → ⊥) → false ≡ is_add_event h
  no_add x = rw (ne_eqb h.kind add_event x)

  pub adds-to : (x : ℕ) → h.kind ≡ add_event → x ≡ handler_of h.destination → eqb x event_handler ≡ is_add_event h
  adds-to x e k = rw (eq-eqb h.kind add_event e, k)

-- ---- rule d, by where the asker's handler stands

module _ (ps : List Place) (t a h : ℕ) (e : h ≡ handler_of a) where
  pub may-within : standing_of t h ps ≡ Within → true ≡ may_ask ps t a
  may-within = standing-is t h ps (λ (s : Standing). s ≡ Within → true ≡ may_ask ps t a) (λ o b _. rw (o, ← e, b)) (λ o b k. differ (cc)) (λ o k. differ (cc))

  pub may-outside : standing_of t h ps ≡ Outside → false ≡ may_ask ps t a
  may-outside = standing-is t h ps (λ (s : Standing). s ≡ Outside → false ≡ may_ask ps t a) (λ o b k. differ (cc)) (λ o b _. rw (o, ← e, b)) (λ o k. differ (cc))

  pub may-begin : (x : ℕ) → x ≡ category_of a → standing_of t h ps ≡ Empty → eqb x 1 ≡ may_ask ps t a
  may-begin x q =
      standing-is t h ps (λ (s : Standing). s ≡ Empty → eqb x 1 ≡ may_ask ps t a) (λ o b k. differ (cc)) (λ o b k. differ (cc)) (λ o _. rw (o, q))

-- ---- rule e

module _ (ps : List Place) (asker h t x : ℕ) (e : x ≡ handler_of asker) where
  pub busy-asker : h ≡ x → true ≡ busy ps asker h t
  unfolding busy
  busy-asker q = rw (eq-eqb h (handler_of asker) (q ∙ e))

  pub busy-tree : (h ≡ x → ⊥) → some_of (stands_on t h) ps ≡ true → true ≡ busy ps asker h t
  unfolding busy
  busy-tree q s = rw (ne_eqb h (handler_of asker) (λ z. q (z ∙ sym e)), s)

  pub busy-slot : (h ≡ x → ⊥) → some_of (stands_on t h) ps ≡ false → some_of (on_slot h t) ps ≡ busy ps asker h t
  unfolding busy
  busy-slot q s = rw (ne_eqb h (handler_of asker) (λ z. q (z ∙ sym e)), s)
