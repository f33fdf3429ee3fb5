-- One list of places seen as two, the waits and the owings: what the changes of the list do to each.
use Prim.Native.Nat.{ℕ, ◌+◌}
use Rattle.std.specs.Prelude.{Some}
use mathlib.Core.Path.{◌≡◌, refl, sym, ap}
use mathlib.Core.Bool.{Bool, true, false, not, ◌&&◌}
use mathlib.Core.List.{List}
use native.Mathlib.Omega.{arith}
use lib.ListN.{length}
use Rattle.lists.specs.Lists.{one, count, keep, first, without, changed}
use Rattle.lists.proofs.Kept.{length-parts, first-within, without-within, without-apart, changed-out, changed-in, keep-wider, keep-agrees}
use Rattle.place.specs.declared.Place.{Place}
use Rattle.places.specs.Places.{is_open, is_owed, waits, owings, owing, open_on, asks_exactly, owes_exactly, asks, not_owed_by}

-- 'waits plus owings': the list has no other places
pub two : (ps : List Place) → length ps ≡ length (waits ps) + length (owings ps)
two ps = omega (arith, length-parts is_owed ps)

-- ---- tests that say open or owed

left : (a b : Bool) → a && b ≡ true → a ≡ true
left true b e = refl
left false b e = e

pub asks-open : (a t : ℕ) (x : Place) → asks_exactly a t x ≡ true → is_open x ≡ true
asks-open a t x e = left (is_open x) _ (left (open_on t x) _ e)

pub owes-owed : (a t : ℕ) (x : Place) → owes_exactly a t x ≡ true → is_owed x ≡ true
owes-owed a t x e = left (is_owed x) _ (left _ _ e)

open-not-owed : (x : Place) → is_open x ≡ true → is_owed x ≡ false
open-not-owed x e = go x.owed e
  where
    go : (b : Bool) → not b ≡ true → b ≡ false
    go true k = sym k
    go false k = refl

owed-not-open : (x : Place) → is_owed x ≡ true → is_open x ≡ false
owed-not-open x e = ap not e

-- ---- an end or a change of the first that passes a test of waits

module _ (q : Place → Bool) (opened : (x : Place) → q x ≡ true → is_open x ≡ true) (ps : List Place) where
  pub first-wait : first q ps ≡ first q (waits ps)
  first-wait = first-within q is_open opened ps

  pub waits-ended : waits (without q ps) ≡ without q (waits ps)
  waits-ended = without-within q is_open opened ps

  pub owings-kept : owings (without q ps) ≡ owings ps
  owings-kept = without-apart q is_owed (λ x e. open-not-owed x (opened x e)) ps

  pub waits-given : waits (changed owing q ps) ≡ without q (waits ps)
  waits-given = changed-out q is_open opened owing (λ x. refl) ps

  pub owings-given : (p : Place → Bool) (y : Place)
      → first q ps ≡ Some y
      → count p (owings (changed owing q ps)) ≡ one (p (owing y)) + count p (owings ps)
  owings-given p y e = changed-in q is_owed (λ x k. open-not-owed x (opened x k)) owing (λ x. refl) p ps y e

-- ---- the same of owings

module _ (q : Place → Bool) (owed : (x : Place) → q x ≡ true → is_owed x ≡ true) (ps : List Place) where
  pub owings-ended : owings (without q ps) ≡ without q (owings ps)
  owings-ended = without-within q is_owed owed ps

  pub waits_kept : waits (without q ps) ≡ waits ps
  waits_kept = without-apart q is_open (λ x e. owed-not-open x (owed x e)) ps

-- ---- a handler's owings end

pub waits-stay : (h : ℕ) (ps : List Place) → waits (keep (not_owed_by h) ps) ≡ waits ps
waits-stay h ps = keep-wider is_open (not_owed_by h) (λ x e. ap (λ (b : Bool). not (b && asks h x)) (open-not-owed x e)) ps

pub owings-stay : (h : ℕ) (ps : List Place) → owings (keep (not_owed_by h) ps) ≡ keep (λ (x : Place). not (asks h x)) (owings ps)
owings-stay h ps =
    keep-agrees is_owed (not_owed_by h) (λ (x : Place). not (asks h x)) (λ x e. ap (λ (b : Bool). not (b && asks h x)) e) ps
