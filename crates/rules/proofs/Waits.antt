-- The waits of a list of places after each kind of change; and that a thread's tree is told by the waits alone.
use Prim.Native.Nat.{ℕ}
use mathlib.Core.Path.{◌≡◌, sym, ap, ◌∙◌}
use mathlib.Core.Bool.{Bool, true, ◌||◌, ◌&&◌}
use mathlib.Core.List.{List, [], ◌∷◌}
use lib.Dec.{eqb}
use Rattle.lists.specs.Lists.{first, without, changed}
use Rattle.lists.proofs.Tests.{split, clash, and_yes}
use Rattle.lists.proofs.Kept.{some-within}
use Rattle.tapa.specs.Address.{handler_of}
use Rattle.place.specs.declared.Place.{Place}
use Rattle.places.specs.Places.{is_open, waits, on_thread, open_on, asks_exactly, owes_exactly, asks, holds_on, holding, owing}
use Rattle.places.proofs.Two.{asks-open, owes-owed, first-wait, waits-ended, waits-given as given, waits_kept}
use Rattle.rules.specs.Conduct.{grown_in, Grown, Tree}

-- ---- whose tests they are

pub open_is : (t : ℕ) (p : Place) → open_on t p ≡ true → is_open p ≡ true
open_is t p q = (and_yes (is_open p) (on_thread t p) q).0

pub open-thread : (t : ℕ) (p : Place) → open_on t p ≡ true → on_thread t p ≡ true
open-thread t p q = (and_yes (is_open p) (on_thread t p) q).1

pub exact-on : (a t : ℕ) (p : Place) → asks_exactly a t p ≡ true → open_on t p ≡ true
exact-on a t p q = (and_yes (open_on t p) (eqb p.asked a) q).0

-- ---- the waits after a change

pub waits-answered : (a t : ℕ) (l : List Place) → waits (without (asks_exactly a t) l) ≡ without (asks_exactly a t) (waits l)
waits-answered a t l = waits-ended (asks_exactly a t) (asks-open a t) l

pub waits-given : (a t : ℕ) (l : List Place) → waits (changed owing (asks_exactly a t) l) ≡ without (asks_exactly a t) (waits l)
waits-given a t l = given (asks_exactly a t) (asks-open a t) l

pub waits-swallowed : (a t : ℕ) (l : List Place) → waits (without (owes_exactly a t) l) ≡ waits l
waits-swallowed a t l = waits_kept (owes_exactly a t) (owes-owed a t) l

-- ---- what is found, and what is held, among the waits

pub found-waits : (a t : ℕ) (l : List Place) → first (asks_exactly a t) (waits l) ≡ first (asks_exactly a t) l
found-waits a t l = sym (first-wait (asks_exactly a t) (asks-open a t) l)

pub held-waits : (a t : ℕ) (l : List Place) → holding (waits l) a t ≡ holding l a t
held-waits a t l =
    sym (some-within (holds_on t (handler_of a)) is_open (λ p q. open_is t p (and_yes (open_on t p) (eqb (handler_of p.asker) (handler_of a)) q).0) l)

-- ---- a tree is that of the waits

grown-in-waits : (r t h : ℕ) (l : List Place) → grown_in r t h (waits l) ≡ grown_in r t h l
grown-in-waits r t h l =
    ap (λ (b : Bool). eqb h r || b)
    (sym (some-within (λ (p : Place). open_on t p && asks h p) is_open (λ p q. open_is t p (and_yes (open_on t p) (asks h p) q).0) l))

grown-waits : (r t : ℕ) (l : List Place) → Grown r t l → Grown r t (waits l)
grown-waits r t [] g = tt
grown-waits r t (p ∷ l) g =
    split (is_open p)
    (λ q. rw q (
      λ o. (grown-in-waits r t (handler_of p.asker) l ∙ (g.0 o).0, grown-in-waits r t (handler_of p.asked) l ∙ (g.0 o).1),
      grown-waits r t l g.1,
    ))
    (λ q. rw q (grown-waits r t l g.1))

waits-grown : (r t : ℕ) (l : List Place) → Grown r t (waits l) → Grown r t l
waits-grown r t [] g = tt
waits-grown r t (p ∷ l) g =
    split (is_open p)
    (λ q. let k : Grown r t (p ∷ waits l) = rw q at g in (
      λ o. (sym (grown-in-waits r t (handler_of p.asker) l) ∙ (k.0 o).0, sym (grown-in-waits r t (handler_of p.asked) l) ∙ (k.0 o).1),
      waits-grown r t l k.1,
    ))
    (λ q. let k : Grown r t (waits l) = rw q at g in (λ o. clash (is_open p) (open_is t p o) q, waits-grown r t l k))

pub tree-waits : (t : ℕ) (l : List Place) → Tree t l → Tree t (waits l)
tree-waits t l g = record { root = g.root; driver = g.driver; grown = grown-waits (handler_of g.root) t l g.grown }

pub waits-tree : (t : ℕ) (l : List Place) → Tree t (waits l) → Tree t l
waits-tree t l g = record { root = g.root; driver = g.driver; grown = waits-grown (handler_of g.root) t l g.grown }
