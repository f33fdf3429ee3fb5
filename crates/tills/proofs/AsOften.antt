-- 'the same .. set of owings': where two views have the same owings on every thread, every owing stands in both as often.
use Prim.Native.Nat.{ℕ}
use mathlib.Core.Path.{◌≡◌, sym, ◌∙◌}
use mathlib.Core.Logic.{◌↔◌}
use mathlib.Core.Bool.{Bool, true}
use lib.Dec.{eqb}
use borrow.Author.Tests.{eqb-true}
use Rattle.lists.specs.Lists.{count, In}
use Rattle.lists.proofs.Tests.{and_yes, eqb_same}
use Rattle.lists.proofs.Kept.{keep-both}
use Rattle.lists.proofs.Keyed.{SameKeyed, same-counts, same-members}
use Rattle.place.specs.declared.Place.{Place}
use Rattle.places.specs.Places.{is_owed, on_thread, owings}
use Rattle.rules.specs.View.{View}
use Rattle.tills.specs.Tills.{Same, is_it}

abbrev thread : Place → ℕ
thread p = p.thread

keyed : (v w : View) → Same v w → SameKeyed thread (owings v.places) (owings w.places)
keyed v w s t = keep-both (on_thread t) is_owed v.places ∙ s.owings t ∙ sym (keep-both (on_thread t) is_owed w.places)

same_back : (v w : View) → Same v w → Same w v
same_back v w s = record { trees = λ t. sym (s.trees t); marks = sym s.marks; owings = λ t. sym (s.owings t) }

-- ---- `is_it` knows an owing by all that it has

pub is-itself : (p : Place) → is_it p p ≡ true
is-itself p = rw (eqb_same p.asker, eqb_same p.asked, eqb_same p.kind, eqb_same p.thread)

pub is-no-other : (p x : Place) → is_owed p ≡ true → is_owed x ≡ true → is_it p x ≡ true → x ≡ p
is-no-other p x o o' e =
    let a = and_yes (eqb x.asker p.asker) _ e in
    let b = and_yes (eqb x.asked p.asked) _ a.1 in
    let c = and_yes (eqb x.kind p.kind) _ b.1 in
    same x.asker p.asker x.asked p.asked x.kind p.kind x.thread p.thread x.owed p.owed
    (eqb-true x.asker p.asker a.0) (eqb-true x.asked p.asked b.0) (eqb-true x.kind p.kind c.0) (eqb-true x.thread p.thread c.1)
    (o' ∙ sym o)
  where
    same : (a a' b b' k k' t t' : ℕ) (o o' : Bool) → a ≡ a' → b ≡ b' → k ≡ k' → t ≡ t' → o ≡ o'
        → ◌≡◌ {A = Place} (record { asker = a; asked = b; kind = k; thread = t; owed = o }) (record { asker = a'; asked = b'; kind = k'; thread = t'; owed = o' })
    same a a' b b' k k' t t' o o' e1 e2 e3 e4 e5 = cc

-- ---- the set

module _ (v w : View) (s : Same v w) where
  -- whatever is asked of an owing, as many in both answer to it
  pub as-often : (q : Place → Bool) → count q (owings v.places) ≡ count q (owings w.places)
  as-often q = same-counts thread q (owings v.places) (owings w.places) (keyed v w s)

  -- so each owing stands in both as often
  pub each-as-often : (p : Place) → count (is_it p) (owings v.places) ≡ count (is_it p) (owings w.places)
  each-as-often p = as-often (is_it p)

  -- and in both or in neither
  pub same-owings : (p : Place) → In p (owings v.places) ↔ In p (owings w.places)
  same-owings p = (
    same-members thread (owings v.places) (owings w.places) (keyed v w s) p,
    same-members thread (owings w.places) (owings v.places) (keyed w v (same_back v w s)) p,
  )
