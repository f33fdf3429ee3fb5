-- Two lists whose elements have a number each, a key: where for every key they have the same elements in the same order, every test passes as
-- often in both, whatever stands between those elements.
use Prim.Native.Nat.{ℕ}
use Rattle.std.specs.Prelude.{Some}
use mathlib.Core.Path.{◌≡◌, refl, sym, ap, ◌∙◌}
use mathlib.Core.Bool.{Bool}
use mathlib.Core.List.{List, [], ◌∷◌}
use native.Mathlib.Omega.{arith}
use lib.Dec.{eqb}
use borrow.Author.Tests.{eqb-true}
use Rattle.lists.specs.Lists.{count, some_of, keep, first, without, In}
use Rattle.lists.proofs.Tests.{split, differ, eqb_same}
use Rattle.lists.proofs.Counts.{none-zero, count-some}
use Rattle.lists.proofs.Kept.{without-apart}
use Rattle.lists.proofs.First.{count-first}
use Rattle.lists.proofs.Members.{in-keep, in_kept}

module _ {A : Type 0} (key : A → ℕ) where
  abbrev pub has_key : ℕ → A → Bool
  has_key k x = eqb (key x) k

  abbrev pub SameKeyed : List A → List A → Type 0
  SameKeyed l m = (k : ℕ) → keep (has_key k) l ≡ keep (has_key k) m

  -- the first of a part, and what is left of the part without it
  part-head : (q : A → Bool) (x : A) (k m : List A) → keep q m ≡ x ∷ k → (first q m ≡ Some x) × (keep q (without q m) ≡ k)
  part-head q x k [] e = differ (cc)
  part-head q x k (y ∷ m) e =
      split (q y)
      (λ p. let f : y ∷ keep q m ≡ x ∷ k = rw p at e in let j : y ≡ x = cc in let i : keep q m ≡ k = cc in rw p (ap Some j, i))
      (λ p. let ih = part-head q x k m (rw p at e) in rw (p, p) (ih.0, ih.1))

  -- the head of the one list, taken out of both
  taken_out : (x : A) (l m : List A) → SameKeyed (x ∷ l) m → (first (has_key (key x)) m ≡ Some x) × SameKeyed l (without (has_key (key x)) m)
  taken_out x l m e =
      let t : ℕ = key x in
      let f : x ∷ keep (has_key t) l ≡ keep (has_key t) m = rw (eqb_same t) at (e t) in
      let h = part-head (has_key t) x (keep (has_key t) l) m (sym f) in (
        h.0,
        λ u. split (eqb t u)
            (λ p. rw (← (eqb-true t u p)) (sym h.1))
            (λ p. let g : keep (has_key u) l ≡ keep (has_key u) m = rw p at (e u) in
            g ∙ sym (without-apart (has_key t) (has_key u) (λ v b. rw (eqb-true (key v) t b) p) m)),
      )

  pub same-counts : (q : A → Bool) (l m : List A) → SameKeyed l m → count q l ≡ count q m
  same-counts q [] [] e = refl
  same-counts q [] (y ∷ m) e =
      let f : [] ≡ y ∷ keep (has_key (key y)) m = rw (eqb_same (key y)) at (e (key y)) in differ (cc)
  same-counts q (x ∷ l) m e =
      let h = taken_out x l m e in
      omega (arith, count-first q (has_key (key x)) m x h.0, same-counts q l (without (has_key (key x)) m) h.1)

  pub same_some : (q : A → Bool) (l m : List A) → SameKeyed l m → some_of q l ≡ some_of q m
  same_some q l m e =
      let c = same-counts q l m e in
      split (some_of q l) (λ p. split (some_of q m) (λ r. p ∙ sym r) (λ r. absurd (omega (arith, count-some q l p, none-zero q m r))))
      (λ p. split (some_of q m) (λ r. absurd (omega (arith, count-some q m r, none-zero q l p))) (λ r. p ∙ sym r))

  -- and so they have the same members
  pub same-members : (l m : List A) → SameKeyed l m → (x : A) → In x l → In x m
  same-members l m e x i =
      let j : In x (keep (has_key (key x)) m) = rw (e (key x)) at (in-keep (has_key (key x)) x l (eqb_same (key x)) i) in
      (in_kept (has_key (key x)) x m j).0
