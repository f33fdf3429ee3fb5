-- A list seen as the part of it that passes a test: what is asked of the part, and what a change of the list does to it.
use Prim.Native.Nat.{◌+◌}
use Rattle.std.specs.Prelude.{Some}
use mathlib.Core.Path.{◌≡◌, refl, ◌∙◌}
use mathlib.Core.Bool.{Bool, true, false, not, ◌||◌, ◌&&◌, or-true}
use mathlib.Core.List.{List, [], ◌∷◌}
use native.Mathlib.Omega.{arith}
use lib.ListN.{length}
use Rattle.lists.specs.Lists.{one, count, some_of, keep, first, without, changed}
use Rattle.lists.proofs.Tests.{split, differ}

module _ {A : Type 0} where
  -- ---- the part, and the rest

  module _ (r : A → Bool) where
    abbrev rest : A → Bool
    rest x = not (r x)

    pub length-parts : (l : List A) → length l ≡ length (keep r l) + length (keep rest l)
    length-parts [] = refl
    length-parts (x ∷ l) =
        let ih = length-parts l in
        split (r x) (λ p. rw p (omega arith)) (λ p. rw p (omega arith))

    pub some-parts : (q : A → Bool) (l : List A) → some_of q l ≡ some_of q (keep r l) || some_of q (keep rest l)
    some-parts q [] = refl
    some-parts q (x ∷ l) =
        split (q x) (λ e. split (r x) (λ p. rw (p, e)) (λ p. rw (p, e, or-true)))
        (λ e. split (r x) (λ p. rw (p, e, some-parts q l)) (λ p. rw (p, e, some-parts q l)))

  -- ---- a test that only elements of the part pass

  module _ (q r : A → Bool) (within : (x : A) → q x ≡ true → r x ≡ true) where
    pub first-within : (l : List A) → first q l ≡ first q (keep r l)
    first-within [] = refl
    first-within (x ∷ l) =
        split (q x) (λ e. rw (e, within x e, e))
        (λ e. split (r x) (λ p. rw (e, p, e, first-within l)) (λ p. rw (e, p, first-within l)))

    pub some-within : (l : List A) → some_of q l ≡ some_of q (keep r l)
    some-within [] = refl
    some-within (x ∷ l) =
        split (q x) (λ e. rw (e, within x e, e))
        (λ e. split (r x) (λ p. rw (e, p, e, some-within l)) (λ p. rw (e, p, some-within l)))

    pub without-within : (l : List A) → keep r (without q l) ≡ without q (keep r l)
    without-within [] = refl
    without-within (x ∷ l) =
        split (q x) (λ e. rw (e, within x e, e))
        (λ e. split (r x) (λ p. rw (e, p, e, without-within l)) (λ p. rw (e, p, without-within l)))

    -- a change that moves the first that passes out of the part
    pub changed-out : (f : A → A) → ((x : A) → r (f x) ≡ false) → (l : List A) → keep r (changed f q l) ≡ without q (keep r l)
    changed-out f out [] = refl
    changed-out f out (x ∷ l) =
        split (q x) (λ e. rw (e, within x e, e, out x))
        (λ e. split (r x) (λ p. rw (e, p, e, changed-out f out l)) (λ p. rw (e, p, changed-out f out l)))

    -- a change that leaves it in the part
    pub changed-within : (f : A → A) → ((x : A) → r (f x) ≡ r x) → (l : List A) → keep r (changed f q l) ≡ changed f q (keep r l)
    changed-within f stays [] = refl
    changed-within f stays (x ∷ l) =
        split (q x) (λ e. rw (e, within x e, e, stays x, within x e))
        (λ e. split (r x) (λ p. rw (e, p, e, changed-within f stays l)) (λ p. rw (e, p, changed-within f stays l)))

  -- ---- a test that no element of the part passes

  module _ (q r : A → Bool) (apart : (x : A) → q x ≡ true → r x ≡ false) where
    pub without-apart : (l : List A) → keep r (without q l) ≡ keep r l
    without-apart [] = refl
    without-apart (x ∷ l) = split (q x) (λ e. rw (e, apart x e)) (λ e. rw (e, without-apart l))

    -- a change that leaves it outside
    pub changed-apart : (f : A → A) → ((x : A) → r (f x) ≡ r x) → (l : List A) → keep r (changed f q l) ≡ keep r l
    changed-apart f stays [] = refl
    changed-apart f stays (x ∷ l) = split (q x) (λ e. rw (e, stays x, apart x e)) (λ e. rw (e, changed-apart f stays l))

    -- a change that moves the first that passes into the part: one more there, in the place of the old one
    pub changed-in : (f : A → A)
        → ((x : A) → r (f x) ≡ true)
        → (p : A → Bool) (l : List A) (y : A)
        → first q l ≡ Some y
        → count p (keep r (changed f q l)) ≡ one (p (f y)) + count p (keep r l)
    changed-in f in-it p [] y k = differ (cc)
    changed-in f in-it p (x ∷ l) y k =
        split (q x) (λ e. let s : x ≡ y = (let g : Some x ≡ Some y = rw e at k in cc) in rw (e, apart x e, in-it x, s))
        (λ e. let ih = changed-in f in-it p l y (rw e at k) in
        split (r x) (λ b. rw (e, b, ih) (omega arith)) (λ b. rw (e, b, ih)))

  -- ---- a part of a part

  pub keep-wider : (r s : A → Bool) → ((x : A) → r x ≡ true → s x ≡ true) → (l : List A) → keep r (keep s l) ≡ keep r l
  keep-wider r s h [] = refl
  keep-wider r s h (x ∷ l) =
      split (r x) (λ e. rw (e, h x e, e, keep-wider r s h l))
      (λ e. split (s x) (λ p. rw (e, p, e, keep-wider r s h l)) (λ p. rw (e, p, keep-wider r s h l)))

  pub keep-both : (r s : A → Bool) (l : List A) → keep r (keep s l) ≡ keep (λ x. s x && r x) l
  keep-both r s [] = refl
  keep-both r s (x ∷ l) = split (s x) (λ p. rw (p, keep-both r s l)) (λ p. rw (p, keep-both r s l))

  pub keep-agrees : (r s t : A → Bool)
      → ((x : A) → r x ≡ true → s x ≡ t x)
      → (l : List A)
      → keep r (keep s l) ≡ keep t (keep r l)
  keep-agrees r s t h [] = refl
  keep-agrees r s t h (x ∷ l) =
      let ih = keep-agrees r s t h l in
      split (r x)
      (λ e. split (t x) (λ p. rw (e, h x e ∙ p, p, e, ih)) (λ p. rw (e, h x e ∙ p, p, ih)))
      (λ e. split (s x) (λ p. rw (e, p, e, ih)) (λ p. rw (e, p, ih)))
