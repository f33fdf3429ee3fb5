-- Laws of elements by their numbers: what a walk found, taken out or changed, is the first that passes.
use Prim.Native.Nat.{ℕ, ◌≤◌, ◌<◌}
use Rattle.std.specs.Prelude.{Some, None}
use mathlib.Core.Path.{◌≡◌, refl, sym}
use mathlib.Core.Bool.{Bool, true}
use mathlib.Core.List.{List, [], ◌∷◌}
use native.Mathlib.Omega.{arith}
use lib.ListN.{length}
use borrow.Author.Tests.{eq-eqb, ne_eqb}
use Rattle.lists.specs.Lists.{find, first, some_of, without, changed, without_at, changed_at}
use Rattle.lists.proofs.Tests.{split, differ}
use Rattle.lists.proofs.First.{length-changed}

same : (i j : ℕ) → Some i ≡ Some j → i ≡ j
same i j e = cc

module _ {A : Type 0} where
  -- what is found stands in the list
  pub find-inside : (q : A → Bool) (l : List A) (i : ℕ) → find q l ≡ Some i → i < length l
  find-inside q [] i e = differ (cc)
  find-inside q (x ∷ l) i e =
      split (q x) (λ p. omega (arith, same (length l) i (rw p at e))) (λ p. omega (arith, find-inside q l i (rw p at e)))

  -- and passes
  pub found_some : (q : A → Bool) (l : List A) (i : ℕ) → find q l ≡ Some i → some_of q l ≡ true
  found_some q [] i e = differ (cc)
  found_some q (x ∷ l) i e = split (q x) (λ p. rw p) (λ p. rw p (found_some q l i (rw p at e)))

  -- where nothing is found, nothing passes, and nothing is taken out or changed
  pub find_none : (q : A → Bool) (l : List A) → find q l ≡ None → first q l ≡ None
  find_none q [] e = refl
  find_none q (x ∷ l) e = split (q x) (λ p. let f : Some (length l) ≡ None = rw p at e in differ (cc)) (λ p. rw p (find_none q l (rw p at e)))

  pub find-none-without : (q : A → Bool) (l : List A) → find q l ≡ None → without q l ≡ l
  find-none-without q [] e = refl
  find-none-without q (x ∷ l) e =
      split (q x) (λ p. let f : Some (length l) ≡ None = rw p at e in differ (cc)) (λ p. rw (p, find-none-without q l (rw p at e)))

  pub find-none-changed : (f : A → A) (q : A → Bool) (l : List A) → find q l ≡ None → changed f q l ≡ l
  find-none-changed f q [] e = refl
  find-none-changed f q (x ∷ l) e =
      split (q x) (λ p. let g : Some (length l) ≡ None = rw p at e in differ (cc)) (λ p. rw (p, find-none-changed f q l (rw p at e)))

  -- to take out what was found is to take out the first that passes
  pub end-found : (q : A → Bool) (l : List A) (i : ℕ) → find q l ≡ Some i → without_at i l ≡ without q l
  end-found q [] i e = refl
  end-found q (x ∷ l) i e =
      split (q x) (λ p. rw (p, eq-eqb i (length l) (sym (same (length l) i (rw p at e)))))
      (λ p. let f : find q l ≡ Some i = rw p at e in
      rw (p, ne_eqb i (length l) (λ k. omega (arith, find-inside q l i f)), end-found q l i f))

  -- to change what was found is to change the first that passes
  pub change-found : (f : A → A) (q : A → Bool) (l : List A) (i : ℕ) → find q l ≡ Some i → changed_at f i l ≡ changed f q l
  change-found f q [] i e = refl
  change-found f q (x ∷ l) i e =
      split (q x) (λ p. rw (p, eq-eqb i (length l) (sym (same (length l) i (rw p at e)))))
      (λ p. let g : find q l ≡ Some i = rw p at e in
      rw (p, ne_eqb i (length l) (λ k. omega (arith, find-inside q l i g)), change-found f q l i g))

  -- a number past the end names nothing
  pub end-past : (i : ℕ) (l : List A) → length l ≤ i → without_at i l ≡ l
  end-past i [] h = refl
  end-past i (x ∷ l) h = rw (ne_eqb i (length l) (λ e. omega arith), end-past i l (omega arith))

  pub change-past : (f : A → A) (i : ℕ) (l : List A) → length l ≤ i → changed_at f i l ≡ l
  change-past f i [] h = refl
  change-past f i (x ∷ l) h = rw (ne_eqb i (length l) (λ e. omega arith), change-past f i l (omega arith))

  -- a change that no test sees moves nothing
  pub find-changed : (f : A → A) (q r : A → Bool) → ((x : A) → q (f x) ≡ q x) → (l : List A) → find q (changed f r l) ≡ find q l
  find-changed f q r s [] = refl
  find-changed f q r s (x ∷ l) = split (r x) (λ e. rw (e, s x)) (λ e. rw (e, length-changed f r l, find-changed f q r s l))
