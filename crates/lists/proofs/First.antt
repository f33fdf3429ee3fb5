-- Laws of the first that passes: found, taken out, changed.
use Prim.Native.Nat.{◌+◌, suc, ◌≤◌}
use Rattle.std.specs.Prelude.{Some, None}
use mathlib.Core.Bool.{Bool, false, not, or-true, true}
use mathlib.Core.List.{List, [], ◌∷◌}
use mathlib.Core.Path.{ap, refl, ◌≡◌}
use native.Mathlib.Nat.{le_of_eq}
use native.Mathlib.Omega.{arith}
use lib.ListN.{length}
use Rattle.lists.proofs.Counts.{keep_all}
use Rattle.lists.proofs.Tests.{clash, differ, or_no, split}
use Rattle.lists.specs.Lists.{All, changed, count, first, keep, one, some_of, without}

module _ {A : Type 0} where
  -- ---- the first that passes

  pub first-yes : (q : A → Bool) (l : List A) (x : A) → first q l ≡ Some x → q x ≡ true
  first-yes q [] x e = differ (cc)
  first-yes q (y ∷ l) x e =
      split (q y) (λ p. let k : y ≡ x = (let f : Some y ≡ Some x = rw p at e in cc) in rw k at p) (λ p. first-yes q l x (rw p at e))

  -- what is found first makes any test pass that it meets
  pub first-meets : (q r : A → Bool) (l : List A) (x : A) → first r l ≡ Some x → q x ≡ true → some_of q l ≡ true
  first-meets q r [] x e p = differ (cc)
  first-meets q r (y ∷ l) x e p =
      split (r y) (λ b. let k : y ≡ x = (let f : Some y ≡ Some x = rw b at e in cc) in let m : q y ≡ true = rw k p in rw m)
      (λ b. rw (first-meets q r l x (rw b at e) p, or-true))

  -- where none is first, none passes
  pub none_passes : (q : A → Bool) (l : List A) → first q l ≡ None → some_of q l ≡ false
  none_passes q [] e = refl
  none_passes q (x ∷ l) e = split (q x) (λ p. let f : Some x ≡ None = rw p at e in differ (cc)) (λ p. rw p (none_passes q l (rw p at e)))

  -- where some passes, one is first; and it has what every element has
  pub first_some : (q : A → Bool) (l : List A) → some_of q l ≡ true → (x : A) × (first q l ≡ Some x)
  first_some q [] e = clash false e refl
  first_some q (x ∷ l) e = split (q x) (λ p. (x, rw p)) (λ p. let i = first_some q l (rw p at e) in (i.0, rw p i.1))

  pub first-has : (P : A → Type 0) (q : A → Bool) (l : List A) (x : A) → first q l ≡ Some x → All P l → P x
  first-has P q [] x e a = differ (cc)
  first-has P q (y ∷ l) x e a =
      split (q y) (λ p. let k : y ≡ x = (let f : Some y ≡ Some x = rw p at e in cc) in rw (← k) a.0) (λ p. first-has P q l x (rw p at e) a.1)

  -- ---- taken out

  -- the first that passes, taken out
  pub count-first : (q r : A → Bool) (l : List A) (x : A) → first r l ≡ Some x → count q l ≡ one (q x) + count q (without r l)
  count-first q r [] x e = differ (cc)
  count-first q r (y ∷ l) x e =
      split (r y) (λ p. let k : y ≡ x = (let f : Some y ≡ Some x = rw p at e in cc) in rw (p, k))
      (λ p. let f : first r l ≡ Some x = rw p at e in rw p (omega (arith, count-first q r l x f)))

  pub length-first : (r : A → Bool) (l : List A) (x : A) → first r l ≡ Some x → length l ≡ suc (length (without r l))
  length-first r [] x e = differ (cc)
  length-first r (y ∷ l) x e = split (r y) (λ p. rw p) (λ p. rw p (omega (arith, length-first r l x (rw p at e))))

  pub count-without : (q r : A → Bool) (l : List A) → count q (without r l) ≤ count q l
  count-without q r [] = omega arith
  count-without q r (x ∷ l) = split (r x) (λ e. rw e (omega arith)) (λ e. rw e (omega (arith, count-without q r l)))

  -- of at most one that passes none is left
  pub none_left : (q : A → Bool) (l : List A) → count q l ≤ 1 → count q (without q l) ≡ 0
  none_left q [] e = refl
  none_left q (x ∷ l) e =
      split (q x) (λ b. let e' : 1 + count q l ≤ 1 = rw b at e in rw b (omega arith)) (λ b. rw (b, b) (omega (arith, none_left q l (omega arith))))

  -- a test that picks at most one: what is left without it
  pub without-same : (q : A → Bool) (l : List A) → count q l ≤ 1 → without q l ≡ keep (λ y. not (q y)) l
  without-same q [] c = refl
  without-same q (x ∷ l) c =
      split (q x) (λ p. let c' : 1 + count q l ≤ 1 = rw p at c in rw (p, keep_all q l (omega arith)))
      (λ p. rw (p, without-same q l (omega arith)))

  pub All-without : (P : A → Type 0) (q : A → Bool) (l : List A) → All P l → All P (without q l)
  All-without P q [] a = tt
  All-without P q (x ∷ l) a = split (q x) (λ p. rw p a.1) (λ p. rw p (a.0, All-without P q l a.1))

  pub none-without : (q r : A → Bool) (l : List A) → some_of q l ≡ false → some_of q (without r l) ≡ false
  none-without q r [] e = refl
  none-without q r (x ∷ l) e =
      let f = or_no (q x) (some_of q l) e in
      split (r x) (λ p. rw p f.1) (λ p. rw (p, f.0) (none-without q r l f.1))

  -- taking out one that does not pass changes no test
  pub some-without : (q r : A → Bool) (l : List A) (x : A) → first r l ≡ Some x → q x ≡ false → some_of q (without r l) ≡ some_of q l
  some-without q r [] x e n = refl
  some-without q r (y ∷ l) x e n =
      split (r y)
      (λ p. let k : y ≡ x = (let f : Some y ≡ Some x = rw p at e in cc) in let m : q y ≡ false = rw k n in rw (p, m))
      (λ p. rw (p, some-without q r l x (rw p at e) n))

  -- ---- changed

  -- an element that is changed counts as it did, where its tests stay
  pub count-changed : (f : A → A) (q r : A → Bool) → ((x : A) → q (f x) ≡ q x) → (l : List A) → count q (changed f r l) ≡ count q l
  count-changed f q r s [] = refl
  count-changed f q r s (x ∷ l) = split (r x) (λ e. rw (e, s x)) (λ e. rw e (omega (arith, count-changed f q r s l)))

  pub length-changed : (f : A → A) (q : A → Bool) (l : List A) → length (changed f q l) ≡ length l
  length-changed f q [] = refl
  length-changed f q (x ∷ l) = split (q x) (λ p. rw p) (λ p. rw (p, length-changed f q l))

  -- the first that passes, once changed, makes any test pass that it then meets
  pub changed-meets : (f : A → A) (q r : A → Bool) (l : List A) (x : A) → first r l ≡ Some x → q (f x) ≡ true → some_of q (changed f r l) ≡ true
  changed-meets f q r [] x e p = differ (cc)
  changed-meets f q r (y ∷ l) x e p =
      split (r y) (λ b. let k : y ≡ x = (let g : Some y ≡ Some x = rw b at e in cc) in rw (b, k, p))
      (λ b. rw (b, changed-meets f q r l x (rw b at e) p, or-true))

  pub some-changed : (f : A → A) (q r : A → Bool) → ((x : A) → q (f x) ≡ q x) → (l : List A) → some_of q (changed f r l) ≡ some_of q l
  some-changed f q r s [] = refl
  some-changed f q r s (x ∷ l) = split (r x) (λ e. rw (e, s x)) (λ e. rw (e, some-changed f q r s l))

  pub All-changed : (P : A → Type 0) (g : A → A) (q : A → Bool) → ((x : A) → P x → P (g x)) → (l : List A) → All P l → All P (changed g q l)
  All-changed P g q f [] a = tt
  All-changed P g q f (x ∷ l) a = split (q x) (λ p. rw p (f x a.0, a.1)) (λ p. rw p (a.0, All-changed P g q f l a.1))

  -- a change to what passes, or not, as b says
  pub count-changed-to : (f : A → A) (q t : A → Bool) (b : Bool) → ((x : A) → t (f x) ≡ b) → (l : List A) → count t (changed f q l) ≤ one b + count t (without q l)
  count-changed-to f q t b g [] = omega arith
  count-changed-to f q t b g (x ∷ l) =
      split (q x) (λ u. rw u (le_of_eq (ap (λ (c : Bool). one c + count t l) (g x)))) (λ u. rw u (omega (arith, count-changed-to f q t b g l)))

  -- ---- what every element has

  pub all_without : (P : A → Type 0) (q : A → Bool) (l : List A) → All P l → All P (without q l)
  all_without P q [] a = tt
  all_without P q (x ∷ l) a = split (q x) (λ u. rw u a.1) (λ u. rw u (a.0, all_without P q l a.1))

  pub all_changed : (f : A → A) (q : A → Bool) (P : A → Type 0) → ((x : A) → P x → P (f x)) → (l : List A) → All P l → All P (changed f q l)
  all_changed f q P g [] a = tt
  all_changed f q P g (x ∷ l) a = split (q x) (λ u. rw u (g x a.0, a.1)) (λ u. rw u (a.0, all_changed f q P g l a.1))
