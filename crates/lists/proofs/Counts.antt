-- Laws of counts, of whether some element passes, of what is kept, and of what every element has.
use Prim.Native.Nat.{◌+◌, ◌≤◌}
use mathlib.Core.Path.{◌≡◌, refl, ◌∙◌}
use mathlib.Core.Bool.{Bool, true, false, not, ◌||◌, ◌&&◌, or-true, or-false}
use mathlib.Core.List.{List, [], ◌∷◌, ◌++◌, reverse_aux, reverse}
use native.Mathlib.Omega.{arith}
use lib.ListN.{length}
use Rattle.lists.specs.Lists.{count, some_of, keep, All}
use Rattle.lists.proofs.Tests.{split, clash, differ, or_no}

module _ {A : Type 0} where
  -- ---- counts

  pub count-append : (q : A → Bool) (l m : List A) → count q (l ++ m) ≡ count q l + count q m
  count-append q [] m = omega arith
  count-append q (x ∷ l) m = omega (arith, count-append q l m)

  pub count-le : (q r : A → Bool) → ((x : A) → q x ≡ true → r x ≡ true) → (l : List A) → count q l ≤ count r l
  count-le q r f [] = omega arith
  count-le q r f (x ∷ l) =
      let ih = count-le q r f l in
      split (q x) (λ e. rw (e, f x e) (omega arith)) (λ e. rw e (omega arith))

  -- two tests that never pass together
  pub count-apart : (q r s : A → Bool) → ((x : A) → q x ≡ true → s x ≡ true) → ((x : A) → r x ≡ true → (q x ≡ false) × (s x ≡ true)) → (l : List A)
      → count q l + count r l ≤ count s l
  count-apart q r s f g [] = omega arith
  count-apart q r s f g (x ∷ l) =
      let ih = count-apart q r s f g l in
      split (r x) (λ e. rw (e, (g x e).0, (g x e).1) (omega arith))
      (λ e. rw e (split (q x) (λ b. rw (b, f x b) (omega arith)) (λ b. rw b (omega arith))))

  pub none-zero : (q : A → Bool) (l : List A) → some_of q l ≡ false → count q l ≡ 0
  none-zero q [] e = refl
  none-zero q (x ∷ l) e = let p = or_no (q x) (some_of q l) e in rw p.0 (omega (arith, none-zero q l p.1))

  pub count-some : (q : A → Bool) (l : List A) → some_of q l ≡ true → 1 ≤ count q l
  count-some q [] e = clash false e refl
  count-some q (x ∷ l) e = split (q x) (λ p. rw p (omega arith)) (λ p. let r : some_of q l ≡ true = rw p at e in omega (arith, count-some q l r))

  pub count-keep : (q r : A → Bool) (l : List A) → count q (keep r l) ≤ count q l
  count-keep q r [] = omega arith
  count-keep q r (x ∷ l) = split (r x) (λ e. rw e (omega (arith, count-keep q r l))) (λ e. rw e (omega (arith, count-keep q r l)))

  pub count-zero : (q : A → Bool) (x : A) (l : List A) → count q (x ∷ l) ≡ 0 → (q x ≡ false) × (count q l ≡ 0)
  count-zero q x l e = split (q x) (λ p. let f : 1 + count q l ≡ 0 = rw p at e in absurd (omega arith)) (λ p. (p, omega arith))

  pub zero-none : (q : A → Bool) (l : List A) → count q l ≡ 0 → some_of q l ≡ false
  zero-none q [] e = refl
  zero-none q (x ∷ l) e = let z = count-zero q x l e in rw z.0 (zero-none q l z.1)

  -- at most one passes: an element in front, and what then stands behind it
  pub once_more : (q : A → Bool) (x : A) (l : List A) → (q x ≡ true → some_of q l ≡ false) → count q l ≤ 1 → count q (x ∷ l) ≤ 1
  once_more q x l f c = split (q x) (λ e. rw e (omega (arith, none-zero q l (f e)))) (λ e. rw e (omega arith))

  pub once-none : (q : A → Bool) (x : A) (l : List A) → count q (x ∷ l) ≤ 1 → q x ≡ true → some_of q l ≡ false
  once-none q x l c e = let d : 1 + count q l ≤ 1 = rw e at c in zero-none q l (omega arith)

  -- tests that agree count alike: everywhere, or where every element has what they agree by
  pub count-ext : (q r : A → Bool) → ((x : A) → q x ≡ r x) → (l : List A) → count q l ≡ count r l
  count-ext q r f [] = refl
  count-ext q r f (x ∷ l) = rw (f x, count-ext q r f l)

  pub count-all : (P : A → Type 0) (q r : A → Bool) → ((x : A) → P x → q x ≡ r x) → (l : List A) → All P l → count q l ≡ count r l
  count-all P q r f [] a = refl
  count-all P q r f (x ∷ l) a = rw (f x a.0, count-all P q r f l a.1)

  -- ---- what is kept

  -- what no kept element passes is counted nowhere among them, and what no dropped one passes is counted as before
  pub count-gone : (P : A → Type 0) (q r : A → Bool) → ((x : A) → P x → q x ≡ true → r x ≡ false) → (l : List A) → All P l → count q (keep r l) ≡ 0
  count-gone P q r f [] a = refl
  count-gone P q r f (x ∷ l) a =
      split (r x)
      (λ p. rw p (split (q x) (λ b. clash (r x) p (f x a.0 b)) (λ b. rw b (omega (arith, count-gone P q r f l a.1)))))
      (λ p. rw p (count-gone P q r f l a.1))

  pub count_kept : (P : A → Type 0) (q r : A → Bool) → ((x : A) → P x → q x ≡ true → r x ≡ true) → (l : List A) → All P l → count q (keep r l) ≡ count q l
  count_kept P q r f [] a = refl
  count_kept P q r f (x ∷ l) a =
      split (r x) (λ p. rw p (omega (arith, count_kept P q r f l a.1)))
      (λ p. rw p (split (q x) (λ b. clash (r x) (f x a.0 b) p) (λ b. rw b (omega (arith, count_kept P q r f l a.1)))))

  pub keep_all : (q : A → Bool) (l : List A) → count q l ≡ 0 → keep (λ x. not (q x)) l ≡ l
  keep_all q [] e = refl
  keep_all q (x ∷ l) e = let z = count-zero q x l e in rw (z.0, keep_all q l z.1)

  pub length-keep : (q : A → Bool) (l : List A) → length (keep q l) ≡ count q l
  length-keep q [] = refl
  length-keep q (x ∷ l) = split (q x) (λ p. rw p (omega (arith, length-keep q l))) (λ p. rw p (omega (arith, length-keep q l)))

  -- ---- some element

  -- a weaker test passes where a stronger one does
  pub some-le : (q r : A → Bool) → ((x : A) → q x ≡ true → r x ≡ true) → (l : List A) → some_of q l ≡ true → some_of r l ≡ true
  some-le q r f [] e = e
  some-le q r f (x ∷ l) e =
      split (q x) (λ p. rw (f x p)) (λ p. let e' : some_of q l ≡ true = rw p at e in rw (some-le q r f l e', or-true))

  pub none-le : (q r : A → Bool) → ((x : A) → q x ≡ true → r x ≡ true) → (l : List A) → some_of r l ≡ false → some_of q l ≡ false
  none-le q r f l e = split (some_of q l) (λ p. clash (some_of r l) (some-le q r f l p) e) (λ p. p)

  pub some-ext : (q r : A → Bool) → ((x : A) → q x ≡ r x) → (l : List A) → some_of q l ≡ some_of r l
  some-ext q r f [] = refl
  some-ext q r f (x ∷ l) = rw (f x, some-ext q r f l)

  pub some-kept : (q r : A → Bool) (l : List A) → some_of q (keep r l) ≡ some_of (λ x. r x && q x) l
  some-kept q r [] = refl
  some-kept q r (x ∷ l) = split (r x) (λ p. rw (p, some-kept q r l)) (λ p. rw (p, some-kept q r l))

  pub keep-nothing : (q : A → Bool) (l : List A) → keep q l ≡ [] → some_of q l ≡ false
  keep-nothing q [] e = refl
  keep-nothing q (x ∷ l) e =
      split (q x) (λ p. let f : x ∷ keep q l ≡ [] = rw p at e in differ (cc)) (λ p. rw p (keep-nothing q l (rw p at e)))

  pub keep_some : (q : A → Bool) (l : List A) (x : A) (m : List A) → keep q l ≡ x ∷ m → some_of q l ≡ true
  keep_some q [] x m e = differ (cc)
  keep_some q (y ∷ l) x m e = split (q y) (λ p. rw p) (λ p. rw p (keep_some q l x m (rw p at e)))

  -- ---- a list that is turned round

  some-onto : (q : A → Bool) (l r : List A) → some_of q (reverse_aux l r) ≡ some_of q l || some_of q r
  some-onto q [] r = refl
  some-onto q (x ∷ l) r = some-onto q l (x ∷ r) ∙ turn (q x) (some_of q l) (some_of q r)
    where
      turn : (a b c : Bool) → b || (a || c) ≡ (a || b) || c
      turn true true c = refl
      turn true false c = refl
      turn false true c = refl
      turn false false c = refl

  pub some-reverse : (q : A → Bool) (l : List A) → some_of q (reverse l) ≡ some_of q l
  some-reverse q l = some-onto q l [] ∙ or-false (some_of q l)

  count-onto : (q : A → Bool) (l r : List A) → count q (reverse_aux l r) ≡ count q l + count q r
  count-onto q [] r = omega arith
  count-onto q (x ∷ l) r = omega (arith, count-onto q l (x ∷ r))

  pub count-reverse : (q : A → Bool) (l : List A) → count q (reverse l) ≡ count q l
  count-reverse q l = omega (arith, count-onto q l [])

  -- ---- every element

  pub All-keep : (P : A → Type 0) (q : A → Bool) (l : List A) → All P l → All P (keep q l)
  All-keep P q [] a = tt
  All-keep P q (x ∷ l) a = split (q x) (λ p. rw p (a.0, All-keep P q l a.1)) (λ p. rw p (All-keep P q l a.1))

  pub All-map : (P Q : A → Type 0) → ((x : A) → P x → Q x) → (l : List A) → All P l → All Q l
  All-map P Q f [] a = tt
  All-map P Q f (x ∷ l) a = (f x a.0, All-map P Q f l a.1)

  -- where none passes, every element fails too
  pub All-none : (P : A → Type 0) (q : A → Bool) (l : List A) → All P l → some_of q l ≡ false → All (λ (x : A). P x × (q x ≡ false)) l
  All-none P q [] a e = tt
  All-none P q (x ∷ l) a e = let n = or_no (q x) (some_of q l) e in ((a.0, n.0), All-none P q l a.1 n.1)
