-- Laws of members, and of elements that are changed or left out one by one.
use Prim.Native.Nat.{ℕ, zero, suc, ◌+◌, ◌≤◌}
use Rattle.std.specs.Prelude.{Option, Some, None}
use mathlib.Core.Path.{◌≡◌, refl, sym, ◌∙◌}
use mathlib.Core.Logic.{◌⊎◌, inl, inr}
use mathlib.Core.Bool.{Bool, true, false, not, cond}
use mathlib.Core.List.{List, [], ◌∷◌, ◌++◌}
use native.Mathlib.Omega.{arith}
use lib.Dec.{eqb}
use lib.ListN.{length, take}
use borrow.Author.Tests.{eqb-true, eqb-false}
use Rattle.lists.specs.Lists.{count, some_of, keep, first, changed, All, In}
use Rattle.lists.proofs.Tests.{split, clash}
use Rattle.lists.proofs.Counts.{count-zero}

-- a number that is met in a list stands in it
pub some_in : (l : List ℕ) (n : ℕ) → some_of (λ x. eqb x n) l ≡ true → In n l
some_in [] n e = clash false e refl
some_in (x ∷ l) n e = split (eqb x n) (λ p. inl (eqb-true x n p)) (λ p. inr (some_in l n (rw p at e)))

-- a number stands in a list or not
pub in-or-not : (n : ℕ) (l : List ℕ) → In n l ⊎ (In n l → ⊥)
in-or-not n [] = inr (λ i. i)
in-or-not n (x ∷ l) =
    split (eqb x n) (λ p. inl (inl (eqb-true x n p)))
    (λ p. elim (in-or-not n l) [ inl i ↦ inl (inr i) | inr f ↦ inr (elim [ inl e ↦ eqb-false x n p e | inr i ↦ f i ]) ])

module _ {A : Type 0} where
  -- ---- members

  pub in_either : (x : A) (l m : List A) → In x (l ++ m) → In x l ⊎ In x m
  in_either x [] m i = inr i
  in_either x (y ∷ l) m (inl e) = inl (inl e)
  in_either x (y ∷ l) m (inr i) = elim (in_either x l m i) [ inl j ↦ inl (inr j) | inr j ↦ inr j ]

  pub in-keep : (q : A → Bool) (x : A) (l : List A) → q x ≡ true → In x l → In x (keep q l)
  in-keep q x [] p i = i
  in-keep q x (y ∷ l) p (inl e) = let p' : q y ≡ true = rw e p in rw p' (inl e)
  in-keep q x (y ∷ l) p (inr i) = split (q y) (λ b. rw b (inr (in-keep q x l p i))) (λ b. rw b (in-keep q x l p i))

  pub in_kept : (q : A → Bool) (x : A) (l : List A) → In x (keep q l) → In x l × (q x ≡ true)
  in_kept q x [] i = absurd i
  in_kept q x (y ∷ l) i =
      split (q y)
      (λ p. let go : (y ≡ x) ⊎ In x (keep q l) → In x (y ∷ l) × (q x ≡ true) =
      elim [ inl e ↦ (inl e, rw (← e) p) | inr j ↦ let r = in_kept q x l j in (inr r.0, r.1) ] in go (rw p at i))
      (λ p. let r = in_kept q x l (rw p at i) in (inr r.0, r.1))

  pub in_count : (q : A → Bool) (x : A) (l : List A) → q x ≡ true → In x l → 1 ≤ count q l
  in_count q x [] p i = absurd i
  in_count q x (y ∷ l) p (inl e) = let p' : q y ≡ true = rw e p in rw p' (omega arith)
  in_count q x (y ∷ l) p (inr i) = omega (arith, in_count q x l p i)

  pub in_one : (x y : A) → In x (y ∷ []) → y ≡ x
  in_one x y (inl e) = e
  in_one x y (inr i) = absurd i

  pub in_all : (P : A → Type 0) (x : A) (l : List A) → All P l → In x l → P x
  in_all P x [] a i = absurd i
  in_all P x (y ∷ l) a (inl e) = rw e at a.0
  in_all P x (y ∷ l) a (inr i) = in_all P x l a.1 i

  pub all_of : (P : A → Type 0) (l : List A) → ((x : A) → In x l → P x) → All P l
  all_of P [] f = tt
  all_of P (x ∷ l) f = (f x (inl refl), all_of P l (λ y i. f y (inr i)))

  pub all_append : (P : A → Type 0) (a b : List A) → All P a → All P b → All P (a ++ b)
  all_append P [] b p q = q
  all_append P (x ∷ a) b p q = (p.0, all_append P a b p.1 q)

  pub all_take : (P : A → Type 0) (n : ℕ) (l : List A) → All P l → All P (take n l)
  all_take P zero l p = tt
  all_take P (suc n) [] p = tt
  all_take P (suc n) (x ∷ l) p = (p.0, all_take P n l p.1)

  -- what passes is the one that is found first, where no two pass
  pub only : (q : A → Bool) (l : List A) (x y : A) → count q l ≤ 1 → first q l ≡ Some x → In y l → q y ≡ true → y ≡ x
  only q [] x y c e i p = absurd i
  only q (z ∷ l) x y c e (inl k) p =
      let pz : q z ≡ true = rw k p in
      let m : z ≡ x = (let f : Some z ≡ Some x = rw pz at e in cc) in sym k ∙ m
  only q (z ∷ l) x y c e (inr i) p =
      split (q z)
      (λ b. let c' : 1 + count q l ≤ 1 = rw b at c in absurd (omega (arith, in_count q y l p i)))
      (λ b. only q l x y (omega arith) (rw b at e) i p)

  -- ---- lists of one

  pub alone : (l : List A) → length l ≡ 1 → (x : A) × (l ≡ x ∷ [])
  alone [] e = absurd (omega arith)
  alone (x ∷ []) e = (x, refl)
  alone (x ∷ y ∷ l) e = absurd (omega arith)

  -- ---- each element changed, or left out

  abbrev pub put : Option A → List A → List A
  put None l = l
  put (Some x) l = x ∷ l

  abbrev pub collect : (A → Option A) → List A → List A
  collect f [] = []
  collect f (x ∷ l) = put (f x) (collect f l)

  pub collect-all : (l : List A) → collect (λ x. Some x) l ≡ l
  collect-all [] = refl
  collect-all (x ∷ l) = rw (collect-all l)

  pub collect-keep : (q : A → Bool) (l : List A) → collect (λ x. cond (q x) None (Some x)) l ≡ keep (λ x. not (q x)) l
  collect-keep q [] = refl
  collect-keep q (x ∷ l) = split (q x) (λ p. rw (p, collect-keep q l)) (λ p. rw (p, collect-keep q l))

  -- a change that fits at most one
  pub collect-changed : (g : A → A) (q : A → Bool) (l : List A) → count q l ≤ 1
      → collect (λ x. cond (q x) (Some (g x)) (Some x)) l ≡ changed g q l
  collect-changed g q [] c = refl
  collect-changed g q (x ∷ l) c =
      split (q x) (λ p. let c' : 1 + count q l ≤ 1 = rw p at c in rw (p, untouched l (omega arith)))
      (λ p. rw (p, collect-changed g q l (omega arith)))
    where
      untouched : (m : List A) → count q m ≡ 0 → collect (λ y. cond (q y) (Some (g y)) (Some y)) m ≡ m
      untouched [] e = refl
      untouched (y ∷ m) e = let z = count-zero q y m e in rw (z.0, untouched m z.1)
