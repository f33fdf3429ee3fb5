-- Laws of tests, and of checks in their order.
use Prim.Native.Nat.{◌<◌, suc, zero, ℕ}
use mathlib.Core.Bool.{◌&&◌, Bool, false, true, ◌||◌}
use mathlib.Core.List.{◌++◌, List, [], map, ◌∷◌}
use mathlib.Core.Path.{refl, sym, ◌∙◌, ◌≡◌}
use native.Mathlib.Omega.{arith}
use lib.Dec.{eqb}
use borrow.Author.Tests.{eq-eqb, eqb-false, eqb-true, ne_eqb}
use Rattle.lists.specs.Lists.{All, checks}

-- two answers that meet the same equation are equal: a function whose contract is an equation has no second answer
pub one_value : {A : Type 0} (a b x : A) → a ≡ x → b ≡ x → a ≡ b
one_value a b x e f = e ∙ sym f

-- ---- tests

-- a test is true or false, and each branch knows which
pub split : {P : Type 0} (b : Bool) → (b ≡ true → P) → (b ≡ false → P) → P
split true f g = f refl
split false f g = g refl

-- two answers of one test
pub clash : {P : Type 0} (b : Bool) → b ≡ true → b ≡ false → P
clash b p q = let z : ◌≡◌ {A = ℕ} 0 1 = cc in absurd (omega arith)

-- two values that differ, as `cc` finds it
pub differ : {P : Type 0} → ◌≡◌ {A = ℕ} 0 1 → P
differ e = absurd (omega arith)

pub or_no : (a b : Bool) → (a || b) ≡ false → (a ≡ false) × (b ≡ false)
or_no true b e = clash true refl e
or_no false b e = (refl, e)

pub and_yes : (a b : Bool) → (a && b) ≡ true → (a ≡ true) × (b ≡ true)
and_yes true b e = (refl, e)
and_yes false b e = clash false e refl

pub or_left : (a b : Bool) → (a || b) ≡ true → b ≡ false → a ≡ true
or_left true b e n = refl
or_left false b e n = clash b e n

pub eqb_same : (n : ℕ) → eqb n n ≡ true
eqb_same n = eq-eqb n n refl

pub eqb-turn : (a b : ℕ) → eqb a b ≡ eqb b a
eqb-turn a b =
    split (eqb a b) (λ p. rw (p, eq-eqb b a (sym (eqb-true a b p)))) (λ p. rw (p, ne_eqb b a (λ e. eqb-false a b p (sym e))))

-- a number that is not 0 is above it
pub positive : (n : ℕ) → (n ≡ 0 → ⊥) → 0 < n
positive zero h = absurd (h refl)
positive (suc n) h = omega arith

-- ---- checks in their order

module _ {A : Type 0} where
  -- what holds of every test's outcome, and of the last one where all tests failed, holds of what the checks decide
  pub checks-are : (P : A → Type 0) (ts : List (Bool × A)) (a : A) → All (λ (t : Bool × A). P t.1) ts
      → (All (λ (t : Bool × A). t.0 ≡ false) ts → P a) → P (checks ts a)
  checks-are P [] a f g = g tt
  checks-are P (t ∷ ts) a f g = split t.0 (λ p. rw p f.0) (λ p. rw p (checks-are P ts a f.1 (λ r. g (p, r))))

  -- where all tests failed, the last outcome stands
  pub checks-last : (ts : List (Bool × A)) (a : A) → All (λ (t : Bool × A). t.0 ≡ false) ts → checks ts a ≡ a
  checks-last [] a f = refl
  checks-last (t ∷ ts) a f = rw f.0 (checks-last ts a f.1)

  -- a test that fails can be left out, wherever it stands
  pub checks-skip : (ts us : List (Bool × A)) (b : Bool) (n a : A) → b ≡ false → checks (ts ++ (b, n) ∷ us) a ≡ checks (ts ++ us) a
  checks-skip [] us b n a p = rw p
  checks-skip (t ∷ ts) us b n a p = split t.0 (λ q. rw q) (λ q. rw q (checks-skip ts us b n a p))

-- what is said of what the checks decide is said of each check's outcome
module _ {A B : Type 0} (f : A → B) where
  abbrev pub said_of : Bool × A → Bool × B
  said_of t = (t.0, f t.1)

  pub checks-said : (ts : List (Bool × A)) (a : A) → f (checks ts a) ≡ checks (map said_of ts) (f a)
  checks-said [] a = refl
  checks-said (t ∷ ts) a = split t.0 (λ p. rw p) (λ p. rw p (checks-said ts a))

-- two lists of checks with the same tests, whose outcomes are related one by one, decide what is related
module _ {A B : Type 0} (R : A → B → Type 0) where
  abbrev pub Twin : Type 0
  Twin = Bool × (A × B)

  abbrev pub left : Twin → Bool × A
  left t = (t.0, t.1.0)

  abbrev pub right : Twin → Bool × B
  right t = (t.0, t.1.1)

  pub checks-twin : (ts : List Twin) (a : A) (b : B) → All (λ (t : Twin). R t.1.0 t.1.1) ts → R a b → R (checks (map left ts) a) (checks (map right ts) b)
  checks-twin [] a b f r = r
  checks-twin (t ∷ ts) a b f r = split t.0 (λ p. rw p f.0) (λ p. rw p (checks-twin ts a b f.1 r))
