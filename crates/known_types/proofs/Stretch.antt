-- A match on a message type leaves stretches of types. That the tables say one thing on all of a stretch is a test that antt computes.
use Prim.Native.Nat.{ℕ, zero, suc, ◌+◌, ◌≤◌, ◌<◌}
use mathlib.Core.Path.{◌≡◌, refl, sym, ap, ◌∙◌}
use mathlib.Core.Bool.{Bool, true, false, ◌&&◌, ◌||◌, beq}
use mathlib.Core.List.{List, []}
use native.Mathlib.Omega.{arith}
use lib.Dec.{T, eqb, leb}
use borrow.Author.Tests.{eqb-true, eqb-false, ne_eqb}
use mir.Val.{has_key}
use types.Run.{OneOf, hit}
use Rattle.tapa.specs.Address.{psam, card, user_interface, merchant, data_store, communication, event}
use Rattle.known_types.specs.Types.{own}

-- the test p passes on the n numbers from lo on
abbrev pub all : (ℕ → Bool) → ℕ → ℕ → Bool
all p lo zero = true
all p lo (suc n) = p lo && all p (suc lo) n

and_first : (a b : Bool) → T (a && b) → T a
and_first true b t = tt
and_first false b t = t

and_second : (a b : Bool) → T (a && b) → T b
and_second true b t = t
and_second false b t = absurd t

pub within : (p : ℕ → Bool) (lo n k : ℕ) → T (all p lo n) → lo ≤ k → k < lo + n → T (p k)
within p lo zero k t l h = absurd (omega arith)
within p lo (suc n) k t l h =
    go (within p (suc lo) n k (and_second (p lo) (all p (suc lo) n) t)) (eqb lo k) refl
  where
    go : (lo < k → k < suc lo + n → T (p k)) → (b : Bool) → eqb lo k ≡ b → T (p k)
    go later true e = rw (sym (eqb-true lo k e)) (and_first (p lo) (all p (suc lo) n) t)
    go later false e = later (omega (arith, eqb-false lo k e)) (omega arith)

pub same : (a b : Bool) → T (beq a b) → b ≡ a
same true true t = refl
same true false t = absurd t
same false true t = absurd t
same false false t = refl

same-but : (k a b : Bool) → (T k → ⊥) → T (k || beq a b) → b ≡ a
same-but true a b h t = absurd (h tt)
same-but false a b h t = same a b t

-- on a stretch a function into Bool has one value, but for the keys ks, which the match took out before
pub on-stretch : (f : ℕ → Bool) (b : Bool) (ks : List ℕ) (lo n k : ℕ)
    → T (all (λ (x : ℕ). has_key ks x || beq (f x) b) lo n)
    → (OneOf ks k → ⊥) → lo ≤ k → k < lo + n → b ≡ f k
on-stretch f b ks lo n k t h l u =
    same-but (has_key ks k) (f k) b (λ (y : T (has_key ks k)). h (hit ks k y)) (within (λ (x : ℕ). has_key ks x || beq (f x) b) lo n k t l u)

-- so of the types of one category
module _ (c : ℕ) (b : Bool) where
  pub stretch-but : (ks : List ℕ) (lo n : ℕ) → T (all (λ (x : ℕ). has_key ks x || beq (own c x) b) lo n)
      → (kind : ℕ) {category : ℕ} → category ≡ c → (OneOf ks kind → ⊥) → lo ≤ kind → kind < lo + n → b ≡ own category kind
  stretch-but ks lo n t kind e h l u = on-stretch (own c) b ks lo n kind t h l u ∙ ap (λ (x : ℕ). own x kind) (sym e)

  pub stretch : (lo n : ℕ) → T (all (λ (x : ℕ). beq (own c x) b) lo n)
      → (kind : ℕ) {category : ℕ} → category ≡ c → lo ≤ kind → kind < lo + n → b ≡ own category kind
  stretch lo n t kind e l u = stretch-but [] lo n t kind e (λ z. z) l u

pub at_key : (c k : ℕ) {category kind : ℕ} → category ≡ c → kind ≡ k → own c k ≡ true → true ≡ own category kind
at_key c k e f t = sym (rw (e, f) t)

-- 'For card, '40' to '47' are in; for event, 'C0' to 'C3'': of every byte
pub card-types : T (all (λ (k : ℕ). beq (own card k) (leb 0x40 k && leb k 0x47)) 0 256)
unfolding own
card-types = tt

pub event-types : T (all (λ (k : ℕ). beq (own event k) (leb 0xC0 k && leb k 0xC3)) 0 256)
unfolding own
event-types = tt

-- a category that no row names knows no type of its own
pub none-own : (c k : ℕ) → (c ≡ psam → ⊥) → (c ≡ card → ⊥) → (c ≡ user_interface → ⊥) → (c ≡ merchant → ⊥) → (c ≡ data_store → ⊥) → (c ≡ communication → ⊥) → (c ≡ event → ⊥)
    → false ≡ own c k
unfolding own
none-own c k h0 h2 h3 h4 h5 h6 h7 =
    rw (ne_eqb psam c (λ e. h0 (sym e)), ne_eqb card c (λ e. h2 (sym e)), ne_eqb user_interface c (λ e. h3 (sym e)), ne_eqb merchant c (λ e. h4 (sym e)), ne_eqb data_store c (λ e. h5 (sym e)), ne_eqb communication c (λ e. h6 (sym e)), ne_eqb event c (λ e. h7 (sym e)))
