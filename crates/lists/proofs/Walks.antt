-- A walk over the cells in use of an array that holds a list: what `any` and `rposition` of std tell is what the list is asked.
use Prim.Native.Nat.{ℕ, zero, suc, ◌+◌, ◌-◌, ◌≤◌, ◌<◌}
use mathlib.Core.Path.{◌≡◌, refl, sym, ap, ◌∙◌}
use mathlib.Core.Bool.{Bool, true, false, ◌||◌, or_comm}
use mathlib.Core.List.{List}
use native.Mathlib.Numerals.{add-one}
use native.Mathlib.Omega.{arith}
use lib.ListN.{length, take, get_or}
use denote.Ref.{Bor}
use denote.Param.Members.{Mut}
use Rattle.std.specs.declared.option.Option.{Option}
use Rattle.std.specs.declared.option.Option.TheVariants.{None, Some}
use Rattle.std.specs.Bool.{IsTrue}
use Rattle.std.specs.Fn.{Called}
use Rattle.std.specs.List.{list_any, count_by}
use Rattle.std.specs.Option.{MatchOption, IfSome, IsSomeAnd, option_map}
use Rattle.std.specs.Iterator.Runs.{Run, ItemsMapToReversed, AllItemsGive, IsFirstToGive, CallKeepsClosure}
use Rattle.std.proofs.lemmas.List.{get_or-take, length-take-le}
use Rattle.std.proofs.lemmas.List.Folds.{list_any_more}
use Rattle.std.proofs.lemmas.List.Sums.{count_by_more_yes, count_by_more_no}
use lib.Dec.{eqb}
use borrow.Author.Tests.{eqb-true, eqb-false}
use Rattle.lists.specs.Lists.{some_of, find, count}
use Rattle.lists.proofs.Tests.{split}
use Rattle.lists.proofs.Arrays.{len}
use Rattle.lists.specs.Arrays.{held}

module _ {A : Type 0} (unpack : ℕ → A) (q : A → Bool) (l : List ℕ) where
  -- whether some cell passes
  pub some-any : (n : ℕ) → n ≤ length l → list_any (λ x. q (unpack x)) (take n l) ≡ some_of q (held unpack l n)
  some-any zero h = refl
  some-any (suc n) h =
      let p : ℕ → Bool = λ (x : ℕ). q (unpack x) in
      let e : list_any p (take (n + 1) l) ≡ (list_any p (take n l) || p (get_or l n 0)) = list_any_more p l n 0 (omega arith) in
      ap (λ (k : ℕ). list_any p (take k l)) (sym (add-one n))
      ∙ (e ∙ (ap (λ (b : Bool). b || p (get_or l n 0)) (some-any n (omega arith)) ∙ or_comm (some_of q (held unpack l n)) (p (get_or l n 0))))

  -- how many cells pass
  pub count-by : (n : ℕ) → n ≤ length l → count_by (λ x. q (unpack x)) (take n l) ≡ count q (held unpack l n)
  count-by zero h = refl
  count-by (suc n) h =
      let p : ℕ → Bool = λ (x : ℕ). q (unpack x) in
      ap (λ (k : ℕ). count_by p (take k l)) (sym (add-one n))
      ∙ split (q (unpack (get_or l n 0)))
      (λ e. rw e (count_by_more_yes p l n 0 (omega arith) e ∙ omega (arith, count-by n (omega arith))))
      (λ e. rw e (count_by_more_no p l n 0 (omega arith) e ∙ omega (arith, count-by n (omega arith))))

  -- no cell in use passes
  abbrev pub NonePass : ℕ → Type 0
  NonePass n = (k : ℕ) → k < n → q (unpack (get_or l k 0)) ≡ false

  -- the cell i passes, and none after it
  pub record Newest (n i : ℕ) : Type 0 where
    pub inside : i < n
    pub meets : q (unpack (get_or l i 0)) ≡ true
    pub newer : (k : ℕ) → i < k → k < n → q (unpack (get_or l k 0)) ≡ false

module _ {A : Type 0} (unpack : ℕ → A) (q : A → Bool) (l : List ℕ) where
  none-found : (n : ℕ) → NonePass unpack q l n → None ≡ find q (held unpack l n)
  none-found zero h = refl
  none-found (suc n) h = rw (h n (omega arith)) (none-found n (λ k t. h k (omega arith)))

  one-found : (n i : ℕ) → Newest unpack q l n i → Some i ≡ find q (held unpack l n)
  one-found zero i h = let k : i < 0 = h.inside in absurd (omega arith)
  one-found (suc n) i h =
      let at : i < suc n = h.inside in
      split (eqb i n)
      (λ e. let k : i ≡ n = eqb-true i n e in
      let m : q (unpack (get_or l n 0)) ≡ true = ap (λ (j : ℕ). q (unpack (get_or l j 0))) (sym k) ∙ h.meets in
      rw (m, len unpack l n) (ap Some k))
      (λ e. let k : i ≡ n → ⊥ = eqb-false i n e in
      rw (h.newer n (omega (arith, k)) (omega arith))
      (one-found n i (record { inside = omega (arith, k); meets = h.meets; newer = λ j t u. h.newer j t (omega arith) })))

-- what a call said of an item it says of the item's number
told : (test : ℕ → Bool) (P : Bor ℕ → Type 0) (b : Bool) (o : Option (Bor ℕ)) (v : ℕ) → option_map (λ (y : Bor ℕ). y.now) o ≡ Some v → IfSome o P
    → ((x : Bor ℕ) → P x → b ≡ test x.now)
    → test v ≡ b
told test P b None v e p t = absurd (cc)
told test P b (Some x) v e p t = let k : x.now ≡ v = cc in ap test (sym k) ∙ sym (t x p)

so_of : (P : Bor ℕ → Type 0) (o : Option (Bor ℕ)) → IsSomeAnd o P → IfSome o P
so_of P None p = tt
so_of P (Some x) p = p

-- a walk down from the last cell in use, u: the calls that it made, and what they told
module _ {S F A : Type 0} {steps : S → Option (Bor ℕ) → S → Type 0} {g : Mut F (Bor ℕ × Unit {0}) Bool} (unpack : ℕ → A) (q : A → Bool) (l : List ℕ) (n : ℕ)
    (f : F) (long : n ≤ length l) (keeps : CallKeepsClosure g f)
    (tests : (x : Bor ℕ) (b : Bool) → Called g f (x, tt) b f → b ≡ q (unpack x.now)) where
  module _ (u : Run steps) (back : ItemsMapToReversed u (λ y. y.now) (take n l)) where
    cell : (k : ℕ) → k < n → n - 1 - k < u.len → option_map (λ (y : Bor ℕ). y.now) (u.at (n - 1 - k)) ≡ Some (get_or l k 0)
    cell k h m =
        let z : length (take n l) ≡ n = length-take-le n l long in
        let e = back.2 k 0 (omega arith) (omega arith) in
        rw z at e ∙ ap Some (get_or-take n l k 0 h)

    called : (b : Bool) (k : ℕ) → k < n → n - 1 - k < u.len → IfSome (u.at (n - 1 - k)) (λ x. Called g f (x, tt) b f) → q (unpack (get_or l k 0)) ≡ b
    called b k h m c = told (λ (x : ℕ). q (unpack x)) (λ (x : Bor ℕ). Called g f (x, tt) b f) b (u.at (n - 1 - k)) (get_or l k 0) (cell k h m) c (λ x. tests x b)

    none-passes : u.whole ≡ true → AllItemsGive u g f false → NonePass unpack q l n
    none-passes w m = λ k h.
        let z : length (take n l) ≡ n = length-take-le n l long in
        called false k h (omega (arith, back.1 w)) (m keeps (n - 1 - k))

    one-passes : (i : ℕ) → i < n → i + u.len ≡ n → IsFirstToGive u g f true false (n - 1 - i) → Newest unpack q l n i
    one-passes i h e m =
        let z : length (take n l) ≡ n = length-take-le n l long in
        let a = m keeps in
        record {
          inside = h;
          meets = called true i h (omega arith) (so_of (λ (x : Bor ℕ). Called g f (x, tt) true f) (u.at (n - 1 - i)) a.0);
          newer = λ k j t. called false k t (omega arith) (so_of (λ (x : Bor ℕ). Called g f (x, tt) false f) (u.at (n - 1 - k)) (a.1 (n - 1 - k) (omega arith)));
        }

  -- what `rposition` found is the number of the newest that passes
  pub newest : (u : Run steps) (cells : List ℕ) → ItemsMapToReversed u (λ y. y.now) cells → cells ≡ take n l → (size : ℕ) → size ≡ n
      → (r : Option ℕ) → IfSome r (λ i. i < size)
      → MatchOption r (IsTrue u.whole × AllItemsGive u g f false) (λ i. (i + u.len ≡ size) × IsFirstToGive u g f true false (size - 1 - i))
      → r ≡ find q (held unpack l n)
  newest u cells back w size e None b m = none-found unpack q l n (none-passes u (rw w at back) m.0 m.1)
  newest u cells back w size e (Some i) b m =
      let h : i < n = rw e at b in
      one-found unpack q l n i (one-passes u (rw w at back) i h (m.0 ∙ e) (rw e at m.1))
