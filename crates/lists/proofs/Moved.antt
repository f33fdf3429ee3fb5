-- One element less of an array that holds a list: the cells past it move down by one, and the last one in use is freed.
use Prim.Native.Nat.{ℕ, zero, suc, ◌-◌, ◌≤◌, ◌<◌}
use mathlib.Core.Path.{◌≡◌, ap, ◌∙◌}
use mathlib.Core.Bool.{false}
use mathlib.Core.List.{List}
use native.Mathlib.Omega.{arith}
use lib.Dec.{eqb, ltb}
use lib.ListN.{length, get_or, set, length-set}
use lib.Seq.{get_or-set_same, get_or-set_other}
use borrow.Author.Tests.{eq-eqb, ne_eqb, eqb-true, eqb-false, ltb-true, ltb-false}
use Rattle.lists.specs.Lists.{without_at}
use Rattle.lists.specs.Arrays.{held, Exact, Holding, Becoming}
use Rattle.lists.proofs.Tests.{split}
use Rattle.lists.proofs.Cells.{set_all}
use Rattle.lists.proofs.Arrays.{len, same-held, held-set}

module _ {A : Type 0} (unpack : ℕ → A) (l m : List ℕ) (at : ℕ)
    (below : (j : ℕ) → j < at → get_or m j 0 ≡ get_or l j 0) where
  moved-down : (i : ℕ) → at ≤ i → ((j : ℕ) → at ≤ j → j < i → get_or m j 0 ≡ get_or l (suc j) 0)
      → held unpack m i ≡ without_at at (held unpack l (suc i))
  moved-down zero h down = rw (eq-eqb at zero (omega arith))
  moved-down (suc i) h down =
      split (eqb at (suc i))
      (λ e. let k : at ≡ suc i = eqb-true at (suc i) e in
      let s : held unpack m (suc i) ≡ held unpack l (suc i) = same-held unpack m l (suc i) (λ j t. below j (omega arith)) in
      rw (len unpack l i, e) s)
      (λ e. let k : at ≡ suc i → ⊥ = eqb-false at (suc i) e in
      let apart : eqb at (suc (length (held unpack l i))) ≡ false =
      ne_eqb at (suc (length (held unpack l i))) (λ z. k (z ∙ ap suc (len unpack l i))) in
      rw (apart, down i (omega (arith, k)) (omega arith), moved-down i (omega (arith, k)) (λ j a b. down j a (omega arith))))

module _ {A : Type 0} (size : ℕ) (pack : A → ℕ) (unpack : ℕ → A) (l : List ℕ) (n at : ℕ) (m : List ℕ)
    (z : Exact pack unpack 0) (h : Holding size pack unpack l n) (k : at < n) (same : length m ≡ length l)
    (down : (j : ℕ) → at ≤ j → j < n - 1 → get_or m j 0 ≡ get_or l (suc j) 0)
    (below : (j : ℕ) → j < at → get_or m j 0 ≡ get_or l j 0)
    (above : (j : ℕ) → n - 1 ≤ j → get_or m j 0 ≡ get_or l j 0) where
  exact-moved : (j : ℕ) → Exact pack unpack (get_or m j 0)
  exact-moved j =
      split (ltb j at) (λ e. rw (below j (ltb-true j at e)) (h.exact j))
      (λ e. split (ltb j (n - 1))
      (λ f. rw (down j (ltb-false j at e) (ltb-true j (n - 1) f)) (h.exact (suc j)))
      (λ f. rw (above j (ltb-false j (n - 1) f)) (h.exact j)))

  pub moved : Becoming size pack unpack (set m (n - 1) 0) (n - 1) (without_at at (held unpack l n))
  moved =
      let e : suc (n - 1) ≡ n = omega arith in
      record {
        holds = held-set unpack m (n - 1) 0 (n - 1) (omega arith) ∙ (moved-down unpack l m at below (n - 1) (omega arith) down ∙ ap (λ (i : ℕ). without_at at (held unpack l i)) e);
        law = record {
          few = omega (arith, h.few);
          long = simp length-set (same ∙ h.long);
          exact = set_all (Exact pack unpack) m (n - 1) 0 z exact-moved;
          free =
              λ j g. split (eqb j (n - 1))
              (λ q. rw (eqb-true j (n - 1) q) (get_or-set_same m (n - 1) 0 0 (omega (arith, same, h.long, h.few))))
              (λ q. get_or-set_other m (n - 1) j 0 0 (eqb-false j (n - 1) q) ∙ (above j g ∙ h.free j (omega (arith, eqb-false j (n - 1) q))));
        };
      }
