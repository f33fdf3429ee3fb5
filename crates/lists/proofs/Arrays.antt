-- Laws of an array that holds a list: what is read, and each change in place. Rows and places are two uses of it.
use Prim.Native.Nat.{ℕ, zero, suc, ◌+◌, ◌-◌, ◌≤◌, ◌<◌}
use Rattle.std.specs.Prelude.{Option, Some}
use mathlib.Core.Path.{◌≡◌, refl, sym, ap, ◌∙◌}
use mathlib.Core.Bool.{Bool, true, false, ◌||◌, or-true}
use mathlib.Core.List.{List, [], ◌∷◌}
use native.Mathlib.Nat.{not-suc-le-zero}
use native.Mathlib.Numerals.{add-one}
use native.Mathlib.Omega.{arith}
use lib.Dec.{eqb, ltb}
use lib.ListN.{length, replicate, get_or, set, length-set, length-replicate}
use lib.Seq.{get_or-set_same, get_or-set_other, set-get_or, ext_get_or}
use borrow.Author.Tests.{eqb-true, eqb-false, ltb-true, ltb-false}
use Rattle.lists.specs.Lists.{count, some_of, keep, first, find, without_at, changed_at}
use Rattle.lists.specs.Arrays.{held, Exact, Holding, Becoming}
use Rattle.lists.proofs.Tests.{split, differ}
use Rattle.lists.proofs.Numbers.{end-past, change-past}
use Rattle.lists.proofs.Cells.{same-all, set_all}

-- ---- what is read

module _ {A : Type 0} (unpack : ℕ → A) where
  -- as many elements as the count says
  pub len : (l : List ℕ) (n : ℕ) → length (held unpack l n) ≡ n
  len l zero = refl
  len l (suc n) = ap suc (len l n)

  -- only the cells in use count
  pub same-held : (l m : List ℕ) (n : ℕ) → ((j : ℕ) → j < n → get_or l j 0 ≡ get_or m j 0) → held unpack l n ≡ held unpack m n
  same-held l m zero h = refl
  same-held l m (suc n) h = rw (h n (omega arith), same-held l m n (λ j k. h j (omega arith)))

  -- a store above the count changes no element
  pub held-set : (l : List ℕ) (i v n : ℕ) → n ≤ i → held unpack (set l i v) n ≡ held unpack l n
  held-set l i v n h = same-held (set l i v) l n (λ j k. get_or-set_other l i j v 0 (λ e. omega arith))

  -- a store into a cell in use changes the element with its number
  pub held-changed : (f : A → A) (l : List ℕ) (i v n : ℕ) → i < n → i < length l → unpack v ≡ f (unpack (get_or l i 0))
      → held unpack (set l i v) n ≡ changed_at f i (held unpack l n)
  held-changed f l i v zero h g e = absurd (not-suc-le-zero h)
  held-changed f l i v (suc n) h g e =
      split (eqb i n)
      (λ q. let k : i ≡ n = eqb-true i n q in
      let s : get_or (set l i v) n 0 ≡ v = ap (λ (m : ℕ). get_or (set l i v) m 0) (sym k) ∙ get_or-set_same l i v 0 g in
      let t : unpack v ≡ f (unpack (get_or l n 0)) = e ∙ ap (λ (m : ℕ). f (unpack (get_or l m 0))) k in
      rw (len l n, q, s, held-set l i v n (omega arith), t))
      (λ q. let k : i ≡ n → ⊥ = eqb-false i n q in
      rw (len l n, q, get_or-set_other l i n v 0 (λ z. k (sym z)), held-changed f l i v n (omega (arith, k)) g e))

  -- ---- a walk down from the newest

  -- the invariant: what is asked has the same answer of the i oldest as of all n
  abbrev pub Below : {R : Type 0} → (List A → R) → List ℕ → ℕ → ℕ → Type 0
  Below g l n i = (i ≤ n) × (g (held unpack l i) ≡ g (held unpack l n))

  module _ (l : List ℕ) (i : ℕ) (pos : 0 < i) where
    pub back_one : held unpack l i ≡ unpack (get_or l (i - 1) 0) ∷ held unpack l (i - 1)
    back_one =
        let e : i ≡ suc (i - 1) = omega arith in
        ap (held unpack l) e

    module _ (q : A → Bool) where
      pub find-here : {r : Option ℕ} → find q (held unpack l i) ≡ r → q (unpack (get_or l (i - 1) 0)) ≡ true → Some (i - 1) ≡ r
      find-here e t = sym (ap (find q) back_one ∙ rw (t, len l (i - 1))) ∙ e

      pub find_past : {r : Option ℕ} → find q (held unpack l i) ≡ r → q (unpack (get_or l (i - 1) 0)) ≡ false → find q (held unpack l (i - 1)) ≡ r
      find_past e t = sym (ap (find q) back_one ∙ rw t) ∙ e

      pub some-here : {r : Bool} → some_of q (held unpack l i) ≡ r → q (unpack (get_or l (i - 1) 0)) ≡ true → true ≡ r
      some-here e t = sym (ap (some_of q) back_one ∙ rw t) ∙ e

      pub some-past : {r : Bool} → some_of q (held unpack l i) ≡ r → q (unpack (get_or l (i - 1) 0)) ≡ false → some_of q (held unpack l (i - 1)) ≡ r
      some-past e t = sym (ap (some_of q) back_one ∙ rw t) ∙ e

      -- the same where b says whether one of those passed was met
      pub met-here : (b : Bool) {r : Bool} → (b || some_of q (held unpack l i)) ≡ r → q (unpack (get_or l (i - 1) 0)) ≡ true → true ≡ r
      met-here b e t = sym (ap (λ (xs : List A). b || some_of q xs) back_one ∙ rw (t, or-true b)) ∙ e

      pub met-past : (b : Bool) {r : Bool} → (b || some_of q (held unpack l i)) ≡ r → q (unpack (get_or l (i - 1) 0)) ≡ false → (b || some_of q (held unpack l (i - 1))) ≡ r
      met-past b e t = sym (ap (λ (xs : List A). b || some_of q xs) back_one ∙ rw t) ∙ e

  -- at its end nothing is left to look at
  pub walked : {R : Type 0} (g : List A → R) (l : List ℕ) (i : ℕ) {r : R} → i ≡ 0 → g (held unpack l i) ≡ r → g [] ≡ r
  walked g l i e h = ap (λ (k : ℕ). g (held unpack l k)) (sym e) ∙ h

  -- ---- a count, on the way up

  module _ (q : A → Bool) (l : List ℕ) (i m : ℕ) (e : m ≡ count q (held unpack l i)) where
    pub count-hit : q (unpack (get_or l i 0)) ≡ true → m + 1 ≡ count q (held unpack l (i + 1))
    count-hit t = rw (add-one i, t) (omega arith)

    pub count-miss : q (unpack (get_or l i 0)) ≡ false → m ≡ count q (held unpack l (i + 1))
    count-miss t = rw (add-one i, t) (omega arith)

  -- ---- a test and a search, on the way up

  module _ (q : A → Bool) (l : List ℕ) (i : ℕ) where
    pub some-hit : q (unpack (get_or l i 0)) ≡ true → true ≡ some_of q (held unpack l (i + 1))
    some-hit t = rw (add-one i, t)

    pub some-miss : {b : Bool} → b ≡ some_of q (held unpack l i) → q (unpack (get_or l i 0)) ≡ false → b ≡ some_of q (held unpack l (i + 1))
    some-miss e t = rw (add-one i, t) e

    pub find-hit : q (unpack (get_or l i 0)) ≡ true → Some i ≡ find q (held unpack l (i + 1))
    find-hit t = rw (add-one i, t, len l i)

    pub find-miss : {f : Option ℕ} → f ≡ find q (held unpack l i) → q (unpack (get_or l i 0)) ≡ false → f ≡ find q (held unpack l (i + 1))
    find-miss e t = rw (add-one i, t) e

  -- ---- what was found: its cell, and that it passes

  pub record Here (q : A → Bool) (l : List ℕ) (n i : ℕ) : Type 0 where
    pub inside : i < n
    pub it : first q (held unpack l n) ≡ Some (unpack (get_or l i 0))
    pub meets : q (unpack (get_or l i 0)) ≡ true

  pub here : (q : A → Bool) (l : List ℕ) (n i : ℕ) → find q (held unpack l n) ≡ Some i → Here q l n i
  here q l zero i e = differ (cc)
  here q l (suc n) i e =
      split (q (unpack (get_or l n 0)))
      (λ t. let f : Some (length (held unpack l n)) ≡ Some i = rw t at e in
      let k : n ≡ i = sym (len l n) ∙ (cc) in
      record {
        inside = omega arith;
        it = rw t (ap (λ (j : ℕ). Some (unpack (get_or l j 0))) k);
        meets = ap (λ (j : ℕ). q (unpack (get_or l j 0))) (sym k) ∙ t;
      })
      (λ t. let h = here q l n i (rw t at e) in record { inside = omega (arith, h.inside); it = rw t h.it; meets = h.meets })

-- ---- an array is known by its list

module _ {A : Type 0} (size : ℕ) (pack : A → ℕ) (unpack : ℕ → A) where
  abbrev Law : List ℕ → ℕ → Type 0
  Law l n = Holding size pack unpack l n

  abbrev Now : List ℕ → ℕ → List A → Type 0
  Now l n xs = Becoming size pack unpack l n xs

  same-cell : (l m : List ℕ) (n j : ℕ) → j < n → held unpack l n ≡ held unpack m n → unpack (get_or l j 0) ≡ unpack (get_or m j 0)
  same-cell l m zero j h e = absurd (not-suc-le-zero h)
  same-cell l m (suc n) j h e =
      split (eqb j n) (λ q. rw (eqb-true j n q) (cc)) (λ q. same-cell l m n j (omega (arith, eqb-false j n q)) (cc))

  same-array : (l m : List ℕ) (n : ℕ) → Law l n → Law m n → held unpack l n ≡ held unpack m n → l ≡ m
  same-array l m n h g e =
      ext_get_or 0 l m (h.long ∙ sym g.long)
      (λ j k. split (ltb j n)
      (λ t. sym (h.exact j) ∙ ap pack (same-cell l m n j (ltb-true j n t) e) ∙ g.exact j)
      (λ t. h.free j (ltb-false j n t) ∙ sym (g.free j (ltb-false j n t))))

  -- equal lists, equal counts and arrays
  pub determined : (l m : List ℕ) (n k : ℕ) → Law l n → Law m k → held unpack l n ≡ held unpack m k → (n ≡ k) × (l ≡ m)
  determined l m n k h g e =
      let z : n ≡ k = sym (len unpack l n) ∙ ap length e ∙ len unpack m k in
      (z, same-array l m n h (rw z g) (e ∙ ap (held unpack m) (sym z)))

  pub one-array : (xs : List A) (l m : List ℕ) (n k : ℕ) → Now l n xs → Now m k xs → (n ≡ k) × (l ≡ m)
  one-array xs l m n k a b = determined l m n k a.law b.law (a.holds ∙ sym b.holds)

  -- ---- nothing held

  pub none-held : Exact pack unpack 0 → Now (replicate size 0) 0 []
  none-held z = record {
    holds = refl;
    law = record {
      few = omega arith;
      long = length-replicate {A = ℕ} size 0;
      exact = λ j. rw (same-all {A = ℕ} size j 0) z;
      free = λ j k. same-all size j 0;
    };
  }

  -- ---- one more

  module _ (l : List ℕ) (n : ℕ) (h : Law l n) where
    pub push-room : (x : A) (v : ℕ) → n < size → v ≡ pack x → unpack v ≡ x → Now (set l n v) (n + 1) (x ∷ held unpack l n)
    push-room x v k p b =
        let same : get_or (set l n v) n 0 ≡ v = get_or-set_same l n v 0 (omega (arith, h.long)) in
        record {
          holds = rw (add-one n, same, held-set unpack l n v n (omega arith), b);
          law = record {
            few = omega arith;
            long = simp length-set h.long;
            exact = set_all (Exact pack unpack) l n v (ap pack b ∙ sym p) h.exact;
            free = λ j g. get_or-set_other l n j v 0 (λ e. omega arith) ∙ h.free j (omega arith);
          };
        }

    -- ---- one changed

    module _ (f : A → A) (i : ℕ) where
      pub changed-past : n ≤ i → Now l n (changed_at f i (held unpack l n))
      changed-past k = record { holds = sym (change-past f i (held unpack l n) (omega (arith, len unpack l n))); law = h }

      pub changed-now : (v : ℕ) → i < n → Exact pack unpack v → unpack v ≡ f (unpack (get_or l i 0)) → Now (set l i v) n (changed_at f i (held unpack l n))
      changed-now v k x e = record {
        holds = held-changed unpack f l i v n k (omega (arith, h.long, h.few)) e;
        law = record {
          few = h.few;
          long = simp length-set h.long;
          exact = set_all (Exact pack unpack) l i v x h.exact;
          free = λ j g. get_or-set_other l i j v 0 (λ z. omega arith) ∙ h.free j g;
        };
      }

      -- the element that is there already is as the change makes it
      pub changed-already : i < n → unpack (get_or l i 0) ≡ f (unpack (get_or l i 0)) → Now l n (changed_at f i (held unpack l n))
      changed-already k e = record {
        holds =
            ap (λ (m : List ℕ). held unpack m n) (sym (set-get_or l i 0))
            ∙ held-changed unpack f l i (get_or l i 0) n k (omega (arith, h.long, h.few)) e;
        law = h;
      }

    -- ---- one less, past the count (in the list: proofs/Moved.antt)

    pub removed-past : (at : ℕ) → n ≤ at → Now l n (without_at at (held unpack l n))
    removed-past at k = record { holds = sym (end-past at (held unpack l n) (omega (arith, len unpack l n))); law = h }

  -- a cell that is cleared is 0, and so are those past it that were
  cleared : (m : List ℕ) (i j : ℕ) → i < length m → ((j ≡ i → ⊥) → get_or m j 0 ≡ 0) → get_or (set m i 0) j 0 ≡ 0
  cleared m i j k h =
      split (eqb j i) (λ q. rw (eqb-true j i q) (get_or-set_same m i 0 0 k))
      (λ q. get_or-set_other m i j 0 0 (eqb-false j i q) ∙ h (eqb-false j i q))

  -- ---- those that stay: of the first i elements they are the first k, and what they leave is 0

  pub record Filtered (q : A → Bool) (l m : List ℕ) (k i : ℕ) : Type 0 where
    pub less : k ≤ i
    pub long : length m ≡ size
    pub holds : held unpack m k ≡ keep q (held unpack l i)
    pub gone : (j : ℕ) → k ≤ j → j < i → get_or m j 0 ≡ 0
    pub above : (j : ℕ) → i ≤ j → get_or m j 0 ≡ get_or l j 0
    pub exact : (j : ℕ) → Exact pack unpack (get_or m j 0)

  pub filter-starts : (q : A → Bool) (l : List ℕ) (n : ℕ) → Law l n → Filtered q l l 0 0
  filter-starts q l n h = record {
    less = omega arith;
    long = h.long;
    holds = refl;
    gone = λ j a b. absurd (omega arith);
    above = λ j a. refl;
    exact = h.exact;
  }

  module _ (z : Exact pack unpack 0) (q : A → Bool) (l m : List ℕ) (k i : ℕ) (h : i < size) (f : Filtered q l m k i) where
    passed : (j : ℕ) → k ≤ j → j < i + 1 → get_or (set m i 0) j 0 ≡ 0
    passed j a b = cleared m i j (omega (arith, f.long)) (λ e. f.gone j a (omega (arith, e)))

    tested : (b : Bool) → q (unpack (get_or m i 0)) ≡ b → q (unpack (get_or l i 0)) ≡ b
    tested b t = ap (λ (x : ℕ). q (unpack x)) (sym (f.above i (omega arith))) ∙ t

    pub filter-drops : q (unpack (get_or m i 0)) ≡ false → Filtered q l (set m i 0) k (i + 1)
    filter-drops t = record {
      less = omega (arith, f.less);
      long = simp length-set f.long;
      holds = rw (add-one i, tested false t) (held-set unpack m i 0 k f.less ∙ f.holds);
      gone = passed;
      above = λ j g. get_or-set_other m i j 0 0 (λ e. omega arith) ∙ f.above j (omega arith);
      exact = set_all (Exact pack unpack) m i 0 z f.exact;
    }

    pub filter-keeps : q (unpack (get_or m i 0)) ≡ true → Filtered q l (set (set m i 0) k (get_or m i 0)) (k + 1) (i + 1)
    filter-keeps t =
        let v : ℕ = get_or m i 0 in
        let m' : List ℕ = set m i 0 in
        let same : get_or (set m' k v) k 0 ≡ get_or l i 0 =
        get_or-set_same m' k v 0 (simp length-set (omega (arith, f.less, f.long))) ∙ f.above i (omega arith) in
        let old : held unpack (set m' k v) k ≡ keep q (held unpack l i) =
        held-set unpack m' k v k (omega arith) ∙ held-set unpack m i 0 k f.less ∙ f.holds in
        record {
          less = omega (arith, f.less);
          long = simp length-set f.long;
          holds = rw (add-one i, add-one k, tested true t, same, old);
          gone = λ j a b. get_or-set_other m' k j v 0 (λ e. omega arith) ∙ passed j (omega arith) b;
          above =
              λ j g. get_or-set_other m' k j v 0 (λ e. omega (arith, f.less))
              ∙ get_or-set_other m i j 0 0 (λ e. omega arith)
              ∙ f.above j (omega arith);
          exact = set_all (Exact pack unpack) m' k v (f.exact i) (set_all (Exact pack unpack) m i 0 z f.exact);
        }

  pub filter-ends : (q : A → Bool) (l m : List ℕ) (n k i : ℕ) → Law l n → i ≡ n → Filtered q l m k i → Now m k (keep q (held unpack l n))
  filter-ends q l m n k i h e f = record {
    holds = f.holds ∙ ap (λ (x : ℕ). keep q (held unpack l x)) e;
    law = record {
      few = omega (arith, f.less, h.few);
      long = f.long;
      exact = f.exact;
      free =
          λ j g. split (ltb j i) (λ t. f.gone j g (ltb-true j i t))
          (λ t. f.above j (ltb-false j i t) ∙ h.free j (omega (arith, ltb-false j i t)));
    };
  }
