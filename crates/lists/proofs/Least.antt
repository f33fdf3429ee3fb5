-- Laws of the least number that a list leaves free: at most as many numbers are passed over as the list is long, and marks find the same number.
use Prim.Native.Nat.{◌+◌, ◌-◌, ◌<◌, suc, zero, ℕ, ◌≤◌}
use mathlib.Core.Bool.{Bool, cond, false, true}
use mathlib.Core.List.{List, [], map, ◌∷◌}
use mathlib.Core.Logic.{◌⊎◌, ⊎_elim}
use mathlib.Core.Path.{ap, refl, sym, ◌∙◌, ◌≡◌}
use native.Mathlib.Nat.{le_of_suc-le-suc, not-suc-le-zero}
use native.Mathlib.Numerals.{add-one}
use native.Mathlib.Omega.{arith}
use lib.Dec.{eqb, ltb}
use lib.ListN.{get_or, length, length-set, replicate, set}
use lib.Seq.{get_or-set_other}
use borrow.Author.Tests.{eqb-false, eqb-true, ltb-false, ltb-true, ne_eqb}
use Rattle.lists.proofs.Counts.{count-some}
use Rattle.lists.proofs.Tests.{clash, split}
use Rattle.lists.specs.Least.{gap, gap_in, least, lowest}
use Rattle.lists.specs.Lists.{count, one, some_of}

-- ---- the lowest free number
lowest-here : (k n : ℕ) (xs : List ℕ) → 0 < k → some_of (eqb n) xs ≡ false → lowest k n xs ≡ n
lowest-here zero n xs h t = absurd (not-suc-le-zero h)
lowest-here (suc k) n xs h t = rw t

lowest-past : (k n : ℕ) (xs : List ℕ) → 0 < k → some_of (eqb n) xs ≡ true → lowest k n xs ≡ lowest (k - 1) (n + 1) xs
lowest-past zero n xs h t = absurd (not-suc-le-zero h)
lowest-past (suc k) n xs h t =
    let e : suc k - 1 ≡ k = omega arith in
    rw (t, e, add-one)

least-from : (k n : ℕ) (xs : List ℕ) → k ≡ 256 → lowest k n xs ≡ least n xs
unfolding least
least-from k n xs e = ap (λ (j : ℕ). lowest j n xs) e

-- the numbers below n + d are taken, and n + d is free
pub least-is : (d n : ℕ) (xs : List ℕ) → d < 256 → ((m : ℕ) → m < d → some_of (eqb (n + m)) xs ≡ true) → some_of (eqb (n + d)) xs ≡ false → least n xs ≡ n + d
least-is d n xs h taken free = sym (least-from 256 n xs refl) ∙ go d 256 n h taken free
  where
    go : (d k n : ℕ) → d < k → ((m : ℕ) → m < d → some_of (eqb (n + m)) xs ≡ true) → some_of (eqb (n + d)) xs ≡ false → lowest k n xs ≡ n + d
    go zero k n h taken free =
        let e : n + 0 ≡ n = omega arith in
        lowest-here k n xs h (rw e at free) ∙ sym e
    go (suc d) k n h taken free =
        let e : n + 0 ≡ n = omega arith in
        let z : n + suc d ≡ (n + 1) + d = omega arith in
        let next : (m : ℕ) → m < d → some_of (eqb ((n + 1) + m)) xs ≡ true =
        (λ m g. ap (λ (j : ℕ). some_of (eqb j) xs) (let y : (n + 1) + m ≡ n + suc m = omega arith in y) ∙ taken (suc m) (omega arith)) in
        lowest-past k n xs (omega arith) (rw e at (taken 0 (omega arith))) ∙ go d (k - 1) (n + 1) (omega arith) next (rw z at free) ∙ sym z

-- ---- the pigeonhole

-- how often one number, and a list of numbers, meet n, n + 1, .., n + k - 1
abbrev ones : ℕ → ℕ → ℕ → ℕ
ones zero n x = 0
ones (suc k) n x = one (eqb n x) + ones k (suc n) x

abbrev hits : ℕ → ℕ → List ℕ → ℕ
hits zero n xs = 0
hits (suc k) n xs = count (eqb n) xs + hits k (suc n) xs

ones_none : (k n x : ℕ) → x < n → ones k n x ≡ 0
ones_none zero n x h = refl
ones_none (suc k) n x h = rw (ne_eqb n x (λ e. omega arith)) (omega (arith, ones_none k (suc n) x (omega arith)))

ones-le : (k n x : ℕ) → ones k n x ≤ 1
ones-le zero n x = omega arith
ones-le (suc k) n x =
    split (eqb n x) (λ t. rw t (omega (arith, ones_none k (suc n) x (omega (arith, eqb-true n x t)))))
    (λ t. rw t (omega (arith, ones-le k (suc n) x)))

hits-nil : (k n : ℕ) → hits k n [] ≡ 0
hits-nil zero n = refl
hits-nil (suc k) n = omega (arith, hits-nil k (suc n))

hits-cons : (k n x : ℕ) (xs : List ℕ) → hits k n (x ∷ xs) ≡ ones k n x + hits k n xs
hits-cons zero n x xs = omega arith
hits-cons (suc k) n x xs = omega (arith, hits-cons k (suc n) x xs)

hits-le : (k n : ℕ) (xs : List ℕ) → hits k n xs ≤ length xs
hits-le k n [] = omega (arith, hits-nil k n)
hits-le k n (x ∷ xs) = omega (arith, hits-cons k n x xs, ones-le k n x, hits-le k n xs)

lowest-le : (k n : ℕ) (xs : List ℕ) → lowest k n xs ≤ n + hits k n xs
lowest-le zero n xs = omega arith
lowest-le (suc k) n xs =
    split (some_of (eqb n) xs) (λ t. rw t (omega (arith, lowest-le k (suc n) xs, count-some (eqb n) xs t))) (λ t. rw t (omega arith))

lowest-free : (k n : ℕ) (xs : List ℕ) → lowest k n xs < n + k → some_of (eqb (lowest k n xs)) xs ≡ false
lowest-free zero n xs h = absurd (omega arith)
lowest-free (suc k) n xs h =
    split (some_of (eqb n) xs)
    (λ t. let h' : lowest k (suc n) xs < n + suc k = rw t at h in rw t (lowest-free k (suc n) xs (omega arith)))
    (λ t. rw (t, t))

lowest-ge : (k n : ℕ) (xs : List ℕ) → n ≤ lowest k n xs
lowest-ge zero n xs = omega arith
lowest-ge (suc k) n xs = split (some_of (eqb n) xs) (λ t. rw t (omega (arith, lowest-ge k (suc n) xs))) (λ t. rw t (omega arith))

lowest-low : (k n : ℕ) (xs : List ℕ) (q : ℕ) → n ≤ q → q < lowest k n xs → some_of (eqb q) xs ≡ true
lowest-low zero n xs q h l = absurd (omega arith)
lowest-low (suc k) n xs q h l =
    split (some_of (eqb n) xs)
    (λ t.
    split (eqb n q) (λ e. ap (λ (j : ℕ). some_of (eqb j) xs) (sym (eqb-true n q e)) ∙ t)
    (λ e. let above : suc n ≤ q = over n q h (eqb-false n q e) in lowest-low k (suc n) xs q above (rw t at l)))
    (λ t. let z : q < n = rw t at l in absurd (omega arith))
  where
    over : (n q : ℕ) → n ≤ q → (n ≡ q → ⊥) → suc n ≤ q
    over n q h d = split (ltb n q) (λ e. ltb-true n q e) (λ e. absurd (d (let z : n ≡ q = omega (arith, ltb-false n q e) in z)))

-- `least` is shut: the same of its name
pub least-le : (n : ℕ) (xs : List ℕ) → least n xs ≤ n + length xs
unfolding least
least-le n xs = go 256 n xs
  where
    go : (k n : ℕ) (xs : List ℕ) → lowest k n xs ≤ n + length xs
    go k n xs = omega (arith, lowest-le k n xs, hits-le k n xs)

pub least-ge : (n : ℕ) (xs : List ℕ) → n ≤ least n xs
unfolding least
least-ge n xs = lowest-ge 256 n xs

-- every number below it is in the list
pub least-low : (n : ℕ) (xs : List ℕ) (q : ℕ) → n ≤ q → q < least n xs → some_of (eqb q) xs ≡ true
unfolding least
least-low n xs q h l = lowest-low 256 n xs q h l

pub least-free : (n : ℕ) (xs : List ℕ) → length xs < 256 → some_of (eqb (least n xs)) xs ≡ false
unfolding least
least-free n xs h = go 256 n xs h
  where
    go : (k n : ℕ) (xs : List ℕ) → length xs < k → some_of (eqb (lowest k n xs)) xs ≡ false
    go k n xs h = lowest-free k n xs (omega (arith, lowest-le k n xs, hits-le k n xs))

-- a free number is no element's
pub count-free : {A : Type 0} (number : A → ℕ) (n : ℕ) (l : List A) → some_of (eqb n) (map number l) ≡ false → count (λ (x : A). eqb (number x) n) l ≡ 0
count-free number n [] e = refl
count-free number n (x ∷ l) e =
    split (eqb n (number x)) (λ t. clash true refl (rw t at e))
    (λ t. rw (ne_eqb (number x) n (λ z. eqb-false n (number x) t (sym z))) (omega (arith, count-free number n l (rw t at e))))

-- ---- a look for the lowest number without a mark
pub gap_here : (k n : ℕ) (ms : List Bool) → 0 < k → get_or ms n false ≡ false → gap_in k n ms ≡ n
gap_here zero n ms h t = absurd (not-suc-le-zero h)
gap_here (suc k) n ms h t = rw t

pub gap-past : (k n : ℕ) (ms : List Bool) → 0 < k → get_or ms n false ≡ true → gap_in (k - 1) (n + 1) ms ≡ gap_in k n ms
gap-past zero n ms h t = absurd (not-suc-le-zero h)
gap-past (suc k) n ms h t =
    let e : suc k - 1 ≡ k = omega arith in
    rw (t, e, add-one)

pub gap_from : (k n : ℕ) (ms : List Bool) → k ≡ 256 → gap_in k n ms ≡ gap n ms
unfolding gap
gap_from k n ms e = ap (λ (j : ℕ). gap_in j n ms) e

pub gap-end : (k n : ℕ) (ms : List Bool) → k ≤ 0 → n ≡ gap_in k n ms
gap-end zero n ms h = refl
gap-end (suc k) n ms h = absurd (not-suc-le-zero h)

-- ---- the marks: a number is marked, or still to come, exactly where the list has it
abbrev pub Marks : List Bool → List ℕ → List ℕ → Type 0
Marks ms left xs = (s : ℕ) → s < 257 → cond (get_or ms s false) true (some_of (eqb s) left) ≡ some_of (eqb s) xs

pub marks-none : (ms : List Bool) (xs : List ℕ) → ms ≡ replicate 257 false → Marks ms xs xs
marks-none ms xs e s h = ap (λ (m : Bool). cond m true (some_of (eqb s) xs)) (ap (λ (l : List Bool). get_or l s false) e ∙ no 257 s)
  where
    no : (n s : ℕ) → get_or (replicate n false) s false ≡ false
    no zero s = refl
    no (suc n) zero = refl
    no (suc n) (suc s) = no n s

mark-same : (ms : List Bool) (x : ℕ) → x < length ms → get_or (set ms x true) x false ≡ true
mark-same [] x h = absurd (not-suc-le-zero h)
mark-same (m ∷ ms) zero h = refl
mark-same (m ∷ ms) (suc x) h = mark-same ms x (le_of_suc-le-suc h)

marks-more : (ms : List Bool) (x : ℕ) (left xs : List ℕ) → length ms ≡ 257 → x < 257 → Marks ms (x ∷ left) xs → Marks (set ms x true) left xs
marks-more ms x left xs e h g s k =
    split (eqb s x)
    (λ t.
    let z : s ≡ x = eqb-true s x t in
    let m : get_or (set ms x true) s false ≡ true = ap (λ (j : ℕ). get_or (set ms x true) j false) z ∙ mark-same ms x (omega arith) in
    let w : cond (get_or ms s false) true true ≡ some_of (eqb s) xs = rw t at (g s k) in
    rw m (sym (both (get_or ms s false)) ∙ w))
    (λ t.
    let m : get_or (set ms x true) s false ≡ get_or ms s false = get_or-set_other ms x s true false (λ z. eqb-false s x t (let y : s ≡ x = omega arith in y)) in
    let w : cond (get_or ms s false) true (some_of (eqb s) left) ≡ some_of (eqb s) xs = rw t at (g s k) in
    rw m w)
  where
    both : (m : Bool) → cond m true true ≡ true
    both true = refl
    both false = refl

marks-past : (ms : List Bool) (x : ℕ) (left xs : List ℕ) → 257 ≤ x → Marks ms (x ∷ left) xs → Marks ms left xs
marks-past ms x left xs h g s k = rw (ne_eqb s x (λ e. omega arith)) at (g s k)

-- one number: marked where there is room for it
abbrev pub Step : List Bool → List Bool → ℕ → Type 0
Step ms ms' v = ((v < 257) × (ms' ≡ set ms v true)) ⊎ ((257 ≤ v) × (ms' ≡ ms))

pub marks-step : (ms ms' : List Bool) (v : ℕ) (left xs : List ℕ) → length ms ≡ 257 → Marks ms (v ∷ left) xs → Step ms ms' v → (length ms' ≡ 257) × Marks ms' left xs
marks-step ms ms' v left xs e g w =
    ⊎_elim (λ (a : (v < 257) × (ms' ≡ set ms v true)). rw a.1 (length-set ms v true ∙ e, marks-more ms v left xs e a.0 g))
    (λ (a : (257 ≤ v) × (ms' ≡ ms)). rw a.1 (e, marks-past ms v left xs a.0 g)) w

-- ---- so the two are one
gap_is : (k n : ℕ) (ms : List Bool) (xs : List ℕ) → n + k ≤ 257 → Marks ms [] xs → gap_in k n ms ≡ lowest k n xs
gap_is zero n ms xs h g = refl
gap_is (suc k) n ms xs h g =
    let m : get_or ms n false ≡ some_of (eqb n) xs = same (get_or ms n false) ∙ g n (omega arith) in
    rw m (ap (λ (r : ℕ). cond (some_of (eqb n) xs) r n) (gap_is k (suc n) ms xs (omega arith) g))
  where
    same : (m : Bool) → m ≡ cond m true false
    same true = refl
    same false = refl

pub gap-least : (n : ℕ) (ms : List Bool) (xs : List ℕ) → n ≤ 1 → Marks ms [] xs → gap n ms ≡ least n xs
gap-least n ms xs h g = go 256 refl
  where
    go : (k : ℕ) → k ≡ 256 → gap n ms ≡ least n xs
    go k e = sym (gap_from k n ms e) ∙ gap_is k n ms xs (omega arith) g ∙ least-from k n xs e
