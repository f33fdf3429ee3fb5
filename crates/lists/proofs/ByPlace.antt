-- Laws of elements by their places, counted from the front: searches upwards and downwards, and a list with one element less, more, or another.
use Prim.Native.Nat.{◌+◌, ◌-◌, ◌<◌, suc, zero, ℕ, ◌≤◌}
use Rattle.std.specs.Prelude.{Option, Some, None}
use mathlib.Core.Bool.{Bool, cond, false, true}
use mathlib.Core.List.{◌++◌, List, [], ◌∷◌}
use mathlib.Core.Path.{ap, refl, sym, ◌∙◌, ◌≡◌}
use native.Mathlib.Nat.{le_of_suc-le-suc, not-suc-le-zero}
use native.Mathlib.Numerals.{add-one}
use native.Mathlib.Omega.{arith}
use lib.ListN.{drop, get_or, length, set, take}
use lib.Seq.{length-take-le, take-suc}
use Rattle.lists.proofs.Tests.{differ, or_no, split}
use Rattle.lists.specs.ByPlace.{cut, is_at, last, later, place}
use Rattle.lists.specs.Lists.{All, count, keep, one, some_of, without}

later-cond : (b c : Bool) (i : ℕ) (f : Option ℕ) → later (cond b (Some i) f) c ≡ cond b (Some (suc i)) (later f c)
later-cond true c i f = refl
later-cond false c i f = refl

-- ---- what a search found

module _ {A : Type 0} where
  pub place_inside : (q : A → Bool) (n : ℕ) (l : List A) (j : ℕ) → place q n l ≡ Some j → (n ≤ j) × (j < n + length l)
  place_inside q n [] j e = differ (cc)
  place_inside q n (x ∷ l) j e =
      split (q x) (λ t. let f : Some n ≡ Some j = rw t at e in let k : n ≡ j = cc in (omega arith, omega arith))
      (λ t. let ih = place_inside q (suc n) l j (rw t at e) in (omega (arith, ih.0), omega (arith, ih.1)))

  pub last-inside : (p : A → Bool) (l : List A) (i : ℕ) → last p l ≡ Some i → i < length l
  last-inside p l i e = within l i e
    where
      in-later : (f : Option ℕ) (b : Bool) (n : ℕ) → ((j : ℕ) → f ≡ Some j → j < n) → (i : ℕ) → later f b ≡ Some i → i < suc n
      in-later None true n h i e = let z : 0 ≡ i = cc in omega arith
      in-later None false n h i e = differ (cc)
      in-later (Some j) b n h i e = let z : suc j ≡ i = cc in omega (arith, h j refl)

      within : (l : List A) (i : ℕ) → last p l ≡ Some i → i < length l
      within [] i e = differ (cc)
      within (x ∷ l) i e = in-later (last p l) (p x) (length l) (within l) i e

  -- some element passes exactly where a search finds one
  some_is : (q : A → Bool) (n : ℕ) (l : List A) → some_of q l ≡ is_at (place q n l)
  some_is q n [] = refl
  some_is q n (x ∷ l) = split (q x) (λ t. rw t) (λ t. rw t (some_is q (suc n) l))

  -- ---- a search downwards

  last_snoc : (p : A → Bool) (l : List A) (x : A) → last p (l ++ x ∷ []) ≡ cond (p x) (Some (length l)) (last p l)
  last_snoc p [] x = refl
  last_snoc p (y ∷ l) x = rw (last_snoc p l x) (later-cond (p x) (p y) (length l) (last p l))

  -- ---- a list with one element more

  pub all_snoc : (P : A → Type 0) (l : List A) (x : A) → All P l → P x → All P (l ++ x ∷ [])
  all_snoc P [] x a p = (p, tt)
  all_snoc P (y ∷ l) x a p = (a.0, all_snoc P l x a.1 p)

  pub count-snoc : (q : A → Bool) (l : List A) (x : A) → count q (l ++ x ∷ []) ≡ count q l + one (q x)
  count-snoc q [] x = omega arith
  count-snoc q (y ∷ l) x = omega (arith, count-snoc q l x)

  -- ---- with another element at a place

  pub set_front : (a r : List A) (i : ℕ) (x : A) → i < length a → set (a ++ r) i x ≡ set a i x ++ r
  set_front [] r i x h = absurd (not-suc-le-zero h)
  set_front (y ∷ a) r zero x h = refl
  set_front (y ∷ a) r (suc i) x h = ap (λ (t : List A). y ∷ t) (set_front a r i x (le_of_suc-le-suc h))

  pub set_past : (l : List A) (i : ℕ) (x : A) → length l ≤ i → set l i x ≡ l
  set_past [] i x h = refl
  set_past (y ∷ l) zero x h = absurd (not-suc-le-zero h)
  set_past (y ∷ l) (suc i) x h = ap (λ (z : List A). y ∷ z) (set_past l i x (le_of_suc-le-suc h))

  pub all_set : (P : A → Type 0) (l : List A) (i : ℕ) (y : A) → All P l → P y → All P (set l i y)
  all_set P [] i y a p = tt
  all_set P (x ∷ l) zero y a p = (p, a.1)
  all_set P (x ∷ l) (suc i) y a p = (a.0, all_set P l i y a.1 p)

  pub count_set : (r : A → Bool) (l : List A) (i : ℕ) (y : A) → i < length l → count r (set l i y) ≡ one (r y) + count r (cut l i)
  count_set r [] i y h = absurd (not-suc-le-zero h)
  count_set r (x ∷ l) zero y h = refl
  count_set r (x ∷ l) (suc i) y h = omega (arith, count_set r l i y (le_of_suc-le-suc h))

  -- ---- without an element

  pub all-cut : (P : A → Type 0) (l : List A) (k : ℕ) → All P l → All P (cut l k)
  all-cut P [] k a = tt
  all-cut P (x ∷ l) zero a = a.1
  all-cut P (x ∷ l) (suc k) a = (a.0, all-cut P l k a.1)

  pub all_keep : (P : A → Type 0) (q : A → Bool) (l : List A) → All P l → All P (keep q l)
  all_keep P q [] a = tt
  all_keep P q (x ∷ l) a = split (q x) (λ t. rw t (a.0, all_keep P q l a.1)) (λ t. rw t (all_keep P q l a.1))

  pub few-keep : (q : A → Bool) (l : List A) → length (keep q l) ≤ length l
  few-keep q [] = omega arith
  few-keep q (x ∷ l) = split (q x) (λ t. rw t (omega (arith, few-keep q l))) (λ t. rw t (omega (arith, few-keep q l)))

  pub cut-past : (l : List A) (i : ℕ) → length l ≤ i → cut l i ≡ l
  cut-past [] i h = refl
  cut-past (x ∷ l) zero h = absurd (not-suc-le-zero h)
  cut-past (x ∷ l) (suc i) h = ap (λ (t : List A). x ∷ t) (cut-past l i (le_of_suc-le-suc h))

  pub cut-append : (a b : List A) (i : ℕ) → i < length a → cut (a ++ b) i ≡ cut a i ++ b
  cut-append [] b i h = absurd (not-suc-le-zero h)
  cut-append (x ∷ a) b zero h = refl
  cut-append (x ∷ a) b (suc i) h = ap (λ (t : List A). x ∷ t) (cut-append a b i (le_of_suc-le-suc h))

  pub length_cut : (l : List A) (i : ℕ) → i < length l → suc (length (cut l i)) ≡ length l
  length_cut [] i h = absurd (not-suc-le-zero h)
  length_cut (x ∷ l) zero h = refl
  length_cut (x ∷ l) (suc i) h = ap suc (length_cut l i (le_of_suc-le-suc h))

  pub few-cut : (l : List A) (i : ℕ) → length (cut l i) ≤ length l
  few-cut [] i = omega arith
  few-cut (x ∷ l) zero = omega arith
  few-cut (x ∷ l) (suc i) = omega (arith, few-cut l i)

  pub set-cut : (l : List A) (i : ℕ) (z : A) → i < length l → set l i z ≡ take i (cut l i) ++ z ∷ drop i (cut l i)
  set-cut [] i z h = absurd (not-suc-le-zero h)
  set-cut (x ∷ l) zero z h = refl
  set-cut (x ∷ l) (suc i) z h = ap (λ (t : List A). x ∷ t) (set-cut l i z (le_of_suc-le-suc h))

  -- ---- whether one passes that stands at another place

  none-else : (q : A → Bool) (k : ℕ) (l : List A) → some_of q l ≡ false → some_of q (cut l k) ≡ false
  none-else q k [] e = refl
  none-else q zero (x ∷ l) e = (or_no (q x) (some_of q l) e).1
  none-else q (suc k) (x ∷ l) e = let w = or_no (q x) (some_of q l) e in rw w.0 (none-else q k l w.1)

  some-else : (q : A → Bool) (n j k : ℕ) (l : List A) → place q n l ≡ Some j → (j ≡ n + k → ⊥) → some_of q (cut l k) ≡ true
  some-else q n j k [] e h = differ (cc)
  some-else q n j zero (x ∷ l) e h =
      split (q x) (λ t. let f : Some n ≡ Some j = rw t at e in let m : n ≡ j = cc in absurd (h (let z : j ≡ n + 0 = omega arith in z)))
      (λ t. let f : place q (suc n) l ≡ Some j = rw t at e in some_is q (suc n) l ∙ ap is_at f)
  some-else q n j (suc k) (x ∷ l) e h =
      split (q x) (λ t. rw t) (λ t. rw t (some-else q (suc n) j k l (rw t at e) (λ m. h (let z : j ≡ n + suc k = omega arith in z))))

  some-behind : (q : A → Bool) (n j k : ℕ) (l : List A) → place q n l ≡ Some j → j ≡ n + k → some_of q (cut l k) ≡ some_of q (drop (suc k) l)
  some-behind q n j k [] e h = differ (cc)
  some-behind q n j zero (x ∷ l) e h = refl
  some-behind q n j (suc k) (x ∷ l) e h =
      split (q x) (λ t. let f : Some n ≡ Some j = rw t at e in let m : n ≡ j = cc in absurd (omega arith)) (λ t. rw t (some-behind q (suc n) j k l (rw t at e) (omega arith)))

  -- no other where none passes
  pub other_none : (q : A → Bool) (k : ℕ) (l : List A) → place q 0 l ≡ None → is_at (place q 0 (cut l k)) ≡ false
  other_none q k l e = sym (some_is q 0 (cut l k)) ∙ none-else q k l (some_is q 0 l ∙ ap is_at e)

  -- the first that passes is another
  pub other-first : (q : A → Bool) (j k : ℕ) (l : List A) → place q 0 l ≡ Some j → (j ≡ k → ⊥) → is_at (place q 0 (cut l k)) ≡ true
  other-first q j k l e h = sym (some_is q 0 (cut l k)) ∙ some-else q 0 j k l e (λ m. h (let z : j ≡ k = omega arith in z))

  -- the first that passes is this one: another can only stand behind it
  pub other-behind : (q : A → Bool) (k : ℕ) (l : List A) → place q 0 l ≡ Some k → is_at (place q 0 (cut l k)) ≡ is_at (place q (k + 1) (drop (k + 1) l))
  other-behind q k l e =
      sym (some_is q 0 (cut l k)) ∙ some-behind q 0 k k l e (let m : k ≡ 0 + k = omega arith in m) ∙ ap (λ (n : ℕ). some_of q (drop n l)) (sym (add-one k)) ∙ some_is q (k + 1) (drop (k + 1) l)

-- ---- the same with an element that stands for what lies past the end

module _ {A : Type 0} (d : A) where
  pub all-at : (P : A → Type 0) (l : List A) (i : ℕ) → i < length l → All P l → P (get_or l i d)
  all-at P [] i h a = absurd (not-suc-le-zero h)
  all-at P (x ∷ l) zero h a = a.0
  all-at P (x ∷ l) (suc i) h a = all-at P l i (le_of_suc-le-suc h) a.1

  pub take_more : (l : List A) (i : ℕ) → i < length l → take (i + 1) l ≡ take i l ++ (get_or l i d ∷ [])
  take_more l i h = rw (add-one, take-suc l i d)

  last_step : (p : A → Bool) (l : List A) (i : ℕ) → 0 < i → i ≤ length l
      → last p (take i l) ≡ cond (p (get_or l (i - 1) d)) (Some (i - 1)) (last p (take (i - 1) l))
  last_step p l i h k =
      let e : i ≡ (i - 1) + 1 = omega arith in
      ap (λ (n : ℕ). last p (take n l)) e ∙ ap (last p) (take_more l (i - 1) (omega arith)) ∙ last_snoc p (take (i - 1) l) (get_or l (i - 1) d)
      ∙ ap (λ (n : ℕ). cond (p (get_or l (i - 1) d)) (Some n) (last p (take (i - 1) l))) (length-take-le (i - 1) l (omega arith))

  pub last-here : (p : A → Bool) (l : List A) (i : ℕ) → 0 < i → i ≤ length l → p (get_or l (i - 1) d) ≡ true → last p (take i l) ≡ Some (i - 1)
  last-here p l i h k t = last_step p l i h k ∙ rw t

  pub last-past : (p : A → Bool) (l : List A) (i : ℕ) → 0 < i → i ≤ length l → p (get_or l (i - 1) d) ≡ false → last p (take i l) ≡ last p (take (i - 1) l)
  last-past p l i h k t = last_step p l i h k ∙ rw t

  pub count_cut : (r : A → Bool) (l : List A) (k : ℕ) → k < length l → count r l ≡ one (r (get_or l k d)) + count r (cut l k)
  count_cut r [] k h = absurd (not-suc-le-zero h)
  count_cut r (x ∷ l) zero h = refl
  count_cut r (x ∷ l) (suc k) h = omega (arith, count_cut r l k (le_of_suc-le-suc h))

  cut-shift : (l : List A) (i : ℕ) → suc i < length l → cut (set l i (get_or l (suc i) d)) (suc i) ≡ cut l i
  cut-shift [] i h = absurd (not-suc-le-zero h)
  cut-shift (x ∷ []) zero h = absurd (not-suc-le-zero (le_of_suc-le-suc h))
  cut-shift (x ∷ y ∷ l) zero h = refl
  cut-shift (x ∷ l) (suc i) h = ap (λ (t : List A). x ∷ t) (cut-shift l i (le_of_suc-le-suc h))

  -- an element copied down one place
  pub cut_down : (l : List A) (i : ℕ) → i + 1 < length l → cut (set l i (get_or l (i + 1) d)) (i + 1) ≡ cut l i
  cut_down l i h = rw add-one (cut-shift l i (omega arith))

  -- ---- what was found, taken out, is the first that passes

  pub record Hit (q : A → Bool) (l : List A) (k : ℕ) : Type 0 where
    pub inside : k < length l
    pub passes : q (get_or l k d) ≡ true
    pub gone : cut l k ≡ without q l

  hit-from : (q : A → Bool) (n k : ℕ) (l : List A) → place q n l ≡ Some (n + k) → Hit q l k
  hit-from q n k [] e = differ (cc)
  hit-from q n zero (x ∷ l) e =
      split (q x) (λ t. record { inside = omega arith; passes = t; gone = sym (rw t) })
      (λ t. absurd (omega (arith, (place_inside q (suc n) l (n + 0) (rw t at e)).0)))
  hit-from q n (suc k) (x ∷ l) e =
      split (q x) (λ t. let f : Some n ≡ Some (n + suc k) = rw t at e in let m : n ≡ n + suc k = cc in absurd (omega arith))
      (λ t.
      let m : n + suc k ≡ suc n + k = omega arith in
      let f : place q (suc n) l ≡ Some (n + suc k) = rw t at e in
      let r = hit-from q (suc n) k l (f ∙ ap Some m) in
      record { inside = omega (arith, r.inside); passes = r.passes; gone = ap (λ (z : List A). x ∷ z) r.gone ∙ sym (rw t) })

  pub hit : (q : A → Bool) (l : List A) (k : ℕ) → place q 0 l ≡ Some k → Hit q l k
  hit q l k e = hit-from q 0 k l (e ∙ ap Some (let m : k ≡ 0 + k = omega arith in m))
