-- A search over all entries is a search in one file's records.
use Prim.Native.Nat.{◌+◌, ◌<◌, suc, zero, ℕ}
use Rattle.std.specs.Prelude.{Option, Some, None}
use mathlib.Core.Bool.{Bool, cond, false, true}
use mathlib.Core.List.{List, [], map, ◌∷◌}
use mathlib.Core.Path.{ap, refl, sym, ◌∙◌, ◌≡◌}
use native.Mathlib.Omega.{arith}
use lib.Dec.{eqb}
use lib.ListN.{drop, get_or, length-take, take}
use lib.Seq.{get_or-take}
use borrow.Author.Tests.{eqb-false, eqb-true, ne_eqb}
use Rattle.book.specs.Book.{in_file, meant, no_entry, pointer_at}
use Rattle.book.specs.declared.Entry.{Entry}
use Rattle.files.specs.Files.{Record, newest, pointer_of, seek, spot}
use Rattle.lists.proofs.ByPlace.{last-inside, place_inside}
use Rattle.lists.proofs.Tests.{clash, differ, split}
use Rattle.lists.specs.ByPlace.{is_at, last, later, place, turned_onto}
use Rattle.lists.specs.Lists.{All, count, keep, some_of, without}

-- ---- in one file
module _ (f : ℕ) (R : Entry → Record) where
  abbrev pub recs : List Entry → List Record
  recs l = map R (keep (in_file f) l)

  module _ (q' : Record → Bool) where
    abbrev pub both : Entry → Bool
    both x = cond (in_file f x) (q' (R x)) false

    pub some-place : (n : ℕ) (l : List Entry) → some_of q' (recs l) ≡ is_at (place both n l)
    some-place n [] = refl
    some-place n (x ∷ l) =
        split (in_file f x) (λ t. split (q' (R x)) (λ u. rw (t, u)) (λ u. rw (t, u) (some-place (suc n) l))) (λ t. rw t (some-place (suc n) l))

    pub both-parts : (x : Entry) → both x ≡ true → (x.file ≡ f) × (q' (R x) ≡ true)
    both-parts x e = split (in_file f x) (λ t. (eqb-true x.file f t, rw t at e)) (λ t. clash false (rw t at e) refl)

    pub count-both : (l : List Entry) → count q' (recs l) ≡ count both l
    count-both [] = refl
    count-both (x ∷ l) = split (in_file f x) (λ t. rw t (omega (arith, count-both l))) (λ t. rw t (omega (arith, count-both l)))

    pub drop-keep : (l : List Entry) → recs (without both l) ≡ without q' (recs l)
    drop-keep [] = refl
    drop-keep (x ∷ l) =
        split (in_file f x)
        (λ t. split (q' (R x)) (λ u. rw (t, u)) (λ u. rw (t, u, t) (ap (λ (z : List Record). R x ∷ z) (drop-keep l))))
        (λ t. rw (t, t) (drop-keep l))

    pub drop-other : (m : ℕ) → eqb m f ≡ false → (l : List Entry) → keep (in_file m) (without both l) ≡ keep (in_file m) l
    drop-other m h [] = refl
    drop-other m h (x ∷ l) =
        split (in_file f x)
        (λ t.
        let o : in_file m x ≡ false = ne_eqb x.file m (λ e. eqb-false m f h (sym e ∙ eqb-true x.file f t)) in
        split (q' (R x)) (λ u. rw (t, u, o)) (λ u. rw (t, u, o) (drop-other m h l)))
        (λ t. split (in_file m x) (λ u. rw (t, u) (ap (λ (z : List Entry). x ∷ z) (drop-other m h l))) (λ u. rw (t, u) (drop-other m h l)))

    pub seek-miss : (n : ℕ) (l : List Entry) (o : List Record) → place both n l ≡ None → seek q' o (recs l) ≡ None
    seek-miss n [] o e = refl
    seek-miss n (x ∷ l) o e =
        split (in_file f x)
        (λ t. split (q' (R x)) (λ u. differ (let g : Some n ≡ None = rw (t, u) at e in cc))
        (λ u. rw (t, u) (seek-miss (suc n) l (R x ∷ o) (rw (t, u) at e))))
        (λ t. rw t (seek-miss (suc n) l o (rw t at e)))

    seek-from : (n k : ℕ) (l o : List Entry) → place both n l ≡ Some (n + k)
        → seek q' (recs o) (recs l) ≡ spot (recs (turned_onto o (take k l))) (R (get_or l k no_entry)) (recs (drop (suc k) l))
    seek-from n k [] o e = differ (cc)
    seek-from n zero (x ∷ l) o e =
        split (in_file f x)
        (λ t. split (q' (R x)) (λ u. rw (t, u)) (λ u. absurd (omega (arith, (place_inside both (suc n) l (n + 0) (rw (t, u) at e)).0))))
        (λ t. absurd (omega (arith, (place_inside both (suc n) l (n + 0) (rw t at e)).0)))
    seek-from n (suc k) (x ∷ l) o e =
        let m : n + suc k ≡ suc n + k = omega arith in
        split (in_file f x)
        (λ t. split (q' (R x)) (λ u. let g : Some n ≡ Some (n + suc k) = rw (t, u) at e in let w : n ≡ n + suc k = cc in absurd (omega arith))
        (λ u. let g : place both (suc n) l ≡ Some (n + suc k) = rw (t, u) at e in
        let ih : seek q' (recs (x ∷ o)) (recs l) ≡ spot (recs (turned_onto (x ∷ o) (take k l))) (R (get_or l k no_entry)) (recs (drop (suc k) l)) = seek-from (suc n) k l (x ∷ o) (g ∙ ap Some m) in
        let ih' : seek q' (R x ∷ recs o) (recs l) ≡ spot (recs (turned_onto (x ∷ o) (take k l))) (R (get_or l k no_entry)) (recs (drop (suc k) l)) = rw t at ih in
        rw (t, u) ih'))
        (λ t. let g : place both (suc n) l ≡ Some (n + suc k) = rw t at e in
        let ih : seek q' (recs (x ∷ o)) (recs l) ≡ spot (recs (turned_onto (x ∷ o) (take k l))) (R (get_or l k no_entry)) (recs (drop (suc k) l)) = seek-from (suc n) k l (x ∷ o) (g ∙ ap Some m) in
        let ih' : seek q' (recs o) (recs l) ≡ spot (recs (turned_onto (x ∷ o) (take k l))) (R (get_or l k no_entry)) (recs (drop (suc k) l)) = rw t at ih in
        rw t ih')

    pub seek_hit : (l : List Entry) (k : ℕ) → place both 0 l ≡ Some k
        → seek q' [] (recs l) ≡ spot (recs (turned_onto [] (take k l))) (R (get_or l k no_entry)) (recs (drop (suc k) l))
    seek_hit l k e = seek-from 0 k l [] (e ∙ ap Some (let m : k ≡ 0 + k = omega arith in m))

  -- ---- what every record of the file has
  module _ (P : Record → Type 0) where
    pub all-recs : (Q : Entry → Type 0) → ((x : Entry) → x.file ≡ f → Q x → P (R x)) → (l : List Entry) → All Q l → All P (recs l)
    all-recs Q g [] a = tt
    all-recs Q g (x ∷ l) a =
        let ih = all-recs Q g l a.1 in
        split (in_file f x) (λ t. rw t (g x (eqb-true x.file f t) a.0, ih)) (λ t. rw t ih)

    pub recs-head : (x : Entry) (l : List Entry) → All P (recs (x ∷ l)) → in_file f x ≡ true → P (R x)
    recs-head x l a t = let b : All P (R x ∷ recs l) = rw t at a in b.0

    pub recs-tail : (x : Entry) (l : List Entry) → All P (recs (x ∷ l)) → All P (recs l)
    recs-tail x l a = split (in_file f x) (λ t. let b : All P (R x ∷ recs l) = rw t at a in b.1) (λ t. rw t at a)

  -- ---- the next one
  drop_head : (n : ℕ) (l m : List Entry) (x : Entry) → drop n l ≡ x ∷ m → (get_or l n no_entry ≡ x) × (drop (suc n) l ≡ m)
  drop_head n [] m x e = differ (let g : [] ≡ x ∷ m = none_left n ∙ e in cc)
    where
      none_left : (n : ℕ) → ◌≡◌ {A = List Entry} [] (drop n [])
      none_left zero = refl
      none_left (suc n) = refl
  drop_head zero (y ∷ l) m x e = (cc, cc)
  drop_head (suc n) (y ∷ l) m x e = drop_head n l m x e

  module _ (pt : (x : Entry) → (R x).pointer ≡ x.pointer) where
    pub next-pointer : (n : ℕ) (l m : List Entry) → drop n l ≡ m → pointer_of (recs m) ≡ pointer_at l (place (meant f 0) n m)
    next-pointer n l [] e = refl
    next-pointer n l (x ∷ m) e =
        let d = drop_head n l m x e in
        split (in_file f x) (λ t. rw t (pt x ∙ ap (λ (y : Entry). y.pointer) (sym d.0))) (λ t. rw t (next-pointer (suc n) l m d.1))

  -- ---- the last one
  last_none : (l o : List Entry) → last (in_file f) l ≡ None → keep (in_file f) (turned_onto o l) ≡ keep (in_file f) o
  last_none [] o e = refl
  last_none (x ∷ l) o e = go (last (in_file f) l) refl (last_none l (x ∷ o))
    where
      go : (z : Option ℕ) → last (in_file f) l ≡ z → (last (in_file f) l ≡ None → keep (in_file f) (turned_onto (x ∷ o) l) ≡ keep (in_file f) (x ∷ o)) → keep (in_file f) (turned_onto (x ∷ o) l) ≡ keep (in_file f) o
      go (Some j) h ih = differ (let g : Some (suc j) ≡ None = rw h at e in cc)
      go None h ih =
          split (in_file f x) (λ t. differ (let g : Some 0 ≡ None = rw (h, t) at e in cc))
          (λ t. ih h ∙ rw t)

  last_some : (l o : List Entry) (i : ℕ) → last (in_file f) l ≡ Some i → keep (in_file f) (turned_onto o l) ≡ get_or l i no_entry ∷ keep (in_file f) (turned_onto o (take i l))
  last_some [] o i e = differ (cc)
  last_some (x ∷ l) o i e = go (last (in_file f) l) refl i e (λ i. last_some l (x ∷ o) i)
    where
      go : (z : Option ℕ) → last (in_file f) l ≡ z → (i : ℕ) → later (last (in_file f) l) (in_file f x) ≡ Some i
          → ((i : ℕ) → last (in_file f) l ≡ Some i → keep (in_file f) (turned_onto (x ∷ o) l) ≡ get_or l i no_entry ∷ keep (in_file f) (turned_onto (x ∷ o) (take i l)))
          → keep (in_file f) (turned_onto (x ∷ o) l) ≡ get_or (x ∷ l) i no_entry ∷ keep (in_file f) (turned_onto o (take i (x ∷ l)))
      go (Some j) h zero e ih = let g : Some (suc j) ≡ Some 0 = rw h at e in let m : suc j ≡ 0 = cc in absurd (omega arith)
      go (Some j) h (suc i) e ih = let g : Some (suc j) ≡ Some (suc i) = rw h at e in let m : suc j ≡ suc i = cc in let m' : j ≡ i = omega arith in ih i (h ∙ ap Some m')
      go None h i e ih =
          split (in_file f x)
          (λ t. let g : Some 0 ≡ Some i = rw (h, t) at e in let m : 0 ≡ i = cc in last_none l (x ∷ o) h ∙ rw (← m, t))
          (λ t. differ (let g : None ≡ Some i = rw (h, t) at e in cc))

  module _ (pt : (x : Entry) → (R x).pointer ≡ x.pointer) where
    pub previous-pointer : (i : ℕ) (l : List Entry) → pointer_of (recs (turned_onto [] (take i l))) ≡ pointer_at l (last (in_file f) (take i l))
    previous-pointer i l = go (last (in_file f) (take i l)) refl
      where
        go : (z : Option ℕ) → last (in_file f) (take i l) ≡ z → pointer_of (recs (turned_onto [] (take i l))) ≡ pointer_at l z
        go None h = ap (λ (k : List Entry). pointer_of (map R k)) (last_none (take i l) [] h)
        go (Some j) h =
            let k : j < i = omega (arith, last-inside (in_file f) (take i l) j h, length-take i l) in
            ap (λ (k : List Entry). pointer_of (map R k)) (last_some (take i l) [] j h) ∙ pt (get_or (take i l) j no_entry) ∙ ap (λ (y : Entry). y.pointer) (get_or-take i l j no_entry k)

  -- ---- turned round
  onto-recs : (l o : List Entry) → turned_onto (recs o) (recs l) ≡ recs (turned_onto o l)
  onto-recs [] o = refl
  onto-recs (x ∷ l) o = split (in_file f x) (λ t. let ih : turned_onto (recs (x ∷ o)) (recs l) ≡ recs (turned_onto (x ∷ o) l) = onto-recs l (x ∷ o) in rw t (rw t at ih)) (λ t. let ih : turned_onto (recs (x ∷ o)) (recs l) ≡ recs (turned_onto (x ∷ o) l) = onto-recs l (x ∷ o) in rw t (rw t at ih))

  pub newest-none : (l : List Entry) → last (in_file f) l ≡ None → newest (turned_onto [] (recs l)) ≡ None
  newest-none l e = ap newest (onto-recs l [] ∙ ap (map R) (last_none l [] e))

  pub newest-some : (l : List Entry) (i : ℕ) → last (in_file f) l ≡ Some i → newest (turned_onto [] (recs l)) ≡ spot (recs (turned_onto [] (take i l))) (R (get_or l i no_entry)) []
  newest-some l i e = ap newest (onto-recs l [] ∙ ap (map R) (last_some l [] i e))
