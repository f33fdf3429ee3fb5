-- The table of files: another row in it, and some rows taken out of it.
use Prim.Native.Nat.{◌+◌, ◌<◌, suc, zero, ℕ}
use mathlib.Core.Bool.{Bool, cond, false, not, true}
use mathlib.Core.List.{List, [], ◌∷◌}
use mathlib.Core.Path.{ap, refl, sym, ◌∙◌, ◌≡◌}
use native.Mathlib.Omega.{arith}
use lib.Dec.{eqb}
use lib.ListN.{get_or, length, set}
use lib.Seq.{get_or-set_other}
use borrow.Author.Tests.{eq-eqb, eqb-false, eqb-true, ne_eqb}
use Rattle.book.proofs.Tables.{kind-some, row-long}
use Rattle.book.proofs.Views.{look-view}
use Rattle.book.specs.Book.{Fits, Limits, entries_of, file_of, files_from, in_file, kind_of, no_kind, records_of, view_of, with_kind}
use Rattle.book.specs.declared.Book.{Book}
use Rattle.book.specs.declared.Entry.{Entry}
use Rattle.book.specs.declared.Kind.{Kind}
use Rattle.file_commands.specs.Erasing.{all_known, housed, unmake, unmake_all}
use Rattle.files.specs.Files.{File, has, has_file, not_of, twice}
use Rattle.lists.proofs.ByPlace.{all_set}
use Rattle.lists.proofs.Tests.{clash, eqb-turn, split}
use Rattle.lists.specs.Lists.{All, keep, some_of}

-- ---- a book with another table

pub limits-kept : (ks : List Kind) (i : ℕ) (k' : Kind) → Limits k' → All Limits ks → All Limits (set ks i k')
limits-kept ks i k' h a = all_set Limits ks i k' a h

-- ---- entries and rows

-- an entry of a lawful book is of a file that is made
pub fits-housed : (ks : List Kind) (x : Entry) → Fits ks x → housed ks x ≡ true
fits-housed ks x f = ap (λ (k : Kind). k.made) (sym (kind-some ks x.file x.file refl (λ e. absurd (omega (arith, f.filed))))) ∙ f.made

-- so a file that is not made has no records
pub no-records : (ks : List Kind) (m : ℕ) (l : List Entry) (area : List ℕ) → (kind_of ks m).made ≡ false → All (Fits ks) l → records_of area m l ≡ []
no-records ks m [] area t a = refl
no-records ks m (x ∷ l) area t a =
    let o : in_file m x ≡ false = ne_eqb x.file m (λ e. clash (kind_of ks m).made (ap (λ (j : ℕ). (kind_of ks j).made) (sym e) ∙ fits-housed ks x a.0) t) in
    rw o (no-records ks m l area t a.1)

-- ---- one row taken out

gone_at : (ks : List Kind) (n : ℕ) → get_or (set ks n no_kind) n no_kind ≡ no_kind
gone_at [] n = refl
gone_at (k ∷ ks) zero = refl
gone_at (k ∷ ks) (suc n) = gone_at ks n

pub kind-unmade : (ks : List Kind) (f g : ℕ) → kind_of (unmake ks f) g ≡ cond (eqb f g) no_kind (kind_of ks g)
kind-unmade ks f zero = split (eqb f 0) (λ t. rw t) (λ t. rw t)
kind-unmade ks zero (suc m) = rw (ne_eqb 0 (suc m) (λ e. omega arith))
kind-unmade ks (suc n) (suc m) =
    split (eqb (suc n) (suc m))
    (λ t. let e : n ≡ m = (let z = eqb-true (suc n) (suc m) t in omega arith) in rw t (ap (λ (j : ℕ). get_or (set ks n no_kind) j no_kind) (sym e) ∙ gone_at ks n))
    (λ t. rw t (get_or-set_other ks n m no_kind no_kind (λ e. eqb-false (suc n) (suc m) t (let z : suc n ≡ suc m = omega arith in z))))

pub made-unmade : (ks : List Kind) (f g : ℕ) → (kind_of (unmake ks f) g).made ≡ cond (eqb f g) false (kind_of ks g).made
made-unmade ks f g = ap (λ (k : Kind). k.made) (kind-unmade ks f g) ∙ split (eqb f g) (λ t. rw t) (λ t. rw t)

-- a row that was taken out, and stands again
pub put_back : (ks : List Kind) (f : ℕ) → with_kind (unmake ks f) f (kind_of ks f) ≡ ks
put_back ks zero = refl
put_back ks (suc n) = again ks n
  where
    again : (ks : List Kind) (n : ℕ) → set (set ks n no_kind) n (get_or ks n no_kind) ≡ ks
    again [] n = refl
    again (k ∷ ks) zero = refl
    again (k ∷ ks) (suc n) = ap (λ (z : List Kind). k ∷ z) (again ks n)

pub limits-left : (ks : List Kind) (f : ℕ) → All Limits ks → All Limits (unmake ks f)
limits-left ks zero a = a
limits-left ks (suc n) a = limits-kept ks n no_kind (record { key = omega arith; body = omega arith }) a

-- a file that is left has the row that it had
pub row-left : (ks : List Kind) (f m : ℕ) → (kind_of (unmake ks f) m).made ≡ true → kind_of (unmake ks f) m ≡ kind_of ks m
row-left ks f m e =
    split (eqb f m) (λ t. clash (kind_of (unmake ks f) m).made e (made-unmade ks f m ∙ rw t)) (λ t. kind-unmade ks f m ∙ rw t)

-- ---- all of them taken out

pub rows_long : (ks : List Kind) (fs : List ℕ) → length (unmake_all ks fs) ≡ length ks
rows_long ks [] = refl
rows_long ks (f ∷ fs) = rows_long (unmake ks f) fs ∙ row-long ks f no_kind

pub limits-all-left : (ks : List Kind) (fs : List ℕ) → All Limits ks → All Limits (unmake_all ks fs)
limits-all-left ks [] a = a
limits-all-left ks (f ∷ fs) a = limits-all-left (unmake ks f) fs (limits-left ks f a)

pub rows_left : (ks : List Kind) (fs : List ℕ) (m : ℕ) → (kind_of (unmake_all ks fs) m).made ≡ true → kind_of (unmake_all ks fs) m ≡ kind_of ks m
rows_left ks [] m e = refl
rows_left ks (f ∷ fs) m e =
    let z = rows_left (unmake ks f) fs m e in
    z ∙ row-left ks f m (ap (λ (k : Kind). k.made) (sym z) ∙ e)

pub made-left : (ks : List Kind) (fs : List ℕ) (m : ℕ) → (kind_of (unmake_all ks fs) m).made ≡ cond (some_of (eqb m) fs) false (kind_of ks m).made
made-left ks [] m = refl
made-left ks (f ∷ fs) m =
    made-left (unmake ks f) fs m
    ∙ rw (made-unmade ks f m, eqb-turn f m) (split (eqb m f) (λ t. rw t (split (some_of (eqb m) fs) (λ u. rw u) (λ u. rw u))) (λ t. rw t))

-- ---- the list of files without them
abbrev other : ℕ → File → Bool
other f g = not (eqb g.id f)

module _ (l : List Entry) (area : List ℕ) where
  keep-above : (f n : ℕ) (ks : List Kind) → f < n → keep (other f) (files_from n ks l area) ≡ files_from n ks l area
  keep-above f n [] h = refl
  keep-above f n (k ∷ ks) h =
      split k.made
      (λ t. rw (t, ne_eqb n f (λ e. omega arith)) (ap (λ (z : List File). file_of n k l area ∷ z) (keep-above f (suc n) ks (omega arith))))
      (λ t. rw t (keep-above f (suc n) ks (omega arith)))

  files-without : (n j f : ℕ) (ks : List Kind) → f ≡ n + j → files_from n (set ks j no_kind) l area ≡ keep (other f) (files_from n ks l area)
  files-without n j f [] e = refl
  files-without n zero f (k ∷ ks) e =
      let m : n ≡ f = omega arith in
      let a = keep-above f (suc n) ks (omega arith) in
      split k.made (λ t. rw (t, eq-eqb n f m) (sym a)) (λ t. rw t (sym a))
  files-without n (suc j) f (k ∷ ks) e =
      let ih = files-without (suc n) j f ks (omega arith) in
      split k.made (λ t. rw (t, ne_eqb n f (λ m. omega arith)) (ap (λ (z : List File). file_of n k l area ∷ z) ih)) (λ t. rw t ih)

  file-left : (f : ℕ) (ks : List Kind) → files_from 1 (unmake ks f) l area ≡ keep (other f) (files_from 1 ks l area)
  file-left zero ks = sym (keep-above 0 1 ks (omega arith))
  file-left (suc n) ks = files-without 1 n (suc n) ks (omega arith)

  keep-both : (f : ℕ) (fs : List ℕ) (s : List File) → keep (not_of fs) (keep (other f) s) ≡ keep (not_of (f ∷ fs)) s
  keep-both f fs [] = refl
  keep-both f fs (g ∷ s) =
      split (eqb g.id f) (λ t. rw t (keep-both f fs s))
      (λ t. split (some_of (eqb g.id) fs) (λ u. rw (t, u) (keep-both f fs s)) (λ u. rw (t, u) (ap (λ (z : List File). g ∷ z) (keep-both f fs s))))

  keep-every : (s : List File) → keep (not_of []) s ≡ s
  keep-every [] = refl
  keep-every (g ∷ s) = ap (λ (z : List File). g ∷ z) (keep-every s)

  pub files-left : (fs : List ℕ) (ks : List Kind) → files_from 1 (unmake_all ks fs) l area ≡ keep (not_of fs) (files_from 1 ks l area)
  files-left [] ks = sym (keep-every (files_from 1 ks l area))
  files-left (f ∷ fs) ks = files-left fs (unmake ks f) ∙ ap (keep (not_of fs)) (file-left f ks) ∙ keep-both f fs (files_from 1 ks l area)

-- ---- the check along the way is the list's two: none is unknown, and none comes twice
abbrev pub unknown : List Kind → ℕ → Bool
unknown ks f = not (kind_of ks f).made

some-unmade : (ks : List Kind) (f : ℕ) (fs : List ℕ) → some_of (unknown (unmake ks f)) fs ≡ cond (some_of (eqb f) fs) true (some_of (unknown ks) fs)
some-unmade ks f [] = refl
some-unmade ks f (g ∷ fs) =
    split (eqb f g)
    (λ t. let k : (kind_of (unmake ks f) g).made ≡ false = made-unmade ks f g ∙ rw t in rw (k, t))
    (λ t. let k : (kind_of (unmake ks f) g).made ≡ (kind_of ks g).made = made-unmade ks f g ∙ rw t in
    split (kind_of ks g).made (λ u. rw (k, t, u) (some-unmade ks f fs)) (λ u. rw (k, t, u) (split (some_of (eqb f) fs) (λ v. rw v) (λ v. rw v))))

pub known_is : (ks : List Kind) (fs : List ℕ) → all_known ks fs ≡ cond (some_of (unknown ks) fs) false (not (twice fs))
known_is ks [] = refl
known_is ks (f ∷ fs) =
    split (kind_of ks f).made
    (λ t. rw t (known_is (unmake ks f) fs ∙ rw (some-unmade ks f fs)
    (split (some_of (eqb f) fs) (λ u. rw u (split (some_of (unknown ks) fs) (λ v. rw v) (λ v. rw v))) (λ u. rw u))))
    (λ t. rw t)

pub has-is : (b : Book) (area : List ℕ) (f : ℕ) → has (view_of b area) f ≡ (kind_of b.kinds f).made
has-is b area f = ap has_file (look-view (entries_of b) area f b.kinds) ∙ split (kind_of b.kinds f).made (λ t. rw t) (λ t. rw t)
