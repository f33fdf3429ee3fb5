-- The files that a book and an area stand for: look-up, change, and what a written slot leaves as it was.
use Prim.Native.Nat.{◌+◌, ◌<◌, suc, zero, ℕ, ◌≤◌}
use Rattle.std.specs.Prelude.{Option, Some, None}
use mathlib.Core.Bool.{cond, false, true}
use mathlib.Core.List.{List, [], ◌∷◌}
use mathlib.Core.Path.{ap, refl, subst, ◌∙◌, ◌≡◌}
use native.Mathlib.Omega.{arith}
use lib.Dec.{eqb}
use lib.ListN.{get_or, length}
use borrow.Author.Tests.{eq-eqb, eqb-false, eqb-true, ne_eqb}
use Rattle.book.specs.Book.{file_of, files_from, in_file, in_slot, kind_of, no_kind, rec_in, rec_of, records_of}
use Rattle.book.specs.declared.Entry.{Entry}
use Rattle.book.specs.declared.Kind.{Kind}
use Rattle.files.specs.Files.{File, Record, change, look}
use Rattle.files.specs.Sound.{called}
use Rattle.lists.proofs.Tests.{differ, split}
use Rattle.lists.specs.Lists.{All, count}
use Rattle.slots.proofs.Slots.{window-other}
use Rattle.slots.specs.Slots.{put}

-- ---- a change in one file's records
module _ (h : List Record → List Record) (f : ℕ) (l l' : List Entry) (area area' : List ℕ)
    (e : (m : ℕ) → records_of area' m l' ≡ cond (eqb m f) (h (records_of area m l)) (records_of area m l)) where
  one-file : (n : ℕ) (k : Kind)
      → ◌≡◌ {A = File} (record { id = n; key_max = k.keymax; rec_max = k.recmax; records = records_of area' n l' })
      (cond (eqb n f) (record { id = n; key_max = k.keymax; rec_max = k.recmax; records = h (records_of area n l) })
      (record { id = n; key_max = k.keymax; rec_max = k.recmax; records = records_of area n l }))
  one-file n k =
      ap (λ (rs : List Record). record { id = n; key_max = k.keymax; rec_max = k.recmax; records = rs }) (e n)
      ∙ split (eqb n f) (λ t. rw t) (λ t. rw t)

  pub files-change : (n : ℕ) (ks : List Kind) → files_from n ks l' area' ≡ change h f (files_from n ks l area)
  files-change n [] = refl
  files-change n (k ∷ ks) =
      split k.made (λ t. rw t (λ i. one-file n k i ∷ files-change (suc n) ks i)) (λ t. rw t (files-change (suc n) ks))

-- ---- look-up
abbrev pub as_file : ℕ → Kind → List Entry → List ℕ → Option File
as_file n k l area = cond k.made (Some (file_of n k l area)) None

module _ (l : List Entry) (area : List ℕ) where
  look-below : (f n : ℕ) (ks : List Kind) → f < n → look f (files_from n ks l area) ≡ None
  look-below f n [] h = refl
  look-below f n (k ∷ ks) h =
      split k.made (λ t. rw (t, ne_eqb n f (λ e. omega arith)) (look-below f (suc n) ks (omega arith))) (λ t. rw t (look-below f (suc n) ks (omega arith)))

  look-from : (f n j : ℕ) (ks : List Kind) → f ≡ n + j → look f (files_from n ks l area) ≡ as_file f (get_or ks j no_kind) l area
  look-from f n j [] e = refl
  look-from f n zero (k ∷ ks) e =
      let m : n ≡ f = omega arith in
      split k.made (λ t. rw (t, eq-eqb n f m, m)) (λ t. rw t (look-below f (suc n) ks (omega arith)))
  look-from f n (suc j) (k ∷ ks) e =
      split k.made (λ t. rw (t, ne_eqb n f (λ m. omega arith)) (look-from f (suc n) j ks (omega arith))) (λ t. rw t (look-from f (suc n) j ks (omega arith)))

  pub look-view : (f : ℕ) (ks : List Kind) → look f (files_from 1 ks l area) ≡ as_file f (kind_of ks f) l area
  look-view zero ks = look-below 0 1 ks (omega arith)
  look-view (suc j) ks = look-from (suc j) 1 j ks (omega arith)

  pub look-made : (f : ℕ) (ks : List Kind) → (kind_of ks f).made ≡ true → look f (files_from 1 ks l area) ≡ Some (file_of f (kind_of ks f) l area)
  look-made f ks t = look-view f ks ∙ rw t

  pub look_none : (f : ℕ) (ks : List Kind) → (kind_of ks f).made ≡ false → look f (files_from 1 ks l area) ≡ None
  look_none f ks t = look-view f ks ∙ rw t

-- ---- what every file has
all-look : (P : File → Type 0) (f : ℕ) (s : List File) (g : File) → look f s ≡ Some g → All P s → P g
all-look P f [] g e a = differ (cc)
all-look P f (h ∷ s) g e a =
    split (called f h) (λ t. let k : Some h ≡ Some g = rw t at e in let m : h ≡ g = cc in subst P m a.0) (λ t. all-look P f s g (rw t at e) a.1)

module _ (l : List Entry) (area : List ℕ) where
  all_from : (P : File → Type 0) (n : ℕ) (ks : List Kind)
      → ((j m : ℕ) → m ≡ n + j → (get_or ks j no_kind).made ≡ true → P (file_of m (get_or ks j no_kind) l area)) → All P (files_from n ks l area)
  all_from P n [] g = tt
  all_from P n (k ∷ ks) g =
      let ih = all_from P (suc n) ks (λ j m e. g (suc j) m (omega arith)) in
      split k.made (λ t. rw t (g 0 n (omega arith) t, ih)) (λ t. rw t ih)

  -- what each file that is made has, every file of the view has, and the other way
  pub all-view : (P : File → Type 0) (ks : List Kind) → ((f : ℕ) → (kind_of ks f).made ≡ true → P (file_of f (kind_of ks f) l area))
      → All P (files_from 1 ks l area)
  all-view P ks g =
      all_from P 1 ks (λ j m e t. let y : suc j ≡ m = omega arith in subst (λ (f : ℕ). P (file_of f (get_or ks j no_kind) l area)) y (g (suc j) t))

  pub view-all : (P : File → Type 0) (ks : List Kind) → All P (files_from 1 ks l area)
      → (f : ℕ) → (kind_of ks f).made ≡ true → P (file_of f (kind_of ks f) l area)
  view-all P ks a f t = all-look P f (files_from 1 ks l area) (file_of f (kind_of ks f) l area) (look-made l area f ks t) a

  -- ---- identifiers rise, so none stands twice
  none_below : (f n : ℕ) (ks : List Kind) → f < n → count (called f) (files_from n ks l area) ≡ 0
  none_below f n [] h = refl
  none_below f n (k ∷ ks) h =
      let ih = none_below f (suc n) ks (omega arith) in
      split k.made (λ t. rw (t, ne_eqb n f (λ e. omega arith)) (omega arith)) (λ t. rw t ih)

  pub ids-once : (f n : ℕ) (ks : List Kind) → count (called f) (files_from n ks l area) ≤ 1
  ids-once f n [] = omega arith
  ids-once f n (k ∷ ks) =
      let ih = ids-once f (suc n) ks in
      split k.made
      (λ t. split (eqb n f) (λ u. rw (t, u) (omega (arith, none_below f (suc n) ks (omega (arith, eqb-true n f u))))) (λ u. rw (t, u) (omega arith)))
      (λ t. rw t ih)

-- ---- slots that do not touch
module _ (area xs : List ℕ) (s : ℕ) (long : length area ≡ 98048) (full : length xs ≡ 383) (small : s ≤ 255) where
  -- entries in other slots keep their records
  pub frame : (l : List Entry) (m : ℕ) → count (in_slot s) l ≡ 0 → records_of (put area s xs) m l ≡ records_of area m l
  frame [] m e = refl
  frame (x ∷ l) m e =
      split (in_slot s x) (λ t. let z : 1 + count (in_slot s) l ≡ 0 = rw t at e in absurd (omega arith))
      (λ t. let z : 0 + count (in_slot s) l ≡ 0 = rw t at e in
      let same : rec_of (put area s xs) x ≡ rec_of area x = ap (λ (w : List ℕ). rec_in w x) (window-other area xs s long full small x.slot (eqb-false x.slot s t)) in
      split (in_file m x) (λ u. rw u (λ i. same i ∷ frame l m (let y : count (in_slot s) l ≡ 0 = omega arith in y) i)) (λ u. rw u (frame l m (omega arith))))
