-- What the walk leaves: the slots that it wipes are empty, the others are as they were, and so are the files that the table still has.
use Prim.Native.Nat.{◌+◌, ◌-◌, suc, ℕ, ◌≤◌}
use mathlib.Core.Bool.{Bool, cond, false, true}
use mathlib.Core.List.{List, [], map, ◌∷◌}
use mathlib.Core.Logic.{inl, inr, ⊎_elim}
use mathlib.Core.Path.{ap, refl, sym, ◌∙◌, ◌≡◌}
use native.Mathlib.Omega.{arith}
use lib.Dec.{eqb}
use lib.ListN.{get_or, length}
use borrow.Author.Tests.{eqb-false, eqb-true, ne_eqb}
use Rattle.book.proofs.Laws.{holds, law-len, lawful-of}
use Rattle.book.proofs.Tables.{kind-some}
use Rattle.book.specs.Book.{Fits, Lawful, Limits, Shaped, book_of, entries_of, files_from, in_file, in_slot, kind_of, no_kind, rec_in, rec_of, records_of}
use Rattle.book.specs.declared.Book.{Book}
use Rattle.book.specs.declared.Entry.{Entry}
use Rattle.book.specs.declared.Kind.{Kind}
use Rattle.file_commands.specs.Erasing.{housed, swept_area, swept_book}
use Rattle.lists.proofs.ByPlace.{all_keep, few-keep}
use Rattle.lists.proofs.Counts.{count-apart, count-keep, count-zero}
use Rattle.lists.proofs.Kept.{keep-wider}
use Rattle.lists.proofs.Members.{in_count, in_kept}
use Rattle.lists.proofs.Tests.{clash, eqb_same, split}
use Rattle.lists.specs.Lists.{All, In, count, keep}
use Rattle.slots.proofs.Slots.{wiped-long, wiped-other, wiped-same}
use Rattle.slots.specs.Slots.{blank, window, wiped}

-- ---- the area
pub sweep-long : (ks : List Kind) (l : List Entry) (area : List ℕ) → length (swept_area ks l area) ≡ length area
sweep-long ks [] area = refl
sweep-long ks (x ∷ l) area =
    sweep-long ks l (cond (housed ks x) area (wiped area x.slot)) ∙ split (housed ks x) (λ t. rw t) (λ t. rw t (wiped-long area x.slot))

-- entries of a slot that go, and those that stay
abbrev lost : List Kind → ℕ → Entry → Bool
lost ks s x = cond (housed ks x) false (in_slot s x)

abbrev spared : List Kind → ℕ → Entry → Bool
spared ks s x = cond (housed ks x) (in_slot s x) false

-- a slot that no entry had that goes
untouched : (ks : List Kind) (s : ℕ) (l : List Entry) (area : List ℕ) → count (lost ks s) l ≡ 0 → window (swept_area ks l area) s ≡ window area s
untouched ks s [] area e = refl
untouched ks s (x ∷ l) area e =
    let z = count-zero (lost ks s) x l e in
    untouched ks s l (cond (housed ks x) area (wiped area x.slot)) z.1
    ∙ split (housed ks x) (λ t. rw t) (λ t. let u : in_slot s x ≡ false = rw t at z.0 in rw t (wiped-other area x.slot s (λ m. eqb-false x.slot s u (sym m))))

-- a slot that is empty
still-blank : (ks : List Kind) (s : ℕ) (l : List Entry) (area : List ℕ) → length area ≡ 98048 → s ≤ 255 → window area s ≡ blank → window (swept_area ks l area) s ≡ blank
still-blank ks s [] area long small e = e
still-blank ks s (x ∷ l) area long small e =
    split (housed ks x)
    (λ t. rw t (still-blank ks s l area long small e))
    (λ t. rw t (still-blank ks s l (wiped area x.slot) (wiped-long area x.slot ∙ long) small
    (split (eqb s x.slot) (λ u. let m : s ≡ x.slot = eqb-true s x.slot u in ap (λ (j : ℕ). window (wiped area j) s) (sym m) ∙ wiped-same area s long small)
    (λ u. wiped-other area x.slot s (eqb-false s x.slot u) ∙ e))))

-- the slot of an entry that goes
pub sweep-blank : (ks : List Kind) (x : Entry) (l : List Entry) (area : List ℕ) → In x l → housed ks x ≡ false → length area ≡ 98048 → x.slot ≤ 255
    → window (swept_area ks l area) x.slot ≡ blank
sweep-blank ks x [] area i t long small = absurd i
sweep-blank ks x (y ∷ l) area i t long small =
    ⊎_elim
    (λ (e : y ≡ x).
    let u : housed ks y ≡ false = ap (housed ks) e ∙ t in
    rw u (still-blank ks x.slot l (wiped area y.slot) (wiped-long area y.slot ∙ long) small
    (ap (λ (z : Entry). window (wiped area z.slot) x.slot) e ∙ wiped-same area x.slot long small)))
    (λ (m : In x l).
    sweep-blank ks x l (cond (housed ks y) area (wiped area y.slot)) m t (split (housed ks y) (λ u. rw u long) (λ u. rw u (wiped-long area y.slot ∙ long))) small)
    i

-- ---- the files that the table still has, where no two entries have the same slot
same-records : (area area' : List ℕ) (m : ℕ) (l : List Entry) → ((x : Entry) → In x l → window area' x.slot ≡ window area x.slot) → records_of area' m l ≡ records_of area m l
same-records area area' m [] e = refl
same-records area area' m (x ∷ l) e =
    let ih = same-records area area' m l (λ y i. e y (inr i)) in
    let one : rec_of area' x ≡ rec_of area x = ap (λ (w : List ℕ). rec_in w x) (e x (inl refl)) in
    split (in_file m x) (λ t. rw t (λ j. one j ∷ ih j)) (λ t. rw t ih)

module _ (l : List Entry) (area : List ℕ) (apart : (s : ℕ) → count (in_slot s) l ≤ 1) (ks : List Kind) where
  abbrev l' : List Entry
  l' = keep (housed ks) l

  abbrev area' : List ℕ
  area' = swept_area ks l area

  pub sweep-stays : (x : Entry) → In x l → housed ks x ≡ true → window area' x.slot ≡ window area x.slot
  sweep-stays x i t =
      let s : ℕ = x.slot in
      let here : spared ks s x ≡ true = rw (t, eqb_same x.slot) in
      let both = count-apart (spared ks s) (lost ks s) (in_slot s)
      (λ y e. split (housed ks y) (λ u. rw u at e) (λ u. clash false (rw u at e) refl))
      (λ y e. split (housed ks y) (λ u. clash false (rw u at e) refl) (λ u. (rw u, rw u at e))) l in
      untouched ks s l area (let z : count (lost ks s) l ≡ 0 = omega (arith, both, apart s, in_count (spared ks s) x l here i) in z)

  pub records-stay : (m : ℕ) → (kind_of ks m).made ≡ true → records_of area' m l' ≡ records_of area m l
  records-stay m t =
      same-records area area' m l' (λ x i. let z = in_kept (housed ks) x l i in sweep-stays x z.0 z.1)
      ∙ ap (map (rec_of area)) (keep-wider (in_file m) (housed ks) (λ x e. ap (λ (j : ℕ). (kind_of ks j).made) (eqb-true x.file m e) ∙ t) l)

  pub records-go : (m : ℕ) → (kind_of ks m).made ≡ false → records_of area' m l' ≡ []
  records-go m t = ap (map (rec_of area')) (none l)
    where
      none : (l : List Entry) → keep (in_file m) (keep (housed ks) l) ≡ []
      none [] = refl
      none (x ∷ l) =
          split (housed ks x)
          (λ u. rw (u, ne_eqb x.file m (λ e. clash (kind_of ks m).made (ap (λ (j : ℕ). (kind_of ks j).made) (sym e) ∙ u) t)) (none l))
          (λ u. rw u (none l))

  files-same : (n : ℕ) (rows : List Kind) → ((j m : ℕ) → m ≡ n + j → (get_or rows j no_kind).made ≡ true → records_of area' m l' ≡ records_of area m l)
      → files_from n rows l' area' ≡ files_from n rows l area
  files-same n [] e = refl
  files-same n (k ∷ rows) e =
      let ih = files-same (suc n) rows (λ j m z. e (suc j) m (omega arith)) in
      split k.made
      (λ t. rw t (λ i. record { id = n; key_max = k.keymax; rec_max = k.recmax; records = e 0 n (omega arith) t i } ∷ ih i))
      (λ t. rw t ih)

  -- the walk does not change them
  pub sweep-view : files_from 1 ks l' area' ≡ files_from 1 ks l area
  sweep-view = files-same 1 ks (λ j m z t. let y : m ≡ suc j = omega arith in records-stay m (ap (λ (i : ℕ). (kind_of ks i).made) y ∙ t))

-- ---- the law
fits-left : (ks ks' : List Kind) → ((m : ℕ) → (kind_of ks' m).made ≡ true → kind_of ks' m ≡ kind_of ks m) → (l : List Entry) → All (Fits ks) l → All (Fits ks') (keep (housed ks') l)
fits-left ks ks' same [] a = tt
fits-left ks ks' same (x ∷ l) a =
    split (housed ks' x)
    (λ t.
    let f = a.0 in
    let some : x.file ≡ 0 → ⊥ = (λ e. omega (arith, f.filed)) in
    let e : get_or ks' (x.file - 1) no_kind ≡ get_or ks (x.file - 1) no_kind =
    kind-some ks' x.file x.file refl some ∙ same x.file t ∙ sym (kind-some ks x.file x.file refl some) in
    rw t (record { filed = f.filed; made = rw e f.made; slot = f.slot; key = rw e f.key; body = rw e f.body }, fits-left ks ks' same l a.1))
    (λ t. rw t (fits-left ks ks' same l a.1))

pub shaped-swept : (b : Book) → Shaped b → Shaped (swept_book b)
shaped-swept b h =
    let l : List Entry = keep (housed b.kinds) (entries_of b) in
    record {
      few = omega (arith, few-keep (housed b.kinds) (entries_of b), law-len b h, h.few);
      whole = ap (book_of b.kinds) (sym (holds b.kinds l));
      files = h.files;
    }

module _ (b : Book) (area : List ℕ) (law : Lawful b area) (ks : List Kind) where
  -- any table that the entries left fit, its own limits kept
  swept-lawful : (rows : List Kind) → length rows ≡ 16 → All Limits rows → All (Fits rows) (keep (housed ks) (entries_of b))
      → Lawful (book_of rows (keep (housed ks) (entries_of b))) (swept_area ks (entries_of b) area)
  swept-lawful rows e limits fit =
      lawful-of rows (keep (housed ks) (entries_of b)) (swept_area ks (entries_of b) area)
      (omega (arith, few-keep (housed ks) (entries_of b), law-len b law.shape, law.shape.few)) e limits (sweep-long ks (entries_of b) area ∙ law.roomy) fit
      (λ s. omega (arith, law.apart s, count-keep (in_slot s) (housed ks) (entries_of b)))

  -- the table that is left
  pub left-lawful : length ks ≡ 16 → All Limits ks → ((m : ℕ) → (kind_of ks m).made ≡ true → kind_of ks m ≡ kind_of b.kinds m)
      → Lawful (book_of ks (keep (housed ks) (entries_of b))) (swept_area ks (entries_of b) area)
  left-lawful e limits same = swept-lawful ks e limits (fits-left b.kinds ks same (entries_of b) law.fit)

  -- the table that was there
  pub back-lawful : Lawful (book_of b.kinds (keep (housed ks) (entries_of b))) (swept_area ks (entries_of b) area)
  back-lawful = swept-lawful b.kinds law.shape.files law.limits (all_keep (Fits b.kinds) (housed ks) (entries_of b) law.fit)
