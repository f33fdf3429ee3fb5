-- Create does to the store what it does to a plain list of files.
use Prim.Native.Nat.{◌+◌, ◌-◌, ◌<◌, suc, zero, ℕ, ◌≤◌}
use Rattle.std.specs.Prelude.{Option, Some, None}
use mathlib.Core.Bool.{cond, false, true}
use mathlib.Core.List.{List, [], map, ◌∷◌}
use mathlib.Core.Path.{◌≡◌, ap, refl, sym, ◌∙◌}
use native.Mathlib.Nat.{le_of_suc-le-suc, not-suc-le-zero}
use native.Mathlib.Omega.{arith}
use lib.Dec.{eqb, leb, ltb}
use lib.ListN.{get_or, length, length-set, set}
use lib.Seq.{get_or-set_other}
use borrow.Author.Tests.{eq-eqb, eqb-false, eqb-true, le-leb, le-ltb, lt-leb, lt-ltb, ltb-false, ltb-true, ne_eqb}
use Rattle.book.proofs.Kept.{table-shaped, with-file-shaped}
use Rattle.book.proofs.Tables.{free-at}
use Rattle.book.specs.Book.{Fits, Lawful, Shaped, created_at, entries_of, file_of, files_from, free_kind, is_made, kind, kind_of, no_kind, one_more, view_of}
use Rattle.book.specs.declared.Book.{Book}
use Rattle.book.specs.declared.Entry.{Entry}
use Rattle.book.specs.declared.Kind.{Kind}
use Rattle.file_commands.proofs.Rows.{limits-kept, no-records}
use Rattle.file_commands.specs.Erasing.{code_of_create, create_book, create_ids, create_of, made_book, made_ids, padded, right_shape}
use Rattle.files.specs.Coded.{Refused, result_code}
use Rattle.files.specs.Files.{File, Record, create, create_all, create_code, create_one, empty_file, free_id, insert, new_ids}
use Rattle.lists.proofs.ByPlace.{count_cut, count_set}
use Rattle.lists.proofs.Least.{least-is}
use Rattle.lists.proofs.Tests.{clash, positive, split}
use Rattle.lists.specs.ByPlace.{cut}
use Rattle.lists.specs.Lists.{All, count, some_of}
use Rattle.tapa.specs.Codes.{insufficient_resources, successful, unsupported_operation}

-- ---- the list of files
module _ (l : List Entry) (area : List ℕ) where
  front : (n m : ℕ) (ks : List Kind) (g : File) → g.id ≡ n → n < m → insert g (files_from m ks l area) ≡ g ∷ files_from m ks l area
  front n m [] g e h = refl
  front n m (k ∷ ks) g e h =
      split k.made (λ t. rw (t, lt-ltb g.id m (omega arith))) (λ t. rw t (front n (suc m) ks g e (omega arith)))

  pub files-insert : (n j : ℕ) (ks : List Kind) (k' : Kind) → k'.made ≡ true → j < length ks → (get_or ks j no_kind).made ≡ false
      → files_from n (set ks j k') l area ≡ insert (file_of (n + j) k' l area) (files_from n ks l area)
  files-insert n j [] k' y h t = absurd (not-suc-le-zero h)
  files-insert n zero (k ∷ ks) k' y h t =
      let e : n + 0 ≡ n = omega arith in
      rw (y, t) (sym (front (n + 0) (suc n) ks (file_of (n + 0) k' l area) refl (omega arith) ∙ ap (λ (m : ℕ). file_of m k' l area ∷ files_from (suc n) ks l area) e))
  files-insert n (suc j) (k ∷ ks) k' y h t =
      let e : n + suc j ≡ suc n + j = omega arith in
      let ih : files_from (suc n) (set ks j k') l area ≡ insert (file_of (n + suc j) k' l area) (files_from (suc n) ks l area) =
      files-insert (suc n) j ks k' y (le_of_suc-le-suc h) t ∙ ap (λ (m : ℕ). insert (file_of m k' l area) (files_from (suc n) ks l area)) (sym e) in
      split k.made (λ u. rw (u, le-ltb (n + suc j) n (omega arith)) (ap (λ (z : List File). file_of n k l area ∷ z) ih)) (λ u. rw u ih)

pub create-view : (b : Book) (area : List ℕ) (law : Lawful b area) (k r i : ℕ) → free_kind 0 b.kinds ≡ Some i
    → view_of (created_at b k r (Some i)).next area ≡ insert (empty_file (1 + i) k r) (view_of b area)
create-view b area law k r i e =
    let z = free-at b.kinds i e in
    let m : 1 + i ≡ suc i = omega arith in
    files-insert (entries_of b) area 1 i b.kinds (kind k r) refl z.inside z.free
    ∙ ap (λ (rs : List Record). insert (record { id = 1 + i; key_max = k; rec_max = r; records = rs }) (view_of b area)) (no-records b.kinds (1 + i) (entries_of b) area (ap (λ (j : ℕ). (kind_of b.kinds j).made) m ∙ z.free) law.fit)

-- ---- the law
fits_kept : (ks : List Kind) (i : ℕ) (k' : Kind) (l : List Entry) → (get_or ks i no_kind).made ≡ false → All (Fits ks) l → All (Fits (set ks i k')) l
fits_kept ks i k' [] t a = tt
fits_kept ks i k' (x ∷ l) t a =
    let f = a.0 in
    let e : get_or (set ks i k') (x.file - 1) no_kind ≡ get_or ks (x.file - 1) no_kind =
    get_or-set_other ks i (x.file - 1) k' no_kind (λ z. clash (get_or ks i no_kind).made (rw z at f.made) t) in
    (record { filed = f.filed; made = rw e f.made; slot = f.slot; key = rw e f.key; body = rw e f.body }, fits_kept ks i k' l t a.1)

pub create-law : (b : Book) (area : List ℕ) (law : Lawful b area) (k r i : ℕ) → k ≤ 255 → r ≤ 128 → free_kind 0 b.kinds ≡ Some i → Lawful (created_at b k r (Some i)).next area
create-law b area law k r i hk hr e =
    let z = free-at b.kinds i e in
    record {
      shape = table-shaped b law.shape (set b.kinds i (kind k r)) (length-set b.kinds i (kind k r) ∙ law.shape.files);
      limits = limits-kept b.kinds i (kind k r) (record { key = hk; body = hr }) law.limits;
      roomy = law.roomy;
      fit = fits_kept b.kinds i (kind k r) (entries_of b) z.free law.fit;
      apart = law.apart;
    }

-- ---- the lowest free identifier
module _ (l : List Entry) (area : List ℕ) where
  abbrev ids : ℕ → List Kind → List ℕ
  ids n ks = map (λ (g : File). g.id) (files_from n ks l area)

  pub files-long : (n : ℕ) (ks : List Kind) → length (files_from n ks l area) ≡ count is_made ks
  files-long n [] = refl
  files-long n (k ∷ ks) = split k.made (λ t. rw t (omega (arith, files-long (suc n) ks))) (λ t. rw t (omega (arith, files-long (suc n) ks)))

  id_below : (m n : ℕ) (ks : List Kind) → m < n → some_of (eqb m) (ids n ks) ≡ false
  id_below m n [] h = refl
  id_below m n (k ∷ ks) h =
      split k.made (λ t. rw (t, ne_eqb m n (λ e. omega arith)) (id_below m (suc n) ks (omega arith))) (λ t. rw t (id_below m (suc n) ks (omega arith)))

  id-in : (m n j : ℕ) (ks : List Kind) → m ≡ n + j → some_of (eqb m) (ids n ks) ≡ (get_or ks j no_kind).made
  id-in m n j [] e = refl
  id-in m n zero (k ∷ ks) e =
      let z : m ≡ n = omega arith in
      split k.made (λ t. rw (t, eq-eqb m n z)) (λ t. rw t (id_below m (suc n) ks (omega arith)))
  id-in m n (suc j) (k ∷ ks) e =
      split k.made (λ t. rw (t, ne_eqb m n (λ z. omega arith)) (id-in m (suc n) j ks (omega arith))) (λ t. rw t (id-in m (suc n) j ks (omega arith)))

-- below the free place all are made
pub free-below : (n k : ℕ) (ks : List Kind) → free_kind n ks ≡ Some (n + k) → (m : ℕ) → m < k → (get_or ks m no_kind).made ≡ true
free-below n k [] e m h = let z : ◌≡◌ {A = ℕ} 0 1 = cc in absurd (omega arith)
free-below n zero (x ∷ ks) e m h = absurd (not-suc-le-zero h)
free-below n (suc k) (x ∷ ks) e zero h =
    split x.made (λ t. t) (λ t. let f : Some n ≡ Some (n + suc k) = rw t at e in let z : n ≡ n + suc k = cc in absurd (omega arith))
free-below n (suc k) (x ∷ ks) e (suc m) h =
    split x.made
    (λ t. let f : free_kind (suc n) ks ≡ Some (n + suc k) = rw t at e in let z : n + suc k ≡ suc n + k = omega arith in free-below (suc n) k ks (f ∙ ap Some z) m (omega arith))
    (λ t. let f : Some n ≡ Some (n + suc k) = rw t at e in let z : n ≡ n + suc k = cc in absurd (omega arith))

pub full-none : (n : ℕ) (ks : List Kind) → free_kind n ks ≡ None → count is_made ks ≡ length ks
full-none n [] e = refl
full-none n (k ∷ ks) e =
    split k.made (λ t. rw t (omega (arith, full-none (suc n) ks (rw t at e))))
    (λ t. let f : Some n ≡ None = rw t at e in let z : ◌≡◌ {A = ℕ} 0 1 = cc in absurd (omega arith))

module _ (b : Book) (area : List ℕ) (law : Lawful b area) where
  abbrev xs : List ℕ
  xs = ids (entries_of b) area 1 b.kinds

  pub free-id-is : (i : ℕ) → free_kind 0 b.kinds ≡ Some i → free_id (view_of b area) ≡ 1 + i
  free-id-is i e =
      let z = free-at b.kinds i e in
      let up : i ≡ 0 + i = omega arith in
      least-is i 1 xs (omega (arith, z.inside, law.shape.files))
      (λ m h. id-in (entries_of b) area (1 + m) 1 m b.kinds refl ∙ free-below 0 i b.kinds (e ∙ ap Some up) m h)
      (id-in (entries_of b) area (1 + i) 1 i b.kinds refl ∙ z.free)

-- ---- one file more
pub made_more : (ks : List Kind) (k r i : ℕ) → i < length ks → (get_or ks i no_kind).made ≡ false → count is_made (set ks i (kind k r)) ≡ 1 + count is_made ks
made_more ks k r i h t =
    let c : count is_made ks ≡ 0 + count is_made (cut ks i) = rw t at (count_cut no_kind is_made ks i h) in
    omega (arith, count_set is_made ks i (kind k r) h)

-- an identifier of a file
abbrev pub Identifier : ℕ → Type 0
Identifier f = (1 ≤ f) × (f ≤ 16)

pub record More (b : Book) (area : List ℕ) (k r : ℕ) : Type 0 where
  pub id : (one_more b k r).id ≡ free_id (view_of b area)
  pub view : view_of (one_more b k r).next area ≡ create_one k r (view_of b area)
  pub lawful : Lawful (one_more b k r).next area
  pub held : count is_made (one_more b k r).next.kinds ≡ 1 + count is_made b.kinds
  pub among : Identifier (one_more b k r).id

more : (b : Book) (area : List ℕ) (law : Lawful b area) (k r : ℕ) → k ≤ 255 → r ≤ 128 → count is_made b.kinds < 16 → More b area k r
more b area law k r hk hr h = go (free_kind 0 b.kinds) refl
  where
    go : (z : Option ℕ) → free_kind 0 b.kinds ≡ z → More b area k r
    go None e = absurd (omega (arith, full-none 0 b.kinds e, law.shape.files))
    go (Some i) e =
        let z = free-at b.kinds i e in
        let n : free_id (view_of b area) ≡ 1 + i = free-id-is b area law i e in
        record {
          id = rw e ((let m : i + 1 ≡ 1 + i = omega arith in m) ∙ sym n);
          view = rw e (create-view b area law k r i e ∙ ap (λ (j : ℕ). insert (empty_file j k r) (view_of b area)) (sym n));
          lawful = rw e (create-law b area law k r i hk hr e);
          held = rw e (made_more b.kinds k r i z.inside z.free);
          among = rw e (omega arith, omega (arith, z.inside, law.shape.files));
        }

-- ---- all of them
pub record AllMade (n k r : ℕ) (b : Book) (area : List ℕ) : Type 0 where
  pub view : view_of (create_book n k r b) area ≡ create_all n k r (view_of b area)
  pub ids : create_ids n k r b ≡ new_ids n k r (view_of b area)
  pub lawful : Lawful (create_book n k r b) area
  pub among : All Identifier (create_ids n k r b)

pub all_made : (n k r : ℕ) (b : Book) (area : List ℕ) → Lawful b area → k ≤ 255 → r ≤ 128 → count is_made b.kinds + n ≤ 16 → AllMade n k r b area
all_made zero k r b area law hk hr h = record { view = refl; ids = refl; lawful = law; among = tt }
all_made (suc n) k r b area law hk hr h =
    let m = more b area law k r hk hr (omega arith) in
    let ih = all_made n k r (one_more b k r).next area m.lawful hk hr (omega (arith, m.held)) in
    record {
      view = ih.view ∙ ap (create_all n k r) m.view;
      ids = λ i. m.id i ∷ (ih.ids ∙ ap (new_ids n k r) m.view) i;
      lawful = ih.lawful;
      among = (m.among, ih.among);
    }

-- ---- the code is the shape's, then the room's
pub code_is : (b : Book) (area : List ℕ) (n r : ℕ) → code_of_create b n r ≡ cond (right_shape n r) (create_code (view_of b area) n) unsupported_operation
code_is b area n r =
    rw (files-long (entries_of b) area 1 b.kinds)
    (split (eqb n 0) (λ t. rw (t, le-ltb 0 n (omega (arith, eqb-true n 0 t))))
    (λ t.
    let y : ltb 0 n ≡ true = lt-ltb 0 n (positive n (eqb-false n 0 t)) in
    split (ltb 16 n) (λ u. rw (t, u, y, lt-leb n 16 (ltb-true 16 n u)))
    (λ u.
    let m : leb n 16 ≡ true = le-leb n 16 (ltb-false 16 n u) in
    split (ltb 128 r) (λ v. rw (t, u, v, y, m, lt-leb r 128 (ltb-true 128 r v))) (λ v. rw (t, u, v, y, m, le-leb r 128 (ltb-false 128 r v))))))

-- what a Create that succeeds was asked, and the room for it
pub record Room (b : Book) (n r : ℕ) : Type 0 where
  pub some : 1 ≤ n
  pub few : n ≤ 16
  pub short : r ≤ 128
  pub room : count is_made b.kinds + n ≤ 16

wrong : {P : Type 0} (code : ℕ) → 0 < code → code ≡ successful → P
wrong code h e = absurd (omega arith)

pub create-room : (b : Book) (n r : ℕ) → code_of_create b n r ≡ successful → Room b n r
create-room b n r e =
    split (eqb n 0) (λ t. wrong unsupported_operation (omega arith) (rw t at e))
    (λ t. split (ltb 16 n) (λ u. wrong unsupported_operation (omega arith) (rw (t, u) at e))
    (λ u. split (ltb 128 r) (λ v. wrong unsupported_operation (omega arith) (rw (t, u, v) at e))
    (λ v. split (ltb 16 (count is_made b.kinds + n)) (λ w. wrong insufficient_resources (omega arith) (rw (t, u, v, w) at e))
    (λ w. record { some = positive n (eqb-false n 0 t); few = ltb-false 16 n u; short = ltb-false 128 r v; room = ltb-false 16 (count is_made b.kinds + n) w }))))

-- ---- the command
module _ (b : Book) (area : List ℕ) (law : Lawful b area) (n k r : ℕ) (hk : k ≤ 255) where
  abbrev s : List File
  s = view_of b area

  -- a wrong shape changes nothing; else it is what a plain list of files does
  pub record CreateRight : Type 0 where
    pub code : result_code (create_of b n k r) ≡ cond (right_shape n r) (create_code s n) unsupported_operation
    pub view : view_of (made_book b (create_of b n k r)) area ≡ cond (right_shape n r) (create s n k r) s
    pub ids : made_ids (create_of b n k r) ≡ padded (cond (eqb (result_code (create_of b n k r)) successful) (new_ids n k r s) [])
    pub lawful : Lawful (made_book b (create_of b n k r)) area

  done : code_of_create b n r ≡ successful → CreateRight
  done c =
      let h = create-room b n r c in
      let a = all_made n k r b area law hk h.short h.room in
      let y : right_shape n r ≡ true = rw (lt-ltb 0 n h.some, le-leb n 16 h.few, le-leb r 128 h.short) in
      let z : create_code s n ≡ successful = sym (rw y at (code_is b area n r)) ∙ c in
      record { code = rw (c, y, z); view = rw (c, y, z) a.view; ids = rw c (ap padded a.ids); lawful = rw c a.lawful }

  refused : eqb (code_of_create b n r) successful ≡ false → CreateRight
  refused t =
      let c : result_code (create_of b n k r) ≡ cond (right_shape n r) (create_code s n) unsupported_operation = rw t (code_is b area n r) in
      record {
        code = c;
        view = rw t (split (right_shape n r) (λ y. let z : eqb (create_code s n) successful ≡ false = ap (λ (m : ℕ). eqb m successful) (sym (rw y at (code_is b area n r))) ∙ t in rw (y, z)) (λ y. rw y));
        ids = rw (t, t);
        lawful = rw t law;
      }

  pub create-right : CreateRight
  create-right = split (eqb (code_of_create b n r) successful) (λ t. done (eqb-true (code_of_create b n r) successful t)) refused

-- ---- of the book alone: `create` requires that it is shaped, and hands that back

books-shaped : (n k r : ℕ) (b : Book) → Shaped b → Shaped (create_book n k r b)
books-shaped zero k r b h = h
books-shaped (suc n) k r b h = books-shaped n k r (one_more b k r).next (with-file-shaped b h k r)

pub create-shaped : (b : Book) (n k r : ℕ) → Shaped b → Shaped (made_book b (create_of b n k r))
create-shaped b n k r h = split (eqb (code_of_create b n r) successful) (λ t. rw t (books-shaped n k r b h)) (λ t. rw t h)

pub create-fails : (b : Book) (n k r : ℕ) → Refused (create_of b n k r)
create-fails b n k r = split (eqb (code_of_create b n r) successful) (λ t. rw t tt) (λ t. rw t (eqb-false (code_of_create b n r) successful t))
