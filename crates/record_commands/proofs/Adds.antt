-- Add does to the store what it does to a plain list of files, and keeps the law. There is room exactly while fewer than 256 records are held.
use Prim.Native.Nat.{◌+◌, ◌-◌, ◌<◌, suc, zero, ℕ, ◌≤◌}
use Rattle.std.specs.Prelude.{Option, Some}
use mathlib.Core.Bool.{cond, false, true}
use mathlib.Core.List.{◌++◌, List, [], append-nil, map, ◌∷◌}
use mathlib.Core.Path.{ap, refl, sym, ◌∙◌, ◌≡◌}
use native.Mathlib.Omega.{arith}
use lib.Dec.{eqb, ltb}
use lib.ListN.{get_or, length, length-append, length-map}
use borrow.Author.Tests.{eq-eqb, eqb-false, eqb-true, le-ltb, ne_eqb}
use Rattle.book.proofs.Laws.{holds, law-len, lawful-of, slots-long}
use Rattle.book.proofs.Searches.{some-place}
use Rattle.book.proofs.Tables.{made_row}
use Rattle.book.proofs.Views.{files-change, frame, look-made, look_none}
use Rattle.book.specs.Book.{Fits, Lawful, book_of, entries_of, file_of, files_from, in_file, in_slot, kind_of, no_kind, pointers_of, rec_of, records_of, slots_of, view_of}
use Rattle.book.specs.declared.Book.{Book}
use Rattle.book.specs.declared.Entry.{Entry}
use Rattle.book.specs.declared.Kind.{Kind}
use Rattle.files.specs.Coded.{Refused, result_code}
use Rattle.files.specs.Files.{File, Record, add, add_code, add_code_in, add_pointer, change, free_in, free_pointer, held, keyed, look, with_record}
use Rattle.lists.proofs.ByPlace.{all_snoc, count-snoc, few-keep}
use Rattle.lists.proofs.Least.{count-free, least-free, least-ge, least-le, least-low}
use Rattle.lists.proofs.Tests.{clash, split}
use Rattle.lists.specs.Least.{least}
use Rattle.lists.specs.Lists.{All, count, keep, one}
use Rattle.record_commands.proofs.Steps.{AddFit, add_fit, lengths-add, new-record, slot-add}
use Rattle.record_commands.specs.Records.{add_area, add_of, added_book, added_pointer, code_of_add, new_entry}
use Rattle.record_commands.specs.Room.{RoomAdd}
use Rattle.slots.proofs.Slots.{full-long, put-long}
use Rattle.slots.specs.Slots.{put, slot_of}
use Rattle.tapa.specs.Codes.{successful}

-- ---- the number of records held
abbrev hit_in : ℕ → List Kind → Entry → ℕ
hit_in n [] x = 0
hit_in n (k ∷ ks) x = cond k.made (one (in_file n x)) 0 + hit_in (suc n) ks x

hit-below : (n : ℕ) (ks : List Kind) (x : Entry) → x.file < n → hit_in n ks x ≡ 0
hit-below n [] x h = refl
hit-below n (k ∷ ks) x h =
    let e : in_file n x ≡ false = ne_eqb x.file n (λ z. omega arith) in
    split k.made (λ t. rw (t, e) (omega (arith, hit-below (suc n) ks x (omega arith)))) (λ t. rw t (omega (arith, hit-below (suc n) ks x (omega arith))))

hit-at : (n j : ℕ) (ks : List Kind) (x : Entry) → x.file ≡ n + j → (get_or ks j no_kind).made ≡ true → hit_in n ks x ≡ 1
hit-at n j [] x e t = clash false t refl
hit-at n zero (k ∷ ks) x e t =
    rw (t, eq-eqb x.file n (let z : x.file ≡ n = omega arith in z)) (omega (arith, hit-below (suc n) ks x (omega arith)))
hit-at n (suc j) (k ∷ ks) x e t =
    let o : in_file n x ≡ false = ne_eqb x.file n (λ z. omega arith) in
    let ih = hit-at (suc n) j ks x (omega arith) t in
    split k.made (λ u. rw (u, o) (omega arith)) (λ u. rw u (omega arith))

held-nil : (n : ℕ) (ks : List Kind) (area : List ℕ) → held (files_from n ks [] area) ≡ 0
held-nil n [] area = refl
held-nil n (k ∷ ks) area = split k.made (λ t. rw t (omega (arith, held-nil (suc n) ks area))) (λ t. rw t (held-nil (suc n) ks area))

held_cons : (n : ℕ) (ks : List Kind) (x : Entry) (l : List Entry) (area : List ℕ) → held (files_from n ks (x ∷ l) area) ≡ hit_in n ks x + held (files_from n ks l area)
held_cons n [] x l area = refl
held_cons n (k ∷ ks) x l area =
    let ih = held_cons (suc n) ks x l area in
    split k.made
    (λ t. split (in_file n x) (λ u. rw (t, u) (omega arith)) (λ u. rw (t, u) (omega arith)))
    (λ t. rw t (omega arith))

pub held-view : (ks : List Kind) (l : List Entry) (area : List ℕ) → All (Fits ks) l → held (files_from 1 ks l area) ≡ length l
held-view ks [] area a = held-nil 1 ks area
held-view ks (x ∷ l) area a =
    let z : hit_in 1 ks x ≡ 1 = hit-at 1 (x.file - 1) ks x (omega (arith, a.0.filed)) a.0.made in
    omega (arith, held_cons 1 ks x l area, held-view ks l area a.1)

-- ---- lists with one entry more
records-snoc : (area : List ℕ) (m : ℕ) (l : List Entry) (x : Entry) → records_of area m (l ++ x ∷ []) ≡ records_of area m l ++ records_of area m (x ∷ [])
records-snoc area m [] x = refl
records-snoc area m (y ∷ l) x = split (in_file m y) (λ t. rw t (ap (λ (z : List Record). rec_of area y ∷ z) (records-snoc area m l x))) (λ t. rw t (records-snoc area m l x))

pointers-are : (area : List ℕ) (f : ℕ) (l : List Entry) → map (λ (r : Record). r.pointer) (records_of area f l) ≡ pointers_of f l
pointers-are area f [] = refl
pointers-are area f (x ∷ l) = split (in_file f x) (λ t. rw t (ap (λ (z : List ℕ). x.pointer ∷ z) (pointers-are area f l))) (λ t. rw t (pointers-are area f l))

-- ---- Add
module _ (b : Book) (area : List ℕ) (law : Lawful b area) (f : ℕ) (key d : List ℕ) where
  pub held-is : held (view_of b area) ≡ length (entries_of b)
  held-is = held-view b.kinds (entries_of b) area law.fit

  add-code-is : code_of_add b area f key d ≡ add_code (view_of b area) f key d
  add-code-is =
      let k = kind_of b.kinds f in
      split k.made
      (λ t. rw (look-made (entries_of b) area f b.kinds t, some-place f (rec_of area) (keyed key) 0 (entries_of b), held-is)
      (split (ltb k.recmax (length d)) (λ u. rw (t, u)) (λ u. split (ltb k.keymax (length key)) (λ v. rw (t, u, v)) (λ v. rw (t, u, v)))))
      (λ t. rw (look_none (entries_of b) area f b.kinds t, t))

  module _ (e : code_of_add b area f key d ≡ successful) where
    abbrev x : Entry
    x = new_entry b f key d

    abbrev area' : List ℕ
    area' = put area x.slot (slot_of key d)

    fit : AddFit b f key d
    fit = add_fit b area f key d e

    small : x.slot ≤ 255
    small = slot-add b area f key d law e

    full : length (slot_of key d) ≡ 383
    full = let n = lengths-add b area f key d law e in full-long key d n.0 n.1

    -- the free slot is free: fewer than 256 entries cannot have all 256 slots
    alone : count (in_slot x.slot) (entries_of b) ≡ 0
    alone = count-free (λ (y : Entry). y.slot) x.slot (entries_of b) (least-free 0 (slots_of (entries_of b)) (omega (arith, fit.room, slots-long (entries_of b))))

    new-fits : Fits b.kinds x
    new-fits =
        let k = made_row b.kinds f fit.fit.made in
        record { filed = k.0; made = rw k.1 fit.fit.made; slot = small; key = rw k.1 fit.fit.short; body = rw k.1 fit.fit.small }

    recs : (m : ℕ) → records_of area' m (entries_of b ++ x ∷ []) ≡ cond (eqb m f) (with_record key d (records_of area m (entries_of b))) (records_of area m (entries_of b))
    recs m =
        records-snoc area' m (entries_of b) x
        ∙ ap (λ (z : List Record). z ++ records_of area' m (x ∷ [])) (frame area (slot_of key d) x.slot law.roomy full small (entries_of b) m alone)
        ∙ split (eqb m f)
        (λ u.
        let w : m ≡ f = eqb-true m f u in
        let v : eqb f m ≡ true = eq-eqb f m (sym w) in
        let p : x.pointer ≡ free_pointer (records_of area m (entries_of b)) = sym (ap (least 1) (pointers-are area m (entries_of b) ∙ ap (λ (n : ℕ). pointers_of n (entries_of b)) w)) in
        rw (u, v) (ap (λ (z : Record). records_of area m (entries_of b) ++ z ∷ [])
        (new-record area key d x.slot law.roomy full small f x.pointer ∙ ap (λ (n : ℕ). record { pointer = n; key = key; bytes = d }) p)))
        (λ u.
        let v : eqb f m ≡ false = ne_eqb f m (λ g. eqb-false m f u (sym g)) in
        rw (u, v) (append-nil (records_of area m (entries_of b))))

    added-view : view_of (book_of b.kinds (entries_of b ++ x ∷ [])) area' ≡ change (with_record key d) f (view_of b area)
    added-view =
        ap (λ (l : List Entry). files_from 1 b.kinds l area') (holds b.kinds (entries_of b ++ x ∷ []))
        ∙ files-change (with_record key d) f (entries_of b) (entries_of b ++ x ∷ []) area area' recs 1 b.kinds

    added-law : Lawful (book_of b.kinds (entries_of b ++ x ∷ [])) area'
    added-law =
        lawful-of b.kinds (entries_of b ++ x ∷ []) area' (simp length-append (omega (arith, fit.room))) law.shape.files law.limits
        (put-long area (slot_of key d) x.slot law.roomy full small ∙ law.roomy) (all_snoc (Fits b.kinds) (entries_of b) x law.fit new-fits)
        (λ s. rw (count-snoc (in_slot s) (entries_of b) x)
        (split (in_slot s x)
        (λ t. let g : x.slot ≡ s = eqb-true x.slot s t in let z : count (in_slot s) (entries_of b) ≡ 0 = rw g at alone in rw t (omega arith))
        (λ t. rw t (omega (arith, law.apart s)))))

    new-pointer : x.pointer ≡ free_in (look f (view_of b area))
    new-pointer = rw (look-made (entries_of b) area f b.kinds fit.fit.made) (ap (least 1) (sym (pointers-are area f (entries_of b))))

  pub record AddRight : Type 0 where
    pub code : result_code (add_of b area f key d) ≡ add_code (view_of b area) f key d
    pub pointer : added_pointer (add_of b area f key d) ≡ add_pointer (view_of b area) f key d
    pub view : view_of (added_book b (add_of b area f key d)) (add_area b area f key d) ≡ add (view_of b area) f key d
    pub lawful : Lawful (added_book b (add_of b area f key d)) (add_area b area f key d)

  pub add_right : AddRight
  add_right =
      split (eqb (code_of_add b area f key d) successful)
      (λ t.
      let z : code_of_add b area f key d ≡ successful = eqb-true (code_of_add b area f key d) successful t in
      let u : eqb (add_code (view_of b area) f key d) successful ≡ true = ap (λ (n : ℕ). eqb n successful) (sym add-code-is) ∙ t in
      record { code = rw t (sym z ∙ add-code-is); pointer = rw (t, u) (new-pointer z); view = rw (t, u) (added-view z); lawful = rw t (added-law z) })
      (λ t.
      let u : eqb (add_code (view_of b area) f key d) successful ≡ false = ap (λ (n : ℕ). eqb n successful) (sym add-code-is) ∙ t in
      record { code = rw t add-code-is; pointer = rw (t, u); view = rw (t, u); lawful = rw t law })

  pub add-fails : Refused (add_of b area f key d)
  add-fails = split (eqb (code_of_add b area f key d) successful) (λ t. rw t tt) (λ t. rw t (eqb-false (code_of_add b area f key d) successful t))

  -- ---- room
  pub room-add : RoomAdd b area f key d
  room-add = record {
    few = omega (arith, held-is, law-len b law.shape, law.shape.few);
    code = λ g e w.
        add_right.code ∙ ap (λ (o : Option File). add_code_in (view_of b area) o key d) e
        ∙ rw (le-ltb g.rec_max (length d) w.small, le-ltb g.key_max (length key) w.short, w.twin);
    pointer = λ g e c.
        let z : code_of_add b area f key d ≡ successful = split (eqb (code_of_add b area f key d) successful) (λ t. eqb-true (code_of_add b area f key d) successful t) (λ t. rw t at c) in
        let u : eqb (code_of_add b area f key d) successful ≡ true = eq-eqb (code_of_add b area f key d) successful z in
        let ps = pointers_of f (entries_of b) in
        let n : length ps ≤ length (entries_of b) = rw (length-map (keep (in_file f) (entries_of b)) (λ (y : Entry). y.pointer)) (few-keep (in_file f) (entries_of b)) in
        let r : file_of f (kind_of b.kinds f) (entries_of b) area ≡ g = some_is (sym (look-made (entries_of b) area f b.kinds (fit z).fit.made) ∙ e) in
        let q : map (λ (y : Record). y.pointer) g.records ≡ ps = ap (λ (v : File). map (λ (y : Record). y.pointer) v.records) (sym r) ∙ pointers-are area f (entries_of b) in
        record {
          above = rw u (least-ge 1 ps);
          most = rw u (omega (arith, least-le 1 ps, (fit z).room));
          new = rw (u, q) (least-free 1 ps (omega (arith, (fit z).room)));
          lowest = λ j h l. rw q (least-low 1 ps j h (rw u at l));
        };
  }
    where
      some_is : {x y : File} → Some x ≡ Some y → x ≡ y
      some_is e = cc
