-- Update does to the store what it does to a plain list of files, and keeps the law.
use Prim.Native.Nat.{◌+◌, ◌-◌, suc, zero, ℕ}
use mathlib.Core.Bool.{Bool, cond, false, not, true}
use mathlib.Core.List.{List, [], map, ◌∷◌}
use mathlib.Core.Path.{ap, refl, sym, ◌∙◌, ◌≡◌}
use native.Mathlib.Omega.{arith}
use lib.Dec.{eqb, ltb}
use lib.ListN.{get_or, length, length-set, set}
use borrow.Author.Tests.{eq-eqb, eqb-false, eqb-true, ne_eqb}
use Rattle.book.proofs.Laws.{holds, law-len, lawful-of}
use Rattle.book.proofs.Searches.{both, drop-keep, seek_hit, some-place}
use Rattle.book.proofs.Tables.{kind-some}
use Rattle.book.proofs.Views.{files-change, look-made, look_none}
use Rattle.book.specs.Book.{Fits, Lawful, book_of, entries_of, files_from, in_file, in_slot, key_at, kind_of, meant, no_entry, no_kind, rec_in, rec_of, records_of, view_of}
use Rattle.book.specs.declared.Book.{Book}
use Rattle.book.specs.declared.Entry.{Entry}
use Rattle.std.specs.Prelude.{Err, Ok, None, Option, Some}
use Rattle.files.specs.Coded.{Coded, Refused, result_code}
use Rattle.files.specs.Files.{Record, change, keyed, look, own_pointer, pointer_in, renewed, sought, update, update_code, update_pointer}
use Rattle.lists.proofs.ByPlace.{Hit, all_set, count_cut, count_set, hit, place_inside}
use Rattle.lists.proofs.Tests.{clash, differ, split}
use Rattle.lists.specs.ByPlace.{cut, is_at, place}
use Rattle.lists.specs.Lists.{All, changed, checks, count, keep, some_of, without}
use Rattle.record_commands.proofs.Steps.{UpdateFit, fits-there, lengths, new-record, seen-fails, slot-alone, update-fit}
use Rattle.record_commands.specs.Records.{added_book, added_pointer, resized, update_area, update_at, update_of, update_seen}
use Rattle.sights.specs.declared.Got.{Got}
use Rattle.slots.proofs.Slots.{full-long, put-long, window-other}
use Rattle.slots.specs.Slots.{put, slot_of}
use Rattle.tapa.specs.Codes.{invalid_record_pointer, search_key_existing, successful}

-- ---- the file's records: the record's own place is rewritten, the others are as they were
module _ (f : ℕ) (q' : Record → Bool) (R R' : Entry → Record) (y : Entry) (h : Record → Record) (own : y.file ≡ f) where
  unchanged : (q : Entry → Bool) (l : List Entry) → All (λ (x : Entry). R' x ≡ R x) l → map R' (keep q l) ≡ map R (keep q l)
  unchanged q [] a = refl
  unchanged q (x ∷ l) a = split (q x) (λ t. rw t (λ i. a.0 i ∷ unchanged q l a.1 i)) (λ t. rw t (unchanged q l a.1))

  swap-from : (n k : ℕ) (l : List Entry) → place (both f R q') n l ≡ Some (n + k) → R' y ≡ h (R (get_or l k no_entry)) → All (λ (x : Entry). R' x ≡ R x) (cut l k)
      → (map R' (keep (in_file f) (set l k y)) ≡ changed h q' (map R (keep (in_file f) l)))
      × ((m : ℕ) → eqb m f ≡ false → map R' (keep (in_file m) (set l k y)) ≡ map R (keep (in_file m) l))
  swap-from n k [] e r a = differ (cc)
  swap-from n zero (x ∷ l) e r a =
      split (in_file f x)
      (λ t. split (q' (R x))
      (λ u. (
        rw (t, u, eq-eqb y.file f own) (λ i. r i ∷ unchanged (in_file f) l a i),
        λ m o.
            let ox : in_file m x ≡ false = ne_eqb x.file m (λ g. eqb-false m f o (sym g ∙ eqb-true x.file f t)) in
            let oy : in_file m y ≡ false = ne_eqb y.file m (λ g. eqb-false m f o (sym g ∙ own)) in
            rw (ox, oy) (unchanged (in_file m) l a),
      ))
      (λ u. absurd (omega (arith, (place_inside (both f R q') (suc n) l (n + 0) (rw (t, u) at e)).0))))
      (λ t. absurd (omega (arith, (place_inside (both f R q') (suc n) l (n + 0) (rw t at e)).0)))
  swap-from n (suc k) (x ∷ l) e r a =
      let w : n + suc k ≡ suc n + k = omega arith in
      split (both f R q' x)
      (λ t. let g : Some n ≡ Some (n + suc k) = rw t at e in let v : n ≡ n + suc k = cc in absurd (omega arith))
      (λ t.
      let g : place (both f R q') (suc n) l ≡ Some (n + suc k) = rw t at e in
      let ih = swap-from (suc n) k l (g ∙ ap Some w) r a.1 in (
        split (in_file f x)
            (λ u. let v : q' (R x) ≡ false = rw u at t in rw (u, v) (λ i. a.0 i ∷ ih.0 i))
            (λ u. rw u ih.0),
        λ m o. split (in_file m x) (λ u. rw u (λ i. a.0 i ∷ ih.1 m o i)) (λ u. rw u (ih.1 m o)),
      ))

-- ---- Update
module _ (b : Book) (area : List ℕ) (law : Lawful b area) (f p : ℕ) (key d : List ℕ) where
  -- without the record at its place, a search by key is a search in the file without the record
  twin-is : (i : ℕ) → place (meant f p) 0 (entries_of b) ≡ Some i
      → is_at (place (key_at area f key) 0 (cut (entries_of b) i)) ≡ some_of (keyed key) (without (sought p) (records_of area f (entries_of b)))
  twin-is i e =
      sym (some-place f (rec_of area) (keyed key) 0 (cut (entries_of b) i))
      ∙ ap (λ (l : List Entry). some_of (keyed key) (records_of area f l)) (hit no_entry (meant f p) (entries_of b) i e).gone
      ∙ ap (some_of (keyed key)) (drop-keep f (rec_of area) (sought p) (entries_of b))

  update-code-is : result_code (update_seen b area f p key d) ≡ update_code (view_of b area) f p key d
  update-code-is =
      let k = kind_of b.kinds f in
      split k.made
      (λ t. rw (look-made (entries_of b) area f b.kinds t)
      (split (ltb k.recmax (length d)) (λ u. rw (t, u))
      (λ u. split (ltb k.keymax (length key)) (λ v. rw (t, u, v)) (λ v. rw (t, u, v) (go (place (meant f p) 0 (entries_of b)) refl)))))
      (λ t. rw (look_none (entries_of b) area f b.kinds t, t))
    where
      go : (z : Option ℕ) → place (meant f p) 0 (entries_of b) ≡ z
          → result_code (update_at b area f key (place (meant f p) 0 (entries_of b)))
          ≡ checks
          ((not (some_of (sought p) (records_of area f (entries_of b))), invalid_record_pointer)
          ∷ (cond (ltb 0 (kind_of b.kinds f).keymax) (some_of (keyed key) (without (sought p) (records_of area f (entries_of b)))) false, search_key_existing)
          ∷ [])
          successful
      go None e = rw (some-place f (rec_of area) (sought p) 0 (entries_of b), e)
      go (Some i) e =
          let t = cond (ltb 0 (kind_of b.kinds f).keymax) (some_of (keyed key) (without (sought p) (records_of area f (entries_of b)))) false in
          let s : some_of (sought p) (records_of area f (entries_of b)) ≡ true = some-place f (rec_of area) (sought p) 0 (entries_of b) ∙ ap is_at e in
          rw (e, s, twin-is i e) (split t (λ u. rw u) (λ u. rw u))

  module _ (g : Got) (fit : UpdateFit b f p key d g) where
    abbrev l : List Entry
    l = entries_of b

    abbrev i : ℕ
    i = g.at

    abbrev x : Entry
    x = get_or l i no_entry

    abbrev y : Entry
    y = resized x key d

    abbrev area' : List ℕ
    area' = put area x.slot (slot_of key d)

    there : Hit no_entry (meant f p) l i
    there = hit no_entry (meant f p) l i fit.found

    fits : Fits b.kinds x
    fits = fits-there b area law i there.inside

    full : length (slot_of key d) ≡ 383
    full = let n = lengths b area law f key d fit.fit in full-long key d n.0 n.1

    own-file : x.file ≡ f
    own-file = split (in_file f x) (λ t. eqb-true x.file f t) (λ t. clash (meant f p x) there.passes (rw t))

    own-kind : get_or b.kinds (x.file - 1) no_kind ≡ kind_of b.kinds f
    own-kind = kind-some b.kinds f x.file own-file (λ e. omega (arith, fits.filed, own-file))

    kept : (l : List Entry) → count (in_slot x.slot) l ≡ 0 → All (λ (z : Entry). rec_of area' z ≡ rec_of area z) l
    kept [] e = tt
    kept (z ∷ l) e =
        split (in_slot x.slot z) (λ t. let n : 1 + count (in_slot x.slot) l ≡ 0 = rw t at e in absurd (omega arith))
        (λ t. let n : 0 + count (in_slot x.slot) l ≡ 0 = rw t at e in (
          ap (λ (w : List ℕ). rec_in w z) (window-other area (slot_of key d) x.slot law.roomy full fits.slot z.slot (eqb-false z.slot x.slot t)),
          kept l (let m : count (in_slot x.slot) l ≡ 0 = omega arith in m),
        ))

    recs : (m : ℕ) → records_of area' m (set l i y) ≡ cond (eqb m f) (changed (renewed key d) (sought p) (records_of area m l)) (records_of area m l)
    recs m =
        let z =
        swap-from f (sought p) (rec_of area) (rec_of area') y (renewed key d) own-file 0 i l (fit.found ∙ ap Some (let n : i ≡ 0 + i = omega arith in n))
        (new-record area key d x.slot law.roomy full fits.slot x.file x.pointer) (kept (cut l i) (slot-alone b area law i there.inside)) in
        split (eqb m f) (λ u. let w : m ≡ f = eqb-true m f u in rw u (rw w z.0)) (λ u. rw u (z.1 m u))

    renewed-view : view_of (book_of b.kinds (set l i y)) area' ≡ change (changed (renewed key d) (sought p)) f (view_of b area)
    renewed-view =
        ap (λ (z : List Entry). files_from 1 b.kinds z area') (holds b.kinds (set l i y))
        ∙ files-change (changed (renewed key d) (sought p)) f l (set l i y) area area' recs 1 b.kinds

    renewed-law : Lawful (book_of b.kinds (set l i y)) area'
    renewed-law =
        lawful-of b.kinds (set l i y) area' (simp length-set (omega (arith, law-len b law.shape, law.shape.few))) law.shape.files law.limits
        (put-long area (slot_of key d) x.slot law.roomy full fits.slot ∙ law.roomy)
        (all_set (Fits b.kinds) l i y law.fit (record { filed = fits.filed; made = fits.made; slot = fits.slot; key = rw own-kind fit.fit.short; body = rw own-kind fit.fit.small }))
        (λ s. omega (arith, law.apart s, count_cut no_entry (in_slot s) l i there.inside, count_set (in_slot s) l i y there.inside))

    own-told : x.pointer ≡ pointer_in (look f (view_of b area)) p
    own-told = rw (look-made l area f b.kinds fit.fit.made) (sym (ap own_pointer (seek_hit f (rec_of area) (sought p) l i fit.found)))

  pub record UpdateRight : Type 0 where
    pub code : result_code (update_of b area f p key d) ≡ update_code (view_of b area) f p key d
    pub pointer : added_pointer (update_of b area f p key d) ≡ update_pointer (view_of b area) f p key d
    pub view : view_of (added_book b (update_of b area f p key d)) (update_area b area f p key d) ≡ update (view_of b area) f p key d
    pub lawful : Lawful (added_book b (update_of b area f p key d)) (update_area b area f p key d)

  pub update-right : UpdateRight
  update-right = go (update_seen b area f p key d) refl
    where
      go : (r : Coded Got) → update_seen b area f p key d ≡ r → UpdateRight
      go (Ok g) e =
          let fit = update-fit b area f p key d g (sym e) in
          let c : update_code (view_of b area) f p key d ≡ successful = sym update-code-is ∙ ap result_code e in
          record { code = rw e (sym c); pointer = rw (e, c) (fit.own ∙ own-told g fit); view = rw (e, c) (renewed-view g fit); lawful = rw e (renewed-law g fit) }
      go (Err n) e =
          let c : update_code (view_of b area) f p key d ≡ n = sym update-code-is ∙ ap result_code e in
          let o : n ≡ successful → ⊥ = seen-fails b area f p key d n (sym e) in
          let u : eqb (update_code (view_of b area) f p key d) successful ≡ false = rw c (ne_eqb n successful o) in
          record { code = rw e (sym c); pointer = rw (e, u); view = rw (e, u); lawful = rw e law }

  pub update-fails : Refused (update_of b area f p key d)
  update-fails = go (update_seen b area f p key d) refl
    where
      go : (r : Coded Got) → update_seen b area f p key d ≡ r → Refused (update_of b area f p key d)
      go (Ok g) e = rw e tt
      go (Err n) e = rw e (seen-fails b area f p key d n (sym e))
