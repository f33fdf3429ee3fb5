-- Delete, and Find and Delete, do to the store what they do to a plain list of files, and keep the law.
use Prim.Native.Nat.{ℕ, ◌≤◌}
use Rattle.std.specs.Prelude.{Option, Some, None}
use mathlib.Core.Bool.{Bool, cond, false, true}
use mathlib.Core.List.{List, map}
use mathlib.Core.Path.{ap, refl, ◌∙◌, ◌≡◌}
use native.Mathlib.Omega.{arith}
use lib.Dec.{eqb, ltb}
use lib.ListN.{get_or, length}
use borrow.Author.Tests.{eqb-true}
use Rattle.book.proofs.Laws.{holds, law-len, lawful-of}
use Rattle.book.proofs.Searches.{both, drop-keep, drop-other, some-place}
use Rattle.book.proofs.Views.{files-change, frame, look-made, look_none}
use Rattle.book.specs.Book.{Fits, Lawful, entries_of, files_from, in_slot, key_at, kind_of, meant, no_entry, rec_of, records_of, view_of}
use Rattle.book.specs.declared.Book.{Book}
use Rattle.book.specs.declared.Entry.{Entry}
use Rattle.files.specs.Coded.{left_in, result_code}
use Rattle.files.specs.Files.{Record, change, delete, delete_code, find_delete, find_delete_code, keyed, sought}
use Rattle.lists.proofs.ByPlace.{Hit, all-cut, count_cut, hit, length_cut}
use Rattle.lists.proofs.Tests.{split}
use Rattle.lists.specs.ByPlace.{cut, place}
use Rattle.lists.specs.Lists.{without}
use Rattle.record_commands.proofs.Steps.{fits-there, slot-alone}
use Rattle.record_commands.specs.Records.{delete_area, delete_of, erased_area, erased_book, find_delete_area, find_delete_of}
use Rattle.slots.proofs.Slots.{blank-long, put-long}
use Rattle.slots.specs.Slots.{blank}
use Rattle.tapa.specs.Codes.{file_seek_error, invalid_record_pointer, search_key_too_large, successful}

-- ---- a removal: the oldest record of a file that meets a test
module _ (b : Book) (area : List ℕ) (law : Lawful b area) (f : ℕ) (q' : Record → Bool) (i : ℕ) (e : place (both f (rec_of area) q') 0 (entries_of b) ≡ Some i) where
  abbrev s : ℕ
  s = (get_or (entries_of b) i no_entry).slot

  there : Hit no_entry (both f (rec_of area) q') (entries_of b) i
  there = hit no_entry (both f (rec_of area) q') (entries_of b) i e

  small : s ≤ 255
  small = (fits-there b area law i there.inside).slot

  recs : (m : ℕ) → records_of (erased_area b area i) m (cut (entries_of b) i)
      ≡ cond (eqb m f) (without q' (records_of area m (entries_of b))) (records_of area m (entries_of b))
  recs m =
      frame area blank s law.roomy blank-long small (cut (entries_of b) i) m (slot-alone b area law i there.inside)
      ∙ ap (records_of area m) there.gone
      ∙ split (eqb m f)
      (λ u. let w : m ≡ f = eqb-true m f u in rw u (rw w (drop-keep f (rec_of area) q' (entries_of b))))
      (λ u. rw u (ap (map (rec_of area)) (drop-other f (rec_of area) q' m u (entries_of b))))

  erased-view : view_of (erased_book b i) (erased_area b area i) ≡ change (without q') f (view_of b area)
  erased-view =
      ap (λ (l : List Entry). files_from 1 b.kinds l (erased_area b area i)) (holds b.kinds (cut (entries_of b) i))
      ∙ files-change (without q') f (entries_of b) (cut (entries_of b) i) area (erased_area b area i) recs 1 b.kinds

  erased-law : Lawful (erased_book b i) (erased_area b area i)
  erased-law =
      lawful-of b.kinds (cut (entries_of b) i) (erased_area b area i)
      (omega (arith, length_cut (entries_of b) i there.inside, law-len b law.shape, law.shape.few))
      law.shape.files law.limits (put-long area blank s law.roomy blank-long small ∙ law.roomy)
      (all-cut (Fits b.kinds) (entries_of b) i law.fit)
      (λ r. omega (arith, law.apart r, count_cut no_entry (in_slot r) (entries_of b) i there.inside))

-- ---- Delete
module _ (b : Book) (area : List ℕ) (law : Lawful b area) (f p : ℕ) where
  pub record DeleteRight : Type 0 where
    pub code : result_code (delete_of b f p) ≡ delete_code (view_of b area) f p
    pub view : view_of (left_in b (delete_of b f p)) (delete_area b area f p) ≡ delete (view_of b area) f p
    pub lawful : Lawful (left_in b (delete_of b f p)) (delete_area b area f p)

  pub delete-right : DeleteRight
  delete-right =
      split (kind_of b.kinds f).made (λ t. go (place (meant f p) 0 (entries_of b)) refl t)
      (λ t. let n = look_none (entries_of b) area f b.kinds t in record { code = rw (n, t); view = rw (n, t); lawful = rw t law })
    where
      go : (z : Option ℕ) → place (meant f p) 0 (entries_of b) ≡ z → (kind_of b.kinds f).made ≡ true → DeleteRight
      go None e t =
          let c : delete_code (view_of b area) f p ≡ invalid_record_pointer = rw (look-made (entries_of b) area f b.kinds t, some-place f (rec_of area) (sought p) 0 (entries_of b), e) in
          record { code = rw (c, t, e); view = rw (c, t, e); lawful = rw (t, e) law }
      go (Some i) e t =
          let c : delete_code (view_of b area) f p ≡ successful = rw (look-made (entries_of b) area f b.kinds t, some-place f (rec_of area) (sought p) 0 (entries_of b), e) in
          record { code = rw (c, t, e); view = rw (c, t, e) (erased-view b area law f (sought p) i e); lawful = rw (t, e) (erased-law b area law f (sought p) i e) }

-- ---- Find and Delete
module _ (b : Book) (area : List ℕ) (law : Lawful b area) (f : ℕ) (key : List ℕ) where
  pub record FindDeleteRight : Type 0 where
    pub code : result_code (find_delete_of b area f key) ≡ find_delete_code (view_of b area) f key
    pub view : view_of (left_in b (find_delete_of b area f key)) (find_delete_area b area f key) ≡ find_delete (view_of b area) f key
    pub lawful : Lawful (left_in b (find_delete_of b area f key)) (find_delete_area b area f key)

  pub find-delete-right : FindDeleteRight
  find-delete-right =
      split (kind_of b.kinds f).made
      (λ t. split (ltb (kind_of b.kinds f).keymax (length key))
      (λ u.
      let c : find_delete_code (view_of b area) f key ≡ search_key_too_large = rw (look-made (entries_of b) area f b.kinds t, u) in
      record { code = rw (c, t, u); view = rw (c, t, u); lawful = rw (t, u) law })
      (λ u. go (place (key_at area f key) 0 (entries_of b)) refl t u))
      (λ t. let n = look_none (entries_of b) area f b.kinds t in record { code = rw (n, t); view = rw (n, t); lawful = rw t law })
    where
      go : (z : Option ℕ) → place (key_at area f key) 0 (entries_of b) ≡ z → (kind_of b.kinds f).made ≡ true → ltb (kind_of b.kinds f).keymax (length key) ≡ false → FindDeleteRight
      go None e t u =
          let c : find_delete_code (view_of b area) f key ≡ file_seek_error = rw (look-made (entries_of b) area f b.kinds t, u, some-place f (rec_of area) (keyed key) 0 (entries_of b), e) in
          record { code = rw (c, t, u, e); view = rw (c, t, u, e); lawful = rw (t, u, e) law }
      go (Some i) e t u =
          let c : find_delete_code (view_of b area) f key ≡ successful = rw (look-made (entries_of b) area f b.kinds t, u, some-place f (rec_of area) (keyed key) 0 (entries_of b), e) in
          record { code = rw (c, t, u, e); view = rw (c, t, u, e) (erased-view b area law f (keyed key) i e); lawful = rw (t, u, e) (erased-law b area law f (keyed key) i e) }
