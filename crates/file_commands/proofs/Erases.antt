-- Delete File and Clear do to the store what they do to a plain list of files.
use Prim.Native.Nat.{ℕ}
use mathlib.Core.Bool.{Bool, cond, false, not}
use mathlib.Core.List.{List, []}
use mathlib.Core.Path.{ap, sym, ◌∙◌, ◌≡◌}
use lib.Dec.{eqb}
use Rattle.book.proofs.Laws.{holds}
use Rattle.book.proofs.Views.{files-change}
use Rattle.book.specs.Book.{Lawful, book_of, entries_of, files_from, kind_of, records_of, view_of}
use Rattle.book.specs.declared.Book.{Book}
use Rattle.book.specs.declared.Entry.{Entry}
use Rattle.book.specs.declared.Kind.{Kind}
use Rattle.file_commands.proofs.Rows.{files-left, has-is, known_is, limits-all-left, made-unmade, no-records, rows_left, rows_long, unknown}
use Rattle.file_commands.proofs.Sweeps.{back-lawful, left-lawful, records-go, records-stay, sweep-view}
use Rattle.file_commands.specs.Erasing.{all_known, clear_area, clear_of, delete_files_area, delete_files_of, housed, swept_area, unmake, unmake_all}
use Rattle.files.specs.Coded.{left_in, result_code}
use Rattle.files.specs.Files.{Record, change, clear, clear_code, delete_files, delete_files_code, has, not_of, twice}
use Rattle.lists.proofs.Tests.{eqb-turn, split}
use Rattle.lists.specs.Lists.{keep, some_of}
use Rattle.tapa.specs.Codes.{invalid_file_id, successful}

-- ---- Delete File
module _ (b : Book) (area : List ℕ) (law : Lawful b area) (fs : List ℕ) where
  pub files-code-is : delete_files_code (view_of b area) fs ≡ cond (all_known b.kinds fs) successful invalid_file_id
  files-code-is =
      let e : some_of (λ (f : ℕ). not (has (view_of b area) f)) fs ≡ some_of (unknown b.kinds) fs = (λ i. some_of (λ (f : ℕ). not (has-is b area f i)) fs) in
      rw (e, known_is b.kinds fs)
      (split (some_of (unknown b.kinds) fs) (λ t. rw t) (λ t. rw t (split (twice fs) (λ u. rw u) (λ u. rw u))))

  pub record DeleteFilesRight : Type 0 where
    pub code : result_code (delete_files_of b fs) ≡ delete_files_code (view_of b area) fs
    pub view : view_of (left_in b (delete_files_of b fs)) (delete_files_area b fs area) ≡ delete_files (view_of b area) fs
    pub lawful : Lawful (left_in b (delete_files_of b fs)) (delete_files_area b fs area)

  abbrev ks : List Kind
  ks = unmake_all b.kinds fs

  abbrev l : List Entry
  l = entries_of b

  left-view : view_of (book_of ks (keep (housed ks) l)) (swept_area ks l area) ≡ keep (not_of fs) (view_of b area)
  left-view =
      ap (λ (z : List Entry). files_from 1 ks z (swept_area ks l area)) (holds ks (keep (housed ks) l))
      ∙ sweep-view l area law.apart ks ∙ files-left l area fs b.kinds

  pub delete-files-right : DeleteFilesRight
  delete-files-right =
      split (all_known b.kinds fs)
      (λ t.
      let c : delete_files_code (view_of b area) fs ≡ successful = files-code-is ∙ rw t in
      record {
        code = rw (c, t);
        view = rw (c, t) left-view;
        lawful = rw t (left-lawful b area law ks (rows_long b.kinds fs ∙ law.shape.files) (limits-all-left b.kinds fs law.limits) (rows_left b.kinds fs));
      })
      (λ t. let c : delete_files_code (view_of b area) fs ≡ invalid_file_id = files-code-is ∙ rw t in record { code = rw (c, t); view = rw (c, t); lawful = rw t law })

-- ---- Clear
module _ (b : Book) (area : List ℕ) (law : Lawful b area) (f : ℕ) where
  abbrev rows : List Kind
  rows = unmake b.kinds f

  abbrev entries : List Entry
  entries = entries_of b

  -- the records of every file: none of this one, those that there were of another
  cleared-records : (m : ℕ) → records_of (swept_area rows entries area) m (keep (housed rows) entries) ≡ cond (eqb m f) [] (records_of area m entries)
  cleared-records m =
      let k : (kind_of rows m).made ≡ cond (eqb m f) false (kind_of b.kinds m).made = made-unmade b.kinds f m ∙ ap (λ (t : Bool). cond t false (kind_of b.kinds m).made) (eqb-turn f m) in
      split (eqb m f) (λ t. rw t (records-go entries area law.apart rows m (k ∙ rw t)))
      (λ t.
      split (kind_of b.kinds m).made (λ u. rw t (records-stay entries area law.apart rows m (k ∙ rw (t, u))))
      (λ u. rw t (records-go entries area law.apart rows m (k ∙ rw (t, u)) ∙ sym (no-records b.kinds m entries area u law.fit))))

  pub record ClearRight : Type 0 where
    pub code : result_code (clear_of b f) ≡ clear_code (view_of b area) f
    pub view : view_of (left_in b (clear_of b f)) (clear_area b area f) ≡ clear (view_of b area) f
    pub lawful : Lawful (left_in b (clear_of b f)) (clear_area b area f)

  cleared-view : view_of (book_of b.kinds (keep (housed rows) entries)) (swept_area rows entries area) ≡ change (λ (rs : List Record). []) f (view_of b area)
  cleared-view =
      ap (λ (z : List Entry). files_from 1 b.kinds z (swept_area rows entries area)) (holds b.kinds (keep (housed rows) entries))
      ∙ files-change (λ (rs : List Record). []) f entries (keep (housed rows) entries) area (swept_area rows entries area) cleared-records 1 b.kinds

  pub clear-right : ClearRight
  clear-right =
      split (kind_of b.kinds f).made
      (λ t. let c : clear_code (view_of b area) f ≡ successful = rw (has-is b area f, t) in record { code = rw (c, t); view = rw (c, t) cleared-view; lawful = rw t (back-lawful b area law rows) })
      (λ t. let c : clear_code (view_of b area) f ≡ invalid_file_id = rw (has-is b area f, t) in record { code = rw (c, t); view = rw (c, t); lawful = rw t law })
