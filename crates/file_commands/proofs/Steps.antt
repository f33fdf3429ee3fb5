-- Delete File and Clear, put together from their steps: the rows taken out, and the walk.
use Prim.Native.Nat.{ℕ}
use mathlib.Core.Bool.{true}
use mathlib.Core.List.{List}
use mathlib.Core.Path.{◌≡◌, ap, refl, sym, ◌∙◌}
use Rattle.std.specs.Prelude.{Err, None, Ok, Option, Some}
use Rattle.book.proofs.Kept.{table-shaped}
use Rattle.book.proofs.Tables.{row-long}
use Rattle.book.specs.Book.{Shaped, book_of, entries_of, kind_of, no_kind, with_kind, with_kinds}
use Rattle.book.specs.declared.Book.{Book}
use Rattle.book.specs.declared.Kind.{Kind}
use Rattle.file_commands.proofs.Rows.{put_back, rows_long}
use Rattle.file_commands.specs.Erasing.{all_known, clear_area, clear_of, delete_files_area, delete_files_of, housed, left_of, swept_area, swept_book, unmake, unmake_all}
use Rattle.lists.proofs.Tests.{split}
use Rattle.lists.specs.Lists.{keep}
use Rattle.tapa.specs.Codes.{invalid_file_id}

-- ---- Delete File
module _ (b : Book) (fs : List ℕ) (left : Book) (is : left_of b fs ≡ Some left) where
  known : all_known b.kinds fs ≡ true
  known = split (all_known b.kinds fs) (λ t. t) (λ t. let n : ◌≡◌ {A = Option Book} None (Some left) = rw t at is in absurd (cc))

  left-is : left ≡ with_kinds b (unmake_all b.kinds fs)
  left-is = let n : Some (with_kinds b (unmake_all b.kinds fs)) ≡ Some left = rw known at is in cc

  pub found-shaped : Shaped b → Shaped left
  found-shaped h = rw left-is (table-shaped b h (unmake_all b.kinds fs) (rows_long b.kinds fs ∙ h.files))

  pub delete-done : (area area' : List ℕ) (out : Book) → out ≡ swept_book left → area' ≡ swept_area left.kinds (entries_of left) area
      → (Ok out ≡ delete_files_of b fs) × (area' ≡ delete_files_area b fs area)
  delete-done area area' out eo ea =
      rw known (ap Ok (eo ∙ ap swept_book left-is), ea ∙ ap (λ (v : Book). swept_area v.kinds (entries_of v) area) left-is)

pub delete-refused : (b : Book) (fs : List ℕ) (area : List ℕ) → left_of b fs ≡ None → (Err invalid_file_id ≡ delete_files_of b fs) × (area ≡ delete_files_area b fs area)
delete-refused b fs area e =
    split (all_known b.kinds fs)
    (λ t. let n : Some (with_kinds b (unmake_all b.kinds fs)) ≡ None = rw t at e in absurd (cc))
    (λ t. rw t (refl, refl))

-- ---- Clear
module _ (b : Book) (f : ℕ) (left : Book) (is : left ≡ with_kinds b (unmake b.kinds f)) where
  pub left-shaped : Shaped b → Shaped left
  left-shaped h = rw is (table-shaped b h (unmake b.kinds f) (row-long b.kinds f no_kind ∙ h.files))

  pub clear-done : (area area' : List ℕ) (out next : Book) (k : Kind) → k ≡ kind_of b.kinds f → k.made ≡ true → out ≡ swept_book left
      → area' ≡ swept_area left.kinds (entries_of left) area → next ≡ with_kinds out (with_kind out.kinds f k)
      → (Ok next ≡ clear_of b f) × (area' ≡ clear_area b area f)
  clear-done area area' out next k ek t eo ea en =
      let rows : List Kind = unmake b.kinds f in
      let v : next ≡ book_of b.kinds (keep (housed rows) (entries_of b)) =
      en
      ∙ ap (λ (w : Book). with_kinds w (with_kind w.kinds f k)) (eo ∙ ap swept_book is)
      ∙ ap (λ (j : Kind). book_of (with_kind rows f j) (keep (housed rows) (entries_of b))) ek
      ∙ ap (λ (ks : List Kind). book_of ks (keep (housed rows) (entries_of b))) (put_back b.kinds f) in
      rw (ap (λ (j : Kind). j.made) (sym ek) ∙ t) (
        ap Ok v,
        ea ∙ ap (λ (w : Book). swept_area w.kinds (entries_of w) area) is,
      )
