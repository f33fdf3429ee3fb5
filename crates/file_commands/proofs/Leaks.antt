-- Nothing leaks: after a Delete File or a Clear that succeeds, the slot of each record that went is empty, and that of each record that stays is as it was.
use Prim.Native.Nat.{ℕ, ◌≤◌}
use mathlib.Core.Bool.{false, true}
use mathlib.Core.List.{List}
use mathlib.Core.Path.{refl, sym, ◌∙◌, ◌≡◌}
use native.Mathlib.Omega.{arith}
use lib.Dec.{eqb}
use borrow.Author.Tests.{eq-eqb, ne_eqb}
use Rattle.book.specs.Book.{Fits, Lawful, entries_of, kind_of}
use Rattle.book.specs.declared.Book.{Book}
use Rattle.book.specs.declared.Entry.{Entry}
use Rattle.book.specs.declared.Kind.{Kind}
use Rattle.file_commands.proofs.Rows.{fits-housed, made-left, made-unmade}
use Rattle.file_commands.proofs.Sweeps.{sweep-blank, sweep-stays}
use Rattle.file_commands.specs.Erasing.{all_known, clear_area, clear_of, code_of_create, create_of, made_book, delete_files_area, delete_files_of, unmake, unmake_all}
use Rattle.files.specs.Coded.{left_in, result_code}
use Rattle.lists.proofs.Members.{in_all}
use Rattle.lists.proofs.Tests.{split}
use Rattle.lists.specs.Lists.{In, some_of}
use Rattle.slots.specs.Slots.{blank, window}
use Rattle.tapa.specs.Codes.{invalid_file_id, successful}

refuses : {P : Type 0} → invalid_file_id ≡ successful → P
refuses e = absurd (omega arith)

module _ (b : Book) (area : List ℕ) (law : Lawful b area) where
  slot_of : (x : Entry) → In x (entries_of b) → x.slot ≤ 255
  slot_of x i = (in_all (Fits b.kinds) x (entries_of b) law.fit i).slot

  was-made : (x : Entry) → In x (entries_of b) → (kind_of b.kinds x.file).made ≡ true
  was-made x i = fits-housed b.kinds x (in_all (Fits b.kinds) x (entries_of b) law.fit i)

  -- ---- Delete File
  pub record DeleteFilesClean (fs : List ℕ) : Type 0 where
    pub gone : (x : Entry) → In x (entries_of b) → some_of (eqb x.file) fs ≡ true → window (delete_files_area b fs area) x.slot ≡ blank
    pub kept : (x : Entry) → In x (entries_of b) → some_of (eqb x.file) fs ≡ false → window (delete_files_area b fs area) x.slot ≡ window area x.slot

  pub delete-files-clean : (fs : List ℕ) → result_code (delete_files_of b fs) ≡ successful → DeleteFilesClean fs
  delete-files-clean fs c =
      let ks : List Kind = unmake_all b.kinds fs in
      split (all_known b.kinds fs)
      (λ t. record {
        gone = λ x i e. rw t (sweep-blank ks x (entries_of b) area i (made-left b.kinds fs x.file ∙ rw e) law.roomy (slot_of x i));
        kept = λ x i e. rw t (sweep-stays (entries_of b) area law.apart ks x i (made-left b.kinds fs x.file ∙ rw e (was-made x i)));
      })
      (λ t. refuses (rw t at c))

  -- ---- Clear
  pub record ClearClean (f : ℕ) : Type 0 where
    pub gone : (x : Entry) → In x (entries_of b) → x.file ≡ f → window (clear_area b area f) x.slot ≡ blank
    pub kept : (x : Entry) → In x (entries_of b) → (x.file ≡ f → ⊥) → window (clear_area b area f) x.slot ≡ window area x.slot

  pub clear-clean : (f : ℕ) → result_code (clear_of b f) ≡ successful → ClearClean f
  clear-clean f c =
      let ks : List Kind = unmake b.kinds f in
      split (kind_of b.kinds f).made
      (λ t. record {
        gone = λ x i e. rw t (sweep-blank ks x (entries_of b) area i (made-unmade b.kinds f x.file ∙ rw (eq-eqb f x.file (sym e))) law.roomy (slot_of x i));
        kept = λ x i e. rw t (sweep-stays (entries_of b) area law.apart ks x i (made-unmade b.kinds f x.file ∙ rw (ne_eqb f x.file (λ z. e (sym z))) (was-made x i)));
      })
      (λ t. refuses (rw t at c))

-- ---- a command that is refused changes nothing
pub create-refused : (b : Book) (n k r : ℕ) → (result_code (create_of b n k r) ≡ successful → ⊥) → made_book b (create_of b n k r) ≡ b
create-refused b n k r h =
    split (eqb (code_of_create b n r) successful) (λ t. absurd (h (rw t))) (λ t. rw t)

pub delete-files-refused : (b : Book) (fs : List ℕ) (area : List ℕ) → (result_code (delete_files_of b fs) ≡ successful → ⊥)
    → (left_in b (delete_files_of b fs) ≡ b) × (delete_files_area b fs area ≡ area)
delete-files-refused b fs area h = split (all_known b.kinds fs) (λ t. absurd (h (rw t))) (λ t. rw t (refl, refl))

pub clear-refused : (b : Book) (f : ℕ) (area : List ℕ) → (result_code (clear_of b f) ≡ successful → ⊥) → (left_in b (clear_of b f) ≡ b) × (clear_area b area f ≡ area)
clear-refused b f area h = split (kind_of b.kinds f).made (λ t. absurd (h (rw t))) (λ t. rw t (refl, refl))
