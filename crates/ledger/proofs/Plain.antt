-- The lines of an input, and the files after them, are those of the plain list of files that the store stands for. Assumes nothing.
use Prim.Native.Nat.{◌+◌, suc, zero, ℕ}
use mathlib.Core.List.{List, ◌∷◌}
use mathlib.Core.Path.{ap, refl, ◌∙◌, ◌≡◌}
use lib.Dec.{ltb}
use lib.ListN.{length}
use Rattle.book.specs.Book.{Lawful, view_of}
use Rattle.book.specs.declared.Book.{Book}
use Rattle.fields.proofs.Bytes.{StepsBytes, steps-bytes}
use Rattle.fields.specs.Fields.{Steps, broken, give-up, message, over, replaced, then}
use Rattle.fields.specs.Places.{steps_at}
use Rattle.files.specs.Files.{File}
use Rattle.image.specs.Image.{Storable}
use Rattle.ledger.specs.Ledger.{Store, after, blank, heard, lines_of, prescribed, said_line, start, store_after}
use Rattle.ledger.specs.Plain.{plain_after, plain_files, plain_lines, plain_prescribed}
use Rattle.lists.proofs.Tests.{split}
use Rattle.lists.specs.Lists.{Bytes}
use Rattle.store.proofs.Right.{as_plain}

-- the files of a store
abbrev pub files_of : Store → List File
files_of w = view_of w.book w.area

pub plain_lines_lem : (m : Steps) (n : ℕ) (b : Book) (area : List ℕ) → Lawful b area → StepsBytes m → lines_of n b area m ≡ plain_lines n (view_of b area) m
plain_lines_lem over n b area law w = refl
plain_lines_lem (broken k) n b area law w = refl
plain_lines_lem (then (message c) m) n b area law w =
    let r = as_plain b area law c blank w.0 in
    let rest = plain_lines_lem m (n + 1) (heard b area c).book (heard b area c).area r.lawful w.1 ∙ ap (λ (files : List File). plain_lines (n + 1) files m) r.files in
    λ i. said_line n (r.answer i) (r.reply i) ∷ rest i
plain_lines_lem (then (give-up t x) m) n b area law w = refl
plain_lines_lem (then (replaced x) m) n b area law w = refl

pub plain-after : (k : ℕ) (m : Steps) (b : Book) (area : List ℕ) → Lawful b area → StepsBytes m → files_of (after k b area m) ≡ plain_after k (view_of b area) m
plain-after zero m b area law w = refl
plain-after (suc k) over b area law w = refl
plain-after (suc k) (broken n) b area law w = refl
plain-after (suc k) (then (message c) m) b area law w =
    let r = as_plain b area law c blank w.0 in
    plain-after k m (heard b area c).book (heard b area c).area r.lawful w.1 ∙ ap (λ (files : List File). plain_after k files m) r.files
plain-after (suc k) (then (give-up t x) m) b area law w = refl
plain-after (suc k) (then (replaced x) m) b area law w = refl

-- ---- of an input, which is bytes

module _ (s : List ℕ) (bytes : Bytes s) (b : Book) (area : List ℕ) (ok : Storable b area) where
  pub plain-text : prescribed s b area ≡ plain_prescribed s (view_of b area)
  plain-text = split (ltb 65536 (length s)) (λ t. rw t) (λ t. rw t (plain_lines_lem (steps_at s 1 0) 1 b area ok.law (steps-bytes s 1 0 bytes)))

  pub plain-files : (k : ℕ) → files_of (store_after k s b area start) ≡ plain_files k s (view_of b area)
  plain-files k = split (ltb 65536 (length s)) (λ t. rw t) (λ t. rw t (plain-after k (steps_at s 1 0) b area ok.law (steps-bytes s 1 0 bytes)))
