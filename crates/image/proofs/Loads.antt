-- What `load` answers of an image that is whole, and what its answer says of the image.
use Prim.Native.Nat.{ℕ}
use Rattle.std.specs.Prelude.{Result, Ok, Err, is_ok, ⊤}
use mathlib.Core.Bool.{false, true}
use mathlib.Core.List.{List}
use mathlib.Core.Path.{refl, ◌≡◌}
use lib.Dec.{eqb}
use lib.ListN.{length}
use borrow.Author.Tests.{eq-eqb, eqb-true}
use Rattle.book.specs.declared.Book.{Book}
use Rattle.image.specs.Image.{handed, load_area, load_of, restored, restored_area}
use Rattle.layout.specs.Judged.{verdict_of}
use Rattle.layout.specs.declared.Flaw.{Flaw}
use Rattle.lists.proofs.Tests.{clash, split}

pub whole-alone : (v : Result ⊤ Flaw) → is_ok v ≡ true → v ≡ Ok tt
whole-alone (Ok u) e = refl
whole-alone (Err x) e = clash false e refl

handed-ok : (v : Result ⊤ Flaw) (b : Book) → is_ok (handed v b) ≡ true → v ≡ Ok tt
handed-ok (Ok u) b e = refl
handed-ok (Err x) b e = clash false e refl

handed-not : (v : Result ⊤ Flaw) (b : Book) → is_ok v ≡ false → is_ok (handed v b) ≡ false
handed-not (Ok u) b e = clash true refl e
handed-not (Err x) b e = refl

module _ (img area : List ℕ) where
  module _ (roomy : length area ≡ 98048) (whole : verdict_of img ≡ Ok tt) where
    pub loaded-book : load_of img area ≡ Ok (restored img)
    unfolding load_of
    loaded-book = rw (eq-eqb (length area) 98048 roomy, whole)

    pub loaded-area : load_area img area ≡ restored_area img area
    unfolding load_area
    loaded-area = rw (eq-eqb (length area) 98048 roomy, whole)

  pub loaded-whole : is_ok (load_of img area) ≡ true → (length area ≡ 98048) × (verdict_of img ≡ Ok tt)
  unfolding load_of
  loaded-whole e =
      split (eqb (length area) 98048)
      (λ t. (eqb-true (length area) 98048 t, handed-ok (verdict_of img) (restored img) (rw t at e)))
      (λ t. clash false (rw t at e) refl)

  pub loaded-not : is_ok (verdict_of img) ≡ false → is_ok (load_of img area) ≡ false
  unfolding load_of
  loaded-not e = split (eqb (length area) 98048) (λ t. rw t (handed-not (verdict_of img) (restored img) e)) (λ t. rw t refl)
