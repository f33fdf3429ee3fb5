-- How far the contracts reach: two calls on the same inputs that meet them hand back the same answer, and the same buffer or area.
use Prim.Native.Nat.{ℕ}
use Rattle.std.specs.Prelude.{Option, Result}
use mathlib.Core.List.{List}
use mathlib.Core.Path.{sym, ◌∙◌, ◌≡◌}
use Rattle.book.specs.declared.Book.{Book}
use Rattle.image.specs.Image.{load_area, load_of, saved_in, saved_of}
use Rattle.layout.specs.declared.Flaw.{Flaw}

pub one-save : (b : Book) (area out out_a out_b : List ℕ) (r s : Option ℕ) → (r ≡ saved_of b out) × (out_a ≡ saved_in b area out) → (s ≡ saved_of b out) × (out_b ≡ saved_in b area out)
    → (r ≡ s) × (out_a ≡ out_b)
one-save b area out out_a out_b r s x y = (x.0 ∙ sym y.0, x.1 ∙ sym y.1)

pub one-load : (img area area_a area_b : List ℕ) (r s : Result Book Flaw) → (r ≡ load_of img area) × (area_a ≡ load_area img area) → (s ≡ load_of img area) × (area_b ≡ load_area img area)
    → (r ≡ s) × (area_a ≡ area_b)
one-load img area area_a area_b r s x y = (x.0 ∙ sym y.0, x.1 ∙ sym y.1)
