-- What the returns of Get and Find need, over plain values.
use Prim.Native.Nat.{◌<◌, ℕ}
use mathlib.Core.Bool.{cond, false, true}
use mathlib.Core.List.{List}
use mathlib.Core.Path.{ap, refl, sym, ◌∙◌, ◌≡◌}
use native.Mathlib.Omega.{arith}
use lib.Dec.{eqb, ltb}
use lib.ListN.{get_or, length}
use Rattle.std.specs.Prelude.{Err, IfOk, Ok, None, Option, Some}
use Rattle.book.proofs.Laws.{law-len, place_in}
use Rattle.book.specs.Book.{Shaped, entries_of, in_file, key_at, kind_of, meant, no_entry}
use Rattle.book.specs.declared.Book.{Book}
use Rattle.files.specs.Coded.{Refused}
use Rattle.lists.proofs.ByPlace.{last-inside}
use Rattle.lists.proofs.Tests.{differ, split}
use Rattle.lists.specs.ByPlace.{place}
use Rattle.sights.specs.Sights.{find_of, found_at, get_of, got_at, other_at, seek_at}
use Rattle.sights.specs.declared.Got.{Got}
use Rattle.tapa.specs.Codes.{file_seek_error, invalid_file_id, invalid_record_pointer, search_key_too_large, successful}

module _ (b : Book) (f : ℕ) where
  -- ---- Get
  module _ (p o : ℕ) where
    pub seek-inside : Shaped b → (i : ℕ) → seek_at o f p (entries_of b) ≡ Some i → i < b.count
    seek-inside h i e =
        split (ltb o 2)
        (λ t. split (eqb p 0) (λ u. let k : None ≡ Some i = rw (t, u) at e in differ (cc)) (λ u. place_in b h (meant f p) i (rw (t, u) at e)))
        (λ t. split (eqb o 2) (λ u. place_in b h (meant f 0) i (rw (t, u) at e)) (λ u. omega (arith, last-inside (in_file f) (entries_of b) i (rw (t, u) at e), law-len b h)))

    pub get-hit : (i other : ℕ) → (kind_of b.kinds f).made ≡ true → seek_at o f p (entries_of b) ≡ Some i → other ≡ other_at o f (entries_of b) i
        → Ok (record { at = i; other = other }) ≡ get_of b f p o
    get-hit i other e g m = rw e (ap (λ (n : ℕ). Ok (record { at = i; other = n })) m ∙ ap (got_at o f (entries_of b)) (sym g))

    pub get-miss : (n : ℕ) → (kind_of b.kinds f).made ≡ true → seek_at o f p (entries_of b) ≡ None → n ≡ cond (ltb o 2) invalid_record_pointer file_seek_error
        → Err n ≡ get_of b f p o
    get-miss n e g m = rw e (ap Err m ∙ ap (got_at o f (entries_of b)) (sym g))

  -- ---- Find
  pub find-hit : (area key : List ℕ) (i other : ℕ) → (kind_of b.kinds f).made ≡ true → ltb (kind_of b.kinds f).keymax (length key) ≡ false
      → place (key_at area f key) 0 (entries_of b) ≡ Some i → other ≡ (get_or (entries_of b) i no_entry).pointer
      → Ok (record { at = i; other = other }) ≡ find_of b area f key
  find-hit area key i other d e g m = rw (d, e, g) (ap (λ (n : ℕ). Ok (record { at = i; other = n })) m)

-- ---- a sight of a record is one of the book's
module _ (b : Book) (h : Shaped b) (f : ℕ) where
  pub get-inside : (p o : ℕ) → IfOk (get_of b f p o) (λ g. g.at < length (entries_of b))
  get-inside p o = split (kind_of b.kinds f).made (λ t. rw t (go (seek_at o f p (entries_of b)) refl)) (λ t. rw t tt)
    where
      go : (z : Option ℕ) → seek_at o f p (entries_of b) ≡ z → IfOk (got_at o f (entries_of b) z) (λ g. g.at < length (entries_of b))
      go None e = tt
      go (Some i) e = omega (arith, seek-inside b f p o h i e, law-len b h)

  pub found_inside : (area key : List ℕ) → IfOk (find_of b area f key) (λ g. g.at < length (entries_of b))
  found_inside area key =
      split (kind_of b.kinds f).made
      (λ t. split (ltb (kind_of b.kinds f).keymax (length key)) (λ u. rw (t, u) tt) (λ u. rw (t, u) (go (place (key_at area f key) 0 (entries_of b)) refl)))
      (λ t. rw t tt)
    where
      go : (z : Option ℕ) → place (key_at area f key) 0 (entries_of b) ≡ z → IfOk (found_at (entries_of b) z) (λ g. g.at < length (entries_of b))
      go None e = tt
      go (Some i) e = omega (arith, place_in b h (key_at area f key) i e, law-len b h)

-- a Find that fails has another code than '0000'
pub find-fails : (b : Book) (area : List ℕ) (f : ℕ) (key : List ℕ) → Refused (find_of b area f key)
find-fails b area f key =
    split (kind_of b.kinds f).made
    (λ t. split (ltb (kind_of b.kinds f).keymax (length key)) (λ u. rw (t, u) (λ e. absurd (let z : search_key_too_large ≡ 0 = e in omega arith)))
    (λ u. rw (t, u) (go (place (key_at area f key) 0 (entries_of b)))))
    (λ t. rw t (λ e. absurd (let z : invalid_file_id ≡ 0 = e in omega arith)))
  where
    go : (z : Option ℕ) → Refused (found_at (entries_of b) z)
    go None = λ e. absurd (let z : file_seek_error ≡ 0 = e in omega arith)
    go (Some i) = tt
