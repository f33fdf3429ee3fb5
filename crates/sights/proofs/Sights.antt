-- Get and Find show what they show of a plain list of files.
use Prim.Native.Nat.{suc, ℕ}
use Rattle.std.specs.Prelude.{Option, Some, None}
use mathlib.Core.Bool.{false, true}
use mathlib.Core.List.{List, []}
use mathlib.Core.Path.{ap, refl, sym, ◌∙◌, ◌≡◌}
use native.Mathlib.Numerals.{add-one}
use native.Mathlib.Omega.{arith}
use lib.Dec.{eqb, ltb}
use lib.ListN.{drop, get_or, length, take}
use borrow.Author.Tests.{ltb-false, ne_eqb}
use Rattle.book.proofs.Searches.{newest-none, newest-some, next-pointer, previous-pointer, seek_hit, seek-miss}
use Rattle.book.proofs.Views.{look-made, look_none}
use Rattle.book.specs.Book.{entries_of, in_file, key_at, kind_of, meant, no_entry, pointer_at, rec_of, records_of, view_of}
use Rattle.book.specs.declared.Book.{Book}
use Rattle.files.specs.Files.{Record, find, found, get, keyed, newest, nextward, pointer_of, seek, seek_by, sought, spot, told}
use Rattle.lists.proofs.Tests.{clash, split}
use Rattle.lists.specs.ByPlace.{last, place, turned_onto}
use Rattle.sights.specs.Sights.{find_of, found_at, get_of, got_at, seek_at, sight_of}
use Rattle.tapa.specs.Codes.{successful}

-- ---- Get
module _ (b : Book) (area : List ℕ) (f : ℕ) where
  abbrev rs : List Record
  rs = records_of area f (entries_of b)

  told-hit : (o i : ℕ) (n : List Record) → (nextward o ≡ true → n ≡ records_of area f (drop (suc i) (entries_of b)))
      → sight_of area (entries_of b) (got_at o f (entries_of b) (Some i))
      ≡ told o (spot (records_of area f (turned_onto [] (take i (entries_of b)))) (rec_of area (get_or (entries_of b) i no_entry)) n)
  told-hit o i n h =
      ap (λ (k : ℕ). record { code = successful; it = Some (rec_of area (get_or (entries_of b) i no_entry)); pointer = k })
      (split (nextward o)
      (λ t. rw t (ap (λ (k : ℕ). pointer_at (entries_of b) (place (meant f 0) k (drop k (entries_of b)))) (add-one i) ∙ sym (next-pointer f (rec_of area) (λ x. refl) (suc i) (entries_of b) (drop (suc i) (entries_of b)) refl) ∙ ap pointer_of (sym (h t))))
      (λ t. rw t (sym (previous-pointer f (rec_of area) (λ x. refl) i (entries_of b)))))

  told_none : (o : ℕ) → sight_of area (entries_of b) (got_at o f (entries_of b) None) ≡ told o None
  told_none o = split (ltb o 2) (λ t. rw t) (λ t. rw t)

  by-pointer : (o p : ℕ) (z : Option ℕ) → place (meant f p) 0 (entries_of b) ≡ z
      → sight_of area (entries_of b) (got_at o f (entries_of b) z) ≡ told o (seek (sought p) [] rs)
  by-pointer o p None e = told_none o ∙ sym (ap (told o) (seek-miss f (rec_of area) (sought p) 0 (entries_of b) [] e))
  by-pointer o p (Some i) e =
      told-hit o i (records_of area f (drop (suc i) (entries_of b))) (λ t. refl) ∙ sym (ap (told o) (seek_hit f (rec_of area) (sought p) (entries_of b) i e))

  by-newest : (o : ℕ) (z : Option ℕ) → nextward o ≡ false → last (in_file f) (entries_of b) ≡ z
      → sight_of area (entries_of b) (got_at o f (entries_of b) z) ≡ told o (newest (turned_onto [] rs))
  by-newest o None h e = told_none o ∙ sym (ap (told o) (newest-none f (rec_of area) (entries_of b) e))
  by-newest o (Some i) h e =
      told-hit o i [] (λ t. clash (nextward o) t h) ∙ sym (ap (told o) (newest-some f (rec_of area) (entries_of b) i e))

  sought-is : (o p : ℕ) → sight_of area (entries_of b) (got_at o f (entries_of b) (seek_at o f p (entries_of b))) ≡ told o (seek_by o p rs)
  sought-is o p =
      let l = entries_of b in
      split (ltb o 2)
      (λ t. split (eqb p 0)
      (λ u. let z : seek_at o f p l ≡ None = rw (t, u) in let y : seek_by o p rs ≡ None = rw (t, u) in
      ap (λ (z : Option ℕ). sight_of area l (got_at o f l z)) z ∙ told_none o ∙ sym (ap (told o) y))
      (λ u. let z : seek_at o f p l ≡ place (meant f p) 0 l = rw (t, u) in let y : seek_by o p rs ≡ seek (sought p) [] rs = rw (t, u) in
      ap (λ (z : Option ℕ). sight_of area l (got_at o f l z)) z ∙ by-pointer o p (place (meant f p) 0 l) refl ∙ sym (ap (told o) y)))
      (λ t. split (eqb o 2)
      (λ u. let z : seek_at o f p l ≡ place (meant f 0) 0 l = rw (t, u) in let y : seek_by o p rs ≡ seek (sought 0) [] rs = rw (t, u) in
      ap (λ (z : Option ℕ). sight_of area l (got_at o f l z)) z ∙ by-pointer o 0 (place (meant f 0) 0 l) refl ∙ sym (ap (told o) y))
      (λ u. let z : seek_at o f p l ≡ last (in_file f) l = rw (t, u) in let y : seek_by o p rs ≡ newest (turned_onto [] rs) = rw (t, u) in
      let n : nextward o ≡ false = rw (ne_eqb o 0 (λ e. omega (arith, ltb-false o 2 t)), u) in
      ap (λ (z : Option ℕ). sight_of area l (got_at o f l z)) z ∙ by-newest o (last (in_file f) l) n refl ∙ sym (ap (told o) y)))

  pub get-right : (p o : ℕ) → sight_of area (entries_of b) (get_of b f p o) ≡ get (view_of b area) f p o
  get-right p o =
      split (kind_of b.kinds f).made
      (λ t. rw (look-made (entries_of b) area f b.kinds t, t) (sought-is o p))
      (λ t. rw (look_none (entries_of b) area f b.kinds t, t))

  -- ---- Find
  found-is : (key : List ℕ) (z : Option ℕ) → place (key_at area f key) 0 (entries_of b) ≡ z
      → sight_of area (entries_of b) (found_at (entries_of b) z) ≡ found (seek (keyed key) [] rs)
  found-is key None e = sym (ap found (seek-miss f (rec_of area) (keyed key) 0 (entries_of b) [] e))
  found-is key (Some i) e = sym (ap found (seek_hit f (rec_of area) (keyed key) (entries_of b) i e))

  pub find-right : (key : List ℕ) → sight_of area (entries_of b) (find_of b area f key) ≡ find (view_of b area) f key
  find-right key =
      split (kind_of b.kinds f).made
      (λ t. rw (look-made (entries_of b) area f b.kinds t, t)
      (split (ltb (kind_of b.kinds f).keymax (length key)) (λ u. rw u) (λ u. rw u (found-is key (place (key_at area f key) 0 (entries_of b)) refl))))
      (λ t. rw (look_none (entries_of b) area f b.kinds t, t))
