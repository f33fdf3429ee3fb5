-- An image read back: the table row by row, the entries one by one, and the slots into the area.
use Prim.Native.Nat.{◌*◌, ◌+◌, ◌-◌, ◌<◌, ℕ, ◌≤◌}
use Rattle.std.specs.Prelude.{Err}
use mathlib.Core.List.{◌++◌, List, [], ◌∷◌}
use mathlib.Core.Path.{ap, refl, subst, sym, ◌∙◌, ◌≡◌}
use native.Mathlib.Numerals.{add-one}
use native.Mathlib.Omega.{arith}
use lib.ListN.{drop, drop_of_length-le, get_or, length, length-drop, length-set, set, take}
use lib.Seq.{drop-cons, drop-drop, length-take-le, take_all, take-suc-set}
use borrow.Author.Tests.{eq-eqb, lt-ltb, ne_eqb}
use Rattle.book.proofs.Kept.{fresh-shaped, shaped_of}
use Rattle.book.proofs.Laws.{holds}
use Rattle.book.specs.Book.{Shaped, book_of, no_entry, no_kind, no_kinds, pushed_of, with_kind, with_kinds}
use Rattle.book.specs.declared.Book.{Book}
use Rattle.book.specs.declared.Entry.{Entry}
use Rattle.book.specs.declared.Kind.{Kind}
use Rattle.image.specs.Image.{load_area, load_of, poured}
use Rattle.layout.specs.Judged.{count_in, verdict_of}
use Rattle.layout.specs.Layout.{size_of}
use Rattle.layout.specs.declared.Flaw.{Flaw}
use Rattle.layout.specs.declared.Flaw.TheVariants.{Area}
use Rattle.lists.proofs.ByPlace.{take_more}
use Rattle.slots.specs.Slots.{put}

-- ---- the table

-- a book without records whose first rows are those of a table
pub record Begun (rows : List Kind) (i : ℕ) (b : Book) : Type 0 where
  pub bare : b ≡ book_of b.kinds []
  pub files : length b.kinds ≡ 16
  pub upto : take i b.kinds ≡ take i rows

pub begun-none : (rows : List Kind) (b : Book) → b ≡ book_of no_kinds [] → Begun rows 0 b
begun-none rows b e =
    let none : b.kinds ≡ no_kinds = ap (λ (z : Book). z.kinds) e in
    record { bare = e ∙ ap (λ (z : List Kind). book_of z []) (sym none); files = ap length none ∙ fresh-shaped.files; upto = refl }

module _ (rows : List Kind) (i : ℕ) (b : Book) (h : Begun rows i b) where
  pub begun-shaped : Shaped b
  begun-shaped = subst Shaped (sym h.bare) (shaped_of b.kinds [] (omega arith) h.files)

  -- one row more
  pub begun_more : (k : Kind) (next : Book) → length rows ≡ 16 → i < 16 → k ≡ get_or rows i no_kind → next ≡ with_kinds b (with_kind b.kinds (i + 1) k) → Begun rows (i + 1) next
  begun_more k next long inside e f =
      let ks : List Kind = set b.kinds i k in
      let new : next ≡ with_kinds b ks = f ∙ ap (λ (n : ℕ). with_kinds b (with_kind b.kinds n k)) (add-one i) in
      let rowsof : next.kinds ≡ ks = ap (λ (z : Book). z.kinds) new in
      record {
        bare = new ∙ ap (λ (z : Book). with_kinds z ks) h.bare ∙ ap (λ (z : List Kind). book_of z []) (sym rowsof);
        files = ap length rowsof ∙ length-set b.kinds i k ∙ h.files;
        upto =
            ap (take (i + 1)) rowsof
            ∙ ap (λ (n : ℕ). take n ks) (add-one i)
            ∙ take-suc-set b.kinds i k (omega (arith, h.files))
            ∙ (λ j. h.upto j ++ e j ∷ [])
            ∙ sym (take_more no_kind rows i (omega arith));
      }

  pub begun-done : length rows ≡ 16 → 16 ≤ i → b ≡ book_of rows []
  begun-done long past =
      h.bare ∙ ap (λ (z : List Kind). book_of z []) (sym (take_all i b.kinds (omega (arith, h.files))) ∙ h.upto ∙ take_all i rows (omega arith))

-- ---- the entries

-- one entry more
pub pushed_more : (ks : List Kind) (l : List Entry) (i : ℕ) (b next : Book) (x : Entry) → i < length l → length l ≤ 256 → x ≡ get_or l i no_entry
    → b ≡ book_of ks (take i l) → next ≡ pushed_of b x → next ≡ book_of ks (take (i + 1) l)
pushed_more ks l i b next x inside few e f g =
    let n : length (take i l) ≡ i = length-take-le i l (omega arith) in
    let t = lt-ltb (length (take i l)) 256 (omega arith) in
    g ∙ (λ j. pushed_of (f j) (e j)) ∙ rw (t, holds ks (take i l)) (ap (book_of ks) (sym (take_more no_entry l i inside)))

-- ---- the slots

-- where slot i of an image starts
abbrev pub slot_at : List ℕ → ℕ → ℕ
slot_at img i = 64 + count_in img * 6 + i * 383

-- the slot, as the code reads it
pub slot-there : (img : List ℕ) (n i : ℕ) → n ≡ count_in img
    → take (64 + n * 6 + i * 383 + 383 - (64 + n * 6 + i * 383)) (drop (64 + n * 6 + i * 383) img) ≡ take 383 (drop (slot_at img i) img)
slot-there img n i held =
    let size : 64 + n * 6 + i * 383 + 383 - (64 + n * 6 + i * 383) ≡ 383 = omega arith in
    rw (size, held)

pub slot-long : (img : List ℕ) (i : ℕ) → i < count_in img → length img ≡ size_of (count_in img) → length (take 383 (drop (slot_at img i) img)) ≡ 383
slot-long img i inside long = length-take-le 383 (drop (slot_at img i) img) (simp length-drop (omega arith))

module _ (l : List Entry) (slots : List ℕ) where
  -- one slot more
  pub poured-more : (i at at' : ℕ) (area next : List ℕ) → i < length l → at' ≡ at + 383 → next ≡ put area (get_or l i no_entry).slot (take 383 (drop at slots))
      → poured (drop (i + 1) l) (drop at' slots) next ≡ poured (drop i l) (drop at slots) area
  poured-more i at at' area next inside e f =
      let behind : drop i l ≡ get_or l i no_entry ∷ drop (i + 1) l = drop-cons l i no_entry inside ∙ ap (λ (n : ℕ). get_or l i no_entry ∷ drop n l) (sym (add-one i)) in
      let rest : drop at' slots ≡ drop 383 (drop at slots) = ap (λ (n : ℕ). drop n slots) e ∙ sym (drop-drop 383 at slots) in
      (λ j. poured (drop (i + 1) l) (rest j) (f j)) ∙ ap (λ (z : List Entry). poured z (drop at slots) area) (sym behind)

  pub poured-done : (i at : ℕ) (area : List ℕ) → length l ≤ i → poured (drop i l) (drop at slots) area ≡ area
  poured-done i at area past = ap (λ (z : List Entry). poured z (drop at slots) area) (drop_of_length-le l {i = i} past)

-- ---- what `load` answers of bytes that it refuses
module _ (img area : List ℕ) where
  pub refused-area : (length area ≡ 98048 → ⊥) → (Err Area ≡ load_of img area) × (area ≡ load_area img area)
  unfolding load_of load_area
  refused-area h = let t = ne_eqb (length area) 98048 h in (rw t, rw t)

  pub refused-bytes : (x : Flaw) → length area ≡ 98048 → verdict_of img ≡ Err x → (Err x ≡ load_of img area) × (area ≡ load_area img area)
  unfolding load_of load_area
  refused-bytes x h e = let t = eq-eqb (length area) 98048 h in (rw (t, e), rw (t, e))
