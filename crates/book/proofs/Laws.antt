-- Laws of a book: what its law tells, its searches, and a book put together.
use Prim.Native.Nat.{◌+◌, ◌-◌, ◌<◌, min, suc, zero, ℕ, ◌≤◌}
use Rattle.std.specs.Prelude.{Some, None}
use mathlib.Core.Bool.{Bool, false, true}
use mathlib.Core.List.{◌++◌, List, [], ◌∷◌}
use mathlib.Core.Path.{ap, sym, ◌∙◌, ◌≡◌}
use native.Mathlib.Nat.{le_of_lt}
use native.Mathlib.Numerals.{add-one}
use native.Mathlib.Omega.{arith}
use lib.Dec.{ltb}
use lib.ListN.{get_or-eq_default, drop, drop_of_length-le, get_or, length, length-append, length-map, length-replicate, length-set, length-take, replicate, set, take}
use lib.Seq.{append_snoc, drop_at, drop-cons, get_or-take, set_at, take_all, take-append_seam, take_at, take-take}
use borrow.Author.Tests.{ltb-false, ltb-true}
use Rattle.book.specs.Book.{Fits, Lawful, Limits, Shaped, book_of, entries_of, in_slot, kind_of, no_entry, no_kind, slots_of}
use Rattle.book.specs.declared.Book.{Book}
use Rattle.book.specs.declared.Entry.{Entry}
use Rattle.book.specs.declared.Kind.{Kind}
use Rattle.lists.proofs.ByPlace.{all-at, cut-append, length_cut, place_inside, set-cut, set_front}
use Rattle.lists.proofs.Least.{least-le}
use Rattle.lists.proofs.Tests.{split}
use Rattle.lists.specs.ByPlace.{cut, place}
use Rattle.lists.specs.Least.{least}
use Rattle.lists.specs.Lists.{All, count}

-- ---- what the law tells
module _ (b : Book) (h : Shaped b) where
  pub law-len : length (entries_of b) ≡ b.count
  law-len = sym (ap (λ (v : Book). v.count) h.whole)

  law-list : b.entries ≡ entries_of b ++ replicate (256 - b.count) no_entry
  law-list = ap (λ (v : Book). v.entries) h.whole ∙ ap (λ (n : ℕ). entries_of b ++ replicate (256 - n) no_entry) law-len

  pub law-long : length b.entries ≡ 256
  law-long = ap length law-list ∙ simp (length-append, length-replicate) (omega (arith, h.few, law-len))

  pub same-entry : (i : ℕ) → i < b.count → get_or (entries_of b) i no_entry ≡ get_or b.entries i no_entry
  same-entry i k = get_or-take b.count b.entries i no_entry k

  pub past-entry : (i : ℕ) → b.count ≤ i → get_or (entries_of b) i no_entry ≡ no_entry
  past-entry i k = get_or-eq_default (entries_of b) no_entry {n = i} (omega (arith, law-len))

  -- the entries from a place on: the one there, and the rest
  pub suffix : (i : ℕ) → i < b.count → drop i (entries_of b) ≡ get_or b.entries i no_entry ∷ drop (i + 1) (entries_of b)
  suffix i k =
      drop-cons (entries_of b) i no_entry (omega (arith, law-len))
      ∙ rw (same-entry i k, add-one)

  pub suffix-end : (i : ℕ) → b.count ≤ i → drop i (entries_of b) ≡ []
  suffix-end i k = drop_of_length-le (entries_of b) {i = i} (omega (arith, law-len))

  -- ---- a search upwards
  pub place-hit : (q : Entry → Bool) (i : ℕ) → i < b.count → q (get_or b.entries i no_entry) ≡ true → place q i (drop i (entries_of b)) ≡ Some i
  place-hit q i k t = rw (suffix i k, t)

  pub place-miss : (q : Entry → Bool) (i : ℕ) → i < b.count → q (get_or b.entries i no_entry) ≡ false
      → place q (i + 1) (drop (i + 1) (entries_of b)) ≡ place q i (drop i (entries_of b))
  place-miss q i k t = sym (ap (place q i) (suffix i k) ∙ rw t (ap (λ (n : ℕ). place q n (drop (i + 1) (entries_of b))) (sym (add-one i))))

  pub place_end : (q : Entry → Bool) (i : ℕ) → b.count ≤ i → place q i (drop i (entries_of b)) ≡ None
  place_end q i k = rw (suffix-end i k)

-- ---- a book, put together
built : (ks : List Kind) (list l : List Entry) (n m : ℕ) → length l ≡ n → n + m ≡ 256 → list ≡ l ++ replicate m no_entry
    → ◌≡◌ {A = Book} (record { kinds = ks; entries = list; count = n }) (book_of ks l)
built ks list l n m e f g =
    let k : m ≡ 256 - length l = omega arith in
    let g' : list ≡ l ++ replicate (256 - length l) no_entry = g ∙ ap (λ (j : ℕ). l ++ replicate j no_entry) k in
    cc

pub pushed_room : (b : Book) (x : Entry) → Shaped b → b.count < 256
    → ◌≡◌ {A = Book} (record { kinds = b.kinds; entries = set b.entries b.count x; count = b.count + 1 }) (book_of b.kinds (entries_of b ++ x ∷ []))
pushed_room b x h k =
    let m : ℕ = 256 - (b.count + 1) in
    let more : 256 - b.count ≡ suc m = omega arith in
    let stored : set b.entries b.count x ≡ (entries_of b ++ x ∷ []) ++ replicate m no_entry =
    ap (λ (l : List Entry). set l b.count x) (law-list b h ∙ ap (λ (j : ℕ). entries_of b ++ replicate j no_entry) more)
    ∙ set_at (entries_of b) no_entry (replicate m no_entry) x b.count (law-len b h)
    ∙ sym (append_snoc (entries_of b) x (replicate m no_entry)) in
    built b.kinds _ (entries_of b ++ x ∷ []) (b.count + 1) m (simp length-append (omega (arith, law-len b h))) (omega arith) stored

pub removed-done : (b : Book) (at i : ℕ) (l : List Entry) → Shaped b → at < b.count → i + 1 ≡ b.count → length l ≡ 256
    → cut l i ≡ cut b.entries at → ◌≡◌ {A = Book} (record { kinds = b.kinds; entries = set l i no_entry; count = i }) (book_of b.kinds (cut (entries_of b) at))
removed-done b at i l h k e f g =
    let inside : at < length (entries_of b) = omega (arith, law-len b h) in
    let a : List Entry = cut (entries_of b) at in
    let r : List Entry = replicate (256 - b.count) no_entry in
    let left : cut l i ≡ a ++ r =
    g ∙ ap (λ (t : List Entry). cut t at) (law-list b h) ∙ cut-append (entries_of b) r at inside in
    let long : length a ≡ i = omega (arith, law-len b h, length_cut (entries_of b) at inside) in
    let stored : set l i no_entry ≡ a ++ replicate (suc (256 - b.count)) no_entry =
    set-cut l i no_entry (omega (arith, h.few))
    ∙ ap (λ (t : List Entry). take i t ++ no_entry ∷ drop i t) left
    ∙ rw (take_at a r i long, drop_at a r i long) in
    built b.kinds _ a i (suc (256 - b.count)) long (omega (arith, h.few)) stored

pub renewed-done : (b : Book) (at : ℕ) (x : Entry) → Shaped b → at < b.count
    → ◌≡◌ {A = Book} (record { kinds = b.kinds; entries = set b.entries at x; count = b.count }) (book_of b.kinds (set (entries_of b) at x))
renewed-done b at x h k =
    let stored : set b.entries at x ≡ set (entries_of b) at x ++ replicate (256 - b.count) no_entry =
    ap (λ (l : List Entry). set l at x) (law-list b h) ∙ set_front (entries_of b) (replicate (256 - b.count) no_entry) at x (omega (arith, law-len b h)) in
    built b.kinds _ (set (entries_of b) at x) b.count (256 - b.count) (length-set (entries_of b) at x ∙ law-len b h) (omega (arith, h.few)) stored

-- ---- a book put together holds what it was made of
pub holds : (ks : List Kind) (l : List Entry) → entries_of (book_of ks l) ≡ l
holds ks l = take-append_seam l (replicate (256 - length l) no_entry)

-- a book made of lawful parts is lawful
pub lawful-of : (ks : List Kind) (l : List Entry) (area : List ℕ) → length l ≤ 256 → length ks ≡ 16 → All Limits ks → length area ≡ 98048 → All (Fits ks) l
    → ((s : ℕ) → count (in_slot s) l ≤ 1) → Lawful (book_of ks l) area
lawful-of ks l area few files limits roomy fit apart = record {
  shape = record { few = few; whole = ap (book_of ks) (sym (holds ks l)); files = files };
  limits = limits;
  roomy = roomy;
  fit = rw (holds ks l) fit;
  apart = λ s. rw (holds ks l) (apart s);
}

-- ---- what stands in a lawful book
pub fits-at : (b : Book) (area : List ℕ) (h : Lawful b area) (i : ℕ) → i < b.count → Fits b.kinds (get_or b.entries i no_entry)
fits-at b area h i k = rw (← same-entry b h.shape i k) (all-at no_entry (Fits b.kinds) (entries_of b) i (omega (arith, law-len b h.shape)) h.fit)

-- a found place stands in the book
pub place_in : (b : Book) → Shaped b → (q : Entry → Bool) (j : ℕ) → place q 0 (entries_of b) ≡ Some j → j < b.count
place_in b h q j e = let w = place_inside q 0 (entries_of b) j e in omega (arith, w.1, law-len b h)

-- the limits of a row, by its place and by its file
pub row-limits : (ks : List Kind) (n : ℕ) → All Limits ks → ((get_or ks n no_kind).keymax ≤ 255) × ((get_or ks n no_kind).recmax ≤ 128)
row-limits [] n a = (omega arith, omega arith)
row-limits (k ∷ ks) zero a = (a.0.key, a.0.body)
row-limits (k ∷ ks) (suc n) a = row-limits ks n a.1

pub kind-limits : (ks : List Kind) (f : ℕ) → All Limits ks → ((kind_of ks f).keymax ≤ 255) × ((kind_of ks f).recmax ≤ 128)
kind-limits ks zero a = (omega arith, omega arith)
kind-limits ks (suc n) a = row-limits ks n a

pub slots-long : (l : List Entry) → length (slots_of l) ≡ length l
slots-long l = length-map l (λ (x : Entry). x.slot)

-- a slot is free where there is room for an entry
pub slot_small : (b : Book) → Shaped b → b.count < 256 → least 0 (slots_of (entries_of b)) ≤ 255
slot_small b h k = omega (arith, least-le 0 (slots_of (entries_of b)), slots-long (entries_of b), law-len b h)

-- ---- the lesser of a place and the count

-- a start of the entries is a start of all places
pub take-both : (l : List Entry) (e n : ℕ) → take (min e n) l ≡ take e (take n l)
take-both l e n =
    split (ltb e n) (λ t. let k : e < n = ltb-true e n t in let m : min e n ≡ e = omega arith in rw m (sym (take-take e n l (le_of_lt k))))
    (λ t. let k : n ≤ e = ltb-false e n t in let m : min e n ≡ n = omega arith in rw m (sym (take_all e (take n l) (omega (arith, length-take n l)))))
