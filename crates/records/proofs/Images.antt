-- The image that is kept last: it was saved, and copied to its buffer; or it was there at the start. Assumes nothing.
use Prim.Native.Nat.{◌+◌, ◌-◌, ◌≤◌, ℕ}
use Rattle.std.specs.Prelude.{Some, None, Result, Ok, is_ok}
use mathlib.Core.Bool.{true}
use mathlib.Core.List.{◌++◌, List, []}
use mathlib.Core.Path.{◌≡◌, ap, sym, ◌∙◌}
use native.Mathlib.Omega.{arith}
use lib.Dec.{ltb}
use lib.ListN.{drop, length, length-append, length-drop, take}
use lib.Seq.{take_at, take-length}
use borrow.Author.Tests.{ltb-false}
use Rattle.book.specs.Book.{book_of, entries_of, no_kinds}
use Rattle.book.specs.declared.Book.{Book}
use Rattle.image.proofs.Trips.{accepted-image, accepted-storable, image-long, image-small}
use Rattle.image.specs.Image.{Storable, image_of, load_area, load_of, loaded, saved_in, saved_of}
use Rattle.io.proofs.Counting.{prefix_len_of_le}
use Rattle.layout.specs.Layout.{size_of}
use Rattle.layout.specs.declared.Flaw.{Flaw}
use Rattle.lists.proofs.Tests.{differ, split}
use Rattle.lists.specs.Lists.{Bytes}
use Rattle.records.specs.Records.{Room}
use Rattle.store.proofs.Kept.{fresh-lawful, fresh-sound}

-- bytes that were saved: they stand at the start of their buffer, and are the image
pub saved : (b : Book) (area out new : List ℕ) (n : ℕ) → Storable b area → Some n ≡ saved_of b out → new ≡ saved_in b area out
    → (n ≤ length new) × (length (take n new) ≤ 99652) × (take n new ≡ image_of b area)
saved b area out new n st w s =
    let z : ℕ = size_of (length (entries_of b)) in
    let long : length (image_of b area) ≡ z = image-long b area st in
    split (ltb (length out) z)
    (λ t. let q : Some n ≡ None = rw t at w in differ cc)
    (λ t.
    let q : Some n ≡ Some z = rw t at w in
    let m : n ≡ z = cc in
    let room : z ≤ length out = ltb-false (length out) z t in
    let e : new ≡ image_of b area ++ drop (length (image_of b area)) out = rw t at s in
    let size : length new ≡ length (image_of b area) + (length out - length (image_of b area)) = ap length e ∙ simp (length-append, length-drop) in
    let start : take n new ≡ image_of b area = ap (take n) e ∙ take_at (image_of b area) _ n (long ∙ sym m) in
    (omega (arith, size), omega (arith, ap length start, image-small b area st), start))

-- bytes that were copied to the start of the buffer
pub copied : (next last new : List ℕ) (n : ℕ) → length next ≤ 99652 → length last ≡ 99653 → n ≡ length next → new ≡ take (length next) next ++ drop (length next) last
    → Room new n × (take n new ≡ next)
copied next last new n few long e s =
    let t : new ≡ next ++ drop (length next) last = s ∙ ap (λ (l : List ℕ). l ++ drop (length next) last) (take-length next) in
    let size : length new ≡ length last = ap length t ∙ simp (length-append, length-drop) (omega arith) in
    (record { long = size ∙ long; used = prefix_len_of_le n new (omega arith) }, ap (take n) t ∙ take_at next _ n (sym e))

-- the store without files
pub fresh-storable : (b : Book) (area : List ℕ) → b ≡ book_of no_kinds [] → length area ≡ 98048 → Storable b area
fresh-storable b area e h = rw e (record { law = fresh-lawful area h; sound = fresh-sound area })

-- the store of an image, and its image
pub resumed : (img area area' : List ℕ) (b : Book) → Bytes img → Ok b ≡ load_of img area → area' ≡ load_area img area
    → Storable b area' × (img ≡ image_of b area')
resumed img area area' b bytes e f =
    let ok : is_ok (load_of img area) ≡ true = sym (ap (λ (r : Result Book Flaw). is_ok r) e) in
    let was : b ≡ loaded (load_of img area) = ap loaded e in
    (rw (was, f) (accepted-storable img area bytes ok), rw (was, f) (accepted-image img area bytes ok))
