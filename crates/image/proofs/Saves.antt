-- A store as bytes: each number of an entry is a byte, and the pieces that `save` writes one behind the other are the image.
use Prim.Native.Nat.{◌*◌, ◌+◌, ◌-◌, ◌<◌, ℕ, ◌≤◌}
use mathlib.Core.Bool.{Bool, cond}
use Rattle.std.specs.Prelude.{Some, None}
use mathlib.Core.List.{◌++◌, List, append_assoc}
use mathlib.Core.Path.{ap, refl, sym, ◌∙◌, ◌≡◌}
use native.Mathlib.Omega.{arith}
use lib.Dec.{leb}
use lib.ListN.{get_or-eq_default, drop, get_or, length, length-append, take}
use lib.Seq.{take_all, take_at}
use borrow.Author.Tests.{le-ltb, leb-false, leb-true, lt-ltb}
use Rattle.adler.specs.Adler.{adler32}
use Rattle.adler.specs.declared.Sums.{Sums}
use Rattle.book.proofs.Laws.{row-limits}
use Rattle.book.specs.Book.{Fits, Lawful, Limits, entries_of, no_entry, no_kind}
use Rattle.book.specs.declared.Book.{Book}
use Rattle.book.specs.declared.Entry.{Entry}
use Rattle.book.specs.declared.Kind.{Kind}
use Rattle.image.proofs.Flats.{entries-wide, flat-long, kinds-wide, slots-wide}
use Rattle.image.specs.Image.{image_of, saved_in, saved_of, slot_bytes}
use Rattle.layout.specs.Layout.{entry_bytes, flat, kind_bytes, name, sealed, size_of, sum_bytes, version}
use Rattle.lists.proofs.ByPlace.{all-at}
use Rattle.lists.proofs.Onto.{prefix}
use Rattle.lists.proofs.Over.{over-start, then}
use Rattle.lists.proofs.Tests.{clash, split}
use Rattle.lists.specs.Lists.{All, onto, over}
use Rattle.slots.proofs.Slots.{bytes-are, window-long}
use Rattle.slots.specs.Slots.{bytes_of, window}
use Rattle.tapa.specs.Numbers.{two_bytes}

-- ---- the numbers of an entry

-- a file that is made has a row
file-small : (ks : List Kind) (x : Entry) → length ks ≡ 16 → Fits ks x → x.file ≤ 16
file-small ks x long f =
    split (leb x.file 16) (λ t. leb-true x.file 16 t)
    (λ t. let past : 16 < x.file = leb-false x.file 16 t in
    clash (get_or ks (x.file - 1) no_kind).made f.made (ap (λ (k : Kind). k.made) (get_or-eq_default ks no_kind {n = x.file - 1} (omega arith))))

pub record Narrow (x : Entry) : Type 0 where
  pub file : x.file ≤ 255
  pub slot : x.slot ≤ 255
  pub key : x.keylen ≤ 255
  pub body : x.len ≤ 255

fits-narrow : (ks : List Kind) (x : Entry) → length ks ≡ 16 → All Limits ks → Fits ks x → Narrow x
fits-narrow ks x long limits f =
    let row = row-limits ks (x.file - 1) limits in
    record { file = omega (arith, file-small ks x long f); slot = f.slot; key = omega (arith, f.key, row.0); body = omega (arith, f.body, row.1) }

pub narrow_at : (b : Book) (area : List ℕ) (i : ℕ) → Lawful b area → i < length (entries_of b) → Narrow (get_or (entries_of b) i no_entry)
narrow_at b area i law h =
    fits-narrow b.kinds (get_or (entries_of b) i no_entry) law.shape.files law.limits (all-at no_entry (Fits b.kinds) (entries_of b) i h law.fit)

-- ---- the slot of an entry, as the code reads it
pub slot_whole : (area : List ℕ) (x y : Entry) → length area ≡ 98048 → y.slot ≤ 255 → x ≡ y → bytes_of area x.slot 0 383 ≡ slot_bytes area y
slot_whole area x y long small e =
    ap (λ (z : Entry). bytes_of area z.slot 0 383) e
    ∙ bytes-are area y.slot long small 0 383 (omega arith)
    ∙ take_all 383 (window area y.slot) (omega (arith, window-long area y.slot long small))

-- ---- five pieces one behind the other, and the checksum of all five
module _ (out first ks count rows slots o1 o2 o3 o4 o5 o6 o7 : List ℕ) (sum : Sums) (n end : ℕ)
    (first-long : length first ≡ 14) (ks-long : length ks ≡ 48) (count_long : length count ≡ 2) (rows_long : length rows ≡ n * 6) (slots-long : length slots ≡ n * 383)
    (room : 68 + n * 389 ≤ length out) (ends : end ≡ 64 + n * 389)
    (e1 : o1 ≡ over out 0 first) (e2 : o2 ≡ over o1 14 ks) (e3 : o3 ≡ over o2 62 count) (e4 : o4 ≡ over o3 64 rows) (e5 : o5 ≡ over o4 (64 + n * 6) slots)
    (es : sum ≡ adler32 (take (end - 0) (drop 0 o5))) (e6 : o6 ≡ over o5 end (two_bytes sum.high)) (e7 : o7 ≡ over o6 (end + 2) (two_bytes sum.low)) where
  abbrev body : List ℕ
  body = first ++ (ks ++ (count ++ (rows ++ slots)))

  abbrev head : List ℕ
  head = (first ++ ks) ++ count

  long-62 : length (first ++ ks) ≡ 62
  long-62 = length-append first ks ∙ omega arith

  long-64 : length head ≡ 64
  long-64 = length-append (first ++ ks) count ∙ omega (arith, long-62)

  long-rows : length (head ++ rows) ≡ 64 + n * 6
  long-rows = length-append head rows ∙ omega (arith, long-64)

  body_is : (head ++ rows) ++ slots ≡ body
  body_is = simp append_assoc

  long-body : length body ≡ end
  long-body = ap length (sym body_is) ∙ length-append (head ++ rows) slots ∙ omega (arith, long-rows)

  body-written : o5 ≡ over out 0 body
  body-written =
      let a2 = then out first ks o1 o2 14 e1 (sym first-long) e2 (omega arith) in
      let a3 = then out (first ++ ks) count o2 o3 62 a2 (sym long-62) e3 (omega (arith, long-62)) in
      let a4 = then out head rows o3 o4 64 a3 (sym long-64) e4 (omega (arith, long-64)) in
      then out (head ++ rows) slots o4 o5 (64 + n * 6) a4 (sym long-rows) e5 (omega (arith, long-rows)) ∙ ap (over out 0) body_is

  sum_is : sum ≡ adler32 body
  sum_is = es ∙ ap adler32 (prefix end o5 ∙ ap (take end) body-written ∙ take_at body (drop (0 + length body) out) end long-body)

  sealed-written : o7 ≡ over out 0 (sealed body)
  sealed-written =
      let high = two_bytes sum.high in
      let low = two_bytes sum.low in
      let a6 = then out body high o5 o6 end body-written (sym long-body) e6 (omega (arith, long-body)) in
      let long : length (body ++ high) ≡ end + 2 = length-append body high ∙ omega (arith, long-body) in
      then out (body ++ high) low o6 o7 (end + 2) a6 (sym long) e7 (omega (arith, long))
      ∙ ap (over out 0) (append_assoc body high low)
      ∙ ap (λ (z : Sums). over out 0 (body ++ sum_bytes z)) sum_is

-- ---- what `save` answers
module _ (b : Book) (area out : List ℕ) (n : ℕ) (held : n ≡ length (entries_of b)) where
  size_is : 68 + n * 389 ≡ size_of (length (entries_of b))
  size_is = ap size_of held

  pub saved-small : length out < 68 + n * 389 → (None ≡ saved_of b out) × (out ≡ saved_in b area out)
  saved-small h = let t = lt-ltb (length out) (size_of (length (entries_of b))) (rw size_is at h) in (rw t, rw t)

  pub saved-done : Lawful b area → (o1 o2 o3 o4 o5 o6 o7 : List ℕ) (sum : Sums) → 68 + n * 389 ≤ length out
      → o1 ≡ over out 0 (name ++ version) → o2 ≡ over o1 14 (flat kind_bytes b.kinds) → o3 ≡ over o2 62 (two_bytes n) → o4 ≡ over o3 64 (flat entry_bytes (entries_of b))
      → o5 ≡ over o4 (64 + n * 6) (flat (slot_bytes area) (entries_of b)) → sum ≡ adler32 (take ((68 + n * 389 - 4) - 0) (drop 0 o5))
      → o6 ≡ over o5 (68 + n * 389 - 4) (two_bytes sum.high) → o7 ≡ over o6 (68 + n * 389 - 4 + 2) (two_bytes sum.low)
      → (Some (68 + n * 389) ≡ saved_of b out) × (o7 ≡ saved_in b area out)
  saved-done law o1 o2 o3 o4 o5 o6 o7 sum room e1 e2 e3 e4 e5 es e6 e7 =
      let l = entries_of b in
      let t = le-ltb (length out) (size_of (length l)) (rw size_is at room) in
      let ks = flat kind_bytes b.kinds in
      let rows = flat entry_bytes l in
      let slots = flat (slot_bytes area) l in
      let whole = sealed-written out (name ++ version) ks (two_bytes n) rows slots o1 o2 o3 o4 o5 o6 o7 sum n (68 + n * 389 - 4) refl
      (flat-long kind_bytes 3 b.kinds (kinds-wide b.kinds) ∙ omega (arith, law.shape.files)) refl
      (flat-long entry_bytes 6 l (entries-wide l) ∙ omega arith) (flat-long (slot_bytes area) 383 l (slots-wide area b.kinds l law.roomy law.fit) ∙ omega arith)
      room (omega arith) e1 e2 e3 e4 e5 es e6 e7 in (
        rw t (ap Some size_is),
        whole ∙ ap (λ (m : ℕ). over out 0 (sealed ((name ++ version) ++ (ks ++ (two_bytes m ++ (rows ++ slots)))))) held ∙ over-start out (image_of b area)
            ∙ sym (ap (λ (q : Bool). cond q out (onto (image_of b area) out)) t),
      )
