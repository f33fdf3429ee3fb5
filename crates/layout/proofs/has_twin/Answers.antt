-- Entry by entry: one that clashes settles it. What `clash` is told of the keys is what stands in the image.
use Rattle.std.proofs.Common.{◌≡◌, ℕ, ◌+◌, ◌-◌, ◌*◌, ◌<◌, ◌≤◌, Bool, List, take, drop, ◌∙◌, sym, arith}
use Rattle.std.proofs.Common.{ltb}
use Rattle.book.specs.Book.{kind_of}
use Rattle.book.specs.declared.Entry.{Entry}
use Rattle.book.specs.declared.Kind.{Kind}
use Rattle.layout.proofs.Sounds.{key-is, meets, meets-is, twin-end, twin-hit, twin-miss}
use Rattle.layout.specs.Judged.{clashes, count_in, entry_in, table_in}
use Rattle.layout.proofs.has_twin.Goals as goal

-- the bytes of entry i's key, cut out of the image
abbrev cut : List ℕ → ℕ → ℕ → ℕ → List ℕ
cut img n i k = take ((((64 + n * 6) + i * 383) + k) - ((64 + n * 6) + i * 383)) (drop ((64 + n * 6) + i * 383) img)

met : (img : List ℕ) (n i j k m : ℕ) (row : Kind) (x y : Entry) (r : Bool) → n ≡ count_in img → i < n → j < n → x ≡ entry_in img i → x.keylen ≤ 255 → k ≡ x.keylen
    → row ≡ kind_of (table_in img) x.file → y ≡ entry_in img j → y.keylen ≤ 255 → m ≡ y.keylen
    → r ≡ clashes (ltb 0 row.keymax) x (cut img n i k) y (cut img n j m) → meets img i j ≡ r
met img n i j k m row x y r e hi hj ex bx ek er ey by em g =
    sym (meets-is img i j row x y (cut img n i k) (cut img n j m) r ex er (key-is img n i k x e hi ex bx ek) ey (key-is img n j m y e hj ey by em) g)

pub returns-then-clash : goal.returns-then-clash
returns-then-clash c =
    let x = c.entry_in-x in
    let y = c.entry_in-y in
    let m = met c.args.img.now _ c.args.i c.loop-j.j _ _ _ _ _ _ c.held-n.ensures.0 (omega arith) (omega arith) x.ensures.0 x.ensures.2 c.from.ensures
    c.row_of-kind.ensures y.ensures.0 y.ensures.2 c.from-in-loop-j.ensures c.if-clash.ensures in
    sym (twin-hit c.args.img.now c.args.i c.loop-j.j (omega arith) m) ∙ c.loop-j.invariant

pub loop-j-preserved : goal.loop-j-preserved
loop-j-preserved c =
    let x = c.entry_in-x in
    let y = c.entry_in-y in
    let m = met c.args.img.now _ c.args.i c.loop-j.j _ _ _ _ _ _ c.held-n.ensures.0 (omega arith) (omega arith) x.ensures.0 x.ensures.2 c.from.ensures
    c.row_of-kind.ensures y.ensures.0 y.ensures.2 c.from-in-loop-j.ensures c.if-clash.ensures in
    twin-miss c.args.img.now c.args.i c.loop-j.j (omega arith) m ∙ c.loop-j.invariant

pub returns : goal.returns
returns c = sym (twin-end c.args.img.now c.args.i c.loop-j.j (omega arith)) ∙ c.loop-j.invariant
