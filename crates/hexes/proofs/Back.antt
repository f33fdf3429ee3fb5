-- What is written reads as the same bytes, whatever they are. Assumes nothing.
use Prim.Native.Nat.{ℕ, suc, ◌+◌, ◌*◌, ◌/◌, ◌%◌, ◌<◌}
use mathlib.Core.Path.{◌≡◌, ap, ◌∙◌}
use mathlib.Core.List.{List, [], ◌∷◌, ◌++◌, append_assoc}
use native.Mathlib.Omega.{arith}
use lib.Dec.{eqb, ltb}
use lib.ListN.{length}
use borrow.Table.Steps.{cases}
use borrow.Author.Tests.{ne_eqb, lt-ltb, le-ltb, ltb-true, ltb-false}
use Rattle.lists.specs.Lists.{Bytes}
use Rattle.text.specs.Text.{pen, puts, digit_of, hex_of}
use Rattle.std.specs.Prelude.{Ok}
use Rattle.hexes.specs.declared.Class.TheVariants.{Digit}
use Rattle.hexes.specs.declared.Mode.TheVariants.{Between}
use Rattle.hexes.specs.declared.Taken.{Taken}
use Rattle.hexes.specs.declared.Cursor.{Cursor}
use Rattle.hexes.specs.Reading.{class_of, step_of, Scan, then, stopped, scan_from, scan_of, Reads}
use Rattle.hexes.specs.Writing.{is_over, advanced, splits_at, name_of, gap_of, text_of, after, end_of, fresh_cursor, written_of}

-- ---- digits

digit-class : (d : ℕ) → d < 16 → class_of (digit_of d) ≡ Digit d
unfolding class_of
digit-class d h =
    cases (ltb d 10)
    (λ e. let k = ltb-true d 10 e in
    rw (e, ne_eqb (48 + d) 32 (λ q. omega arith), ne_eqb (48 + d) 9 (λ q. omega arith), ne_eqb (48 + d) 13 (λ q. omega arith), ne_eqb (48 + d) 10 (λ q. omega arith), ne_eqb (48 + d) 35 (λ q. omega arith), le-ltb (48 + d) 48 (omega arith), lt-ltb (48 + d) 58 (omega arith)) (ap Digit (omega arith)))
    (λ e. let k = ltb-false d 10 e in
    rw (e, ne_eqb (55 + d) 32 (λ q. omega arith), ne_eqb (55 + d) 9 (λ q. omega arith), ne_eqb (55 + d) 13 (λ q. omega arith), ne_eqb (55 + d) 10 (λ q. omega arith), ne_eqb (55 + d) 35 (λ q. omega arith), le-ltb (55 + d) 48 (omega arith), le-ltb (55 + d) 58 (omega arith), le-ltb (55 + d) 65 (omega arith), lt-ltb (55 + d) 71 (omega arith)) (ap Digit (omega arith)))

-- ---- from between two bytes on

-- a text reads as r from there, wherever it stands
abbrev Says : List ℕ → Scan → Type 0
Says s r = (i : ℕ) → scan_from Between i s ≡ r

byte-back : (b : ℕ) → b < 256 → (s : List ℕ) (r : Scan) → Says s r → Says (hex_of b ++ s) (then b r)
unfolding step_of
byte-back b h s r f i =
    rw (digit-class (b / 16) (omega arith), digit-class (b % 16) (omega arith))
    (ap (then (b / 16 * 16 + b % 16)) (f (i + 1 + 1)) ∙ ap (λ (x : ℕ). then x r) (omega arith))

name_back : (tag : ℕ) (s : List ℕ) (r : Scan) → Says s r → Says (name_of tag ++ s) r
unfolding name_of class_of step_of
name_back tag s r f i =
    cases (eqb tag 1) (λ e. rw e (f _))
    (λ a. cases (eqb tag 2) (λ e. rw (a, e) (f _))
    (λ b. cases (eqb tag 3) (λ e. rw (a, b, e) (f _))
    (λ d. cases (eqb tag 4) (λ e. rw (a, b, d, e) (f _))
    (λ e. rw (a, b, d, e) (f _)))))

blank-back : (s : List ℕ) (r : Scan) → Says s r → Says (32 ∷ s) r
unfolding class_of step_of
blank-back s r f i = f _

gap_back : (c : Cursor) (s : List ℕ) (r : Scan) → Says s r → Says (gap_of c ++ s) r
unfolding gap_of
gap_back c s r f i =
    cases (is_over c) (λ e. rw e (name_back c.tag s r f i))
    (λ e. cases (splits_at c.tag c.at) (λ q. rw (e, q) (blank-back s r f i)) (λ q. rw (e, q) (f i)))

end_back : (c : Cursor) → Says (end_of c) (stopped (Ok tt))
unfolding end_of class_of step_of
end_back c i = cases (is_over c) (λ e. rw e) (λ e. rw e)

grouped : (a b d e : List ℕ) → ((a ++ b) ++ d) ++ e ≡ a ++ (b ++ (d ++ e))
grouped a b d e = simp append_assoc

all_back : (s : List ℕ) (c : Cursor) → Bytes s → Says (text_of c s ++ end_of (after c s)) (record { bytes = s; ends = Ok tt })
all_back [] c h i = end_back c i
all_back (b ∷ s) c h i =
    let d = advanced c b in
    let rest = text_of d s ++ end_of (after d s) in
    let r : Scan = record { bytes = s; ends = Ok tt } in
    ap (scan_from Between i) (grouped (hex_of b) (gap_of d) (text_of d s) (end_of (after d s)))
    ∙ byte-back b (h 0) (gap_of d ++ rest) r (gap_back d rest r (all_back s d (λ j. h (suc j)))) i

-- ---- both ways

-- what is written of some bytes says these bytes, to its end
pub reads-back : (s : List ℕ) → Bytes s → scan_of (written_of s) ≡ record { bytes = s; ends = Ok tt }
unfolding scan_of written_of
reads-back s h = all_back s fresh_cursor h 0

-- so the code that reads it puts these bytes into the buffer, counts them, and finds no mistake
pub same_bytes : (s old new : List ℕ) (r : Taken) → Bytes s → Reads (written_of s) old new r
    → (pen new r.length ≡ puts (pen old 0) s) × (r.count ≡ length s) × (r.ends ≡ Ok tt)
same_bytes s old new r h k = let e = reads-back s h in (k.held ∙ rw e, k.counted ∙ rw e, k.ends ∙ rw e)
