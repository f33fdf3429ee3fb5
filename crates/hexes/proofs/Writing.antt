-- Laws of the written text: part by part, and one byte more. Assumes nothing.
use Prim.Native.Nat.{ℕ, ◌+◌, ◌*◌, ◌≤◌, ◌<◌}
use mathlib.Core.Path.{◌≡◌, refl, ap, ◌∙◌}
use mathlib.Core.Bool.{false}
use mathlib.Core.List.{List, [], ◌∷◌, ◌++◌, append_assoc, append-nil}
use native.Mathlib.Omega.{arith}
use native.Mathlib.Numerals.{add-one}
use lib.Dec.{eqb}
use lib.ListN.{length, take, drop, get_or, length-append}
use lib.Seq.{take-suc, take-append_seam}
use borrow.Table.Steps.{cases}
use borrow.Author.Tests.{leb-false}
use Rattle.text.specs.declared.Writer.{Writer}
use Rattle.text.specs.Text.{Pen, pen, hex_of}
use Rattle.text.specs.Text as text
use Rattle.text.proofs.Laws.{and_then, puts-fit}
use Rattle.hexes.specs.declared.Cursor.{Cursor}
use Rattle.hexes.specs.declared.Written.{Written}
use Rattle.hexes.specs.Writing.{is_over, advanced, splits_at, name_of, gap_of, text_of, after, Writes}

pub not-over : (c : Cursor) → is_over c ≡ false → c.at < 3 + (c.high * 256 + c.low)
not-over c e = leb-false _ _ e

-- the text of two parts, one after the other
pub text-append : (c : Cursor) (a b : List ℕ) → text_of c (a ++ b) ≡ text_of c a ++ text_of (after c a) b
text-append c [] b = refl
text-append c (x ∷ a) b = rw (text-append (advanced c x) a b, append_assoc)

pub after-append : (c : Cursor) (a b : List ℕ) → after c (a ++ b) ≡ after (after c a) b
after-append c [] b = refl
after-append c (x ∷ a) b = after-append (advanced c x) a b

module _ (c : Cursor) (s : List ℕ) (i : ℕ) (h : i < length s) where
  split : take (i + 1) s ≡ take i s ++ (get_or s i 0 ∷ [])
  split = rw add-one (take-suc s i 0 h)

  pub after_more : (d : Cursor) → d ≡ after c (take i s) → advanced d (get_or s i 0) ≡ after c (take (i + 1) s)
  after_more d e = rw (e, split, after-append c (take i s) (get_or s i 0 ∷ []))

  pub text-more : {p q r : Writer} (d e : Cursor)
      → d ≡ after c (take i s)
      → e ≡ advanced d (get_or s i 0)
      → text.Writes p q (text_of c (take i s))
      → text.Writes q r (hex_of (get_or s i 0) ++ gap_of e)
      → text.Writes p r (text_of c (take (i + 1) s))
  text-more d e u v f g =
      let one : text_of c (take (i + 1) s) ≡ text_of c (take i s) ++ (hex_of (get_or s i 0) ++ gap_of e) = rw (v, u, split, text-append c (take i s) (get_or s i 0 ∷ []), append-nil) in
      rw one (and_then f g)

-- ---- room: a page that has 15 characters for each byte of a part holds the part's text whole

name-short : (tag : ℕ) → length (name_of tag) ≤ 13
unfolding name_of
name-short tag =
    cases (eqb tag 1) (λ e. rw e (omega arith))
    (λ a. cases (eqb tag 2) (λ e. rw (a, e) (omega arith))
    (λ b. cases (eqb tag 3) (λ e. rw (a, b, e) (omega arith))
    (λ d. cases (eqb tag 4) (λ e. rw (a, b, d, e) (omega arith))
    (λ e. rw (a, b, d, e) (omega arith)))))

gap-short : (c : Cursor) → length (gap_of c) ≤ 13
unfolding gap_of
gap-short c =
    cases (is_over c) (λ e. rw e (name-short c.tag))
    (λ e. cases (splits_at c.tag c.at) (λ q. rw (e, q) (omega arith)) (λ q. rw (e, q) (omega arith)))

pub text-short : (c : Cursor) (s : List ℕ) → length (text_of c s) ≤ 15 * length s
text-short c [] = omega arith
text-short c (b ∷ s) =
    omega (arith, length-append (hex_of b ++ gap_of (advanced c b)) (text_of (advanced c b) s), length-append (hex_of b) (gap_of (advanced c b)), gap-short (advanced c b), text-short (advanced c b) s)

pub part-whole : (c : Cursor) (s old new : List ℕ) (r : Written) → 15 * length s ≤ length old → Writes c s old new r → take r.used new ≡ text_of c s
part-whole c s old new r h w =
    let t = text_of c s in
    let e : pen new r.used ≡ pen (t ++ drop (length t) old) (length t) = w.text ∙ puts-fit old t (omega (arith, text-short c s)) in
    rw (ap (λ (p : Pen). p.at) e, ap (λ (p : Pen). p.bytes) e, take-append_seam t (drop (length t) old))
