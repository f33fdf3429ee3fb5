-- Where a field lies in its input, the number at the start of a line, and what a turn says.
use Prim.Native.Nat.{ℕ, ◌+◌, ◌≤◌}
use mathlib.Core.Path.{◌≡◌, refl, ap, ◌∙◌}
use mathlib.Core.Bool.{false}
use mathlib.Core.List.{List, ◌++◌}
use native.Mathlib.Omega.{arith}
use lib.Dec.{leb, ltb}
use lib.ListN.{length, take, drop, length-append}
use lib.Seq.{take_at}
use borrow.Author.Tests.{ltb-false}
use borrow.Rule.Slice.PartMut.{put_mid, take_put}
use Rattle.tapa.specs.Numbers.{word_at}
use Rattle.lists.proofs.Tests.{split, differ}
use Rattle.fields.specs.Places.{read_at}
use Rattle.fields.specs.declared.Read.TheVariants.{Field}
use Rattle.text.specs.Text.{Pen, pen, puts, decimal_of}
use Rattle.text.proofs.Laws.{puts-fit, five-digits}
use Rattle.lines.specs.Lines.{long_line}
use Rattle.bench.specs.declared.Bench.{Bench}
use Rattle.bench.specs.declared.Turn.{Turn}
use Rattle.bench.specs.Bench.{Lawful, Sound, Placed, Lines, Numbered, Turns}

-- a whole field starts three bytes on, and ends in the input
pub placed : (s : List ℕ) (b : Bench) (t a n : ℕ) → length s ≤ 65536 → read_at s b.at ≡ Field t a n → Placed s b a (a + n)
unfolding read_at
placed s b t a n short =
    split (leb (length s) b.at)
    (λ e. rw e (λ h. differ (cc)))
    (λ e. rw e (split (ltb (length s) (b.at + 3))
    (λ f. rw f (λ h. differ (cc)))
    (λ f. rw f (split (ltb (length s) (b.at + 3 + word_at s (b.at + 1)))
    (λ g. rw g (λ h. differ (cc)))
    (λ g. rw g (λ h.
    let p : b.at + 3 ≡ a = cc in
    let q : word_at s (b.at + 1) ≡ n = cc in
    let m : b.at + 3 + word_at s (b.at + 1) ≤ length s = ltb-false (length s) (b.at + 3 + word_at s (b.at + 1)) g in
    record { begins = omega arith; ordered = omega arith; inside = omega arith; near = omega arith }))))))

-- ---- the number at the start of a line

-- a text at the start of a line that has room for it
pub record Written (text line : List ℕ) (r : ℕ) : Type 0 where
  pub counts : r ≡ length text
  pub first : take r line ≡ text
  pub fits : r ≤ length line

written : (l line t : List ℕ) (r : ℕ) → length t ≤ length l → pen line r ≡ puts (pen l 0) t → Written t line r
written l line t r h e =
    let p : pen line r ≡ pen (t ++ drop (length t) l) (length t) = e ∙ puts-fit l t h in
    let n : r ≡ length t = ap (λ (q : Pen). q.at) p in
    let b : line ≡ t ++ drop (length t) l = ap (λ (q : Pen). q.bytes) p in
    record {
      counts = n;
      first = rw (b, n) (take_at t (drop (length t) l) (length t) refl);
      fits = rw b (omega (arith, length-append t (drop (length t) l)));
    }

pub number-written : (l line : List ℕ) (r n : ℕ) → 64 ≤ length l → n ≤ 65537 → pen line r ≡ puts (pen l 0) (decimal_of n) → Written (decimal_of n) line r
number-written l line r n h m e = written l line (decimal_of n) r (omega (arith, five-digits n (omega arith))) e

pub long-fits : (l line : List ℕ) (r : ℕ) → 64 ≤ length l → pen line r ≡ puts (pen l 0) long_line → r ≤ length line
long-fits l line r h e = (written l line long_line r (omega arith) e).fits

-- what is written behind the number leaves it
pub lined : (b next : Bench) (a k p : ℕ) (l x area : List ℕ)
    → Written (decimal_of b.number) l a → Lawful next area → p ≤ length (put_mid a k l x)
    → Lines b (put_mid a k l x) area (record { place = p; next = next })
lined b next a k p l x area w lawful h = record { lawful = lawful; fits = h; numbered = rw (← w.counts) (take_put a k l x w.fits ∙ w.first) }

-- ---- turns

-- a last turn
pub stopped : (s : List ℕ) (b : Bench) (line area : List ℕ) (t : Turn) → t.more ≡ false → t.length ≤ length line → Turns s b line area t
stopped s b line area t m h = record {
  sound = λ e. differ (cc);
  fits = h;
  onwards = λ e. differ (cc);
  inside = λ e. differ (cc);
  counts = λ e. differ (cc);
  numbered = λ e. differ (cc);
}

-- a turn that moves on to the end of its field
pub moved : (s : List ℕ) (b : Bench) (from to : ℕ) (line before area : List ℕ) (t : Turn)
    → Sound b before → Placed s b from to → t.next.at ≡ to → t.next.number ≡ b.number + 1 → Lawful t.next area
    → t.length ≤ length line → (1 ≤ t.length → Numbered b.number line)
    → Turns s b line area t
moved s b from to line before area t sound at e n lawful fits begins = record {
  sound = λ m. record { lawful = lawful; counted = omega (arith, sound.counted, at.begins, at.ordered); near = omega (arith, at.near) };
  fits = fits;
  onwards = λ m. omega (arith, at.begins, at.ordered);
  inside = λ m. omega (arith, at.inside);
  counts = λ m. n;
  numbered = λ m. begins;
}
