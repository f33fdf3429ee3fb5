-- Laws of the sheet: where a wording ends, and that it is a part of the sheet. Assumes nothing.
use Prim.Native.Nat.{ℕ, ◌+◌, ◌-◌, ◌*◌, ◌≤◌, ◌<◌}
use mathlib.Core.Path.{◌≡◌, refl, sym, ap, ◌∙◌}
use mathlib.Core.Bool.{◌&&◌, true, false}
use mathlib.Core.List.{List, [], ◌∷◌}
use native.Mathlib.Omega.{arith}
use lib.Dec.{ltb, leb}
use lib.ListN.{length, take, drop, length-take, length-drop}
use lib.Seq.{take-take}
use borrow.Table.Steps.{cases}
use borrow.Author.Tests.{lt-ltb, le-ltb, le-leb, lt-leb, ltb-false}
use Rattle.std.specs.Option.{unwrap_or}
use Rattle.std.specs.List.{position, position_or_len}
use Rattle.std.proofs.lemmas.List.Recursion.{is_position_or_len}
use Rattle.forms.specs.Forms.{worded, cell_from, wording_of, end_of, span_of, Spans}

-- ---- a wording is the start of its cell

worded-short : (l : List ℕ) → length (worded l) ≤ length l
worded-short [] = omega arith
worded-short (b ∷ l) = cases (ltb b 32) (λ e. rw e (omega arith)) (λ e. rw e (omega (arith, worded-short l)))

worded-start : (l : List ℕ) → take (length (worded l)) l ≡ worded l
worded-start [] = refl
worded-start (b ∷ l) = cases (ltb b 32) (λ e. rw e) (λ e. rw (e, worded-start l))

-- ---- the end of a wording: the first byte below 32, or the end of its cell

worded-length : (l : List ℕ) → length (worded l) ≡ position_or_len (λ b. ltb b 32) l
worded-length = is_position_or_len (λ l. length (worded l)) (λ b. ltb b 32) refl (λ x l. cases (ltb x 32) (λ e. rw e) (λ e. rw e (omega arith)))

worded-found : (l : List ℕ) (n : ℕ) → length l ≡ n → unwrap_or (position (λ b. ltb b 32) l) n ≡ length (worded l)
worded-found l n h =
    cases (ltb (position_or_len (λ b. ltb b 32) l) (length l)) (λ e. rw e (sym (worded-length l)))
    (λ e. rw e (omega (arith, worded-length l, worded-short l, ltb-false (position_or_len (λ b. ltb b 32) l) (length l) e)))

pub end_short : (s : List ℕ) (start : ℕ) → end_of s start ≤ start + 128
end_short s start = omega (arith, worded-short (cell_from s start), length-take 128 (drop start s))

pub end-inside : (s : List ℕ) (start : ℕ) → start ≤ length s → end_of s start ≤ length s
end-inside s start h = omega (arith, worded-short (cell_from s start), length-take 128 (drop start s), length-drop start s)

pub end-text : (s : List ℕ) (start : ℕ) → take (end_of s start - start) (drop start s) ≡ worded (cell_from s start)
end-text s start =
    let n = length (worded (cell_from s start)) in
    let e : end_of s start - start ≡ n = omega arith in
    let t : take n (cell_from s start) ≡ take n (drop start s) = take-take n 128 (drop start s) (omega (arith, worded-short (cell_from s start), length-take 128 (drop start s))) in
    rw e (sym t ∙ worded-start (cell_from s start))

-- ---- the returns of `wording`

nowhere : (s : List ℕ) (n : ℕ) → (ltb n 512 && leb (n * 128 + 128) (length s)) ≡ false → Spans s n (record { start = 0; end = 0 })
unfolding wording_of span_of
nowhere s n e = record { same = rw e; text = rw e; order = omega arith; inside = omega arith; short = omega arith }

pub none-past : (s : List ℕ) (n : ℕ) → 512 ≤ n → Spans s n (record { start = 0; end = 0 })
none-past s n h = nowhere s n (rw (le-ltb n 512 h))

pub none-short : (s : List ℕ) (n : ℕ) → length s < n * 128 + 128 → Spans s n (record { start = 0; end = 0 })
none-short s n h = nowhere s n (cases (ltb n 512) (λ e. rw (e, lt-leb (n * 128 + 128) (length s) h)) (λ e. rw e))

pub spans : (s : List ℕ) (n m e : ℕ) → n < 512 → n * 128 + 128 ≤ length s → m ≡ 128
    → e ≡ unwrap_or (position (λ b. ltb b 32) (take m (drop (n * 128) s))) 128
    → Spans s n (record { start = n * 128; end = n * 128 + e })
unfolding wording_of span_of
spans s n m e h j k z =
    let c : length (cell_from s (n * 128)) ≡ 128 = omega (arith, length-take 128 (drop (n * 128) s), length-drop (n * 128) s) in
    let w : n * 128 + e ≡ end_of s (n * 128) = ap (λ k. n * 128 + k) (rw k at z ∙ worded-found (cell_from s (n * 128)) 128 c) in
    let t : (ltb n 512 && leb (n * 128 + 128) (length s)) ≡ true = rw (lt-ltb n 512 h, le-leb (n * 128 + 128) (length s) j) in
    record {
      same = rw (t, w);
      text = rw (t, w) (end-text s (n * 128));
      order = omega arith;
      inside = omega (arith, end-inside s (n * 128) (omega arith));
      short = omega (arith, end_short s (n * 128));
    }
