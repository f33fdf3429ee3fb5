-- Laws of the slots: they do not touch, and what a write of one leaves in it.
use Prim.Native.Nat.{◌*◌, ◌+◌, ◌-◌, ◌<◌, ℕ, ◌≤◌}
use mathlib.Core.Bool.{false, true}
use mathlib.Core.List.{◌++◌, List, [], append_assoc, append-nil}
use mathlib.Core.Path.{ap, refl, sym, ◌∙◌, ◌≡◌}
use native.Mathlib.Nat.{le_of_eq}
use native.Mathlib.Omega.{arith}
use lib.Dec.{eqb, ltb}
use lib.ListN.{drop, drop_of_length-le, length, length-append, length-drop, length-replicate, length-take, replicate, take, take-append-drop}
use lib.Seq.{drop-append-add, drop-append-le, drop_at, drop-drop, length-take-le, take_all, take-append-le, take_at, take-length}
use borrow.Author.Tests.{eq-eqb, eqb-true, le-leb, le-ltb, leb-true, ltb-false, ltb-true}
use borrow.Rule.Slice.PartMut.{put_mid}
use Rattle.lists.proofs.Cells.{drop-replicate}
use Rattle.lists.proofs.Parts.{part-within}
use Rattle.lists.proofs.Tests.{clash, split}
use Rattle.lists.specs.Least.{same}
use Rattle.slots.specs.Slots.{blank, bytes_of, holds_key, is_slot, put, slot_of, window, wiped, written}

-- ---- slots that do not touch: a write of one leaves its bytes in it, and the others as they were
module _ (area xs : List ℕ) (s : ℕ) (long : length area ≡ 98048) (full : length xs ≡ 383) (small : s ≤ 255) where
  before-long : length (take (s * 383) area) ≡ s * 383
  before-long = length-take-le (s * 383) area (omega arith)

  pub put-long : length (put area s xs) ≡ length area
  put-long = simp (length-append, length-take, length-drop) (omega arith)

  pub window_same : window (put area s xs) s ≡ xs
  window_same =
      ap (take 383) (drop_at (take (s * 383) area) (xs ++ drop (s * 383 + 383) area) (s * 383) before-long)
      ∙ take_at xs (drop (s * 383 + 383) area) 383 full

  lower : (t : ℕ) → t < s → window (put area s xs) t ≡ window area t
  lower t h =
      let a : List ℕ = take (s * 383) area in
      let k : t * 383 ≤ length a = omega (arith, before-long) in
      let m : 383 ≤ length (drop (t * 383) a) = omega (arith, length-drop (t * 383) a, before-long) in
      let step : (z : List ℕ) → take 383 (drop (t * 383) (a ++ z)) ≡ take 383 (drop (t * 383) a) =
      (λ z. ap (take 383) (drop-append-le (t * 383) a z k) ∙ take-append-le 383 (drop (t * 383) a) z m) in
      step (xs ++ drop (s * 383 + 383) area) ∙ sym (ap (λ (z : List ℕ). take 383 (drop (t * 383) z)) (sym (take-append-drop (s * 383) area)) ∙ step (drop (s * 383) area))

  upper : (t : ℕ) → s < t → window (put area s xs) t ≡ window area t
  upper t h =
      let a : List ℕ = take (s * 383) area ++ xs in
      let d : List ℕ = drop (s * 383 + 383) area in
      let j : ℕ = t * 383 - (s * 383 + 383) in
      let la : length a ≡ s * 383 + 383 = length-append (take (s * 383) area) xs ∙ omega (arith, before-long) in
      let e : t * 383 ≡ length a + j = omega arith in
      let e' : (s * 383 + 383) + j ≡ t * 383 = omega arith in
      ap (λ (z : List ℕ). take 383 (drop (t * 383) z)) (sym (append_assoc (take (s * 383) area) xs d))
      ∙ ap (λ (n : ℕ). take 383 (drop n (a ++ d))) e
      ∙ ap (take 383) (drop-append-add a d j ∙ drop-drop j (s * 383 + 383) area ∙ ap (λ (n : ℕ). drop n area) e')

  pub window-other : (t : ℕ) → (t ≡ s → ⊥) → window (put area s xs) t ≡ window area t
  window-other t h = split (ltb t s) (λ e. lower t (ltb-true t s e)) (λ e. upper t (above t (ltb-false t s e) h))
    where
      above : (t : ℕ) → s ≤ t → (t ≡ s → ⊥) → s < t
      above t k h = split (eqb t s) (λ e. absurd (h (eqb-true t s e))) (λ e. split (ltb s t) (λ u. ltb-true s t u) (λ u. absurd (h (let z : t ≡ s = omega (arith, ltb-false s t u) in z))))

-- ---- how long a slot is
pub window-long : (area : List ℕ) (s : ℕ) → length area ≡ 98048 → s ≤ 255 → length (window area s) ≡ 383
window-long area s long small = length-take-le 383 (drop (s * 383) area) (simp length-drop (omega arith))

blank-is : replicate 383 0 ≡ blank
unfolding blank
blank-is = refl

pub blank-long : length blank ≡ 383
unfolding blank
blank-long = refl

pub full-long : (key d : List ℕ) → length key ≤ 255 → length d ≤ 128 → length (slot_of key d) ≡ 383
full-long key d h k = simp (length-append, length-replicate) (omega arith)

-- ---- what the functions promise, where the slot is one of the area's

-- what the test says
pub slot-there : (n s : ℕ) → is_slot n s ≡ true → (n ≡ 98048) × (s ≤ 255)
slot-there n s e = split (eqb n 98048) (λ t. (eqb-true n 98048 t, leb-true s 255 (rw t at e))) (λ t. clash false (rw t at e) refl)

module _ (area : List ℕ) (s : ℕ) (long : length area ≡ 98048) (small : s ≤ 255) where
  there : is_slot (length area) s ≡ true
  there = rw (eq-eqb (length area) 98048 long, le-leb s 255 small)

  pub written_is : (key d : List ℕ) → length key ≤ 255 → length d ≤ 128 → written area s key d ≡ put area s (slot_of key d)
  written_is key d h k = rw (there, le-ltb 255 (length key) h, le-ltb 128 (length d) k)

  pub wiped-is : wiped area s ≡ put area s blank
  wiped-is = rw there

  pub bytes-are : (at n : ℕ) → at + n ≤ 383 → bytes_of area s at n ≡ take n (drop at (window area s))
  bytes-are at n h = rw (there, le-leb at 383 (omega arith), le-leb n (383 - at) (omega arith))

  pub holds-key-is : (n : ℕ) (key : List ℕ) → n ≤ 255 → holds_key area s n key ≡ same (take n (window area s)) key
  holds-key-is n key h = ap (λ (w : List ℕ). same w key) (bytes-are 0 n (omega arith))

-- a slot is wiped: the area stays as long, the slot is empty, and the others are as they were
pub wiped-long : (area : List ℕ) (s : ℕ) → length (wiped area s) ≡ length area
wiped-long area s =
    split (is_slot (length area) s) (λ t. let z = slot-there (length area) s t in rw t (put-long area blank s z.0 blank-long z.1)) (λ t. rw t)

pub wiped-same : (area : List ℕ) (s : ℕ) → length area ≡ 98048 → s ≤ 255 → window (wiped area s) s ≡ blank
wiped-same area s long small = ap (λ (w : List ℕ). window w s) (wiped-is area s long small) ∙ window_same area blank s long blank-long small

pub wiped-other : (area : List ℕ) (s t : ℕ) → (t ≡ s → ⊥) → window (wiped area s) t ≡ window area t
wiped-other area s t h =
    split (is_slot (length area) s) (λ u. let z = slot-there (length area) s u in rw u (window-other area blank s z.0 blank-long z.1 t h)) (λ u. rw u)

-- ---- reading a slot

-- what a part of the area holds, by the slot's number and a place in the slot
pub part-is : (area : List ℕ) (s at n r : ℕ) → r ≡ s → at + n ≤ 383
    → take ((r * 383 + at + n) - (r * 383 + at)) (drop (r * 383 + at) area) ≡ take n (drop at (window area s))
part-is area s at n r e h =
    let k : (r * 383 + at + n) - (r * 383 + at) ≡ n = omega arith in
    rw (k, e) (sym (part-within at n 383 (drop (s * 383) area) h ∙ ap (take n) (drop-drop at (s * 383) area)))

-- ---- zeros
pub zeroed-long : (w₀ w : List ℕ) (i : ℕ) → i ≤ length w₀ → w ≡ replicate i 0 ++ drop i w₀ → length w ≡ length w₀
zeroed-long w₀ w i h e = ap length e ∙ simp (length-append, length-replicate, length-drop) (omega arith)

pub zeroed : (w₀ w : List ℕ) (i : ℕ) → length w ≤ i → i ≤ length w₀ → w ≡ replicate i 0 ++ drop i w₀ → w ≡ replicate (length w₀) 0
zeroed w₀ w i g h e =
    let k : i ≡ length w₀ = omega (arith, zeroed-long w₀ w i h e) in
    e ∙ rw (k, drop_of_length-le w₀ {i = length w₀} (le_of_eq refl), append-nil {A = ℕ} (replicate (length w₀) 0))

-- ---- the key, the data behind it, and zeros: what two copies leave in w
module _ (w key d h0 h1 h2 : List ℕ) (n : ℕ) (room : length key + length d ≤ length w) (e0 : h0 ≡ replicate (length w) 0) (en : n ≡ length key)
    (e1 : h1 ≡ take (length key) key ++ drop (length key) h0) (e2 : h2 ≡ take (length d) d ++ drop (length d) (take (length h1 - n) (drop n h1))) where
  abbrev zeros : List ℕ
  zeros = replicate (length w - length key) 0

  first-is : h1 ≡ key ++ zeros
  first-is = e1 ∙ rw (e0, take-length key, drop-replicate (length key) (length w) 0)

  behind : length h1 - n ≡ length w - length key
  behind = let k : length h1 ≡ length w = ap length first-is ∙ simp (length-append, length-replicate) (omega arith) in omega arith

  behind-is : drop n h1 ≡ zeros
  behind-is = rw (first-is, en) (drop_at key zeros (length key) refl)

  few : length zeros ≤ length w - length key
  few = simp length-replicate (omega arith)

  second_is : h2 ≡ d ++ replicate (length w - length key - length d) 0
  second_is = e2 ∙ rw (behind, behind-is, take_all (length w - length key) zeros few, take-length d, drop-replicate (length d) (length w - length key) 0)

  pub filled : put_mid n (length h1 - n) h1 h2 ≡ key ++ (d ++ replicate (length w - length key - length d) 0)
  filled =
      let t : take n h1 ≡ key = rw (first-is, en) (take_at key zeros (length key) refl) in
      let z : drop (length h1 - n) (drop n h1) ≡ [] = rw (behind, behind-is) (drop_of_length-le zeros {i = length w - length key} few) in
      rw (t, z, append-nil h2, second_is)

-- ---- writing a slot, where r is its number as the code has it
module _ (area z : List ℕ) (s r : ℕ) (e : r ≡ s) (long : length area ≡ 98048) (small : s ≤ 255) where
  -- the part of the area that is lent for it
  abbrev pub lent : List ℕ
  lent = take ((r * 383 + 383) - r * 383) (drop (r * 383) area)

  lent-long : length lent ≡ 383
  lent-long =
      let k : (r * 383 + 383) - r * 383 ≡ 383 = omega arith in
      rw k (length-take-le 383 (drop (r * 383) area) (simp length-drop (omega arith)))

  put_is : put_mid (r * 383) ((r * 383 + 383) - r * 383) area z ≡ put area s z
  put_is =
      let k : (r * 383 + 383) - r * 383 ≡ 383 = omega arith in
      rw (k, e, drop-drop 383 (s * 383) area)

  pub put-wiped : z ≡ replicate (length lent) 0 → put_mid (r * 383) ((r * 383 + 383) - r * 383) area z ≡ put area s blank
  put-wiped f = put_is ∙ ap (put area s) (f ∙ ap (λ (n : ℕ). replicate n 0) lent-long ∙ blank-is)

  pub put_written : (key d : List ℕ) → z ≡ key ++ (d ++ replicate (length lent - length key - length d) 0)
      → put_mid (r * 383) ((r * 383 + 383) - r * 383) area z ≡ put area s (slot_of key d)
  put_written key d f = put_is ∙ ap (put area s) (f ∙ ap (λ (n : ℕ). key ++ (d ++ replicate (n - length key - length d) 0)) lent-long)
