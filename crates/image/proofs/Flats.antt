-- Things written one behind the other, all equally long: how long they are together, and a loop that writes one after the other.
use Prim.Native.Nat.{◌*◌, ◌+◌, ◌-◌, ◌<◌, suc, zero, ℕ, ◌≤◌}
use mathlib.Core.List.{◌++◌, List, [], ◌∷◌}
use mathlib.Core.Path.{ap, refl, sym, ◌∙◌, ◌≡◌}
use native.Mathlib.Nat.{add-mul, suc-mul}
use native.Mathlib.Numerals.{add-one}
use native.Mathlib.Omega.{arith}
use lib.ListN.{drop, drop_of_length-le, get_or, length, length-append, length-drop, take, take-append-drop}
use lib.Seq.{drop-cons}
use Rattle.book.specs.Book.{Fits}
use Rattle.book.specs.declared.Entry.{Entry}
use Rattle.book.specs.declared.Kind.{Kind}
use Rattle.image.specs.Image.{slot_bytes}
use Rattle.layout.specs.Layout.{entry_bytes, flat, kind_bytes}
use Rattle.lists.proofs.ByPlace.{all-at}
use Rattle.lists.proofs.Over.{kept, over-more}
use Rattle.lists.specs.Lists.{All, over}
use Rattle.slots.proofs.Slots.{window-long}

-- ---- rows of w bytes

-- row i, and those behind it
rows : (i m w : ℕ) → ((i + 1) + m) * w ≡ i * w + (w + m * w)
rows i m w = add-mul (i + 1) m w ∙ ap (λ (k : ℕ). k + m * w) (add-mul i 1 w) ∙ omega arith

module _ {A : Type 0} (f : A → List ℕ) (w : ℕ) where
  abbrev pub Wide : A → Type 0
  Wide x = length (f x) ≡ w

  pub flat-long : (l : List A) → All Wide l → length (flat f l) ≡ length l * w
  flat-long [] a = omega arith
  flat-long (x ∷ l) a = length-append (f x) (flat f l) ∙ omega (arith, a.0, flat-long l a.1, suc-mul (length l) w)

  -- from a place on
  flat-rest : (n : ℕ) (l : List A) → All Wide l → length (flat f (drop n l)) ≡ (length l - n) * w
  flat-rest n l a = flat-long (drop n l) (all_drop n l a) ∙ ap (λ (k : ℕ). k * w) (length-drop n l)
    where
      all_drop : (n : ℕ) (l : List A) → All Wide l → All Wide (drop n l)
      all_drop zero l a = a
      all_drop (suc n) [] a = tt
      all_drop (suc n) (x ∷ l) a = all_drop n l a.1

  -- a loop that writes one row after the other, from a place on
  module _ (l : List A) (wide : All Wide l) (d : A) (from : ℕ) where
    pub flat-more : (out nxt : List ℕ) (i : ℕ) → i < length l → from + length l * w ≤ length out → nxt ≡ over out (from + i * w) (f (get_or l i d))
        → (length nxt ≡ length out) × (over nxt (from + (i + 1) * w) (flat f (drop (i + 1) l)) ≡ over out (from + i * w) (flat f (drop i l)))
    flat-more out nxt i h room e =
        let m : ℕ = length l - (i + 1) in
        let x : List ℕ = f (get_or l i d) in
        let r : List ℕ = flat f (drop (i + 1) l) in
        let size : length x ≡ w = all-at d Wide l i h wide in
        let rest : length r ≡ m * w = flat-rest (i + 1) l wide in
        let all : length l * w ≡ i * w + (w + m * w) = ap (λ (k : ℕ). k * w) (let z : length l ≡ (i + 1) + m = omega arith in z) ∙ rows i m w in
        let next : from + (i + 1) * w ≡ (from + i * w) + length x = ap (λ (k : ℕ). from + k) (add-mul i 1 w) ∙ omega arith in
        let behind : drop i l ≡ get_or l i d ∷ drop (i + 1) l = drop-cons l i d h ∙ ap (λ (n : ℕ). get_or l i d ∷ drop n l) (sym (add-one i)) in (
          kept nxt out (from + i * w) x e (omega arith),
          (λ j. over (e j) (next j) r) ∙ over-more out (from + i * w) x r (omega arith) ∙ ap (λ (z : List A). over out (from + i * w) (flat f z)) (sym behind),
        )

    pub flat-done : (out : List ℕ) (i : ℕ) → length l ≤ i → over out (from + i * w) (flat f (drop i l)) ≡ out
    flat-done out i h =
        ap (λ (z : List A). over out (from + i * w) (flat f z)) (drop_of_length-le l {i = i} h)
        ∙ ap (λ (n : ℕ). take (from + i * w) out ++ drop n out) (let e : (from + i * w) + 0 ≡ from + i * w = omega arith in e)
        ∙ take-append-drop (from + i * w) out

-- ---- the rows of an image

pub kinds-wide : (l : List Kind) → All (Wide kind_bytes 3) l
kinds-wide [] = tt
kinds-wide (k ∷ l) = (refl, kinds-wide l)

pub entries-wide : (l : List Entry) → All (Wide entry_bytes 6) l
entries-wide [] = tt
entries-wide (x ∷ l) = (refl, entries-wide l)

pub slots-wide : (area : List ℕ) (ks : List Kind) (l : List Entry) → length area ≡ 98048 → All (Fits ks) l → All (Wide (slot_bytes area) 383) l
slots-wide area ks [] h a = tt
slots-wide area ks (x ∷ l) h a = (window-long area x.slot h a.0.slot, slots-wide area ks l h a.1)
