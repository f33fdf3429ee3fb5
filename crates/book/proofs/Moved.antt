-- The elements behind one move down by one place: the list without it.
use Prim.Native.Nat.{◌+◌, ◌-◌, ◌<◌, suc, zero, ℕ, ◌≤◌}
use mathlib.Core.List.{◌++◌, List, [], ◌∷◌, append_assoc}
use mathlib.Core.Path.{ap, refl, sym, ◌∙◌, ◌≡◌}
use native.Mathlib.Omega.{arith}
use lib.ListN.{drop, length, length-drop, take, take-append-drop}
use lib.Seq.{drop-drop, paste}
use Rattle.std.specs.List.{copy_within}
use Rattle.lists.specs.ByPlace.{cut}
use Rattle.std.proofs.lemmas.List.Edits.{drop-paste, take-paste}

module _ {A : Type 0} where
  cut-parts : (l : List A) (i : ℕ) → cut l i ≡ take i l ++ drop (suc i) l
  cut-parts [] zero = refl
  cut-parts [] (suc i) = refl
  cut-parts (x ∷ l) zero = refl
  cut-parts (x ∷ l) (suc i) = ap (λ (t : List A). x ∷ t) (cut-parts l i)

  pub cut_moved : (l : List A) (i n : ℕ) → i < n → n ≤ length l → cut (copy_within l (i + 1) n i) (n - 1) ≡ cut l i
  cut_moved l i n h k =
      let m : ℕ = n - (i + 1) in
      let s : List A = drop (i + 1) l in
      let p : List A = paste l i s m in
      let long : m ≤ length s = omega (arith, length-drop (i + 1) l) in
      let front : take (i + m) p ≡ take i l ++ take m s = take-paste l i s m (omega arith) long in
      let back : drop (i + m) p ≡ drop (i + m) l = drop-paste l i s m (omega arith) long in
      let e : n - 1 ≡ i + m = omega arith in
      let f : suc (n - 1) ≡ (i + m) + 1 = omega arith in
      let g : (i + 1) + m ≡ (i + m) + 1 = omega arith in
      let rest : drop (suc (n - 1)) p ≡ drop m s =
      ap (λ (j : ℕ). drop j p) f ∙ sym (drop-drop 1 (i + m) p) ∙ ap (drop 1) back ∙ drop-drop 1 (i + m) l ∙ ap (λ (j : ℕ). drop j l) (sym g) ∙ sym (drop-drop m (i + 1) l) in
      let o : i + 1 ≡ suc i = omega arith in
      cut-parts p (n - 1)
      ∙ ap (λ (t : List A). t ++ drop (suc (n - 1)) p) (ap (λ (j : ℕ). take j p) e ∙ front)
      ∙ ap (λ (t : List A). (take i l ++ take m s) ++ t) rest
      ∙ append_assoc (take i l) (take m s) (drop m s)
      ∙ ap (λ (t : List A). take i l ++ t) (take-append-drop m s ∙ ap (λ (j : ℕ). drop j l) o)
      ∙ sym (cut-parts l i)
