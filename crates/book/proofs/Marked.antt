-- The free pointer and the free slot by marks: one walk over entries that marks.
use Prim.Native.Nat.{◌+◌, ◌<◌, ℕ, ◌≤◌}
use mathlib.Core.Bool.{Bool, true}
use mathlib.Core.List.{List, [], ◌∷◌}
use mathlib.Core.Logic.{inl, inr}
use mathlib.Core.Path.{ap, refl, subst, sym, ◌∙◌, ◌≡◌}
use native.Mathlib.Numerals.{add-one}
use lib.Dec.{ltb}
use lib.ListN.{drop, drop_of_length-le, get_or, length, set}
use lib.Seq.{drop-cons}
use borrow.Author.Tests.{eq-eqb, ltb-false, ltb-true, ne_eqb}
use Rattle.book.specs.Book.{no_entry, pointers_of, slots_of}
use Rattle.book.specs.declared.Entry.{Entry}
use Rattle.lists.proofs.ByPlace.{set_past}
use Rattle.lists.proofs.Least.{Marks, Step, marks-step}
use Rattle.lists.proofs.Tests.{split}

-- one number, marked where there is room for it
marked : (ms : List Bool) (v : ℕ) (left xs : List ℕ) → length ms ≡ 257 → Marks ms (v ∷ left) xs → Marks (set ms v true) left xs
marked ms v left xs e g =
    let done = λ (w : Step ms (set ms v true) v). (marks-step ms (set ms v true) v left xs e g w).1 in
    split (ltb v 257) (λ t. done (inl (ltb-true v 257 t, refl)))
    (λ t. let past : 257 ≤ v = ltb-false v 257 t in done (inr (past, set_past ms v true (subst (λ (n : ℕ). n ≤ v) (sym e) past))))

module _ (ms : List Bool) (l : List Entry) (i : ℕ) (e : length ms ≡ 257) where
  abbrev x : Entry
  x = get_or l i no_entry

  module _ (h : i < length l) where
    here : drop i l ≡ x ∷ drop (i + 1) l
    here = drop-cons l i no_entry h ∙ ap (λ (n : ℕ). x ∷ drop n l) (sym (add-one i))

    pub slot-marked : Marks ms (slots_of (drop i l)) (slots_of l) → Marks (set ms x.slot true) (slots_of (drop (i + 1) l)) (slots_of l)
    slot-marked g = marked ms x.slot (slots_of (drop (i + 1) l)) (slots_of l) e (subst (λ (y : List ℕ). Marks ms y (slots_of l)) (ap slots_of here) g)

    pub pointer-marked : (f : ℕ) → x.file ≡ f → Marks ms (pointers_of f (drop i l)) (pointers_of f l)
        → Marks (set ms x.pointer true) (pointers_of f (drop (i + 1) l)) (pointers_of f l)
    pointer-marked f t g =
        let s : pointers_of f (drop i l) ≡ x.pointer ∷ pointers_of f (drop (i + 1) l) = ap (pointers_of f) here ∙ rw (eq-eqb x.file f t) in
        marked ms x.pointer (pointers_of f (drop (i + 1) l)) (pointers_of f l) e (subst (λ (y : List ℕ). Marks ms y (pointers_of f l)) s g)

    pub pointer-other : (f : ℕ) → (x.file ≡ f → ⊥) → Marks ms (pointers_of f (drop i l)) (pointers_of f l) → Marks ms (pointers_of f (drop (i + 1) l)) (pointers_of f l)
    pointer-other f t g = subst (λ (y : List ℕ). Marks ms y (pointers_of f l)) (ap (pointers_of f) here ∙ rw (ne_eqb x.file f t)) g

  module _ (k : length l ≤ i) where
    pub slots-marked : Marks ms (slots_of (drop i l)) (slots_of l) → Marks ms [] (slots_of l)
    slots-marked g = subst (λ (y : List Entry). Marks ms (slots_of y) (slots_of l)) (drop_of_length-le l {i = i} k) g

    pub pointers-marked : (f : ℕ) → Marks ms (pointers_of f (drop i l)) (pointers_of f l) → Marks ms [] (pointers_of f l)
    pointers-marked f g = subst (λ (y : List Entry). Marks ms (pointers_of f y) (pointers_of f l)) (drop_of_length-le l {i = i} k) g
