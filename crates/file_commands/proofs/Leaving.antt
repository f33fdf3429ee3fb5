-- The loop that takes the files' rows out of the table: what is left to take out.
use Prim.Native.Nat.{◌+◌, ◌-◌, ◌/◌, ◌<◌, suc, ℕ, ◌≤◌}
use mathlib.Core.Bool.{false, true}
use mathlib.Core.List.{List, [], ◌∷◌}
use mathlib.Core.Path.{◌≡◌, ap, sym, ◌∙◌}
use native.Mathlib.Omega.{arith}
use lib.ListN.{length}
use Rattle.std.specs.Prelude.{None, Some}
use Rattle.book.proofs.Kept.{table-shaped}
use Rattle.book.proofs.Tables.{row-long}
use Rattle.book.specs.Book.{Shaped, kind_of, no_kind, with_kinds}
use Rattle.book.specs.declared.Book.{Book}
use Rattle.file_commands.specs.Erasing.{all_known, left_of, unmake, unmake_all}
use Rattle.files.specs.Asked.{id_at, ids_from, ids_of}

-- ---- words, one by one
ids_more : (ids : List ℕ) (i n : ℕ) → i < n → ids_from ids i (n - i) ≡ id_at ids i ∷ ids_from ids (i + 1) (n - (i + 1))
ids_more ids i n h = ap (ids_from ids i) (let e : n - i ≡ suc (n - (i + 1)) = omega arith in e)

ids-end : (ids : List ℕ) (i n : ℕ) → n ≤ i → ids_from ids i (n - i) ≡ []
ids-end ids i n h = ap (ids_from ids i) (let e : n - i ≡ 0 = omega arith in e)

-- ---- a book without rows, by the words that are left
pub record Leaving (b : Book) (ids : List ℕ) (n : ℕ) (left : Book) (i : ℕ) : Type 0 where
  pub early : i ≤ n
  pub shape : Shaped left
  pub check : all_known left.kinds (ids_from ids i (n - i)) ≡ all_known b.kinds (ids_of ids)
  pub rows : with_kinds left (unmake_all left.kinds (ids_from ids i (n - i))) ≡ with_kinds b (unmake_all b.kinds (ids_of ids))

module _ (b : Book) (ids : List ℕ) (n : ℕ) where
  pub leaving-first : Shaped b → n ≡ length ids / 2 → Leaving b ids n b 0
  leaving-first h e =
      let z : ids_from ids 0 (n - 0) ≡ ids_of ids = ap (ids_from ids 0) (let m : n - 0 ≡ length ids / 2 = omega arith in m) in
      record { early = omega arith; shape = h; check = ap (all_known b.kinds) z; rows = ap (λ (fs : List ℕ). with_kinds b (unmake_all b.kinds fs)) z }

  module _ (left : Book) (i : ℕ) (g : Leaving b ids n left i) where
    pub leaving-miss : i < n → (kind_of left.kinds (id_at ids i)).made ≡ false → None ≡ left_of b (ids_of ids)
    leaving-miss h t =
        let z : all_known b.kinds (ids_of ids) ≡ false = sym g.check ∙ ap (all_known left.kinds) (ids_more ids i n h) ∙ rw t in
        rw z

    pub leaving-more : i < n → (kind_of left.kinds (id_at ids i)).made ≡ true → (left' : Book) → left' ≡ with_kinds left (unmake left.kinds (id_at ids i))
        → Leaving b ids n left' (i + 1)
    leaving-more h t left' e =
        let fs : List ℕ = ids_from ids (i + 1) (n - (i + 1)) in
        let f : ℕ = id_at ids i in
        rw e (record {
          early = omega arith;
          shape = table-shaped left g.shape (unmake left.kinds f) (row-long left.kinds f no_kind ∙ g.shape.files);
          check = sym (ap (all_known left.kinds) (ids_more ids i n h) ∙ rw t) ∙ g.check;
          rows = sym (ap (λ (z : List ℕ). with_kinds left (unmake_all left.kinds z)) (ids_more ids i n h)) ∙ g.rows;
        })

    pub leaving-last : n ≤ i → Some left ≡ left_of b (ids_of ids)
    leaving-last h =
        let e = ids-end ids i n h in
        let z : all_known b.kinds (ids_of ids) ≡ true = sym g.check ∙ ap (all_known left.kinds) e in
        let v : left ≡ with_kinds b (unmake_all b.kinds (ids_of ids)) = ap (λ (fs : List ℕ). with_kinds left (unmake_all left.kinds fs)) (sym e) ∙ g.rows in
        rw z (ap Some v)
