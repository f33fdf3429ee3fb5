-- The loop of Create: the identifiers given so far, and what is left to make.
use Prim.Native.Nat.{◌+◌, ◌-◌, ◌<◌, suc, ℕ, ◌≤◌}
use mathlib.Core.List.{◌++◌, List, [], append-nil, ◌∷◌}
use mathlib.Core.Path.{◌≡◌, ap, refl, sym, ◌∙◌}
use native.Mathlib.Omega.{arith}
use lib.ListN.{length, length-append, replicate, set}
use lib.Seq.{append_snoc, set_at}
use Rattle.std.specs.Prelude.{Ok}
use Rattle.book.proofs.Kept.{with-file-shaped}
use Rattle.book.specs.Book.{Shaped, one_more}
use Rattle.book.specs.declared.Book.{Book}
use Rattle.book.specs.declared.Created.{Created}
use Rattle.file_commands.specs.Erasing.{code_of_create, create_book, create_ids, create_of, padded}
use Rattle.tapa.specs.Codes.{successful}

pub filled-with : (l : List ℕ) (i n x : ℕ) → length l ≡ i → i < n → set (l ++ replicate (n - i) 0) i x ≡ (l ++ x ∷ []) ++ replicate (n - (i + 1)) 0
filled-with l i n x e h =
    ap (λ (m : ℕ). set (l ++ replicate m 0) i x) (let z : n - i ≡ suc (n - (i + 1)) = omega arith in z)
    ∙ set_at l 0 (replicate (n - (i + 1)) 0) x i e ∙ sym (append_snoc l x (replicate (n - (i + 1)) 0))

-- `front`: the identifiers given so far
pub record Making (n k r : ℕ) (b : Book) (given : List ℕ) (next : Book) (i : ℕ) : Type 0 where
  pub front : List ℕ
  pub early : i ≤ n
  pub shape : Shaped next
  pub size : length front ≡ i
  pub list : given ≡ front ++ replicate (16 - i) 0
  pub rest : front ++ create_ids (n - i) k r next ≡ create_ids n k r b
  pub book : create_book (n - i) k r next ≡ create_book n k r b

module _ (n k r : ℕ) (b : Book) (small : n ≤ 16) where
  pub making-first : (given : List ℕ) → Shaped b → given ≡ replicate 16 0 → Making n k r b given b 0
  making-first given h e =
      let z : n - 0 ≡ n = omega arith in
      record { front = []; early = omega arith; shape = h; size = refl; list = e; rest = ap (λ (m : ℕ). create_ids m k r b) z; book = ap (λ (m : ℕ). create_book m k r b) z }

  pub making-more : (given : List ℕ) (next : Book) (i : ℕ) (g : Making n k r b given next i) (o : Created) → i < n → o ≡ one_more next k r
      → Making n k r b (set given i o.id) o.next (i + 1)
  making-more given next i g o h e =
      let z : n - i ≡ suc (n - (i + 1)) = omega arith in
      let x = o.id in
      let ids : create_ids (n - i) k r next ≡ x ∷ create_ids (n - (i + 1)) k r o.next =
      ap (λ (m : ℕ). create_ids m k r next) z ∙ ap (λ (v : Created). v.id ∷ create_ids (n - (i + 1)) k r v.next) (sym e) in
      let book : create_book (n - i) k r next ≡ create_book (n - (i + 1)) k r o.next =
      ap (λ (m : ℕ). create_book m k r next) z ∙ ap (λ (v : Created). create_book (n - (i + 1)) k r v.next) (sym e) in
      record {
        front = g.front ++ x ∷ [];
        early = omega arith;
        shape = rw e (with-file-shaped next g.shape k r);
        size = simp length-append (omega (arith, g.size));
        list = ap (λ (w : List ℕ). set w i x) g.list ∙ filled-with g.front i 16 x g.size (omega arith);
        rest = append_snoc g.front x (create_ids (n - (i + 1)) k r o.next) ∙ ap (λ (w : List ℕ). g.front ++ w) (sym ids) ∙ g.rest;
        book = sym book ∙ g.book;
      }

  pub making-last : (given : List ℕ) (next : Book) (i : ℕ) → Making n k r b given next i → n ≤ i → code_of_create b n r ≡ successful
      → Ok (record { ids = given; next = next }) ≡ create_of b n k r
  making-last given next i g h c =
      let z : n - i ≡ 0 = omega (arith, g.early) in
      let l : g.front ≡ create_ids n k r b = sym (append-nil g.front) ∙ ap (λ (m : ℕ). g.front ++ create_ids m k r next) (sym z) ∙ g.rest in
      let v : next ≡ create_book n k r b = ap (λ (m : ℕ). create_book m k r next) (sym z) ∙ g.book in
      let w : given ≡ padded (create_ids n k r b) = g.list ∙ ap (λ (m : ℕ). g.front ++ replicate (16 - m) 0) (sym g.size) ∙ ap padded l in
      rw c (λ j. Ok (record { ids = w j; next = v j }))
