-- The law of a book alone: a fresh book has it, and every change of a book keeps it.
use Prim.Native.Nat.{◌+◌, ℕ, ◌≤◌}
use Rattle.std.specs.Prelude.{Option, Some, None}
use mathlib.Core.List.{◌++◌, List, [], ◌∷◌}
use mathlib.Core.Path.{ap, refl, sym, ◌∙◌, ◌≡◌}
use native.Mathlib.Omega.{arith}
use lib.Dec.{ltb}
use lib.ListN.{length, length-append, length-set, set}
use borrow.Author.Tests.{ltb-true}
use Rattle.book.proofs.Laws.{holds, law-len}
use Rattle.book.proofs.Tables.{row-long}
use Rattle.book.specs.Book.{Shaped, book_of, created_at, entries_of, free_kind, kind, no_kinds, one_more, pushed_of, with_kind, with_kinds}
use Rattle.book.specs.declared.Book.{Book}
use Rattle.book.specs.declared.Entry.{Entry}
use Rattle.book.specs.declared.Kind.{Kind}
use Rattle.lists.proofs.ByPlace.{few-cut}
use Rattle.lists.proofs.Tests.{split}
use Rattle.lists.specs.ByPlace.{cut}

-- what is put together of 16 rows and at most 256 entries
pub shaped_of : (ks : List Kind) (l : List Entry) → length l ≤ 256 → length ks ≡ 16 → Shaped (book_of ks l)
shaped_of ks l few files = record { few = few; whole = ap (book_of ks) (sym (holds ks l)); files = files }

pub fresh-shaped : Shaped (book_of no_kinds [])
unfolding no_kinds
fresh-shaped = shaped_of no_kinds [] (omega arith) refl

module _ (b : Book) (h : Shaped b) where
  pub emptied-shaped : Shaped (book_of b.kinds [])
  emptied-shaped = shaped_of b.kinds [] (omega arith) h.files

  pub pushed-shaped : (x : Entry) → Shaped (pushed_of b x)
  pushed-shaped x =
      split (ltb b.count 256)
      (λ t.
      let n : length (entries_of b ++ x ∷ []) ≡ b.count + 1 = length-append (entries_of b) (x ∷ []) ∙ omega (arith, law-len b h) in
      rw t (shaped_of b.kinds (entries_of b ++ x ∷ []) (omega (arith, n, ltb-true b.count 256 t)) h.files))
      (λ t. rw t h)

  pub removed-shaped : (at : ℕ) → Shaped (book_of b.kinds (cut (entries_of b) at))
  removed-shaped at = shaped_of b.kinds (cut (entries_of b) at) (omega (arith, few-cut (entries_of b) at, law-len b h, h.few)) h.files

  pub renewed-shaped : (at : ℕ) (x : Entry) → Shaped (book_of b.kinds (set (entries_of b) at x))
  renewed-shaped at x = shaped_of b.kinds (set (entries_of b) at x) (omega (arith, length-set (entries_of b) at x, law-len b h, h.few)) h.files

  -- another table of 16 rows
  pub table-shaped : (ks : List Kind) → length ks ≡ 16 → Shaped (with_kinds b ks)
  table-shaped ks e = record { few = h.few; whole = (λ i. record { kinds = ks; entries = (h.whole i).entries; count = (h.whole i).count }); files = e }

  pub with-kind-shaped : (f : ℕ) (k : Kind) → Shaped (with_kinds b (with_kind b.kinds f k))
  with-kind-shaped f k = table-shaped (with_kind b.kinds f k) (row-long b.kinds f k ∙ h.files)

  pub with-file-shaped : (k r : ℕ) → Shaped (one_more b k r).next
  with-file-shaped k r = made (free_kind 0 b.kinds)
    where
      made : (z : Option ℕ) → Shaped (created_at b k r z).next
      made None = h
      made (Some i) = table-shaped (set b.kinds i (kind k r)) (length-set b.kinds i (kind k r) ∙ h.files)
