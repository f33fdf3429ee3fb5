-- The rows and the entries of an image by their places: row i stands 3 * i bytes behind the first, entry i 6 * i bytes. Assumes nothing.
use Prim.Native.Nat.{◌*◌, ◌+◌, ◌<◌, suc, zero, ℕ, ◌≤◌}
use mathlib.Core.List.{List, [], ◌∷◌}
use mathlib.Core.Path.{ap, refl, ◌∙◌, ◌≡◌}
use native.Mathlib.Nat.{le_of_suc-le-suc, not-suc-le-zero, suc-mul, zero-mul}
use native.Mathlib.Omega.{arith}
use lib.ListN.{get_or-eq_default, get_or, length}
use Rattle.book.specs.Book.{no_entry, no_kind}
use Rattle.layout.specs.Judged.{entries_at, entry_at, kind_at, kinds_at, table_in}

-- things that stand one behind the other, w bytes each
module _ {A : Type 0} (w : ℕ) (none : A) (read : ℕ → A) (all : ℕ → ℕ → List A) (end : (at : ℕ) → all at 0 ≡ [])
    (more : (at k : ℕ) → all at (suc k) ≡ read at ∷ all (at + w) k) where
  all-at : (at n i : ℕ) → i < n → get_or (all at n) i none ≡ read (at + i * w)
  all-at at zero i h = absurd (not-suc-le-zero h)
  all-at at (suc n) zero h = rw (more at n) (ap read (let e : at ≡ at + 0 * w = omega (arith, zero-mul w) in e))
  all-at at (suc n) (suc i) h =
      rw (more at n) (all-at (at + w) n i (le_of_suc-le-suc h) ∙ ap read (let e : (at + w) + i * w ≡ at + suc i * w = omega (arith, suc-mul i w) in e))

  all-long : (at n : ℕ) → length (all at n) ≡ n
  all-long at zero = rw (end at)
  all-long at (suc n) = rw (more at n) (ap suc (all-long (at + w) n))

module _ (img : List ℕ) where
  -- ---- the table of files

  pub table-count : length (table_in img) ≡ 16
  unfolding table_in
  table-count = all-long 3 no_kind (kind_at img) (kinds_at img) (λ at. refl) (λ at k. refl) 14 16

  pub table_at : (i : ℕ) → i < 16 → get_or (table_in img) i no_kind ≡ kind_at img (14 + i * 3)
  unfolding table_in
  table_at i h = all-at 3 no_kind (kind_at img) (kinds_at img) (λ at. refl) (λ at k. refl) 14 16 i h

  pub table-past : (i : ℕ) → 16 ≤ i → get_or (table_in img) i no_kind ≡ no_kind
  table-past i h = get_or-eq_default (table_in img) no_kind {n = i} (omega (arith, table-count))

  -- ---- the entries

  pub entries-count : (at n : ℕ) → length (entries_at img at n) ≡ n
  entries-count = all-long 6 no_entry (entry_at img) (entries_at img) (λ at. refl) (λ at k. refl)

  pub entries-at : (at n i : ℕ) → i < n → get_or (entries_at img at n) i no_entry ≡ entry_at img (at + i * 6)
  entries-at = all-at 6 no_entry (entry_at img) (entries_at img) (λ at. refl) (λ at k. refl)

  pub entries-past : (at n i : ℕ) → n ≤ i → get_or (entries_at img at n) i no_entry ≡ no_entry
  entries-past at n i h = get_or-eq_default (entries_at img at n) no_entry {n = i} (omega (arith, entries-count at n))
