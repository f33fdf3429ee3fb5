-- A handler that becomes open or closed: what a table says then, and that it is judged as before.
use Prim.Native.Nat.{ℕ, ◌+◌, ◌≤◌}
use mathlib.Core.Path.{◌≡◌, refl, sym, ◌∙◌}
use mathlib.Core.Bool.{Bool, true, false, ◌&&◌, ◌||◌, cond, or-false}
use mathlib.Core.List.{List, [], ◌∷◌}
use native.Mathlib.Omega.{arith}
use borrow.Author.Tests.{eqb-true, ne_eqb}
use Rattle.lists.specs.Lists.{one, count}
use Rattle.lists.proofs.Counts.{zero-none}
use Rattle.lists.proofs.First.{length-changed, count-changed, some-changed}
use Rattle.table.specs.declared.Row.{Row}
use Rattle.table.specs.Table.{is_at, listed, opened_at, marked, set_opened, misshapen, is_multi, judge_table, Proper}
use Rattle.table.proofs.Judged.{repeats-same, accepted, proper}

-- a handler that is not in the table is not open
pub not-open : (h : ℕ) (rows : List Row) → listed h rows ≡ false → opened_at h rows ≡ false
not-open h [] e = refl
not-open h (r ∷ rows) e = go (is_at h r) (not-open h rows) e
  where
    go : (x : Bool) → (listed h rows ≡ false → opened_at h rows ≡ false) → x || listed h rows ≡ false → (x && r.opened) || opened_at h rows ≡ false
    go true ih f = absurd (let z : ◌≡◌ {A = ℕ} 0 1 = cc in omega arith)
    go false ih f = ih f

module _ (h : ℕ) (b : Bool) where
  pub set-judge : (rows : List Row) → judge_table (set_opened h b rows) ≡ judge_table rows
  unfolding judge_table
  set-judge rows =
      rw (
        length-changed (marked b) (is_at h) rows,
        some-changed (marked b) misshapen (is_at h) (λ r. refl) rows,
        repeats-same (set_opened h b rows) rows (λ g. count-changed (marked b) (is_at g) (is_at h) (λ r. refl) rows),
        count-changed (marked b) is_multi (is_at h) (λ r. refl) rows,
      )

  pub set-proper : (rows : List Row) → Proper rows → Proper (set_opened h b rows)
  set-proper [] p = p
  set-proper (r ∷ rows) p = accepted (set_opened h b (r ∷ rows)) (set-judge (r ∷ rows) ∙ proper (r ∷ rows) (omega arith) p)

  pub set-listed : (g : ℕ) (rows : List Row) → listed g (set_opened h b rows) ≡ listed g rows
  set-listed g rows = some-changed (marked b) (is_at g) (is_at h) (λ r. refl) rows

  -- the mark that was set is the one that is found, where no handler stands twice
  pub set-opened : (rows : List Row) → count (is_at h) rows ≤ 1 → opened_at h (set_opened h b rows) ≡ listed h rows && b
  set-opened [] l = refl
  set-opened (r ∷ rows) l = go (is_at h r) refl (set-opened rows) l
    where
      go : (x : Bool) → is_at h r ≡ x → (count (is_at h) rows ≤ 1 → opened_at h (set_opened h b rows) ≡ listed h rows && b) → one x + count (is_at h) rows ≤ 1
          → opened_at h (cond x (marked b r ∷ rows) (r ∷ set_opened h b rows)) ≡ (x || listed h rows) && b
      go true e ih k = rw (e, not-open h rows (zero-none (is_at h) rows (omega arith)), or-false b)
      go false e ih k = rw e (ih (omega arith))

  -- and every other handler's mark stays
  pub set_other : (g : ℕ) → (g ≡ h → ⊥) → (rows : List Row) → opened_at g (set_opened h b rows) ≡ opened_at g rows
  set_other g n [] = refl
  set_other g n (r ∷ rows) = go (is_at h r) refl (set_other g n rows)
    where
      go : (x : Bool) → is_at h r ≡ x → opened_at g (set_opened h b rows) ≡ opened_at g rows → opened_at g (cond x (marked b r ∷ rows) (r ∷ set_opened h b rows)) ≡ opened_at g (r ∷ rows)
      go true e ih = rw (ne_eqb r.address g (λ z. n (sym z ∙ eqb-true r.address h e)))
      go false e ih = rw ih
