-- What set-up hands back is lawful.
use Rattle.std.specs.Prelude.{Result, Ok, Err, ⊤}
use mathlib.Core.Path.{◌≡◌, refl, ap, subst, ◌∙◌}
use mathlib.Core.List.{List}
use Rattle.tapa.specs.declared.Refusal.{Refusal}
use Rattle.lists.proofs.Tests.{differ}
use Rattle.table.specs.declared.Row.{Row}
use Rattle.table.specs.declared.Rows.{Rows}
use Rattle.table.specs.Table.{Held, rows_read, judge_rows}
use Rattle.table.proofs.Read.{judge-read, read_held, rows-proper}
use Rattle.setup.specs.declared.Accepted.{Accepted}
use Rattle.setup.specs.Setup.{kept, set_up_with, set_up_of, Settled}

-- set-up with the rows that were read is the set-up of the lent rows
pub set-up-read : (rows : List Row) → set_up_with (rows_read rows) ≡ set_up_of rows
set-up-read rows = ap (λ (c : Result ⊤ Refusal). kept c (rows_read rows)) (judge-read rows)

pub set-up-settled : (t : Rows) → Held t → (u : Accepted) → set_up_with t ≡ Ok u → Settled u
set-up-settled t h u e = go (judge_rows t) refl e
  where
    go : (c : Result ⊤ Refusal) → judge_rows t ≡ c → kept c t ≡ Ok u → Settled u
    go (Ok done) p q =
        let r : ◌≡◌ {A = Accepted} (record { rows = t }) u = cc in
        subst Settled r (record { held = h; proper = rows-proper t p })
    go (Err k) p q = differ (cc)

pub lent-settled : (rows : List Row) (u : Accepted) → set_up_of rows ≡ Ok u → Settled u
lent-settled rows u e = set-up-settled (rows_read rows) (read_held rows) u (set-up-read rows ∙ e)
