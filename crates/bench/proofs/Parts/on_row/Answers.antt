use Rattle.std.proofs.Common.{subst, sym}
use Rattle.table.specs.declared.Rows.{Rows}
use Rattle.table.specs.Table.{Held}
use Rattle.table.proofs.Read.{with-held}
use Rattle.bench.proofs.Parts.on_row.Goals as goal

-- a row more leaves rows that are held
pub returns : goal.returns
returns c = record { queue = c.requires.queue; router = c.requires.router; rows = subst (λ (t : Rows). Held t) (sym c.with_row-rows.ensures) (with-held _ _ c.requires.rows) }
