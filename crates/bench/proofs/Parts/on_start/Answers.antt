use Rattle.std.proofs.Common.{Result, subst, sym}
use Rattle.tapa.specs.declared.Refusal.{Refusal}
use Rattle.table.specs.declared.Rows.{Rows}
use Rattle.table.specs.Table.{Held}
use Rattle.table.proofs.Read.{none-held}
use Rattle.router.specs.declared.Router.{Router}
use Rattle.router.specs.Router as router
use Rattle.start.specs.Start.{router_left}
use Rattle.start.proofs.Starts.{start-law}
use Rattle.bench.proofs.Parts.on_start.Goals as goal

-- a router over an accepted table is lawful
pub returns-in-Ok : goal.returns-in-Ok
returns-in-Ok c = record {
  queue = c.requires.queue;
  router = subst (λ (s : Result Router Refusal). router.Lawful (router_left s)) (sym c.in-Ok.ensures) (start-law _ c.requires.rows);
  rows = subst (λ (t : Rows). Held t) (sym c.no_rows-next.ensures) none-held;
}
