-- A start from lent rows hands back a lawful router.
use Rattle.std.proofs.Common.{sym, subst, ◌∙◌}
use Rattle.std.specs.Prelude.{Result, IfOk}
use Rattle.tapa.specs.declared.Refusal.{Refusal}
use Rattle.setup.proofs.Settled.{lent-settled}
use Rattle.start.proofs.Starts.{started-law}
use Rattle.router.specs.declared.Router.{Router}
use Rattle.router.specs.Router.{Lawful}
use Rattle.example.proofs.begin.Goals as goal

pub start_from-requires : goal.start_from-requires
start_from-requires c = λ u e. lent-settled _ u (sym c.set_up_own.ensures ∙ e)

pub returns : goal.returns
returns c =
    subst (λ (r : Result Router Refusal). IfOk r Lawful) (sym c.start_from.ensures)
    (started-law _ (λ u e. lent-settled _ u (sym c.set_up_own.ensures ∙ e)))
