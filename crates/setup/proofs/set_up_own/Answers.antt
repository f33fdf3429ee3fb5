-- There are no rows past the seventeenth.
use Rattle.std.proofs.Common.{◌≡◌, take, ap, ◌∙◌, arith}
use Rattle.std.proofs.lemmas.Grind.{common_steps}
use Rattle.setup.specs.Setup.{set_up_of}
use Rattle.setup.proofs.set_up_own.Goals as goal

pub returns : goal.returns
returns c =
    let e : take c.min.result c.args.rows ≡ take c.args.count c.args.rows = grind (arith, common_steps) in
    c.set_up.ensures ∙ ap set_up_of e
