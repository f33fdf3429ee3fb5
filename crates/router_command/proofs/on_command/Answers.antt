-- What the rules say is done.
use Rattle.std.proofs.Common.{sym, ap, ◌∙◌}
use Rattle.ruling.specs.Ruling.{ruled}
use Rattle.routing.proofs.Commands.{turns, passes}
use Rattle.router_command.proofs.on_command.Goals as goal

pub returns-in-Err : goal.returns-in-Err
returns-in-Err c =
    let a = c.args in
    turns _ _ c.requires.lawful a.head _ _ _ _ _ c.turned_back-outcome.ensures
    (ap (ruled a.head) (sym c.in-Err.is) ∙ c.rule_for.ensures) c.requires.in_bounds c.respond.ensures

pub returns : goal.returns
returns c =
    let a = c.args in
    let e = ap (ruled a.head) (sym c.in_default.is) ∙ c.rule_for.ensures in
    passes _ _ c.requires.lawful a.head _ _ _ _ _ _ c.requires.len_bound c.passed-outcome.ensures c.wait_of.ensures e c.push-more.ensures
