-- The walk ends at the event that meets the search, or goes one place further.
use Rattle.std.proofs.Common.{arith, rules, sym, ap, ◌∙◌}
use Rattle.queue.specs.Events.{meets}
use Rattle.queue.proofs.Laws.{find-here, find_past}
use Rattle.event_ring.proofs.find.Goals as goal

pub returns-then-is_met : goal.returns-then-is_met
returns-then-is_met c =
    let q = meets c.args.search in
    sym (find-here q _ _ _ _ (search rules) (ap q (sym c.event_after.ensures) ∙ sym c.is_met.ensures ∙ c.if-is_met.true)) ∙ c.loop-older.invariant.ahead

pub loop-older-preserved : goal.loop-older-preserved
loop-older-preserved c =
    let q = meets c.args.search in
    record {
      inside = omega arith;
      ahead = sym (find_past q _ _ _ _ (search rules) (ap q (sym c.event_after.ensures) ∙ sym c.is_met.ensures ∙ c.if-is_met.false)) ∙ c.loop-older.invariant.ahead;
    }
