-- A response has a head, and there is room for its code.
use Rattle.std.proofs.Common.{ap, ◌∙◌}
use Rattle.std.specs.Prelude.{Ok}
use Rattle.joiner.proofs.Laws.{completes}
use Rattle.psam_pieces.proofs.finish.Goals as goal

pub complete-requires-clause-le_m : goal.complete-requires-clause-le_m
complete-requires-clause-le_m c =
    let a = c.args in
    (completes a.joiner a.m a.buffer.now c.requires.0 c.requires.1 _ c.judge.ensures _ (c.in_ok-source.was ∙ ap Ok c.in-Some.is)).0

pub complete-requires-clause-m_in_bounds : goal.complete-requires-clause-m_in_bounds
complete-requires-clause-m_in_bounds c =
    let a = c.args in
    (completes a.joiner a.m a.buffer.now c.requires.0 c.requires.1 _ c.judge.ensures _ (c.in_ok-source.was ∙ ap Ok c.in-Some.is)).1
