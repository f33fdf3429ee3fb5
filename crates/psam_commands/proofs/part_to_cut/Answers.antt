-- The data to cut is the message's data part, or the empty part at its start.
use Rattle.std.proofs.Common.{refl, sym}
use Rattle.cutter.proofs.Laws.{hands-part, hands_none}
use Rattle.psam_commands.proofs.part_to_cut.Goals as goal

pub returns-in-Ok : goal.returns-in-Ok
returns-in-Ok c = hands-part c.args.message _ _ (sym c.in-Ok.ensures) c.data_part.ensures

pub returns-in-Err : goal.returns-in-Err
returns-in-Err c = hands_none c.args.message _ _ (sym c.in-Err.ensures) refl refl
