-- Each return is one check of `cut_at`. The two that write nothing follow from its definition.
use Rattle.std.proofs.Common.{arith}
use Rattle.cutter.proofs.Laws.{handed-more, handed-last}
use Rattle.psam_commands.proofs.cut_next.Goals as goal

pub returns-then-left-gt248 : goal.returns-then-left-gt248
returns-then-left-gt248 c =
    handed-more c.args.part.now c.args.buffer.now _ _ _ (omega arith) c.if-part-at.false c.if-left-gt248.true c.put_command.ensures

pub returns : goal.returns
returns c =
    handed-last c.args.part.now c.args.buffer.now _ _ _ (omega arith) c.if-part-at.false c.if-left-gt248.false c.put_command-2.ensures
