-- The invariant at the first byte, at the next one, and at the end.
use Rattle.std.proofs.Common.{refl, arith}
use Rattle.forms.specs.Forms.{engraved}
use Rattle.forms.proofs.Engraving.{one_more, no_more}
use Rattle.show_sheet.proofs.engrave.Goals as goal

pub loop-byte-init : goal.loop-byte-init
unfolding engraved
loop-byte-init c = refl

pub loop-byte-preserved : goal.loop-byte-preserved
loop-byte-preserved c =
    one_more c.args.wordings.now c.loop-byte.byte-index _ _ _ (omega arith) c.engrave_byte-nib.ensures c.loop-byte.invariant

pub returns : goal.returns
returns c = no_more c.args.wordings.now c.loop-byte.byte-index _ _ (omega arith) c.loop-byte.invariant
