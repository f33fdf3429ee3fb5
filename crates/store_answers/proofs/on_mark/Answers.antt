-- No data, and the code alone either way.
use Rattle.std.proofs.Common.{refl, arith}
use Rattle.files.specs.Asked.{mark_shape}
use Rattle.store.proofs.Deeds.{mark-long, mark-none, wrong}
use Rattle.store_answers.proofs.on_mark.Goals as goal

pub returns-then-part-ne0 : goal.returns-then-part-ne0
returns-then-part-ne0 c =
    wrong (mark_shape c.args.part.now) _ c.args.b c.args.area.now _ _ _ c.requires (mark-long c.args.part.now c.if-part-ne0.true) c.code_alone.ensures

pub returns : goal.returns
returns c = rw (mark-none c.args.part.now (omega arith)) (record { says = c.code_alone-2.ensures; area' = refl; law = c.requires })
