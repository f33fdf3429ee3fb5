-- Entry by entry: one that does not fit, or has a twin behind it, settles it.
use Rattle.std.proofs.Common.{◌∙◌, sym, arith}
use Rattle.layout.proofs.Sounds.{fits-is, sound-bent, sound-end, sound_more, sound-twin}
use Rattle.layout.proofs.is_sound.Goals as goal

pub returns-then-not-is_within : goal.returns-then-not-is_within
returns-then-not-is_within c =
    let f = fits-is c.args.img.now c.loop-i.i _ _ _ c.entry_in-x.ensures.0 c.row_of.ensures c.if-not-is_within.ensures in
    sym (sound-bent c.args.img.now c.loop-i.i (omega arith) (sym f)) ∙ c.loop-i.invariant

pub returns-then-has_twin : goal.returns-then-has_twin
returns-then-has_twin c =
    let f = fits-is c.args.img.now c.loop-i.i _ _ _ c.entry_in-x.ensures.0 c.row_of.ensures c.if-not-is_within.ensures in
    sym (sound-twin c.args.img.now c.loop-i.i (omega arith) (sym f) (sym c.if-has_twin.ensures)) ∙ c.loop-i.invariant

pub loop-i-preserved : goal.loop-i-preserved
loop-i-preserved c =
    let f = fits-is c.args.img.now c.loop-i.i _ _ _ c.entry_in-x.ensures.0 c.row_of.ensures c.if-not-is_within.ensures in
    sound_more c.args.img.now c.loop-i.i (omega arith) (sym f) (sym c.if-has_twin.ensures) ∙ c.loop-i.invariant

pub returns : goal.returns
returns c = sym (sound-end c.args.img.now c.loop-i.i (omega arith)) ∙ c.loop-i.invariant
