-- No byte is written; one byte more is.
use Rattle.std.proofs.Common.{◌<◌, length, refl, ◌∙◌, arith}
use Rattle.text.proofs.Laws.{wrote_none}
use Rattle.hexes.proofs.Writing.{after_more, text-more}
use Rattle.session_hex_writer.proofs.write.Goals as goal

pub loop-byte-init : goal.loop-byte-init
loop-byte-init c = (refl, wrote_none _)

pub loop-byte-preserved : goal.loop-byte-preserved
loop-byte-preserved c =
    let cursor = c.args.cursor in
    let part = c.args.part.now in
    let l = c.loop-byte in
    let i = l.byte-index in
    let h : i < length part = omega arith in
    let step = c.advance-next.ensures in (
      step ∙ after_more cursor part i h l.next l.invariant.0,
      text-more cursor part i h l.next _ l.invariant.0 step l.invariant.1 c.put_byte.ensures,
    )
