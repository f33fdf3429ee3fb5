-- Head, data and the last byte stand one after the other.
use Rattle.std.proofs.Common.{◌≡◌, ℕ, length, arith, length-take, length-drop}
use Rattle.cutter.proofs.Laws.{commanded}
use Rattle.psam_commands.proofs.put_command.Goals as goal

pub returns : goal.returns
returns c =
    let a = c.args in
    let whole : c.copy-n.result ≡ length c.args.piece.now = omega (arith, length-take {A = ℕ}, length-drop {A = ℕ}) in
    let part = rw whole at c.copy-n.ensures.bytes in
    commanded a.buffer.now a.piece.now a.thread a.p2 _ _ _ c.requires.piece_in_bounds c.put_head.ensures whole part
