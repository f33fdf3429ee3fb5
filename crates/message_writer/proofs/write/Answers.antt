-- `message_writer::write` meets its contract. Assumes nothing.
use Rattle.std.proofs.Common.{ℕ, ◌≡◌, refl, length, arith, length-take, length-drop}
use Rattle.lists.proofs.Onto.{onto-then}
use Rattle.message.specs.Message.{head_bytes, writing_of}
use Rattle.message.proofs.Laws.{wrote-all}
use borrow.Author.Tests.{lt-ltb, le-ltb}
use Rattle.message_writer.proofs.write.Goals as goal

pub returns-then-length-gt1024 : goal.returns-then-length-gt1024
unfolding writing_of
returns-then-length-gt1024 c = let e = lt-ltb 1024 _ c.if-length-gt1024.true in record { answer = rw e; buffer = rw e }

pub returns-then-buffer-length : goal.returns-then-buffer-length
unfolding writing_of
returns-then-buffer-length c =
    let e = le-ltb 1024 _ c.if-length-gt1024.false in
    let f = lt-ltb _ _ c.if-buffer-length.true in
    record { answer = rw (e, f); buffer = rw (e, f) }

pub returns : goal.returns
returns c =
    let a = c.args in
    let whole : c.copy.result ≡ length c.args.part.now = omega (arith, length-take {A = ℕ}, length-drop {A = ℕ}) in
    let part = rw whole at c.copy.ensures.bytes in
    wrote-all a.part.now a.buffer.now a.destination a.source a.kind a.thread _ c.if-length-gt1024.false c.if-buffer-length.false
    (onto-then (head_bytes a.destination a.source a.kind a.thread (length a.part.now)) a.part.now a.buffer.now 8 refl c.if-buffer-length.false _ _ c.put_head.ensures part)
