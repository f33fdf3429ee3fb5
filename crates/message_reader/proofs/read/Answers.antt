-- `message_reader::read` meets its contract: each return is one check of `read_of`. Assumes nothing.
use Rattle.std.proofs.Common.{sym, ◌∙◌, arith}
use Rattle.message.proofs.Laws.{reads_short, reads-long, reads-fewer, reads_more, made}
use Rattle.message_reader.proofs.read.Goals as goal

pub returns-in_default : goal.returns-in_default
returns-in_default c = sym (reads_short c.args.message.now c.in_default.len_below)

pub returns-then-length-gt1024 : goal.returns-then-length-gt1024
returns-then-length-gt1024 c = sym (reads-long c.args.message.now c.in-len8-up.len_at_least (omega arith))

pub returns-then-message-length : goal.returns-then-message-length
returns-then-message-length c = sym (reads-fewer c.args.message.now c.in-len8-up.len_at_least (omega arith) (omega arith))

pub returns-then-length-message : goal.returns-then-length-message
returns-then-length-message c = sym (reads_more c.args.message.now (omega arith) (omega arith))

pub returns : goal.returns
returns c = made c.args.message.now _ _ _ c.pair-2.ensures c.pair-3.ensures (c.from-length.ensures ∙ c.pair.ensures) c.in-len8-up.len_at_least (omega arith) (omega arith)
