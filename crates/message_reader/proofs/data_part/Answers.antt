-- `message_reader::data_part` meets its contract: a message has eight bytes before its data. Assumes nothing.
use Rattle.std.proofs.Common.{sym, ◌∙◌, arith}
use Rattle.message.proofs.Laws.{long, all_left, part-of-message, part-of-none}
use Rattle.message_reader.proofs.data_part.Goals as goal

pub slice_bounds-result-count : goal.slice_bounds-result-count
slice_bounds-result-count c = omega (arith, long c.args.message.now (sym c.in-Ok.ensures))

pub slice_bounds-result-start : goal.slice_bounds-result-start
slice_bounds-result-start c = omega (arith, long c.args.message.now (sym c.in-Ok.ensures))

pub returns-in-Ok : goal.returns-in-Ok
returns-in-Ok c =
    let s = c.args.message.now in
    let e = sym c.in-Ok.ensures in
    record { bytes = all_left s ∙ sym (part-of-message s _ e); place = rw e }

pub returns-in-Err : goal.returns-in-Err
returns-in-Err c =
    let s = c.args.message.now in
    let e = sym c.in-Err.ensures in
    record { bytes = sym (part-of-none s _ e); place = rw e }
