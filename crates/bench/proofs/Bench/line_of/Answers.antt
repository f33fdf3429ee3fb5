-- The number is written whole, and the rest of the line behind it.
use Rattle.std.proofs.Common.{◌-◌, length, arith}
use Rattle.bench.proofs.Laws.{number-written, lined}
use Rattle.bench.proofs.Bench.line_of.Goals as goal

pub slice_bounds-rest_of-count : goal.slice_bounds-rest_of-count
slice_bounds-rest_of-count c =
    (number-written _ _ _ _ c.requires.in_bounds (omega (arith, c.requires.sound.counted, c.requires.sound.near)) c.put_decimal-a.ensures).fits

pub slice_bounds-rest_of-start : goal.slice_bounds-rest_of-start
slice_bounds-rest_of-start c =
    (number-written _ _ _ _ c.requires.in_bounds (omega (arith, c.requires.sound.counted, c.requires.sound.near)) c.put_decimal-a.ensures).fits

pub returns : goal.returns
returns c =
    lined c.args.self _ c.put_decimal-a.result (length c.put_decimal-a.new.line - c.put_decimal-a.result) _ c.put_decimal-a.new.line c.rest_of-said.new.line _
    (number-written _ _ _ _ c.requires.in_bounds (omega (arith, c.requires.sound.counted, c.requires.sound.near)) c.put_decimal-a.ensures)
    c.rest_of-said.ensures c.sum_within.ensures
