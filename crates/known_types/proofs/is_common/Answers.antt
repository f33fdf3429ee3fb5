-- `known_types::is_common` meets its contract. Assumes nothing.
use Rattle.std.proofs.Common.{true, false, [], arith}
use Rattle.known_types.specs.Types.{common}
use Rattle.known_types.proofs.Stretch.{on-stretch}
use Rattle.known_types.proofs.is_common.Goals as goal

pub returns-in-240-to-241 : goal.returns-in-240-to-241
unfolding common
returns-in-240-to-241 c = on-stretch common true [] 0xF0 2 c.args.kind tt (λ z. z) (omega arith) (omega arith)

pub returns-in-240-to-241-2 : goal.returns-in-240-to-241-2
unfolding common
returns-in-240-to-241-2 c = on-stretch common true [] 0xF3 3 c.args.kind tt (λ z. z) (omega arith) (omega arith)

pub returns-in_default : goal.returns-in_default
unfolding common
returns-in_default c = on-stretch common false [] 0x00 240 c.args.kind tt (λ z. z) (omega arith) (omega arith)

pub returns-in_default-2 : goal.returns-in_default-2
unfolding common
returns-in_default-2 c = on-stretch common false [] 0xF2 1 c.args.kind tt (λ z. z) (omega arith) (omega arith)

pub returns-in_default-3 : goal.returns-in_default-3
unfolding common
returns-in_default-3 c = on-stretch common false [] 0xF6 10 c.args.kind tt (λ z. z) (omega arith) (omega arith)
