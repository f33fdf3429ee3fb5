-- What is settled, too long, or the step at the place.
use Rattle.std.proofs.Common.{refl, sym}
use Rattle.run.proofs.Turns.{settles, long-ahead, step-ahead}
use Rattle.session_turns.proofs.look_ahead.Goals as goal

pub returns-in-Settled : goal.returns-in-Settled
returns-in-Settled c = settles c.args.input.now c.args.cursor _ c.in-Settled.is

pub returns-then-input-gt65536 : goal.returns-then-input-gt65536
returns-then-input-gt65536 c = long-ahead c.args.input.now c.args.cursor c.in_default.is c.if-input-gt65536.true

pub returns-in-Message : goal.returns-in-Message
returns-in-Message c = step-ahead c.args.input.now c.args.cursor _ _ c.in_default.is c.if-input-gt65536.false (sym c.in-Message.ensures) refl

pub returns-in-GiveUp : goal.returns-in-GiveUp
returns-in-GiveUp c = step-ahead c.args.input.now c.args.cursor _ _ c.in_default.is c.if-input-gt65536.false (sym c.in-GiveUp.ensures) refl

pub returns-in-Replaced : goal.returns-in-Replaced
returns-in-Replaced c = step-ahead c.args.input.now c.args.cursor _ _ c.in_default.is c.if-input-gt65536.false (sym c.in-Replaced.ensures) refl

pub returns-in-Broken : goal.returns-in-Broken
returns-in-Broken c = step-ahead c.args.input.now c.args.cursor _ _ c.in_default.is c.if-input-gt65536.false (sym c.in-Broken.ensures) refl

pub returns-in-End : goal.returns-in-End
returns-in-End c = step-ahead c.args.input.now c.args.cursor _ _ c.in_default.is c.if-input-gt65536.false (sym c.in-End.ensures) refl
