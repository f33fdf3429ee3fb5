-- The rules a to e in their order: each return knows what every test before it said.
use Rattle.std.proofs.Common.{sym}
use Rattle.rules.proofs.Steps.{turned-a, turned-b, turned-c, turned-d, turned-e, passes}
use Rattle.ruling.proofs.rule_for.Goals as goal

pub returns-then-not-is_listed : goal.returns-then-not-is_listed
returns-then-not-is_listed c = sym (turned-a _ c.args.head (cc))

pub returns-then-not-is_known : goal.returns-then-not-is_known
returns-then-not-is_known c = sym (turned-b _ c.args.head (cc) (cc))

pub returns-then-is_closed : goal.returns-then-is_closed
returns-then-is_closed c = sym (turned-c _ c.args.head (cc) (cc) (cc))

pub returns-then-not-may_ask : goal.returns-then-not-may_ask
returns-then-not-may_ask c = sym (turned-d _ c.args.head (cc) (cc) (cc) (cc))

pub returns-then-is_busy : goal.returns-then-is_busy
returns-then-is_busy c = sym (turned-e _ c.args.head (cc) (cc) (cc) (cc) (cc))

pub returns : goal.returns
returns c = sym (passes _ c.args.head (cc) (cc) (cc) (cc) (cc))
