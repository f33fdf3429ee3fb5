-- What `grind` is given, so that these need no answer: a chain of calls, and the loops and the recursion of `Writer`.
use Rattle.std.proofs.lemmas.List.{take_more}
use Rattle.text.proofs.Laws.{puts-append, puts_none, spelled-more, decimal-one, decimal-more}

-- `#![tactic(auto, using(text::proofs::Calls::calls))]`
pub ruleset calls = (puts-append, puts_none)

pub ruleset one_more = (puts-append, puts_none, take_more, spelled-more)

pub ruleset digits = (puts-append, decimal-one, decimal-more)
