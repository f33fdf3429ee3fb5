-- Two calls that follow one another.
use Rattle.text.proofs.Laws.{and_then}
use Rattle.lines.proofs.put_table.Goals as goal

pub returns : goal.returns
returns c = and_then c.put_refusal.ensures c.end_line.ensures
