-- A place of the entries is another one's.
use Rattle.book.proofs.Laws.{renewed-done}
use Rattle.store_entries.proofs.renewed.Goals as goal

pub returns : goal.returns
returns c = renewed-done c.args.b c.args.«at» c.args.x c.requires c.if-b-at.false
