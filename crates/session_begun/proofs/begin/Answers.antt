-- Too long, or the state after the rows.
use Rattle.run.proofs.Rows.{begun, long-start, rows-held, rows_start}
use Rattle.session_begun.proofs.begin.Goals as goal

pub started-requires : goal.started-requires
started-requires c = rows-held c.args.input.now _ c.read_rows-heading.ensures

pub returns-then-input-gt65536 : goal.returns-then-input-gt65536
returns-then-input-gt65536 c = begun c.args.input.now _ (long-start c.args.input.now _ c.if-input-gt65536.true c.blank-router.ensures)

pub returns : goal.returns
returns c = begun c.args.input.now _ (rows_start c.args.input.now _ _ c.if-input-gt65536.false c.read_rows-heading.ensures c.started.ensures)
