-- What is not owed is open.
use Rattle.router.proofs.Counts.{owed-few, open-left}
use Rattle.router.proofs.count_open.Goals as goal

pub overflow_sub-result : goal.overflow_sub-result
overflow_sub-result c = owed-few c.args.list.now c.args.len _ c.count_owed.ensures

pub returns : goal.returns
returns c = open-left c.args.list.now c.args.len _ c.count_owed.ensures
