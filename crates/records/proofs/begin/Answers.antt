-- The store without files is a store, and was kept.
use Rattle.std.proofs.Common.{rules}
use Rattle.io.proofs.Counting.{prefix_len_of_le}
use Rattle.records.proofs.Images.{fresh-storable}
use Rattle.records.proofs.begin.Goals as goal

pub keep-keeping-requires : goal.keep-keeping-requires
keep-keeping-requires c =
    (fresh-storable _ _ c.fresh-book.ensures c.requires.0, record { long = c.requires.1; used = prefix_len_of_le 0 c.args.last.now (search rules) })

pub show_inputs-requires : goal.show_inputs-requires
show_inputs-requires c =
    let k = c.keep-keeping.ensures in
    record { store = fresh-storable _ _ c.fresh-book.ensures c.requires.0; room = k.room; image = k.image c.if-keeping.true }
