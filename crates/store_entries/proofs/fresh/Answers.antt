-- Sixteen rows of no file, and no record.
use Rattle.std.proofs.Common.{replicate}
use Rattle.book.proofs.Blanks.{blank-entry}
use Rattle.book.specs.Book.{no_kind, no_kinds}
use Rattle.store_entries.proofs.fresh.Goals as goal

pub returns : goal.returns
unfolding no_kinds
returns c =
    let e = blank-entry c.default.result c.default.ensures in
    λ i. record { kinds = replicate 16 no_kind; entries = replicate 256 (e i); count = 0 }
