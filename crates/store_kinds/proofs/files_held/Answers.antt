-- The chain counts the rows that are made, of 16.
use Rattle.std.proofs.Common.{◌≡◌, ◌∙◌, sym, arith, rules}
use Rattle.std.proofs.lemmas.List.Sums.{count_by-le-length}
use Rattle.std.specs.List.{count_by}
use Rattle.book.proofs.Tables.{counted}
use Rattle.book.specs.Book.{is_made}
use Rattle.store_kinds.proofs.files_held.Goals as goal

pub returns : goal.returns
returns c =
    let ks = c.args.b.kinds in
    let e : c.count.result ≡ count_by is_made ks = search rules in
    (e ∙ sym (counted ks), omega (arith, count_by-le-length is_made ks, c.requires.files))
