-- The entries behind the place are copied down by one, and the last place is freed.
use Rattle.std.proofs.Common.{List, ◌-◌, set, sym, ap, ◌∙◌, arith}
use Rattle.book.proofs.Blanks.{blank-entry}
use Rattle.book.proofs.Laws.{law-len, law-long, removed-done}
use Rattle.book.proofs.Moved.{cut_moved}
use Rattle.book.specs.Book.{book_of, entries_of}
use Rattle.book.specs.declared.Entry.{Entry}
use Rattle.lists.proofs.ByPlace.{cut-past}
use Rattle.lists.specs.ByPlace.{cut}
use Rattle.store_entries.proofs.removed.Goals as goal

pub returns-then-n-at : goal.returns-then-n-at
returns-then-n-at c =
    let b = c.args.b in
    c.requires.whole ∙ ap (book_of b.kinds) (sym (cut-past (entries_of b) c.args.«at» (omega (arith, law-len b c.requires, c.if-n-at.true))))

pub returns : goal.returns
returns c =
    let b = c.args.b in
    let n = b.count in
    let l = c.copy_within.new.self in
    let long = law-long b c.requires in
    ap (λ (x : Entry). record { kinds = b.kinds; entries = set l (n - 1) x; count = n - 1 }) (blank-entry c.default.result c.default.ensures)
    ∙ removed-done b c.args.«at» (n - 1) l c.requires (omega arith) (omega arith) (c.copy_within.ensures.len ∙ long)
    (ap (λ (t : List Entry). cut t (n - 1)) c.copy_within.ensures.after ∙ cut_moved b.entries c.args.«at» n (omega arith) (omega (arith, long, c.requires.few)))
