-- One entry a round.
use Rattle.std.proofs.Common.{◌+◌, ◌*◌, ap, sym, ◌∙◌, arith}
use Rattle.book.specs.Book.{entries_of, no_entry}
use Rattle.book.specs.declared.Entry.{Entry}
use Rattle.image.proofs.Flats.{entries-wide, flat-done, flat-more}
use Rattle.layout.specs.Layout.{entry_bytes}
use Rattle.lists.specs.Lists.{over}
use Rattle.image.proofs.put_entries.Goals as goal

pub loop-i-preserved : goal.loop-i-preserved
loop-i-preserved c =
    let s = c.loop-i in
    let l = entries_of c.args.b in
    let r = flat-more entry_bytes 6 l (entries-wide l) no_entry 64 s.out _ s.i (omega arith) (omega arith)
    (c.put_entry.ensures ∙ ap (λ (x : Entry). over s.out (64 + s.i * 6) (entry_bytes x)) c.entry_at.ensures) in
    (omega arith, r.0 ∙ s.invariant.1, r.1 ∙ s.invariant.2)

pub returns : goal.returns
returns c =
    let l = entries_of c.args.b in
    sym (flat-done entry_bytes 6 l (entries-wide l) no_entry 64 c.loop-i.out c.loop-i.i (omega arith)) ∙ c.loop-i.invariant.2
