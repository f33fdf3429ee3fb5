-- The loop keeps what a search from here downwards finds.
use Rattle.std.proofs.Common.{ap, sym, take, ℕ, ◌∙◌, arith}
use borrow.Author.Tests.{eq-eqb, ne_eqb}
use Rattle.book.proofs.Laws.{law-long, take-both}
use Rattle.book.specs.Book.{in_file, no_entry}
use Rattle.lists.proofs.ByPlace.{last-here, last-past}
use Rattle.lists.specs.ByPlace.{last}
use Rattle.store_entries.proofs.last_before.Goals as goal

pub loop-i-init : goal.loop-i-init
loop-i-init c =
    let b = c.args.b in
    (law-long b c.requires, ap (λ (n : ℕ). last (in_file c.args.f) (take n b.entries)) c.min-i.ensures ∙ ap (last (in_file c.args.f)) (take-both b.entries c.args.«end» b.count))

pub returns-then-b-i : goal.returns-then-b-i
returns-then-b-i c =
    let s = c.loop-i in
    sym (last-here no_entry (in_file c.args.f) c.args.b.entries s.i (omega arith) (omega (arith, c.min-i.ensures, s.invariant.0, c.requires.few)) (eq-eqb _ _ c.if-b-i.true)) ∙ s.invariant.1

pub loop-i-preserved : goal.loop-i-preserved
loop-i-preserved c =
    let s = c.loop-i in (
      s.invariant.0,
      sym (last-past no_entry (in_file c.args.f) c.args.b.entries s.i (omega arith) (omega (arith, c.min-i.ensures, s.invariant.0, c.requires.few)) (ne_eqb _ _ c.if-b-i.false)) ∙ s.invariant.1,
    )
