-- One row a round.
use Rattle.std.proofs.Common.{ℕ, ap, get_or, ◌∙◌, arith}
use Rattle.book.specs.Book.{no_kind}
use Rattle.image.proofs.Restores.{begun-done, begun_more}
use Rattle.layout.proofs.Readers.{table-count}
use Rattle.layout.specs.Judged.{table_in}
use Rattle.image.proofs.with_kinds.Goals as goal

pub loop-i-preserved : goal.loop-i-preserved
loop-i-preserved c =
    let s = c.loop-i in
    let img = c.args.img.now in (
      omega arith,
      begun_more (table_in img) s.i s.next s.invariant.1 c.kind_in.result c.with_kind-next.result (table-count img) (omega arith)
          (c.kind_in.ensures ∙ ap (λ (n : ℕ). get_or (table_in img) n no_kind) c.from.ensures) c.with_kind-next.ensures,
    )

pub returns : goal.returns
returns c =
    let img = c.args.img.now in
    begun-done (table_in img) c.loop-i.i c.loop-i.next c.loop-i.invariant.1 (table-count img) (omega arith)
