-- One file more a round.
use Rattle.std.proofs.Common.{ℕ, ap, ◌∙◌, length-set, arith}
use Rattle.book.specs.Book.{one_more}
use Rattle.file_commands.proofs.Making.{making-more}
use Rattle.file_commands.proofs.create.Goals as goal

pub loop-i-preserved : goal.loop-i-preserved
loop-i-preserved c =
    let a = c.args in
    let s = c.loop-i in (
      s.invariant.0,
      s.invariant.1,
      simp length-set s.invariant.2,
      making-more a.n a.keymax a.recmax a.b s.invariant.1 s.ids s.next s.i s.invariant.3 c.with_file-one.result (omega (arith, s.invariant.0))
          (c.with_file-one.ensures ∙ ap (λ (k : ℕ). one_more s.next k a.recmax) c.from.ensures),
    )
