-- The row stands at its place, and past the table there is one that is not made.
use Rattle.std.proofs.Common.{◌∙◌, sym, eqb}
use Rattle.book.proofs.Blanks.{blank-kind}
use Rattle.layout.proofs.Readers.{table_at, table-past}
use Rattle.layout.proofs.kind_in.Goals as goal

pub returns-then-i-ge16 : goal.returns-then-i-ge16
returns-then-i-ge16 c = (blank-kind c.default.result c.default.ensures) ∙ sym (table-past c.args.img.now c.args.i c.if-i-ge16.true)

pub returns : goal.returns
returns c =
    (λ j. record { made = eqb (c.byte_at.ensures j) 1; keymax = c.number_at.ensures.0 j; recmax = c.number_at-2.ensures.0 j })
    ∙ sym (table_at c.args.img.now c.args.i c.if-i-ge16.false)
