-- Each return is the first of the definition's checks that passes.
use Rattle.std.proofs.Common.{◌+◌, length, ◌∙◌, arith}
use borrow.Author.Tests.{le-leb, lt-leb, le-ltb, lt-ltb}
use Rattle.fields.specs.Places.{read_at}
use Rattle.fields.proofs.read_at.Goals as goal

pub returns-then-s-at : goal.returns-then-s-at
unfolding read_at
returns-then-s-at c = rw (le-leb _ _ c.if-s-at.true)

pub returns-then-left-lt3 : goal.returns-then-left-lt3
unfolding read_at
returns-then-left-lt3 c = rw (lt-leb _ _ c.if-s-at.false, lt-ltb (length c.args.s.now) (c.args.at + 3) (omega arith))

pub returns-then-left-long : goal.returns-then-left-long
unfolding read_at
returns-then-left-long c =
    rw (
      lt-leb _ _ c.if-s-at.false,
      le-ltb (length c.args.s.now) (c.args.at + 3) (omega arith),
      ← (c.from-long.ensures ∙ c.word_at.ensures),
      lt-ltb (length c.args.s.now) (c.args.at + 3 + c.from-long.result) (omega arith),
    )

pub returns : goal.returns
unfolding read_at
returns c =
    rw (
      lt-leb _ _ c.if-s-at.false,
      le-ltb (length c.args.s.now) (c.args.at + 3) (omega arith),
      ← (c.from-long.ensures ∙ c.word_at.ensures),
      le-ltb (length c.args.s.now) (c.args.at + 3 + c.from-long.result) (omega arith),
    )
