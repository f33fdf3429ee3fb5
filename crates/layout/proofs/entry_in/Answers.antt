-- The entry stands at its place, and past the last there is one of zeros.
use Rattle.std.proofs.Common.{◌≡◌, ◌+◌, ◌*◌, ◌∙◌, sym, arith}
use Rattle.book.proofs.Blanks.{blank-entry}
use Rattle.layout.proofs.Readers.{entries-at, entries-past}
use Rattle.layout.specs.Judged.{count_in, entry_at}
use Rattle.layout.proofs.entry_in.Goals as goal

pub returns-then-held-i : goal.returns-then-held-i
returns-then-held-i c =
    (blank-entry c.default.result c.default.ensures ∙ sym (entries-past c.args.img.now 64 (count_in c.args.img.now) c.args.i (omega arith)), omega arith, omega arith)

pub returns : goal.returns
returns c =
    let at = entries-at c.args.img.now 64 (count_in c.args.img.now) c.args.i (omega arith) in
    let read : _ ≡ entry_at c.args.img.now (64 + c.args.i * 6) =
    (λ j. record { file = c.number_at.ensures.0 j; pointer = c.word_at.ensures j; slot = c.number_at-2.ensures.0 j; keylen = c.number_at-3.ensures.0 j; len = c.number_at-4.ensures.0 j }) in
    (read ∙ sym at, c.number_at-2.ensures.1, c.number_at-3.ensures.1)
