-- All is judged before the area is written.
use Rattle.std.proofs.Common.{Err, Ok, rules, ◌≡◌, sym, ap, ◌∙◌}
use Rattle.book.specs.declared.Book.{Book}
use Rattle.image.proofs.Loads.{loaded-area, loaded-book}
use Rattle.image.proofs.Restores.{refused-area, refused-bytes}
use Rattle.layout.proofs.Verdicts.{whole_is}
use Rattle.image.proofs.load.Goals as goal

pub returns-then-area-ne98048 : goal.returns-then-area-ne98048
returns-then-area-ne98048 c = refused-area c.args.img.now c.args.area.now c.if-area-ne98048.true

pub returns-in_err-judge : goal.returns-in_err-judge
returns-in_err-judge c =
    let r = refused-bytes c.args.img.now c.args.area.now c.in_err-judge.field-0.0 c.if-area-ne98048.false (sym c.judge.ensures ∙ c.in_err-judge.was) in
    let e : c.from_residual.result ≡ Err c.in_err-judge.field-0.0 = search rules in
    (e ∙ r.0, r.1)

-- past both tests the bytes are an image
pub pour-requires : goal.pour-requires
pour-requires c = (c.if-area-ne98048.false, (whole_is c.args.img.now (sym c.judge.ensures ∙ c.in_ok-judge.was)).long)

pub book_in-requires : goal.book_in-requires
book_in-requires c = (whole_is c.args.img.now (sym c.judge.ensures ∙ c.in_ok-judge.was)).few

pub returns : goal.returns
returns c =
    let whole = sym c.judge.ensures ∙ c.in_ok-judge.was in (
      ap (λ (b : Book). Ok b) c.book_in.ensures ∙ sym (loaded-book c.args.img.now c.args.area.now c.if-area-ne98048.false whole),
      c.pour.ensures ∙ sym (loaded-area c.args.img.now c.args.area.now c.if-area-ne98048.false whole),
    )
