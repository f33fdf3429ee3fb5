-- The sheet has the cell, or there is no wording.
use Rattle.std.proofs.Common.{arith, ap, ◌∙◌}
use Rattle.std.specs.Option.{unwrap_or}
use Rattle.forms.proofs.Sheets.{none-past, none-short, spans}
use Rattle.show_sheet.proofs.wording.Goals as goal
use Rattle.show_sheet.proofs.wording.Goals.{then-n-ge512-via-then-n-ge512, then-n-ge512-via-else-n-ge512+then-sheet-n}

pub returns-then-n-ge512 : goal.returns-then-n-ge512
returns-then-n-ge512 c =
    elim c.then-n-ge512.branch [
      | then-n-ge512-via-then-n-ge512 w ↦ none-past c.args.sheet.now c.args.n w.if-n-ge512.true
      | then-n-ge512-via-else-n-ge512+then-sheet-n w ↦ none-short c.args.sheet.now c.args.n w.if-sheet-n.true
    ]

pub returns : goal.returns
returns c =
    spans c.args.sheet.now c.args.n _ _ c.if-n-ge512.false c.if-sheet-n.false (omega arith) (c.unwrap_or.ensures ∙ ap (λ o. unwrap_or o 128) c.wording_end.ensures)
