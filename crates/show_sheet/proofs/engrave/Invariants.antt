-- What is left, engraved from here on, gives the whole.
use Rattle.std.proofs.Common.{drop, ◌≡◌}
use Rattle.text.specs.Text.{pen}
use Rattle.forms.specs.Forms.{stylus, engraved_from, engraved}
use Rattle.show_sheet.proofs.engrave.Given as goal

abbrev pub invariant-loop-byte : goal.invariant-loop-byte
invariant-loop-byte l =
    engraved_from (stylus l.nib.cell (pen l.sheet l.nib.at)) (drop l.byte-index l.wordings) ≡ engraved l.fn.sheet l.fn.first l.wordings
