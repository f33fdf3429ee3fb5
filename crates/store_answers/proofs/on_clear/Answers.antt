-- What Clear does.
use Rattle.std.proofs.Common.{ap, ◌∙◌, eqb, length, eq-eqb}
use Rattle.file_commands.proofs.Erases.{clear-right}
use Rattle.file_commands.specs.Erasing.{clear_area, clear_of}
use Rattle.files.specs.Asked.{file_in}
use Rattle.store.proofs.Deeds.{gone-did}
use Rattle.store_answers.proofs.on_clear.Goals as goal

pub returns : goal.returns
returns c =
    let a = c.args in
    let w = c.clear-done.ensures in
    let f = c.word_at.ensures in
    gone-did (eqb (length a.part.now) 2) c.clear-done.result (clear_of a.b (file_in a.part.now)) a.b a.area.now (clear_area a.b a.area.now (file_in a.part.now)) _ _ _ _
    (clear-right a.b a.area.now c.requires (file_in a.part.now)).lawful
    (eq-eqb (length a.part.now) 2 c.if-part-ne2.false) (w.0 ∙ ap (clear_of a.b) f) (w.1 ∙ ap (clear_area a.b a.area.now) f) c.gone.ensures
