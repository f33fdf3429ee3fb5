-- What Delete does.
use Rattle.std.proofs.Common.{◌∙◌, eqb, length, eq-eqb}
use Rattle.files.specs.Asked.{file_in}
use Rattle.record_commands.proofs.Deletes.{delete-right}
use Rattle.record_commands.specs.Records.{delete_area, delete_of}
use Rattle.store.proofs.Deeds.{gone-did}
use Rattle.tapa.specs.Numbers.{word_at}
use Rattle.store_answers.proofs.on_delete.Goals as goal

pub returns : goal.returns
returns c =
    let a = c.args in
    let w = c.delete-done.ensures in
    let f = c.word_at.ensures in
    let p = c.word_at-2.ensures in
    gone-did (eqb (length a.part.now) 4) c.delete-done.result (delete_of a.b (file_in a.part.now) (word_at a.part.now 2)) a.b a.area.now
    (delete_area a.b a.area.now (file_in a.part.now) (word_at a.part.now 2)) _ _ _ _ (delete-right a.b a.area.now c.requires (file_in a.part.now) (word_at a.part.now 2)).lawful
    (eq-eqb (length a.part.now) 4 c.if-part-ne4.false) (w.0 ∙ (λ i. delete_of a.b (f i) (p i))) (w.1 ∙ (λ i. delete_area a.b a.area.now (f i) (p i))) c.gone.ensures
