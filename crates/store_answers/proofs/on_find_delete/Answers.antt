-- What Find and Delete does.
use Rattle.std.proofs.Common.{sym, ◌∙◌, arith}
use Rattle.files.specs.Asked.{file_in, key_from, key_shape}
use Rattle.record_commands.proofs.Deletes.{find-delete-right}
use Rattle.record_commands.specs.Records.{find_delete_area, find_delete_of}
use Rattle.store.proofs.Deeds.{gone-did, key-rest, key-there}
use Rattle.store_answers.proofs.on_find_delete.Goals as goal

pub slice_bounds-find_delete-count : goal.slice_bounds-find_delete-count
slice_bounds-find_delete-count c = omega (arith, key-there c.args.part.now (sym c.if-not-has_key.ensures))

pub slice_bounds-find_delete-start : goal.slice_bounds-find_delete-start
slice_bounds-find_delete-start c = omega (arith, key-there c.args.part.now (sym c.if-not-has_key.ensures))

pub returns : goal.returns
returns c =
    let a = c.args in
    let w = c.find_delete-done.ensures in
    let f = c.word_at.ensures in
    let t = sym c.if-not-has_key.ensures in
    let k = key-rest a.part.now t in
    gone-did (key_shape a.part.now) c.find_delete-done.result (find_delete_of a.b a.area.now (file_in a.part.now) (key_from a.part.now 2)) a.b a.area.now
    (find_delete_area a.b a.area.now (file_in a.part.now) (key_from a.part.now 2)) _ _ _ _ (find-delete-right a.b a.area.now c.requires (file_in a.part.now) (key_from a.part.now 2)).lawful
    t (w.0 ∙ (λ i. find_delete_of a.b a.area.now (f i) (k i))) (w.1 ∙ (λ i. find_delete_area a.b a.area.now (f i) (k i))) c.gone.ensures
