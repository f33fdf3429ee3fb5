-- What Update does.
use Rattle.std.proofs.Common.{◌+◌, ℕ, ap, sym, ◌∙◌, arith}
use Rattle.files.specs.Asked.{data_from, file_in, key_from, record_shape}
use Rattle.record_commands.proofs.Updates.{update-right}
use Rattle.record_commands.specs.Records.{update_area, update_of}
use Rattle.store.proofs.Deeds.{added-did, data-part, key-part, record-there}
use Rattle.tapa.specs.Numbers.{word_at}
use Rattle.store_answers.proofs.on_update.Goals as goal

pub slice_bounds-update-end : goal.slice_bounds-update-end
slice_bounds-update-end c = omega (arith, record-there c.args.part.now 4 (sym c.if-not-has_record.ensures), c.from-end.ensures ∙ c.byte_at.ensures)

pub slice_bounds-update-count-2 : goal.slice_bounds-update-count-2
slice_bounds-update-count-2 c = omega (arith, record-there c.args.part.now 4 (sym c.if-not-has_record.ensures), c.from-end.ensures ∙ c.byte_at.ensures)

pub slice_bounds-update-start-2 : goal.slice_bounds-update-start-2
slice_bounds-update-start-2 c = omega (arith, record-there c.args.part.now 4 (sym c.if-not-has_record.ensures), c.from-end.ensures ∙ c.byte_at.ensures)

pub returns : goal.returns
returns c =
    let a = c.args in
    let w = c.update-done.ensures in
    let f = c.word_at-f.ensures in
    let p = c.word_at-p.ensures in
    let t = sym c.if-not-has_record.ensures in
    let n = c.from-end.ensures ∙ c.byte_at.ensures in
    let k = key-part a.part.now 4 t (5 + c.from-end.result) (ap (λ (m : ℕ). 5 + m) n) in
    let d = data-part a.part.now 4 t (5 + c.from-end.result + 2) (omega (arith, n)) in
    added-did (record_shape 4 a.part.now) c.update-done.result (update_of a.b a.area.now (file_in a.part.now) (word_at a.part.now 2) (key_from a.part.now 4) (data_from a.part.now 4)) a.b a.area.now
    (update_area a.b a.area.now (file_in a.part.now) (word_at a.part.now 2) (key_from a.part.now 4) (data_from a.part.now 4)) _ _ _ _
    (update-right a.b a.area.now c.requires (file_in a.part.now) (word_at a.part.now 2) (key_from a.part.now 4) (data_from a.part.now 4)).lawful t
    (w.0 ∙ (λ i. update_of a.b a.area.now (f i) (p i) (k i) (d i))) (w.1 ∙ (λ i. update_area a.b a.area.now (f i) (p i) (k i) (d i))) c.added.ensures
