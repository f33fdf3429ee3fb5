-- What Add does.
use Rattle.std.proofs.Common.{◌+◌, ℕ, ap, sym, ◌∙◌, arith}
use Rattle.files.specs.Asked.{data_from, file_in, key_from, record_shape}
use Rattle.record_commands.proofs.Adds.{add_right}
use Rattle.record_commands.specs.Records.{add_area, add_of}
use Rattle.store.proofs.Deeds.{added-did, data-part, key-part, record-there}
use Rattle.store_answers.proofs.on_add.Goals as goal

pub slice_bounds-add-end : goal.slice_bounds-add-end
slice_bounds-add-end c = omega (arith, record-there c.args.part.now 2 (sym c.if-not-has_record.ensures), c.from-end.ensures ∙ c.byte_at.ensures)

pub slice_bounds-add-count-2 : goal.slice_bounds-add-count-2
slice_bounds-add-count-2 c = omega (arith, record-there c.args.part.now 2 (sym c.if-not-has_record.ensures), c.from-end.ensures ∙ c.byte_at.ensures)

pub slice_bounds-add-start-2 : goal.slice_bounds-add-start-2
slice_bounds-add-start-2 c = omega (arith, record-there c.args.part.now 2 (sym c.if-not-has_record.ensures), c.from-end.ensures ∙ c.byte_at.ensures)

pub returns : goal.returns
returns c =
    let a = c.args in
    let w = c.add-done.ensures in
    let f = c.word_at-f.ensures in
    let t = sym c.if-not-has_record.ensures in
    let n = c.from-end.ensures ∙ c.byte_at.ensures in
    let k = key-part a.part.now 2 t (3 + c.from-end.result) (ap (λ (m : ℕ). 3 + m) n) in
    let d = data-part a.part.now 2 t (3 + c.from-end.result + 2) (omega (arith, n)) in
    added-did (record_shape 2 a.part.now) c.add-done.result (add_of a.b a.area.now (file_in a.part.now) (key_from a.part.now 2) (data_from a.part.now 2)) a.b a.area.now
    (add_area a.b a.area.now (file_in a.part.now) (key_from a.part.now 2) (data_from a.part.now 2)) _ _ _ _
    (add_right a.b a.area.now c.requires (file_in a.part.now) (key_from a.part.now 2) (data_from a.part.now 2)).lawful t
    (w.0 ∙ (λ i. add_of a.b a.area.now (f i) (k i) (d i))) (w.1 ∙ (λ i. add_area a.b a.area.now (f i) (k i) (d i))) c.added.ensures
