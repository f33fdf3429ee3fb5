-- Where no check applies, there is a slot for the record.
use Rattle.std.proofs.Common.{◌≡◌, sym, ◌∙◌, rules}
use Rattle.std.specs.Prelude.{Err}
use Rattle.files.proofs.Coded.{failing, passed}
use Rattle.record_commands.proofs.Steps.{add-refused, add_done}
use Rattle.record_commands.specs.Records.{code_of_add}
use Rattle.record_commands.proofs.add.Goals as goal

pub returns-in_err-add_code : goal.returns-in_err-add_code
returns-in_err-add_code c =
    let a = c.args in
    let n = c.in_err-add_code.field-0.0 in
    let e : c.from_residual.result ≡ Err n = search rules in
    let f = failing (code_of_add a.b a.area.now a.f a.key.now a.bytes.now) n (sym c.add_code.ensures ∙ c.in_err-add_code.was) in
    let r = add-refused a.b a.area.now a.f a.key.now a.bytes.now n f.same (λ z. f.other (sym f.same ∙ z)) in
    (e ∙ r.0, r.1)

pub returns : goal.returns
returns c =
    let a = c.args in
    add_done a.b a.area.now a.f a.key.now a.bytes.now c.requires (passed (code_of_add a.b a.area.now a.f a.key.now a.bytes.now) (sym c.add_code.ensures ∙ c.in_ok-add_code.was)) _ _ _ _ _ _
    c.free_pointer-pointer.ensures c.free_slot-slot.ensures c.short.ensures c.short-2.ensures c.pushed-next.ensures c.write.ensures
