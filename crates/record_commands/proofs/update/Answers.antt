-- Where there is such a record, its own slot and entry change.
use Rattle.std.proofs.Common.{◌≡◌, sym, ◌∙◌, rules}
use Rattle.std.specs.Prelude.{Err}
use Rattle.record_commands.proofs.Steps.{update-done, update-refused}
use Rattle.record_commands.proofs.update.Goals as goal

pub returns-in_err-seen : goal.returns-in_err-seen
returns-in_err-seen c =
    let a = c.args in
    let n = c.in_err-seen.field-0.0 in
    let e : c.from_residual.result ≡ Err n = search rules in
    let r = update-refused a.b a.area.now a.f a.p a.key.now a.bytes.now n (sym c.in_err-seen.was ∙ c.update_seen.ensures) in
    (e ∙ r.0, r.1)

pub returns : goal.returns
returns c =
    let a = c.args in
    update-done a.b a.area.now a.f a.p a.key.now a.bytes.now c.in_ok-seen.seen (sym c.in_ok-seen.was ∙ c.update_seen.ensures) c.requires
    _ _ _ _ _ c.entry_at-x.ensures c.short.ensures c.short-2.ensures c.renewed-next.ensures c.write.ensures
