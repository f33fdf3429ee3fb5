-- The store's answer, and its line.
use Rattle.std.proofs.Common.{arith, rules}
use Rattle.ledger.proofs.Said.{hears}
use Rattle.store_lines.proofs.hear.Goals as goal

pub returns : goal.returns
returns c =
    let a = c.args in
    hears a.b a.area.now a.message.now c.requires (λ i. omega (arith, c.type_inv.message i)) c.handle-handled.new.area c.handle-handled.new.reply c.handle-handled.result c.handle-handled.ensures (search rules) a.number a.at a.page.now _ _ c.put_line.ensures
