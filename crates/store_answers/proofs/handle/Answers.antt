-- A refusal leaves all as it was, and a command is done and answered.
use Rattle.std.proofs.Common.{◌≡◌, ℕ, List, length, replicate, ap, subst, sym, arith, rules}
use Rattle.book.specs.Book.{Lawful}
use Rattle.message.specs.Message.{part_of}
use Rattle.replies.proofs.Laws.{fitting}
use Rattle.replies.specs.Replies.{Replies}
use Rattle.store.proofs.Handling.{obeyed, passed-room, refusing, start_fits, start_is}
use Rattle.store.specs.Store.{Deed, Did, deed_of}
use Rattle.store_answers.proofs.handle.Goals as goal

pub returns-in-Err : goal.returns-in-Err
returns-in-Err c = refusing c.args.b c.args.area.now c.args.message.now c.args.reply.now _ c.requires (sym c.in-Err.ensures)

pub returns-in-Ok : goal.returns-in-Ok
returns-in-Ok c =
    let a = c.args in
    let h = c.in-Ok.head in
    let e = sym c.in-Ok.ensures in
    let deed = deed_of h.kind (part_of a.message.now) a.b a.area.now in
    let same : deed_of h.kind c.data_part.result.now a.b a.area.now ≡ deed = ap (λ (q : List ℕ). deed_of h.kind q a.b a.area.now) c.data_part.ensures.bytes in
    let body = c.obey-done.new.body in
    let area₁ = c.obey-done.new.area in
    let done = c.obey-done.result in
    let told : Did deed (replicate 390 0) body area₁ done = subst (λ (z : Deed). Did z (replicate 390 0) body area₁ done) same c.obey-done.ensures in
    let part = deed.part in
    let start = start_is body part done.long told.says.body told.says.long in
    let fits = start_fits body part told.says.body (search rules) in
    let kept : Lawful done.next area₁ = rw (told.says.next, told.area') told.law in
    let after = c.with_part-answer.new.reply in
    let answer = c.with_part-answer.result in
    obeyed a.b a.area.now a.message.now a.reply.now h done.next area₁ after answer kept e told.says.next told.area'
    (fitting h part a.reply.now after answer (omega (arith, fits)) (omega (arith, fits, passed-room (length a.reply.now) a.message.now h e))
    (subst (λ (q : List ℕ). Replies h q a.reply.now after answer) start c.with_part-answer.ensures))
