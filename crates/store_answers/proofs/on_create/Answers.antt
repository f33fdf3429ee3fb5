-- What Create made.
use Rattle.std.proofs.Common.{◌≡◌, ℕ, ◌≤◌, get_or, subst, sym, ◌∙◌, arith}
use Rattle.file_commands.specs.Erasing.{create_of, made_book}
use Rattle.files.specs.Coded.{answered}
use Rattle.store.proofs.Deeds.{made-did, makes-at-most}
use Rattle.store.specs.Store.{Says, ids_part}
use Rattle.tapa.specs.Numbers.{word_at}
use Rattle.store_answers.proofs.on_create.Goals as goal

pub made-requires : goal.made-requires
made-requires c =
    let a = c.args in
    makes-at-most a.b c.from.result c.byte_at.result c.word_at.result c.create-done.result
    (c.create-done.ensures ∙ (λ i. create_of a.b (sym c.from.ensures i) c.byte_at.result c.word_at.result))

pub returns : goal.returns
returns c =
    let a = c.args in
    let m = c.create-done.result in
    let n : c.from.result ≡ get_or a.part.now 0 0 = c.from.ensures ∙ c.byte_at-n.ensures in
    let made : m ≡ create_of a.b (get_or a.part.now 0 0) (get_or a.part.now 1 0) (word_at a.part.now 2) =
    c.create-done.ensures ∙ (λ i. create_of a.b (c.byte_at-n.ensures i) (c.byte_at.ensures i) (c.word_at.ensures i)) in
    let byte : get_or a.part.now 1 0 ≤ 255 = omega (arith, c.type_inv.part 1) in
    made-did a.part.now a.b a.area.now c.requires m made c.if-part-ne4.false byte a.body.now c.made.new.body c.made.result
    (subst (λ (k : ℕ). Says (answered (ids_part k) m) a.body.now c.made.new.body (made_book a.b m) c.made.result) n c.made.ensures)
