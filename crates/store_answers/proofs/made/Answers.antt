-- The identifiers and their code.
use Rattle.std.proofs.Common.{◌≡◌, ℕ, ◌*◌, ◌++◌, length, take, ap, refl, subst, ◌∙◌, arith, length-append, length-take-le}
use Rattle.lists.proofs.Over.{over-start, then}
use Rattle.lists.specs.Lists.{over}
use Rattle.store.proofs.Writes.{words_long}
use Rattle.store.specs.Store.{MakesAtMost, Roomy, ids_part}
use Rattle.tapa.specs.Numbers.{two_bytes}
use Rattle.store_answers.proofs.made.Goals as goal

pub returns-in-Ok : goal.returns-in-Ok
returns-in-Ok c =
    let a = c.args in
    let m = c.in-Ok.made in
    let v = c.put_ids-end.ensures in
    let w = c.put_word.ensures in
    let r : Roomy a.n m = subst (MakesAtMost a.n) c.in-Ok.is c.requires in
    let p = ids_part a.n m in
    let size : length p ≡ a.n * 2 = words_long (take a.n m.ids) ∙ ap (λ (k : ℕ). k * 2) (length-take-le a.n m.ids (omega (arith, r.few, r.places))) in
    let two : c.put_word.new.body ≡ over a.body.now 0 (p ++ two_bytes 0) =
    then a.body.now p (two_bytes 0) c.put_ids-end.new.body c.put_word.new.body c.put_ids-end.result v.1 (omega (arith, v.0, size)) w.1 (omega (arith, size, r.few)) in
    rw c.in-Ok.is (record { long = omega (arith, v.0, w.0, size, length-append p (two_bytes 0)); next = refl; body = two ∙ over-start a.body.now (p ++ two_bytes 0) })
