-- Five pieces, one behind the other.
use Rattle.std.proofs.Common.{◌≡◌, ◌%◌, ◌∙◌, arith, mod-eq_of_lt}
use Rattle.store.proofs.Writes.{body_is, key-is, record-written}
use Rattle.store_answers.proofs.put_record.Goals as goal

pub returns : goal.returns
returns c =
    let a = c.args in
    let s = c.requires in
    let k : a.x.keylen % 256 ≡ a.x.keylen = mod-eq_of_lt (omega arith) in
    record-written a.area.now a.x s.0 s.1 s.2 s.3 a.body.now a.pointer (a.x.keylen % 256) c.part.result.now c.part-2.result.now
    c.put-a.new.body c.put-b.new.body c.put_word-c.new.body c.put-d.new.body c.put_word.new.body
    c.put-a.result c.put-b.result c.put_word-c.result c.put-d.result c.put_word.result
    (omega arith) k
    (c.part.ensures.bytes ∙ key-is a.area.now a.x s.0 s.1 s.2 s.3 _ c.from-key.ensures)
    (c.part-2.ensures.bytes ∙ body_is a.area.now a.x s.0 s.1 s.2 s.3 _ _ c.from-key.ensures c.from.ensures)
    c.put-a.ensures.1 c.put-a.ensures.0 c.put-b.ensures.1 c.put-b.ensures.0 c.put_word-c.ensures.1 c.put_word-c.ensures.0
    c.put-d.ensures.1 c.put-d.ensures.0 c.put_word.ensures.1 c.put_word.ensures.0
