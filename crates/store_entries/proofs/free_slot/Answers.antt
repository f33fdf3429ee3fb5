-- The loop marks the slots of the entries (`Marks`), and the lowest without a mark is the least free one.
use Rattle.std.proofs.Common.{refl, sym, ◌+◌, ◌∙◌, arith, rules, subst, List, Bool, drop}
use Rattle.book.proofs.Marked.{slot-marked, slots-marked}
use Rattle.book.specs.Book.{entries_of, slots_of}
use Rattle.lists.proofs.Least.{Marks, gap-least, marks-none}
use Rattle.store_entries.proofs.free_slot.Goals as goal

pub loop-x-init : goal.loop-x-init
loop-x-init c = (search rules, marks-none _ (slots_of (entries_of c.args.b)) refl)

pub loop-x-preserved : goal.loop-x-preserved
loop-x-preserved c =
    let s = c.loop-x in
    let l = entries_of c.args.b in
    let m = slot-marked s.used l s.x-index s.invariant.0 (omega arith) s.invariant.1 in
    (c.mark.array_long, subst (λ (ms : List Bool). Marks ms (slots_of (drop (s.x-index + 1) l)) (slots_of l)) (sym c.mark.ensures) m)

pub returns : goal.returns
returns c =
    let s = c.loop-x in
    let l = entries_of c.args.b in
    c.lowest_unset.ensures ∙ gap-least 0 _ (slots_of l) (omega arith) (slots-marked s.used l s.x-index s.invariant.0 (omega arith) s.invariant.1)
