-- The loop marks the pointers of the file's entries (`Marks`), and the lowest without a mark is the least free one.
use Rattle.std.proofs.Common.{refl, sym, ◌+◌, ◌≡◌, ◌∙◌, arith, rules, subst, List, Bool, length, drop}
use borrow.Author.Tests.{eqb-true, eqb-false}
use Rattle.book.proofs.Marked.{pointer-marked, pointer-other, pointers-marked}
use Rattle.book.specs.Book.{entries_of, pointers_of}
use Rattle.lists.proofs.Least.{Marks, gap-least, marks-none}
use Rattle.store_entries.proofs.free_pointer.Goals as goal
use Rattle.store_entries.proofs.free_pointer.Goals.{then-is_of, else-is_of}

pub loop-x-init : goal.loop-x-init
loop-x-init c = (search rules, marks-none _ (pointers_of c.args.f (entries_of c.args.b)) refl)

pub loop-x-preserved : goal.loop-x-preserved
loop-x-preserved c =
    let s = c.loop-x in
    let l = entries_of c.args.b in
    let f = c.args.f in
    let P : List Bool → Type 0 = λ ms. (length ms ≡ 257) × Marks ms (pointers_of f (drop (s.x-index + 1) l)) (pointers_of f l) in
    elim c.if-is_of.branch [
      | then-is_of w ↦
          let m = pointer-marked s.used l s.x-index s.invariant.0 (omega arith) f (eqb-true _ f (sym c.is_of.ensures ∙ w.if-is_of.true)) s.invariant.1 in
          subst P (sym w.used-is) (w.mark.array_long, subst (λ (ms : List Bool). Marks ms (pointers_of f (drop (s.x-index + 1) l)) (pointers_of f l)) (sym w.mark.ensures) m)
      | else-is_of w ↦ subst P (sym w.used-is) (s.invariant.0, pointer-other s.used l s.x-index s.invariant.0 (omega arith) f (eqb-false _ f (sym c.is_of.ensures ∙ w.if-is_of.false)) s.invariant.1)
    ]

pub returns : goal.returns
returns c =
    let s = c.loop-x in
    let l = entries_of c.args.b in
    let f = c.args.f in
    c.lowest_unset.ensures ∙ gap-least 1 _ (pointers_of f l) (omega arith) (pointers-marked s.used l s.x-index s.invariant.0 (omega arith) f s.invariant.1)
