-- A look at 256 numbers is what is asked for, and a number that is marked is passed over.
use Rattle.std.proofs.Common.{◌+◌, ◌-◌, ◌≡◌, ◌∙◌, ℕ, Bool, cond, false, true, get_or, sym, ap, suc, arith}
use Rattle.lists.proofs.Least.{gap_from}
use Rattle.lists.specs.Least.{gap_in}
use Rattle.store_entries.proofs.lowest_unset.Goals as goal

pub loop-number-init : goal.loop-number-init
loop-number-init c = gap_from _ c.args.from c.args.used.now (omega arith)

pub loop-number-preserved : goal.loop-number-preserved
loop-number-preserved c =
    let u = c.args.used.now in
    let n = c.loop-number.number in
    let k : ℕ = c.args.from + 256 - (n + 1) in
    let set : get_or u n false ≡ true = ap (λ (j : ℕ). get_or u j false) (sym c.from.ensures) ∙ c.if-not-used-from.false in
    let e : c.args.from + 256 - n ≡ suc k = omega arith in
    let o : n + 1 ≡ suc n = omega arith in
    ap (λ (j : ℕ). gap_in k j u) o
    ∙ sym (ap (λ (b : Bool). cond b (gap_in k (suc n) u) n) set)
    ∙ ap (λ (j : ℕ). gap_in j n u) (sym e)
    ∙ c.loop-number.invariant
