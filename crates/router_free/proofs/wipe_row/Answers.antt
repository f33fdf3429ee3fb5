-- A part that is filled with zeros is wiped cell by cell.
use Rattle.std.proofs.Common.{ℕ, zero, suc, ◌≡◌, ◌+◌, ◌*◌, ◌-◌, ◌≤◌, List, length, replicate, slice_set, refl, sym, ap, ◌∙◌, add-one, arith, rules}
use Rattle.std.proofs.Math.Seq.{paste}
use Rattle.std.proofs.lemmas.List.Edits.{paste_none, fill_from_more}
use Rattle.std.proofs.lemmas.Slice.{put_mid-paste}
use Rattle.numbers.specs.Numbers.{wiped}
use Rattle.router_free.proofs.wipe_row.Goals as goal

filled : (n : List ℕ) (at k : ℕ) → at + k ≤ length n → paste n at (replicate k 0) k ≡ wiped at k n
filled n at zero h = sym (paste_none n at (replicate 0 0))
filled n at (suc k) h =
    ap (λ j. paste n at (replicate j 0) j) (sym (add-one k))
    ∙ sym (fill_from_more n at k 0 (omega arith))
    ∙ ap (λ m. slice_set m (at + k) 0) (filled n at k (omega arith))

pub returns : goal.returns
returns c =
    let n = c.args.numbers.now in
    let at = 8 * c.args.row in
    let zeros : c.fill.new.self ≡ replicate 8 0 = search rules in
    put_mid-paste at (at + 8 - at) n c.fill.new.self (replicate 8 0) 8 zeros (omega arith) refl
    ∙ filled n at 8 (omega (arith, c.told-numbers, c.requires))
