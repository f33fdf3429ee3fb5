-- Parts of a lent slice, and parts of a list.
use Prim.Native.Nat.{ℕ, zero, suc, ◌+◌, ◌≤◌}
use mathlib.Core.Path.{◌≡◌, refl, sym, ap, ◌∙◌}
use mathlib.Core.List.{List, [], ◌∷◌}
use mathlib.Core.Logic.{◌⊎◌, ⊎_elim}
use native.Mathlib.Nat.{zero-add}
use native.Mathlib.Omega.{arith}
use lib.ListN.{length, take, drop}
use lib.Seq.{take_all, take-take}
use denote.Ref.{Bor}
use Rattle.lists.specs.Lists.{LiesAt}

-- a slice is the part of itself that starts at its start
pub from_start : (s : Bor (List ℕ)) → LiesAt 0 s s
from_start s i = (s.ref_ptr.0, sym (zero-add s.ref_ptr.1) i)

-- a part of a list's start is the list's own, where it ends within that start
pub part-within : {A : Type 0} (at n m : ℕ) (l : List A) → at + n ≤ m → take n (drop at (take m l)) ≡ take n (drop at l)
part-within zero n m l h = take-take n m l (omega arith)
part-within (suc at) n zero l h = absurd (omega arith)
part-within (suc at) n (suc m) [] h = refl
part-within (suc at) n (suc m) (x ∷ l) h = part-within at n m l (omega arith)

-- a list as far as the shorter of it and another goes
pub shorter-start : {A : Type 0} (l m : List A) (n : ℕ) → n ≤ length m → (length l ≤ n) ⊎ (length m ≤ n) → take n l ≡ take (length m) l
shorter-start l m n h s =
    ⊎_elim (λ (k : length l ≤ n). take_all n l k ∙ sym (take_all (length m) l (omega arith)))
    (λ (k : length m ≤ n). ap (λ (j : ℕ). take j l) (let e : n ≡ length m = omega arith in e)) s
