-- What the law of a view shuts out, one view or tree for each of its parts: so none of them says less than its sentence.
use Prim.Native.Nat.{ℕ, ◌≤◌}
use mathlib.Core.Path.{◌≡◌, refl}
use mathlib.Core.Bool.{true, false}
use mathlib.Core.List.{List, [], ◌∷◌}
use native.Mathlib.Omega.{arith}
use Rattle.lists.proofs.Tests.{clash}
use Rattle.tapa.specs.Address.{category_of, handler_of, multi}
use Rattle.place.specs.declared.Place.{Place}
use Rattle.rules.specs.View.{View}
use Rattle.rules.specs.Words.{Rooted, Worded}
use Rattle.rules.proofs.Sums.{row}

-- a wait, and an owing, on a thread
abbrev wait : (asker asked t : ℕ) → Place
wait asker asked t = record { asker = asker; asked = asked; kind = 0x45; thread = t; owed = false }

abbrev owing : (asker asked t : ℕ) → Place
owing asker asked t = record { asker = asker; asked = asked; kind = 0x45; thread = t; owed = true }

abbrev over : List Place → View
over places = record { rows = row 0x0100 true ∷ row 0x0001 true ∷ row 0x0202 true ∷ row 0x0301 true ∷ []; places = places }

-- of a tree, the newest wait first
pub record NoTree : Type 0 where
  -- 'whose root is one till driver'
  pub begun-by-another : (a : ℕ) → (category_of a ≡ 0x01 → ⊥) → Rooted (wait a 0x0301 3 ∷ []) → ⊥
  -- one root: the second till asks nobody's question
  pub second-root : Rooted (wait 0x0101 0x0301 3 ∷ wait 0x0100 0x0202 3 ∷ []) → ⊥
  -- 'no handler in it twice': by handler, and the root counts too
  pub asked_twice : Rooted (wait 0x0100 0x0282 3 ∷ wait 0x0100 0x0202 3 ∷ []) → ⊥
  pub root-asked : Rooted (wait 0x0202 0x0180 3 ∷ wait 0x0100 0x0202 3 ∷ []) → ⊥

-- of a view
pub record NotWorded : Type 0 where
  pub thread-8 : Worded (over (owing 0x0100 0x0202 8 ∷ [])) → ⊥
  pub not_listed : Worded (over (owing 0x0100 0x0203 3 ∷ [])) → ⊥
  -- single: 'one altogether', open or owed; multi: 'one command a thread'
  pub single-twice : Worded (over (wait 0x0100 0x0202 4 ∷ owing 0x0100 0x0282 3 ∷ [])) → ⊥
  pub multi-twice : Worded (over (wait 0x0100 0x0001 3 ∷ owing 0x0100 0x0081 3 ∷ [])) → ⊥
  -- the trees are those of each thread
  pub tree : Worded (over (wait 0x0202 0x0301 3 ∷ [])) → ⊥

pub no-tree : NoTree
unfolding category_of handler_of
no-tree = record {
  begun-by-another = λ a n r. n (omega (arith, r.oldest, r.till-driver));
  second-root = λ r. let e : false ≡ true = rw (← r.oldest) at r.linked.0 in clash false e refl;
  asked_twice = λ r. absurd (omega (arith, r.no-handler-twice 0x0202));
  root-asked = λ r. let e : 2 ≤ 1 = rw (← r.oldest) at (r.no-handler-twice 0x0100) in absurd (omega arith);
}

pub not-worded : NotWorded
unfolding category_of handler_of multi
not-worded = record {
  thread-8 = λ w. absurd (omega (arith, w.threads.0));
  not_listed = λ w. let e : false ≡ true = w.in_table.0 in clash false e refl;
  single-twice = λ w. absurd (omega (arith, w.single-once 0x0202 refl));
  multi-twice = λ w. absurd (omega (arith, w.multi-once 0x0001 3 refl));
  tree = λ w. no-tree.begun-by-another 0x0202 (λ e. absurd (omega arith)) (w.trees 3);
}
