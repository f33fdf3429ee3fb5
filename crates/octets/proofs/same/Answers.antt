-- What the library calls equal slices is what `same` of room lists says of their bytes.
use Rattle.std.proofs.Common.{◌≡◌, ℕ, List, [], ◌∷◌, eqb, refl, ◌∙◌}
use lib.Pointwise.{pointwise}
use Rattle.lists.proofs.Tests.{split}
use Rattle.lists.specs.Least.{same}
use Rattle.octets.proofs.same.Goals as goal

pointwise_same : (xs ys : List ℕ) → pointwise eqb xs ys ≡ same xs ys
pointwise_same [] [] = refl
pointwise_same [] (y ∷ ys) = refl
pointwise_same (x ∷ xs) [] = refl
pointwise_same (x ∷ xs) (y ∷ ys) = split (eqb x y) (λ t. rw t (pointwise_same xs ys)) (λ t. rw t refl)

pub returns : goal.returns
returns c = c.eq.ensures ∙ pointwise_same c.args.a.now c.args.b.now
