-- What a search tells of a test: something was found where something passes. Assumes nothing.
use Rattle.std.specs.Prelude.{is_some}
use mathlib.Core.Path.{◌≡◌, refl}
use mathlib.Core.Bool.{Bool}
use mathlib.Core.List.{List, [], ◌∷◌}
use Rattle.lists.specs.Lists.{find, some_of}
use Rattle.lists.proofs.Tests.{split}

pub found-some : {A : Type 0} (q : A → Bool) (l : List A) → is_some (find q l) ≡ some_of q l
found-some q [] = refl
found-some q (x ∷ xs) = split (q x) (λ e. rw e) (λ e. rw e (found-some q xs))
