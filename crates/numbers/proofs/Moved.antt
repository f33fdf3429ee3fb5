-- Which calls move no number.
use Prim.Native.Nat.{ℕ}
use Rattle.std.specs.Prelude.{Option, Some, None}
use mathlib.Core.Path.{◌≡◌, refl}
use mathlib.Core.List.{List}
use lib.Dec.{ltb}
use Rattle.lists.proofs.Tests.{split}
use Rattle.table.specs.declared.Row.{Row}
use Rattle.place.specs.declared.Place.{Place}
use Rattle.places.specs.Places.{holding}
use Rattle.rules.specs.View.{View}
use Rattle.rules.specs.Judge.{answerable, yields, judge_give_up}
use Rattle.numbers.specs.Numbers.{numbers_after}

-- a give up: the wait becomes an owing, which counts like it
pub give-up-numbers : (rows : List Row) (n : List ℕ) (v : View) (room t a : ℕ) → n ≡ numbers_after rows (judge_give_up v room t a) n
unfolding judge_give_up yields
give-up-numbers rows n v room t a =
    split (ltb room 10) (λ p. rw p)
    (λ p. rw p (split (ltb 7 t) (λ q. rw q) (λ q. rw q (go (answerable v.places a t)))))
  where
    go : (o : Option Place) → n ≡ numbers_after rows (yields v.places o t a) n
    go None = refl
    go (Some w) = split (holding v.places a t) (λ p. rw p) (λ p. rw p)
