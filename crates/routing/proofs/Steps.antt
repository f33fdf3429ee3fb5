-- Steps that refuse: nothing moves and nothing is written.
use Prim.Native.Nat.{ℕ}
use mathlib.Core.Path.{◌≡◌, refl}
use mathlib.Core.List.{List}
use Rattle.tapa.specs.declared.Refusal.{Refusal}
use Rattle.table.specs.Table.{Column}
use Rattle.places.specs.Places.{places_of}
use Rattle.places.specs.Places as places
use Rattle.rules.specs.declared.Outcome.{Outcome}
use Rattle.rules.specs.declared.Outcome.TheVariants.{Refused}
use Rattle.ruling.specs.Ruling.{held_view}
use Rattle.routing.specs.declared.Step.{Step}
use Rattle.routing.specs.Steps.{refusing, Placing, Writing, Moving, Stepping}

module _ (l : List ℕ) (n : ℕ) (h : places.Lawful l n) where
  pub unplaced : (o : Outcome) (r : Refusal) (s : Step) → s ≡ refusing r n → o ≡ Refused r → Placing o (places_of l n) l s
  unplaced o r s d e = rw (d, e) (record { outcome = refl; places = record { holds = refl; law = h } })

  pub unwritten : (b : List ℕ) (o : Outcome) (r : Refusal) (s : Step) → s ≡ refusing r n → o ≡ Refused r → Writing o (places_of l n) l b b s
  unwritten b o r s d e = record { placing = unplaced o r s d e; reply = rw e }

  module _ (c : List ℕ) (k : ℕ) (g : Column c k) where
    pub unmoved : (o : Outcome) (r : Refusal) (s : Step) → s ≡ refusing r n → o ≡ Refused r → Moving o (held_view c k l n) c k l s
    unmoved o r s d e = record { placing = unplaced o r s d e; table = record { holds = rw e; law = g } }

    pub unstepped : (b : List ℕ) (o : Outcome) (r : Refusal) (s : Step) → s ≡ refusing r n → o ≡ Refused r
        → Stepping o (held_view c k l n) c k l b b s
    unstepped b o r s d e = record { moving = unmoved o r s d e; reply = rw e }
