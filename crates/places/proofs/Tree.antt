-- A list of places written out: what is said of it, address by address.
use Prim.Native.Nat.{ℕ}
use mathlib.Core.Path.{◌≡◌, refl}
use mathlib.Core.Bool.{Bool, true, false}
use mathlib.Core.List.{List, [], ◌∷◌}
use Rattle.std.specs.Prelude.{Ok, Err}
use Rattle.tapa.specs.Address.{handler_of}
use Rattle.place.specs.declared.Place.{Place}
use Rattle.places.specs.declared.NoLeaf.TheVariants.{Holds, Missing}
use Rattle.places.specs.declared.Standing.TheVariants.{Within, Outside, Empty}
use Rattle.places.specs.Places.{place_at, places_of, waits, owings, leaf_of, standing_of}

abbrev command : (asker asked : ℕ) → (owed : Bool) → Place
command asker asked owed = record { asker = asker; asked = asked; kind = 0x45; thread = 3; owed = owed }

-- on thread 3 '0100' asked '0282', the handler '0202' asked '0301', and a question to '0003' was given up: the newest first
abbrev three : List Place
three = command 0x0100 0x0003 true ∷ command 0x0202 0x0301 false ∷ command 0x0100 0x0282 false ∷ []

-- the array that holds them has the oldest first, and a place's number is its cell's
abbrev cells : List ℕ
cells = 0x0010002824503 ∷ 0x0020203014503 ∷ 0x1010000034503 ∷ []

pub three-held : places_of cells 3 ≡ three
three-held = refl

pub by_number : (place_at cells 0 ≡ command 0x0100 0x0282 false) × (place_at cells 2 ≡ command 0x0100 0x0003 true)
by_number = (refl, refl)

pub two-waits : waits three ≡ command 0x0202 0x0301 false ∷ command 0x0100 0x0282 false ∷ []
two-waits = refl

pub one-owing : owings three ≡ command 0x0100 0x0003 true ∷ []
one-owing = refl

-- '0301' holds no question and is a leaf; '0282' holds one, by its handler; '0202' and '0003' have no wait, nor has another thread
pub leaves : (leaf_of 0x0301 3 three ≡ Ok 1) × (leaf_of 0x0282 3 three ≡ Err Holds) × (leaf_of 0x0202 3 three ≡ Err Missing)
    × (leaf_of 0x0003 3 three ≡ Err Missing) × (leaf_of 0x0301 2 three ≡ Err Missing)
unfolding leaf_of handler_of
leaves = (refl, refl, refl, refl, refl)

-- who asks and who is asked stands in the tree; who only owes does not; another thread has none, nor has one that only owes
pub standings : (standing_of 3 0x0100 three ≡ Within) × (standing_of 3 0x0202 three ≡ Within) × (standing_of 3 0x0301 three ≡ Within)
    × (standing_of 3 0x0003 three ≡ Outside) × (standing_of 2 0x0100 three ≡ Empty)
    × (standing_of 3 0x0100 (command 0x0100 0x0003 true ∷ []) ≡ Empty)
unfolding standing_of handler_of
standings = (refl, refl, refl, refl, refl, refl)
