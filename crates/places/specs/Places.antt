-- The passed commands that are not done with: what their list is. The words on one of them are passed on from room place.
use Rattle.std.specs.Prelude.{ℕ, Bool, cond, List, ◌∷◌, ltb, get_or, length, Option, Some, None, Ok, Err}
use Rattle.std.specs.declared.result.Result.{Result}
use Rattle.lists.specs.Lists.{some_of, find, keep}
use Rattle.lists.specs.Arrays.{held, Holding, Becoming}
use Rattle.tapa.specs.Address.{handler_of}
use Rattle.place.specs.declared.Place.{Place}
pub use Rattle.place.specs.Place.{pack, unpack, Packed, is_open, is_owed, on_thread, open_on, owed_on, asks_exactly, owes_exactly, asks, stands, stands_on, holds_on, stands_in, on_slot, owed_by, not_owed_by, owing}
use Rattle.places.specs.declared.NoLeaf.{NoLeaf}
use Rattle.places.specs.declared.NoLeaf.TheVariants.{Holds, Missing}
use Rattle.places.specs.declared.Standing.{Standing}
use Rattle.places.specs.declared.Standing.TheVariants.{Within, Outside, Empty}

-- the place with a number
abbrev pub place_at : List ℕ → ℕ → Place
place_at l i = unpack (get_or l i 0)

-- the places of an array of which n are in use, the newest first
abbrev pub places_of : List ℕ → ℕ → List Place
places_of l n = held unpack l n

-- the law: at most 48 places, and each cell is the number of its place, or 0 where it is free
abbrev pub Lawful : List ℕ → ℕ → Type 0
Lawful l n = Holding 48 pack unpack l n

-- what a change of the array shows: it holds these places, and keeps the law
abbrev pub Becomes : List ℕ → ℕ → List Place → Type 0
Becomes l n ps = Becoming 48 pack unpack l n ps

abbrev pub waits : List Place → List Place
waits ps = keep is_open ps

abbrev pub owings : List Place → List Place
owings ps = keep is_owed ps

-- one place more, the newest, while fewer than 48 are there; else the places as they were. 'waits and owings cannot pass 12 + 8 x 4 = 44, and
-- the list has 48 places': the law of a router's state gives the room (rules, Bound), so there it is always the one more
unfoldable pub pushed : Place → List Place → List Place
pushed p ps = cond (ltb (length ps) 48) (p ∷ ps) ps

-- ---- a thread's tree

-- the handler of the address a holds an open question itself on the thread t
abbrev pub holding : List Place → (a t : ℕ) → Bool
holding ps a t = some_of (holds_on t (handler_of a)) ps

-- the number of the wait of the thread t that asks exactly a, a leaf where its handler holds no question there
abbrev pub leaf_by : (holds : Bool) → Option ℕ → Result ℕ NoLeaf
leaf_by b None = Err Missing
leaf_by b (Some i) = cond b (Err Holds) (Ok i)

unfoldable pub leaf_of : (a t : ℕ) → List Place → Result ℕ NoLeaf
leaf_of a t ps = leaf_by (holding ps a t) (find (asks_exactly a t) ps)

-- where the handler h stands to the thread's tree
unfoldable pub standing_of : (t h : ℕ) → List Place → Standing
standing_of t h ps = cond (some_of (open_on t) ps) (cond (some_of (stands_on t h) ps) Within Outside) Empty
