-- What the functions that decide answer. The rules themselves are definitions of `rules`.
use Rattle.std.specs.Prelude.{ℕ, List, Ok, Err}
use Rattle.std.specs.Borrow.{Bor, MutBor}
use denote.Triple.Both.{Both}
use Rattle.std.specs.declared.result.Result.{Result}
use Rattle.message.specs.declared.Head.{Head}
use Rattle.table.specs.Table.{rows_of}
use Rattle.place.specs.declared.Place.{Place}
use Rattle.places.specs.Places.{places_of}
use Rattle.rules.specs.View.{View}
use Rattle.rules.specs.declared.Outcome.{Outcome}
use Rattle.rules.specs.declared.Outcome.TheVariants.{Passed}
use Rattle.rules.specs.Judge.{turned}

-- the view that the arrays of a state hold: the cells of n rows, and the list of k places
abbrev pub held_view : (cells : List ℕ) → (n : ℕ) → (list : List ℕ) → (k : ℕ) → View
held_view c n l k = record { rows = rows_of c n; places = places_of l k }

-- ---- what is lent to be changed, at a call's entry and at its exit

abbrev pub Lent : Type 0
Lent = Both (MutBor (List ℕ)) (MutBor (List ℕ))

-- what was lent, and what it is at the exit
abbrev pub lent : (entry exit : MutBor (List ℕ)) → Lent
lent entry exit = record { entry = entry; exit = exit }

-- what is lent to be read only
abbrev pub Shown : Type 0
Shown = Both (Bor (List ℕ)) (Bor (List ℕ))

-- what the lent arrays held at the entry
abbrev pub places_in : (list : Lent) → (k : ℕ) → List Place
places_in list k = places_of list.entry.now k

abbrev pub view_in : (cells : Lent) → (n : ℕ) → (list : Lent) → (k : ℕ) → View
view_in cells n list k = held_view cells.entry.now n list.entry.now k

-- ---- what is decided

-- what the rules a to e say of a command, back with a code or on, as an outcome
abbrev pub ruled : Head → Result (Unit {0}) ℕ → Outcome
ruled h (Err code) = turned h code
ruled h (Ok _) = Passed h.source h.destination h.kind h.thread
