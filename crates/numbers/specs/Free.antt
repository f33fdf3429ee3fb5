-- 'The question takes a handler and a thread and gives yes exactly when that number is 0.'
use Rattle.std.specs.Prelude.{ℕ, Bool, true, false, not, ◌||◌, ◌&&◌, cond, List, [], ◌∷◌, eqb, ltb, get_or, Option, Some, None, Result, Ok, Err}
use Rattle.lists.specs.Lists.{checks, find, some_of}
use Rattle.tapa.specs.Address.{handler_of, multi}
use Rattle.tapa.specs.declared.Refusal.{Refusal}
use Rattle.tapa.specs.declared.Refusal.TheVariants.{NotInTable, ThreadAbove7}
use Rattle.table.specs.declared.Row.{Row}
use Rattle.table.specs.Table.{is_at, listed}
use Rattle.place.specs.declared.Place.{Place}
use Rattle.places.specs.Places.{waits, owings, asks, on_thread}
use Rattle.rules.specs.View.{View}
use Rattle.numbers.specs.Numbers.{cell_in}

-- ---- by the full walk

-- a wait asks the handler, or an owing is of it: 'on any thread for a single one, on this thread for a multi one'
abbrev pub asks_there : (handler thread : ℕ) → Place → Bool
asks_there h t p = asks h p && cond (multi h) (on_thread t p) true

-- the handler is not free where a wait asks it or it owes something
abbrev pub engaged : List Place → (handler thread : ℕ) → Bool
engaged places h t = some_of (asks_there h t) (waits places) || some_of (asks_there h t) (owings places)

-- 'no wait asks the handler and it owes nothing'; 'Refusals: 4, then 5.'
unfoldable pub free_of : View → (address thread : ℕ) → Result Bool Refusal
free_of v a t =
    checks
    ((not (listed (handler_of a) v.rows), Err NotInTable) ∷ (ltb 7 t, Err ThreadAbove7) ∷ [])
    (cond (engaged v.places (handler_of a) t) (Ok false) (Ok true))

-- ---- by the kept number: one row, and one number

abbrev pub free_by : Option ℕ → List ℕ → (handler thread : ℕ) → Result Bool Refusal
free_by None n h t = Err NotInTable
free_by (Some i) n h t = checks ((ltb 7 t, Err ThreadAbove7) ∷ []) (cond (eqb (get_or n (cell_in i h t) 0) 0) (Ok true) (Ok false))

unfoldable pub free_in : List Row → (numbers : List ℕ) → (address thread : ℕ) → Result Bool Refusal
free_in rows n a t = free_by (find (is_at (handler_of a)) rows) n (handler_of a) t
