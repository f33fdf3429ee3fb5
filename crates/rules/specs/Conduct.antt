-- The law that the rules keep: it holds in the fresh view, and after every outcome that `judge` gives (proofs/Kept.antt).
use Rattle.std.specs.Prelude.{ℕ, ◌≤◌, ◌≡◌, Bool, true, false, ◌&&◌, ◌||◌, List, [], ◌∷◌, eqb}
use Rattle.lists.specs.Lists.{count, some_of, All}
use Rattle.tapa.specs.Address.{category_of, handler_of, till_driver}
use Rattle.table.specs.declared.Row.{Row}
use Rattle.table.specs.Table.{listed}
use Rattle.place.specs.declared.Place.{Place}
use Rattle.places.specs.Places.{open_on, asks, on_slot}
use Rattle.rules.specs.View.{View}

-- a place's asked handler is in the table, and its thread is one of the eight
abbrev pub Placed : List Row → Place → Type 0
Placed rows p = (listed (handler_of p.asked) rows ≡ true) × (p.thread ≤ 7)

-- h is the root r of thread t's tree, or asked in it
abbrev pub grown_in : ℕ → ℕ → ℕ → List Place → Bool
grown_in r t h places = eqb h r || some_of (λ (p : Place). open_on t p && asks h p) places

-- each wait of thread t was asked by a handler of the tree that is older than it, and asks one that is not in it
abbrev pub Grown : ℕ → ℕ → List Place → Type 0
Grown r t [] = Unit {0}
Grown r t (p ∷ ps) =
    (open_on t p ≡ true → (grown_in r t (handler_of p.asker) ps ≡ true) × (grown_in r t (handler_of p.asked) ps ≡ false))
    × Grown r t ps

-- thread t's waits are a tree with one till driver as its root
pub record Tree (t : ℕ) (places : List Place) : Type 0 where
  pub root : ℕ
  pub driver : category_of root ≡ till_driver
  pub grown : Grown (handler_of root) t places

-- on each thread the open questions form a tree with one till driver as its root and no handler in it twice, and no handler has more commands
-- under way, open or owed, than 'one altogether' or, where it is multi, 'one command a thread'
pub record Conduct (v : View) : Type 0 where
  pub once : (h t : ℕ) → count (on_slot h t) v.places ≤ 1
  pub trees : (t : ℕ) → Tree t v.places
  pub placed : All (Placed v.rows) v.places
