-- Rules d and e in the words of the rules, and what the conduct tells in plain words. proofs/Words.antt shows that the tests of d and e are these,
-- and that the conduct gives the rest; proofs/Bound.antt has the bound, and proofs/Steps.antt that no other codes are given than those here.
use Rattle.std.specs.Prelude.{ℕ, ◌+◌, ◌*◌, ◌≤◌, ◌≡◌, Bool, true, false, not, ◌&&◌, ◌||◌, List, [], ◌∷◌, map, eqb, length}
use Rattle.lists.specs.Lists.{count, some_of, keep, All}
use Rattle.tapa.specs.Address.{category_of, handler_of, multi, till_driver}
use Rattle.tapa.specs.Codes.{invalid_destination, handler_error, handler_busy, must_be_opened, unsupported_operation}
use Rattle.table.specs.declared.Row.{Row}
use Rattle.table.specs.Table.{listed, is_multi}
use Rattle.place.specs.declared.Place.{Place}
use Rattle.places.specs.Places.{waits, owings, on_thread, open_on, asks, stands_on}
use Rattle.rules.specs.View.{View}

-- 'A thread's waits become a tree whose root is one till driver.' Here they stand the newest first.
abbrev pub tree_of : ℕ → List Place → List Place
tree_of t places = keep (open_on t) places

-- the root of a tree, as a handler: the asker of its oldest wait (w is the newest, and has these older ones)
abbrev pub root_of : (w : Place) → (older : List Place) → ℕ
root_of w [] = handler_of w.asker
root_of w (v ∷ older) = root_of v older

-- d: 'the asker must be the root or an asked handler of the tree; for an empty tree, category 01'
abbrev pub d_lets_ask : (tree : List Place) → (asker : ℕ) → Bool
d_lets_ask [] a = eqb (category_of a) till_driver
d_lets_ask (w ∷ older) a = eqb (root_of w older) (handler_of a) || some_of (asks (handler_of a)) (w ∷ older)

abbrev pub asks_on : ℕ → ℕ → Place → Bool
asks_on h t p = asks h p && on_thread t p

-- e: 'asked handler is the asker, or stands in this thread's tree as asker or asked; or is single and asked or owing on any thread; or is
-- multi and owing on this thread'
abbrev pub e_turns_back : List Place → (asker h thread : ℕ) → Bool
e_turns_back places asker h t =
    eqb h (handler_of asker)
    || (some_of (stands_on t h) places
    || (not (multi h) && (some_of (asks h) (waits places) || some_of (asks h) (owings places))
    || multi h && some_of (asks_on h t) (owings places)))

-- ---- the law

-- the handlers that a list of waits asks
abbrev pub asked_by : List Place → List ℕ
asked_by l = map (λ (w : Place). handler_of w.asked) l

-- each wait's asker is the root r, or is asked by an older wait
abbrev pub Linked : ℕ → List Place → Type 0
Linked r [] = Unit {0}
Linked r (w ∷ older) = (some_of (λ x. eqb x (handler_of w.asker)) (r ∷ asked_by older) ≡ true) × Linked r older

-- and the root asked the oldest wait
abbrev pub Begun : ℕ → List Place → Type 0
Begun r [] = Unit {0}
Begun r (w ∷ older) = root_of w older ≡ r

-- a tree with one till driver as its root and no handler in it twice
pub record Rooted (l : List Place) : Type 0 where
  pub root : ℕ
  pub till-driver : category_of root ≡ till_driver
  pub oldest : Begun (handler_of root) l
  pub linked : Linked (handler_of root) l
  pub no-handler-twice : (h : ℕ) → count (λ x. eqb x h) (handler_of root ∷ asked_by l) ≤ 1

-- the law of a view, word by word: each thread's waits are such a tree; threads are 0 to 7; who is asked or owing is in the table; a single
-- handler has one command under way altogether, a multi handler one a thread
pub record Worded (v : View) : Type 0 where
  pub trees : (t : ℕ) → Rooted (tree_of t v.places)
  pub threads : All (λ (p : Place). p.thread ≤ 7) v.places
  pub in_table : All (λ (p : Place). listed (handler_of p.asked) v.rows ≡ true) v.places
  pub single-once : (h : ℕ) → multi h ≡ false → count (asks h) v.places ≤ 1
  pub multi-once : (h t : ℕ) → multi h ≡ true → count (asks_on h t) v.places ≤ 1

-- ---- with what a command is turned back

-- the codes of the rules a to e, in their order
abbrev pub turn_codes : List ℕ
turn_codes = invalid_destination ∷ unsupported_operation ∷ must_be_opened ∷ handler_error ∷ handler_busy ∷ []

-- ---- how many waits and owings a table can have

abbrev pub singles : List Row → ℕ
singles rows = count (λ (r : Row). not (is_multi r)) rows

abbrev pub multis : List Row → ℕ
multis rows = count is_multi rows

-- one a single handler, and one a thread for each multi handler
abbrev pub most_of : List Row → ℕ
most_of rows = singles rows + 8 * multis rows

-- 'at most 16 handlers, of which at most 4 serve several threads'
pub record Sized (rows : List Row) : Type 0 where
  pub handlers : length rows ≤ 16
  pub several : multis rows ≤ 4

-- of any such table: 'waits and owings cannot pass 12 + 8 x 4 = 44'
abbrev pub most : ℕ
most = 44
