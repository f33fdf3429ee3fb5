-- 'A fresh router has no waits and owes nothing.'
use Rattle.std.specs.Prelude.{List, replicate, Result, Ok, Err, ⊤}
use Rattle.tapa.specs.declared.Refusal.{Refusal}
use Rattle.table.specs.declared.Row.{Row}
use Rattle.table.specs.declared.Rows.{Rows}
use Rattle.table.specs.Table.{no_rows}
use Rattle.setup.specs.declared.Accepted.{Accepted}
use Rattle.setup.specs.Setup.{set_up_with, set_up_of}
use Rattle.router.specs.declared.Router.{Router}
use Rattle.router.specs.Router.{state_of}

-- a router over rows by value
abbrev pub fresh_over : Rows → Router
fresh_over t = state_of t.cells t.count (replicate 48 0) 0

-- over no rows: what a refused table leaves
abbrev pub blank : Router
blank = fresh_over no_rows

-- an accepted table has a fresh router over it
abbrev pub start_from : Accepted → Router
start_from u = fresh_over u.rows

-- what set-up handed back: a router over an accepted table, or the refusal
abbrev pub started : Result Accepted Refusal → Result Router Refusal
started (Ok u) = Ok (start_from u)
started (Err k) = Err k

-- over rows by value
abbrev pub start_with : Rows → Result Router Refusal
start_with t = started (set_up_with t)

-- over lent rows, read in order
abbrev pub start_of : List Row → Result Router Refusal
start_of rows = started (set_up_of rows)

-- the router that a start leaves: a refused table leaves a blank one
abbrev pub router_left : Result Router Refusal → Router
router_left (Ok r) = r
router_left (Err k) = blank

-- what a start says of the table
abbrev pub answer_of : Result Router Refusal → Result ⊤ Refusal
answer_of (Ok r) = Ok tt
answer_of (Err k) = Err k
