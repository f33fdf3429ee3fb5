use Rattle.std.proofs.Common.{length}
use Rattle.run.specs.State.{items_in, session_of}
use Rattle.pages.proofs.Filling.{Going}
use Rattle.pages.proofs.fill_page.Given as goal

-- the page holds whole lines, the first ones that were left
abbrev pub invariant-loop-page : goal.invariant-loop-page
invariant-loop-page l =
    Going l.input l.initial.page (session_of l.initial.cells l.count l.initial.list l.initial.len l.initial.cursor) l.page (session_of l.cells l.count l.list l.len l.cursor) l.used

-- each turn takes an item away
abbrev pub decreases-loop-page : goal.decreases-loop-page
decreases-loop-page l = length (items_in l.input (session_of l.cells l.count l.list l.len l.cursor))
