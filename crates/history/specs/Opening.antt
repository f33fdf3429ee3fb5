-- The open marks that a history leaves. Only an answered Open Handler ('F0') or Close Handler ('F1') with the code '0000' moves one, and an accepted
-- replaced call closes its handler.
use Rattle.std.specs.Prelude.{ℕ, true, false, ◌&&◌, cond, List, [], ◌∷◌, eqb}
use Rattle.tapa.specs.Address.{handler_of}
use Rattle.table.specs.declared.Row.{Row}
use Rattle.table.specs.Table.{set_opened}
use Rattle.place.specs.declared.Place.{Place}
use Rattle.rules.specs.declared.Outcome.{Outcome}
use Rattle.history.specs.History.{Entry, Sent, ended, is_answered, is_reset, named}

-- 'If it was Open Handler or Close Handler and the code is '0000', the handler becomes open or closed.'
abbrev pub marked_by : (command : Place) → (code : ℕ) → List Row → List Row
marked_by p code rows =
    cond (eqb code 0x0000 && eqb p.kind 0xF0)
    (set_opened (handler_of p.asked) true rows)
    (cond (eqb code 0x0000 && eqb p.kind 0xF1) (set_opened (handler_of p.asked) false rows) rows)

-- the command that an answer ends decides
abbrev pub answered_by : List Sent → (code : ℕ) → List Row → List Row
answered_by [] code rows = rows
answered_by (c ∷ cs) code rows = marked_by c.command code rows

-- Replaced: 'Else its owings end and it is closed.' Every other outcome moves no mark
abbrev pub moved_by : List Entry → Outcome → List Row → List Row
moved_by h o rows =
    cond (is_answered o) (answered_by (ended h o) (named o).code rows) (cond (is_reset o) (set_opened (named o).asked false rows) rows)

-- the table after a history that began with these rows
abbrev pub rows_in : List Row → List Entry → List Row
rows_in rows [] = rows
rows_in rows (e ∷ h) = moved_by h e.outcome (rows_in rows h)
