-- Routing one message: what an outcome does to the view and to the reply buffer, and what is to be sent. Nothing is decided here.
use Rattle.std.specs.Prelude.{ℕ, true, false, ◌&&◌, cond, List, [], ◌∷◌, eqb, take, Option, Some, None}
use Rattle.lists.specs.Lists.{keep, first, without, changed, onto}
use Rattle.tapa.specs.Address.{handler_of}
use Rattle.tapa.specs.Codes.{successful, handler_error, open_handler, close_handler}
use Rattle.message.specs.Message.{response_of}
use Rattle.table.specs.declared.Row.{Row}
use Rattle.table.specs.Table.{set_opened}
use Rattle.place.specs.declared.Place.{Place}
use Rattle.places.specs.Places.{asks_exactly, owes_exactly, not_owed_by, owing}
use Rattle.rules.specs.View.{View}
use Rattle.rules.specs.declared.Outcome.{Outcome}
use Rattle.rules.specs.declared.Outcome.TheVariants.{Passed, Answered, Swallowed, Event, Turned, Given, Reset, Refused}

-- ---- the view

abbrev pub place : (asker asked kind thread : ℕ) → Place
place asker asked kind thread = record { asker = asker; asked = asked; kind = kind; thread = thread; owed = false }

-- 'If it was Open Handler or Close Handler and the code is '0000', the handler becomes open or closed.'
unfoldable pub answered_rows : Option Place → (code : ℕ) → List Row → List Row
answered_rows None k rows = rows
answered_rows (Some w) k rows =
    cond (eqb k successful && eqb w.kind open_handler)
    (set_opened (handler_of w.asked) true rows)
    (cond (eqb k successful && eqb w.kind close_handler) (set_opened (handler_of w.asked) false rows) rows)

abbrev pub rows_after : Outcome → View → List Row
rows_after (Passed asker asked kind t) v = v.rows
rows_after (Answered asked asker t k) v = answered_rows (first (asks_exactly asked t) v.places) k v.rows
rows_after (Swallowed asked t) v = v.rows
rows_after Event v = v.rows
rows_after (Turned asker asked t k) v = v.rows
rows_after (Given asker asked t) v = v.rows
rows_after (Reset h) v = set_opened h false v.rows
rows_after (Refused r) v = v.rows

abbrev pub places_after : Outcome → List Place → List Place
places_after (Passed asker asked kind t) places = place asker asked kind t ∷ places
places_after (Answered asked asker t k) places = without (asks_exactly asked t) places
places_after (Swallowed asked t) places = without (owes_exactly asked t) places
places_after Event places = places
places_after (Turned asker asked t k) places = places
places_after (Given asker asked t) places = changed owing (asks_exactly asked t) places
places_after (Reset h) places = keep (not_owed_by h) places
places_after (Refused r) places = places

-- the view after an outcome
abbrev pub applied : Outcome → View → View
applied o v = record { rows = rows_after o v; places = places_after o v.places }

-- ---- the reply buffer

-- 'Turned back writes only a response, in the first 10 reply bytes: the command's source, its destination, both exact, 'FF', thread, '0002', code.'
-- Give up: 'a response with 'FFF3' to its asker, from its asked address, both exact'
abbrev pub written : Outcome → List ℕ → List ℕ
written (Passed asker asked kind t) buffer = buffer
written (Answered asked asker t k) buffer = buffer
written (Swallowed asked t) buffer = buffer
written Event buffer = buffer
written (Turned asker asked t k) buffer = onto (response_of asker asked t k) buffer
written (Given asker asked t) buffer = onto (response_of asker asked t handler_error) buffer
written (Reset h) buffer = buffer
written (Refused r) buffer = buffer

-- ---- the part to send

-- 'the bytes to send are a part of the incoming buffer or of the reply buffer, never a copy'
abbrev pub sent : Outcome → (message buffer : List ℕ) → List ℕ
sent (Passed asker asked kind t) message buffer = message
sent (Answered asked asker t k) message buffer = message
sent (Swallowed asked t) message buffer = []
sent Event message buffer = message
sent (Turned asker asked t k) message buffer = take 10 buffer
sent (Given asker asked t) message buffer = take 10 buffer
sent (Reset h) message buffer = []
sent (Refused r) message buffer = []
