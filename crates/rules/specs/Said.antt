-- What the page says of each outcome: its word, with what the session program prints after it, or its number.
use Rattle.std.specs.Prelude.{Bool, [], ◌∷◌}
use Rattle.tapa.specs.Codes.{handler_error}
use Rattle.tapa.specs.Refusals.{number_of}
use Rattle.tapa.specs.Said.{Said, refused, says, is_refusal, passed, answered, swallowed, event, turned, given, reset}
use Rattle.message.specs.Message.{response_of}
use Rattle.rules.specs.declared.Outcome.{Outcome}
use Rattle.rules.specs.declared.Outcome.TheVariants.{Passed, Answered, Swallowed, Event, Turned, Given, Reset, Refused}

-- '`passed` or `answered` with the destination, `turned` or `given` with the 10 reply bytes .., `refused` with a number, `swallowed`, `event`, `reset`'
abbrev pub said_outcome : Outcome → Said
said_outcome (Passed asker asked kind t) = says passed (asked ∷ [])
said_outcome (Answered asked asker t k) = says answered (asker ∷ [])
said_outcome (Swallowed asked t) = says swallowed []
said_outcome Event = says event []
said_outcome (Turned asker asked t k) = says turned (response_of asker asked t k)
said_outcome (Given asker asked t) = says given (response_of asker asked t handler_error)
said_outcome (Reset h) = says reset []
said_outcome (Refused r) = refused (number_of r)

abbrev pub is_refused : Outcome → Bool
is_refused o = is_refusal (said_outcome o)
