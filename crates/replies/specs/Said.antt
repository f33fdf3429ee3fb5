-- What the page says of each answer of this room.
use Rattle.std.specs.Prelude.{[], ◌∷◌, ℕ, Option, Some, None, Result, Ok, Err}
use Rattle.tapa.specs.declared.Refusal.{Refusal}
use Rattle.message.specs.declared.Head.{Head}
use Rattle.tapa.specs.Refusals.{number_of}
use Rattle.tapa.specs.Said.{Said, refused, says, reply, no_reply}
use Rattle.message.specs.Said.{said_reading}

-- a message that was taken is said as the reader says it; else the refusal's number
abbrev pub said_checked : Result Head Refusal → Said
said_checked (Ok h) = said_reading (Ok h)
said_checked (Err r) = refused (number_of r)

-- the reply's length; no reply, of an Add Event; or the refusal's number
abbrev pub said_answer : Result (Option ℕ) Refusal → Said
said_answer (Ok (Some n)) = says reply (n ∷ [])
said_answer (Ok None) = says no_reply []
said_answer (Err r) = refused (number_of r)
