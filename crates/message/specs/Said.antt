-- What the page says of each answer of this room.
use Rattle.std.specs.Prelude.{[], ◌∷◌, ℕ, Option, Some, None, Result, Ok, Err}
use Rattle.tapa.specs.declared.Refusal.{Refusal}
use Rattle.message.specs.declared.Head.{Head}
use Rattle.tapa.specs.Refusals.{number_of}
use Rattle.tapa.specs.Said.{Said, refused, says, read, code, written}
use Rattle.tapa.specs.declared.Refusal.TheVariants.{NoResponseCode}

-- destination, source, type, thread, data length; or 1, 2, 3, 19
abbrev pub said_reading : Result Head Refusal → Said
said_reading (Ok h) = says read (h.destination ∷ h.source ∷ h.kind ∷ h.thread ∷ h.length ∷ [])
said_reading (Err r) = refused (number_of r)

-- the code; or 6
abbrev pub said_code : Option ℕ → Said
said_code (Some k) = says code (k ∷ [])
said_code None = refused (number_of NoResponseCode)

-- the message's length; or 2, 9
abbrev pub said_writing : Result ℕ Refusal → Said
said_writing (Ok n) = says written (n ∷ [])
said_writing (Err r) = refused (number_of r)
