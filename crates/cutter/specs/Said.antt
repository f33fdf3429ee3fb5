-- What the page says of each answer of this room.
use Rattle.std.specs.Prelude.{[], ◌∷◌, ℕ, Option, Some, None, Result, Ok, Err}
use Rattle.tapa.specs.declared.Refusal.{Refusal}
use Rattle.tapa.specs.Refusals.{number_of}
use Rattle.tapa.specs.Said.{Said, refused, says, cutting, command, done}

-- the response's thread; or 1, 2, 3, 19, 15, 5, 6
abbrev pub said_start : Result ℕ Refusal → Said
said_start (Ok thread) = says cutting (thread ∷ [])
said_start (Err r) = refused (number_of r)

-- the command's length; nothing left; or 9
abbrev pub said_cut : Result (Option ℕ) Refusal → Said
said_cut (Ok (Some n)) = says command (n ∷ [])
said_cut (Ok None) = says done []
said_cut (Err r) = refused (number_of r)
