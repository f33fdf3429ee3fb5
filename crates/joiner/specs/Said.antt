-- What the page says of each answer of this room.
use Rattle.std.specs.Prelude.{[], ◌∷◌, ℕ, Option, Some, None, Result, Ok, Err, ⊤}
use Rattle.tapa.specs.declared.Refusal.{Refusal}
use Rattle.tapa.specs.Refusals.{number_of}
use Rattle.tapa.specs.Said.{Said, refused, says, get_next, joined, kept}

-- ''9601' asks for Get Next'; the length of the message that is handed on; or 9, 1, 2, 18, and at '9000' 1, 5, 2, 3, 19, 17
abbrev pub said_answer : Result (Option ℕ) Refusal → Said
said_answer (Ok None) = says get_next []
said_answer (Ok (Some n)) = says joined (n ∷ [])
said_answer (Err r) = refused (number_of r)

-- the source is kept; or 1, 2, 3, 19, 15, 5
abbrev pub said_keeping : Result ⊤ Refusal → Said
said_keeping (Ok tt) = says kept []
said_keeping (Err r) = refused (number_of r)
