-- What the page says of a table: accepted, or 11, 12, 13.
use Rattle.std.specs.Prelude.{[], Result, Ok, Err, ⊤}
use Rattle.tapa.specs.declared.Refusal.{Refusal}
use Rattle.tapa.specs.Refusals.{number_of}
use Rattle.tapa.specs.Said.{Said, refused, says, accepted}

abbrev pub said_checked : Result ⊤ Refusal → Said
said_checked (Ok tt) = says accepted []
said_checked (Err r) = refused (number_of r)
