-- What the page says of each answer to "is it free?": its word, or its number.
-- The words of room tapa are those of what had landed before, and have neither of these two: they stand here, in tapa's form.
use Rattle.std.specs.Prelude.{ℕ, Bool, true, false, List, [], Result, Ok, Err}
use Rattle.tapa.specs.declared.Refusal.{Refusal}
use Rattle.tapa.specs.Refusals.{number_of}

pub data Word : Type 0 where
  yes no : Word

-- a refusal's number, or a word with its values
pub data Said : Type 0 where
  refused : (number : ℕ) → Said
  says : Word → (values : List ℕ) → Said

abbrev pub said_freedom : Result Bool Refusal → Said
said_freedom (Ok true) = says yes []
said_freedom (Ok false) = says no []
said_freedom (Err r) = refused (number_of r)
