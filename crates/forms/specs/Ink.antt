-- What a form can be written with: digits, and bytes of the sheet's wordings.
use Rattle.std.specs.Prelude.{ℕ, ◌<◌, ◌≡◌, List}
use Rattle.lists.specs.Lists.{In}
use Rattle.text.specs.Text.{digit_of}
use Rattle.forms.specs.Forms.{wording_of}

pub data Ink (sheet : List ℕ) : ℕ → Type 0 where
  digit : (byte value : ℕ) → value < 16 → byte ≡ digit_of value → Ink sheet byte
  worded : (byte cell : ℕ) → In byte (wording_of sheet cell) → Ink sheet byte
