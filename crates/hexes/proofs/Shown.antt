-- A file and its text, computed: what is written for each kind of field, and what a text of people reads as.
use Prim.Native.Nat.{ℕ}
use mathlib.Core.Path.{◌≡◌, refl}
use mathlib.Core.List.{List, [], ◌∷◌, ◌++◌}
use Rattle.text.specs.Text.{ascii}
use Rattle.std.specs.Prelude.{Ok, Err}
use Rattle.hexes.specs.declared.Mistake.TheVariants.{Odd, Foreign}
use Rattle.hexes.specs.Reading.{class_of, step_of, scan_of, spot_of}
use Rattle.hexes.specs.Writing.{advanced, splits_at, name_of, gap_of, end_of, written_of}

-- a row, a message, a give up, a replaced, a field of no kind, and a message that is cut
abbrev file : List ℕ
file =
    (0x01 ∷ 0x00 ∷ 0x03 ∷ 0x01 ∷ 0x00 ∷ 0x01 ∷ [])
    ++ (0x02 ∷ 0x00 ∷ 0x0A ∷ 0x02 ∷ 0x02 ∷ 0x01 ∷ 0x00 ∷ 0x45 ∷ 0x03 ∷ 0x00 ∷ 0x02 ∷ 0xAB ∷ 0xCD ∷ [])
    ++ (0x03 ∷ 0x00 ∷ 0x03 ∷ 0x05 ∷ 0x02 ∷ 0x82 ∷ [])
    ++ (0x04 ∷ 0x00 ∷ 0x02 ∷ 0x02 ∷ 0x02 ∷ [])
    ++ (0x09 ∷ 0x00 ∷ 0x00 ∷ [])
    ++ (0x02 ∷ 0x00 ∷ [])

pub written : written_of file
    ≡ ascii "01 0003 0100 01  # row\n"
    ++ ascii "02 000A 0202 0100 45 03 0002 ABCD  # message\n"
    ++ ascii "03 0003 05 0282  # give up\n"
    ++ ascii "04 0002 0202  # replaced\n"
    ++ ascii "09 0000  # unknown\n"
    ++ ascii "02 00  # cut\n"
unfolding advanced splits_at name_of gap_of end_of written_of
written = refl

-- digits of either case, in any grouping, but a byte's two on one line; a comment goes to the end of its line
pub record Read : Type 0 where
  pub whole : scan_of (ascii "0aF f\t9 0# 12 g\r\n 34") ≡ record { bytes = 0x0A ∷ 0xFF ∷ 0x90 ∷ 0x34 ∷ []; ends = Ok tt }
  pub odd : scan_of (ascii "01 2\n3") ≡ record { bytes = 0x01 ∷ []; ends = Err (Odd 3) }
  pub cut : scan_of (ascii "01 2") ≡ record { bytes = 0x01 ∷ []; ends = Err (Odd 3) }
  pub foreign : scan_of (ascii "01 2g") ≡ record { bytes = 0x01 ∷ []; ends = Err (Foreign 4) }

pub read : Read
unfolding class_of step_of scan_of
read = record { whole = refl; odd = refl; cut = refl; foreign = refl }

-- a line and a column from 1 on
pub spot : spot_of (ascii "01\n0203\n0") ≡ record { line = 3; column = 2 }
unfolding spot_of
spot = refl
