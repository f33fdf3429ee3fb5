-- Worked examples: a sheet of two wordings, a form with each kind of hole, and a list of two forms. Assumes nothing.
use Prim.Native.Nat.{ℕ, ◌-◌}
use mathlib.Core.Path.{◌≡◌, refl}
use mathlib.Core.List.{List, [], ◌∷◌, ◌++◌}
use lib.ListN.{length, replicate}
use Rattle.text.specs.Text.{puts, ascii, decimal_of}
use Rattle.forms.specs.Forms.{wording_of, span_of, nibbed, engraved, is_hole, part_text, form_text, forms_text}

-- a wording, and then zeros to the end of its cell
cell : List ℕ → List ℕ
cell w = w ++ replicate (128 - length w) 0

abbrev sheet : List ℕ
sheet = cell (ascii "pen") ++ cell (ascii "# @ ^ $!")

filled-form : form_text sheet (1 ∷ 42 ∷ 0xABCD ∷ 7 ∷ 0 ∷ []) ≡ ascii "42 ABCD 07 pen!"
unfolding cell wording_of part_text is_hole decimal_of
filled-form = refl

-- missing values are 0, and the sheet has no cell 2
missing-values : form_text sheet (1 ∷ []) ≡ ascii "0 0000 00 pen!"
unfolding cell wording_of part_text is_hole decimal_of
missing-values = refl

no_cell : form_text sheet (2 ∷ []) ≡ []
unfolding cell wording_of
no_cell = refl

-- the wordings stand at 0 and at 128, and end after 3 and 8 bytes
the-spans : (span_of sheet 0 ≡ record { start = 0; end = 3 }) × (span_of sheet 1 ≡ record { start = 128; end = 136 }) × (span_of sheet 2 ≡ record { start = 0; end = 0 })
unfolding cell span_of
the-spans = (refl, refl, refl)

-- forms of 8 numbers each; the list has two, also where more are asked for
two-forms : forms_text sheet (0 ∷ replicate 7 0 ++ 1 ∷ 5 ∷ replicate 6 0) 3 ≡ ascii "pen5 0000 00 pen!"
unfolding cell wording_of part_text is_hole decimal_of
two-forms = refl

-- the same sheet, engraved at once
engraved-sheet : engraved (replicate 256 0) 0 (ascii "pen|# @ ^ $!") ≡ sheet
unfolding cell engraved nibbed puts
engraved-sheet = refl
