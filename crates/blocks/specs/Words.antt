-- Words, each line set in by four spaces.
use Rattle.std.specs.Prelude.{ℕ, Bool, true, cond, List, [], ◌∷◌, ◌++◌, eqb}
use Rattle.text.specs.Text.{ascii}

-- the last line is closed where the words do not close it
abbrev pub indented_from : (fresh : Bool) → List ℕ → List ℕ
indented_from fresh [] = cond fresh [] (ascii "\n")
indented_from fresh (b ∷ bs) = cond fresh (ascii "    ") [] ++ (b ∷ indented_from (eqb b 10) bs)

unfoldable pub indented : List ℕ → List ℕ
indented = indented_from true
