-- The lines of an input and what the store holds after them, said of the plain list of files alone: no book, no area, no slot.
use Rattle.std.specs.Prelude.{◌+◌, suc, zero, ℕ, cond, List, [], ◌∷◌, ltb, length}
use Rattle.fields.specs.Fields.{Steps, broken, give-up, message, over, replaced, then}
use Rattle.fields.specs.Places.{steps_at}
use Rattle.files.specs.Files.{File}
use Rattle.ledger.specs.Ledger.{blank, said_line}
use Rattle.lines.specs.Lines.{broken_line, long_line}
use Rattle.store.specs.Plain.{Told, told_of}

-- what a message comes to
abbrev pub told : List File → List ℕ → Told
told files bytes = told_of files bytes blank

abbrev pub plain_line : ℕ → Told → List ℕ
plain_line n t = said_line n t.answer t.reply

-- all lines of the steps of an input; n is the number of the first
abbrev pub plain_lines : ℕ → List File → Steps → List (List ℕ)
plain_lines n files over = []
plain_lines n files (broken k) = broken_line k ∷ []
plain_lines n files (then (message c) m) = plain_line n (told files c) ∷ plain_lines (n + 1) (told files c).files m
plain_lines n files (then (give-up t x) m) = broken_line n ∷ []
plain_lines n files (then (replaced x) m) = broken_line n ∷ []

-- the files after so many lines
abbrev pub plain_after : ℕ → List File → Steps → List File
plain_after zero files m = files
plain_after (suc k) files over = files
plain_after (suc k) files (broken n) = files
plain_after (suc k) files (then (message c) m) = plain_after k (told files c).files m
plain_after (suc k) files (then (give-up t x) m) = files
plain_after (suc k) files (then (replaced x) m) = files

-- all of an input's lines; one that is too long has one line, and no command of it is done
abbrev pub plain_prescribed : List ℕ → List File → List (List ℕ)
plain_prescribed s files = cond (ltb 65536 (length s)) (long_line ∷ []) (plain_lines 1 files (steps_at s 1 0))

abbrev pub plain_files : ℕ → List ℕ → List File → List File
plain_files k s files = cond (ltb 65536 (length s)) files (plain_after k files (steps_at s 1 0))
