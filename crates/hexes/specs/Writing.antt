-- From bytes to text: one field a line, in groups, with a comment that names the field.
use Rattle.std.specs.Prelude.{ℕ, ◌+◌, ◌*◌, ◌≡◌, Bool, true, false, not, cond, List, [], ◌∷◌, ◌++◌, eqb, leb}
use Rattle.lists.specs.Lists.{checks}
use Rattle.text.specs.Text.{pen, puts, ascii, hex_of}
use Rattle.hexes.specs.declared.Cursor.{Cursor}
use Rattle.hexes.specs.declared.Written.{Written}

abbrev pub cursor : ℕ → ℕ → ℕ → ℕ → Cursor
cursor tag high low at = record { tag = tag; high = high; low = low; at = at }

-- before the first field, which is as after one
abbrev pub fresh_cursor : Cursor
fresh_cursor = cursor 0 0 0 3

-- a field is over when its header and as many bytes as it announces were written
abbrev pub is_over : Cursor → Bool
is_over c = leb (3 + (c.high * 256 + c.low)) c.at

-- one byte more
unfoldable pub advanced : Cursor → ℕ → Cursor
advanced c b =
    checks
    ((is_over c, cursor b 0 0 1)
    ∷ (eqb c.at 1, cursor c.tag b 0 2)
    ∷ (eqb c.at 2, cursor c.tag c.high b 3)
    ∷ [])
    (cursor c.tag c.high c.low (c.at + 1))

-- where a group ends: after the tag, the length and the first two bytes, or in a give up after its thread; in a message also after source, type,
-- thread and data length (Table 3)
unfoldable pub splits_at : ℕ → ℕ → Bool
splits_at tag at =
    checks
    ((eqb at 1, true)
    ∷ (eqb at 3, true)
    ∷ (eqb tag 3, eqb at 4)
    ∷ (eqb at 5, true)
    ∷ (not (eqb tag 2), false)
    ∷ (eqb at 7, true)
    ∷ (eqb at 8, true)
    ∷ (eqb at 9, true)
    ∷ [])
    (eqb at 11)

-- the end of a field's line, with its name
unfoldable pub name_of : ℕ → List ℕ
name_of tag =
    checks
    ((eqb tag 1, ascii "  # row\n")
    ∷ (eqb tag 2, ascii "  # message\n")
    ∷ (eqb tag 3, ascii "  # give up\n")
    ∷ (eqb tag 4, ascii "  # replaced\n")
    ∷ [])
    (ascii "  # unknown\n")

-- what stands after the byte that led to c
unfoldable pub gap_of : Cursor → List ℕ
gap_of c = cond (is_over c) (name_of c.tag) (cond (splits_at c.tag c.at) (ascii " ") [])

-- the text of some bytes, from a cursor on, and the cursor after them
abbrev pub text_of : Cursor → List ℕ → List ℕ
text_of c [] = []
text_of c (b ∷ s) = (hex_of b ++ gap_of (advanced c b)) ++ text_of (advanced c b) s

abbrev pub after : Cursor → List ℕ → Cursor
after c [] = c
after c (b ∷ s) = after (advanced c b) s

-- a field that the end of the input cuts
unfoldable pub end_of : Cursor → List ℕ
end_of c = cond (is_over c) [] (ascii "  # cut\n")

-- all bytes as text
unfoldable pub written_of : List ℕ → List ℕ
written_of s = text_of fresh_cursor s ++ end_of (after fresh_cursor s)

-- a part of the bytes, from the cursor on
pub record Writes (c : Cursor) (part old new : List ℕ) (r : Written) : Type 0 where
  pub text : pen new r.used ≡ puts (pen old 0) (text_of c part)
  pub next : r.next ≡ after c part
