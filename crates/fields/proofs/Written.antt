-- The tags, lengths and status bytes of a session file, written out.
use Prim.Native.Nat.{ℕ}
use Rattle.std.specs.Prelude.{Some, None}
use mathlib.Core.Path.{◌≡◌, refl}
use mathlib.Core.Bool.{true, false}
use mathlib.Core.List.{List, [], ◌∷◌}
use lib.Dec.{eqb}
use lib.ListN.{replicate}
use Rattle.fields.specs.Fields.{ended, cut, field, file_of, row_of, message, give-up, replaced, step_of, over, broken, then, torn, begins, row-then, script_of}

-- ''01' row (address, then 1 open or 0 closed)'; another status byte or another length is none
pub record Rows : Type 0 where
  pub opened : row_of (0x02 ∷ 0x82 ∷ 1 ∷ []) ≡ Some (0x0282, true)
  pub closed : row_of (0x02 ∷ 0x82 ∷ 0 ∷ []) ≡ Some (0x0282, false)
  pub status : (row_of (0x02 ∷ 0x82 ∷ 2 ∷ []) ≡ None) × (row_of (0x02 ∷ 0x82 ∷ 128 ∷ []) ≡ None) × (row_of (0x02 ∷ 0x82 ∷ 255 ∷ []) ≡ None)
  pub sizes : (row_of [] ≡ None) × (row_of (0x02 ∷ 0x82 ∷ []) ≡ None) × (row_of (0x02 ∷ 0x82 ∷ 1 ∷ 0 ∷ []) ≡ None)

pub rows : Rows
unfolding row_of
rows = record { opened = refl; closed = refl; status = (refl, refl, refl); sizes = (refl, refl, refl) }

-- ''02' message; '03' give up (3 bytes: thread, address); '04' replaced (2 bytes)'; 'any field but a message of another length' is broken, and so is
-- every other tag
pub record Tags : Type 0 where
  pub a-message : (c : List ℕ) → step_of 2 c ≡ Some (message c)
  pub a-give-up : (t : ℕ) → step_of 3 (t ∷ 0x02 ∷ 0x82 ∷ []) ≡ Some (give-up t 0x0282)
  pub a-replaced : step_of 4 (0x02 ∷ 0x82 ∷ []) ≡ Some (replaced 0x0282)
  pub give-up-sizes : (step_of 3 [] ≡ None) × (step_of 3 (3 ∷ []) ≡ None) × (step_of 3 (3 ∷ 0x02 ∷ []) ≡ None) × (step_of 3 (3 ∷ 0x02 ∷ 0x82 ∷ 0 ∷ []) ≡ None)
  pub replaced-sizes : (step_of 4 [] ≡ None) × (step_of 4 (0x02 ∷ []) ≡ None) × (step_of 4 (0x02 ∷ 0x82 ∷ 0 ∷ []) ≡ None)
  pub others : (t : ℕ) (c : List ℕ) → eqb t 2 ≡ false → eqb t 3 ≡ false → eqb t 4 ≡ false → step_of t c ≡ None

pub tags : Tags
unfolding step_of
tags = record {
  a-message = λ c. refl;
  a-give-up = λ t. refl;
  a-replaced = refl;
  give-up-sizes = (refl, refl, refl, refl);
  replaced-sizes = (refl, refl, refl);
  others = λ t c a b d. rw (a, b, d);
}

-- 'fields of one tag byte, two length bytes (high first), contents'; 'header or contents cut by the end of the input'
pub record Files : Type 0 where
  pub empty : file_of [] ≡ ended
  pub one_field : file_of (0x04 ∷ 0x00 ∷ 0x02 ∷ 0x02 ∷ 0x82 ∷ []) ≡ field 0x04 (0x02 ∷ 0x82 ∷ []) ended
  pub high-first : file_of (0x02 ∷ 0x01 ∷ 0x00 ∷ replicate 256 0xAA) ≡ field 0x02 (replicate 256 0xAA) ended
  pub header : (file_of (0x02 ∷ []) ≡ cut 0x02) × (file_of (0x02 ∷ 0x00 ∷ []) ≡ cut 0x02)
  pub contents : file_of (0x02 ∷ 0x00 ∷ 0x02 ∷ 0xAA ∷ []) ≡ cut 0x02
  pub no-contents : file_of (0x02 ∷ 0x00 ∷ 0x00 ∷ []) ≡ field 0x02 [] ended

pub files : Files
unfolding file_of
files = record { empty = refl; one_field = refl; high-first = refl; header = (refl, refl); contents = refl; no-contents = refl }

-- 'all first', 'all fields counted from 1': a late row and a cut row are broken, each with its own number
pub record Scripts : Type 0 where
  pub late-row : script_of 1 (file_of (0x01 ∷ 0x00 ∷ 0x03 ∷ 0x01 ∷ 0x00 ∷ 0x01 ∷ 0x02 ∷ 0x00 ∷ 0x00 ∷ 0x01 ∷ 0x00 ∷ 0x03 ∷ 0x02 ∷ 0x02 ∷ 0x01 ∷ []))
      ≡ row-then 0x0100 true (begins (then (message []) (broken 3)))
  pub cut-row : script_of 1 (file_of (0x01 ∷ 0x00 ∷ 0x03 ∷ 0x01 ∷ 0x00 ∷ 0x01 ∷ 0x01 ∷ [])) ≡ row-then 0x0100 true (torn 2)
  pub cut_step : script_of 1 (file_of (0x01 ∷ 0x00 ∷ 0x03 ∷ 0x01 ∷ 0x00 ∷ 0x00 ∷ 0x02 ∷ [])) ≡ row-then 0x0100 false (begins (broken 2))
  pub unknown : script_of 1 (file_of (0x05 ∷ 0x00 ∷ 0x00 ∷ [])) ≡ begins (broken 1)
  pub at-the-end : script_of 1 (file_of (0x01 ∷ 0x00 ∷ 0x03 ∷ 0x01 ∷ 0x00 ∷ 0x01 ∷ [])) ≡ row-then 0x0100 true (begins over)

pub scripts : Scripts
unfolding file_of row_of step_of
scripts = record { late-row = refl; cut-row = refl; cut_step = refl; unknown = refl; at-the-end = refl }
