-- A sheet of wordings with holes, and the text of a form. 'nothing of the input's bytes is written but as hex digits'
use Rattle.std.specs.Prelude.{ℕ, zero, suc, ◌+◌, ◌*◌, ◌/◌, ◌%◌, ◌≤◌, ◌-◌, ◌≡◌, Bool, ◌&&◌, cond, List, [], ◌∷◌, ◌++◌, eqb, ltb, leb, length, take, drop, get_or}
use Rattle.lists.specs.Lists.{checks, some_of}
use Rattle.text.specs.Text.{Pen, pen, puts, decimal_of, hex_of, word_hex_of}
use Rattle.forms.specs.declared.Span.{Span}

-- ---- the sheet: cells of 128 bytes, at most 512 of them

-- up to the first byte below 32
abbrev pub worded : List ℕ → List ℕ
worded [] = []
worded (b ∷ bs) = cond (ltb b 32) [] (b ∷ worded bs)

abbrev pub cell_from : List ℕ → ℕ → List ℕ
cell_from s start = take 128 (drop start s)

-- the wording of a cell; there is none where the sheet has no such cell
unfoldable pub wording_of : List ℕ → ℕ → List ℕ
wording_of s n = cond (ltb n 512 && leb (n * 128 + 128) (length s)) (worded (cell_from s (n * 128))) []

-- ---- wordings are written into the cells from one on, and '|' goes on to the next; after the last cell comes the first

pub record Stylus : Type 0 where
  pub cell : ℕ
  pub tip : Pen

abbrev pub stylus : ℕ → Pen → Stylus
stylus n p = record { cell = n; tip = p }

abbrev pub at_cell : ℕ → List ℕ → Stylus
at_cell n s = stylus n (pen s (n * 128))

unfoldable pub nibbed : Stylus → ℕ → Stylus
nibbed x b = cond (eqb b 0x7C) (at_cell ((x.cell % 512 + 1) % 512) x.tip.bytes) (stylus x.cell (puts x.tip (b ∷ [])))

abbrev pub engraved_from : Stylus → List ℕ → List ℕ
engraved_from x [] = x.tip.bytes
engraved_from x (b ∷ bs) = engraved_from (nibbed x b) bs

unfoldable pub engraved : List ℕ → ℕ → List ℕ → List ℕ
engraved s n w = engraved_from (at_cell (n % 512) s) w

-- ---- the holes

abbrev pub decimal_hole : ℕ
decimal_hole = 0x23

abbrev pub word_hole : ℕ
word_hole = 0x40

abbrev pub byte_hole : ℕ
byte_hole = 0x5E

abbrev pub wording_hole : ℕ
wording_hole = 0x24

unfoldable pub is_hole : ℕ → Bool
is_hole b = some_of (λ (h : ℕ). eqb b h) (decimal_hole ∷ word_hole ∷ byte_hole ∷ wording_hole ∷ [])

-- a byte of a wording as it is written: a hole is filled by the value
unfoldable pub part_text : (sheet : List ℕ) (byte value : ℕ) → List ℕ
part_text s b v =
    checks
    ((eqb b decimal_hole, decimal_of v)
    ∷ (eqb b word_hole, word_hex_of (v % 65536))
    ∷ (eqb b byte_hole, hex_of (v % 256))
    ∷ (eqb b wording_hole, wording_of s v)
    ∷ [])
    (b ∷ [])

-- ---- forms

-- a wording with its holes filled, from the value with number k on
abbrev pub filled : (sheet form : List ℕ) (k : ℕ) → List ℕ → List ℕ
filled s f k [] = []
filled s f k (b ∷ bs) = part_text s b (get_or f k 0) ++ filled s f (cond (is_hole b) (k + 1) k) bs

-- the number of a cell, then the values
abbrev pub form_text : (sheet form : List ℕ) → List ℕ
form_text s f = filled s f 1 (wording_of s (get_or f 0 0))

-- form i of a list, of 8 numbers
abbrev pub form_at : List ℕ → ℕ → List ℕ
form_at l i = take 8 (drop (i * 8) l)

-- the first n forms of a list
abbrev pub first_forms : (sheet list : List ℕ) → ℕ → List ℕ
first_forms s l zero = []
first_forms s l (suc n) = first_forms s l n ++ form_text s (form_at l n)

-- and no more than it has
abbrev pub forms_text : (sheet list : List ℕ) → ℕ → List ℕ
forms_text s l n = first_forms s l (cond (ltb n (length l / 8)) n (length l / 8))

-- ---- where a wording stands

abbrev pub end_of : List ℕ → ℕ → ℕ
end_of s start = start + length (worded (cell_from s start))

-- one that is not there stands at the sheet's start, and has no byte
unfoldable pub span_of : List ℕ → ℕ → Span
span_of s n =
    cond (ltb n 512 && leb (n * 128 + 128) (length s))
    (record { start = n * 128; end = end_of s (n * 128) })
    (record { start = 0; end = 0 })

-- the contract of `wording`: where it stands; and that the wording is what stands there
pub record Spans (s : List ℕ) (n : ℕ) (p : Span) : Type 0 where
  pub same : p ≡ span_of s n
  pub text : take (p.end - p.start) (drop p.start s) ≡ wording_of s n
  pub order : p.start ≤ p.end
  pub inside : p.end ≤ length s
  pub short : p.end ≤ p.start + 128
