-- Text in a lent buffer. The session program prints numbers in decimal, and addresses and replies in 'upper-case hex'.
use Rattle.std.specs.Prelude.{◌≡◌, ℕ, zero, suc, ◌+◌, ◌/◌, ◌%◌, cond, List, [], ◌∷◌, ◌++◌, ltb, length, set}
use Rattle.text.specs.declared.Writer.{Writer}
use Prim.Native.Char.{code}
use Prim.Native.String.{String, [] as none, ◌∷◌ as ◌then◌}

-- ---- the pen

-- a buffer, with the place where the next byte goes
pub record Pen : Type 0 where
  pub bytes : List ℕ
  pub at : ℕ

abbrev pub pen : List ℕ → ℕ → Pen
pen l a = record { bytes = l; at = a }

-- one byte more, or nothing where the buffer is full
abbrev pub pushed : Pen → ℕ → Pen
pushed p b = cond (ltb p.at (length p.bytes)) (pen (set p.bytes p.at b) (p.at + 1)) p

-- a text, byte by byte
unfoldable pub puts : Pen → List ℕ → Pen
puts p [] = p
puts p (b ∷ bs) = puts (pushed p b) bs

-- what a writer shows: the bytes of the lent buffer, and the place
abbrev pub pen_of : Writer → Pen
pen_of p = pen p.bytes.now p.at

-- the writer q is p with a text more; it still holds the buffer that was lent
pub record Writes (p q : Writer) (t : List ℕ) : Type 0 where
  pub lent : q.bytes.ghost_name ≡ p.bytes.ghost_name
  pub text : pen_of q ≡ puts (pen_of p) t

-- ---- words

-- a quoted text as its bytes
abbrev pub ascii : String → List ℕ
ascii none = []
ascii (c then s) = code c ∷ ascii s

-- ---- hexadecimal

-- '0' to '9', then 'A' to 'F'
abbrev pub digit_of : ℕ → ℕ
digit_of n = cond (ltb n 10) (48 + n) (55 + n)

abbrev pub hex_of : ℕ → List ℕ
hex_of b = digit_of (b / 16) ∷ digit_of (b % 16) ∷ []

-- byte for byte, each by its own text
abbrev pub spelled : (ℕ → List ℕ) → List ℕ → List ℕ
spelled f [] = []
spelled f (b ∷ bs) = f b ++ spelled f bs

abbrev pub hexes_of : List ℕ → List ℕ
hexes_of = spelled hex_of

-- a two-byte number: an address, a code
abbrev pub word_hex_of : ℕ → List ℕ
word_hex_of n = hex_of (n / 256) ++ hex_of (n % 256)

-- ---- decimals

-- the digits of n; f is fuel, enough where n is below it
abbrev pub decimals : ℕ → ℕ → List ℕ
decimals zero n = []
decimals (suc f) n = cond (ltb n 10) ((48 + n % 10) ∷ []) (decimals f (n / 10) ++ ((48 + n % 10) ∷ []))

unfoldable pub decimal_of : ℕ → List ℕ
decimal_of n = decimals (suc n) n
