-- Which lines begin with no space: a line of a transcript does, and no line of words that are set in. Assumes nothing.
use Prim.Native.Nat.{ℕ, zero, suc, ◌+◌, ◌/◌, ◌%◌, ◌<◌}
use mathlib.Core.Path.{◌≡◌, refl, sym, ap, ◌∙◌}
use mathlib.Core.Bool.{Bool, true, false, cond}
use mathlib.Core.List.{List, [], ◌∷◌, ◌++◌, append-nil, append_assoc}
use native.Mathlib.Omega.{arith}
use lib.Dec.{ltb, eqb}
use borrow.Table.Steps.{cases}
use borrow.Author.Tests.{ne_eqb, ltb-false}
use Rattle.lists.specs.Lists.{some_of}
use Rattle.lists.proofs.Tests.{or_no}
use Rattle.text.specs.Text.{decimals, decimal_of}
use Rattle.lines.specs.Lines.{lf}
use Rattle.run.specs.declared.Item.{Item}
use Rattle.run.specs.declared.Item.TheVariants.{Came, Over, Broken, Refused, TooLong, Nothing}
use Rattle.run.specs.State.{hands_out}
use Rattle.transcript.specs.Prescribed.{line_with, line_of}
use Rattle.transcript.proofs.Ends.{Plain, Line}
use Rattle.blocks.specs.Words.{indented_from, indented}
use Rattle.blocks.specs.Blocks.{start, shown, hidden, heads_from, heads}

-- ---- whole lines

-- x is made of whole lines, and those of them that begin with no space are y
abbrev pub Shows : (x y : List ℕ) → Type 0
Shows x y = (rest : List ℕ) → heads (x ++ rest) ≡ y ++ heads rest

pub shows_more : (a x b y : List ℕ) → Shows a x → Shows b y → Shows (a ++ b) (x ++ y)
shows_more a x b y f g rest =
    ap heads (append_assoc a b rest)
    ∙ (f (b ++ rest) ∙ (ap (λ (l : List ℕ). x ++ l) (g rest) ∙ sym (append_assoc x y (heads rest))))

pub shows-heads : (x y : List ℕ) → Shows x y → heads x ≡ y
unfolding heads
shows-heads x y f = ap heads (sym (append-nil x)) ∙ (f [] ∙ append-nil y)

-- ---- words: none of their lines begins with no space

quiet : (fresh : Bool) (w rest : List ℕ) → heads_from (cond fresh start hidden) (indented_from fresh w ++ rest) ≡ heads_from start rest
quiet true [] rest = refl
quiet false [] rest = refl
quiet true (b ∷ w) rest = quiet (eqb b 10) w rest
quiet false (b ∷ w) rest = quiet (eqb b 10) w rest

pub words-hidden : (w : List ℕ) → Shows (indented w) []
unfolding heads indented
words-hidden w rest = quiet true w rest

-- ---- a line of a transcript begins with no space

abbrev pub Bare : List ℕ → Type 0
Bare [] = ⊥
Bare (b ∷ l) = eqb b 32 ≡ false

bare-decimals : (f n : ℕ) (rest : List ℕ) → n < f → Bare (decimals f n ++ rest)
bare-decimals zero n rest h = absurd (omega arith)
bare-decimals (suc f) n rest h =
    cases (ltb n 10) (λ e. rw e (ne_eqb (48 + n % 10) 32 (λ z. omega arith)))
    (λ e. rw (e, append_assoc (decimals f (n / 10)) ((48 + n % 10) ∷ []) rest)
    (bare-decimals f (n / 10) (((48 + n % 10) ∷ []) ++ rest) (omega (arith, ltb-false n 10 e))))

bare-decimal : (n : ℕ) (rest : List ℕ) → Bare (decimal_of n ++ rest)
unfolding decimal_of
bare-decimal n rest = bare-decimals (suc n) n rest (omega arith)

pub bare-line : (i : Item) → hands_out i ≡ true → Bare (line_of i)
unfolding line_with
bare-line (Came k o) h = bare-decimal k _
bare-line (Over t) h = refl
bare-line (Broken n) h = refl
bare-line (Refused r) h = refl
bare-line TooLong h = refl
bare-line Nothing h = let z : ◌≡◌ {A = ℕ} 0 1 = cc in absurd (omega arith)

-- ---- so it is let through

line-inside : (f rest : List ℕ) → Plain f → heads_from shown (f ++ (lf ++ rest)) ≡ f ++ (lf ++ heads_from start rest)
line-inside [] rest p = refl
line-inside (b ∷ f) rest p =
    let h = or_no (ltb b 32) (some_of (λ (x : ℕ). ltb x 32) f) p in
    rw (ne_eqb b 10 (λ z. omega (arith, ltb-false b 32 h.0)), line-inside f rest h.1)

line-through : (f rest : List ℕ) → Plain f → Bare (f ++ lf) → heads_from start (f ++ (lf ++ rest)) ≡ f ++ (lf ++ heads_from start rest)
line-through [] rest p q = refl
line-through (b ∷ f) rest p q =
    let h = or_no (ltb b 32) (some_of (λ (x : ℕ). ltb x 32) f) p in
    rw (q, ne_eqb b 10 (λ z. omega (arith, ltb-false b 32 h.0)), line-inside f rest h.1)

pub line-shown : (l : List ℕ) → Line l → Bare l → Shows l l
unfolding heads
line-shown l g q rest =
    rw (g.is, append_assoc g.front lf rest, append_assoc g.front lf (heads_from start rest)) (line-through g.front rest g.plain (rw g.is at q))
