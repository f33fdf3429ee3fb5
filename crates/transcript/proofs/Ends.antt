-- 'every line ends in LF': and nowhere else in a line is an LF, since every byte before it is 32 or more. Assumes nothing.
use Prim.Native.Nat.{ℕ, zero, suc, ◌+◌, ◌/◌, ◌%◌, ◌≤◌}
use Rattle.tapa.specs.declared.Refusal.{Refusal}
use Rattle.std.specs.Prelude.{Result, Ok, Err, ⊤}
use mathlib.Core.Path.{◌≡◌, refl, ap, sym, ◌∙◌}
use mathlib.Core.Bool.{false}
use mathlib.Core.List.{List, [], ◌∷◌, ◌++◌, map, append_assoc}
use native.Mathlib.Omega.{arith}
use lib.Dec.{ltb}
use lib.ListN.{length}
use borrow.Author.Tests.{le-ltb}
use borrow.Table.Steps.{cases}
use Rattle.lists.specs.Lists.{some_of, All}
use Rattle.lists.proofs.Tests.{or_no, checks-are}
use Rattle.tapa.specs.Refusals.{number_of}
use Rattle.tapa.specs.Said.{Said, refused, says, Word}
use Rattle.table.specs.declared.Row.{Row}
use Rattle.table.specs.Table.{judge_table}
use Rattle.rules.specs.Said.{said_outcome}
use Rattle.fields.specs.Fields.{Steps, over, broken, then, Script, torn, begins, row-then, script_of, file_of}
use Rattle.history.specs.History as history
use Rattle.text.specs.Text.{ascii, digit_of, hex_of, hexes_of, word_hex_of, decimals, decimal_of}
use Rattle.lines.specs.Lines.{lf, words, word_of, values_of, text_of, counted, totals_line}
use Rattle.run.specs.declared.Item.{Item}
use Rattle.run.specs.declared.Item.TheVariants.{Came, Over, Broken, Refused, TooLong, Nothing}
use Rattle.run.specs.Run.{called, reply_in, items_of, checked_items, script_items, run_of}
use Rattle.transcript.specs.Prescribed.{line_with, line_of, prescribed}

-- no byte below 32
abbrev pub Plain : List ℕ → Type 0
Plain l = some_of (λ (b : ℕ). ltb b 32) l ≡ false

pub record Line (l : List ℕ) : Type 0 where
  pub front : List ℕ
  pub is : l ≡ front ++ lf
  pub plain : Plain front

-- ---- plain texts

plain-append : (a b : List ℕ) → Plain a → Plain b → Plain (a ++ b)
plain-append [] b p q = q
plain-append (x ∷ a) b p q =
    let h = or_no (ltb x 32) (some_of (λ (y : ℕ). ltb y 32) a) p in
    rw h.0 (plain-append a b h.1 q)

plain-one : (b : ℕ) → 32 ≤ b → Plain (b ∷ [])
plain-one b h = rw (le-ltb b 32 h)

plain-digit : (n : ℕ) → Plain (digit_of n ∷ [])
plain-digit n = cases (ltb n 10) (λ e. rw e (plain-one (48 + n) (omega arith))) (λ e. rw e (plain-one (55 + n) (omega arith)))

plain-hex : (b : ℕ) → Plain (hex_of b)
plain-hex b = plain-append (digit_of (b / 16) ∷ []) (digit_of (b % 16) ∷ []) (plain-digit (b / 16)) (plain-digit (b % 16))

plain_word : (n : ℕ) → Plain (word_hex_of n)
plain_word n = plain-append (hex_of (n / 256)) (hex_of (n % 256)) (plain-hex (n / 256)) (plain-hex (n % 256))

plain-hexes : (l : List ℕ) → Plain (hexes_of l)
plain-hexes [] = refl
plain-hexes (b ∷ l) = plain-append (hex_of b) (hexes_of l) (plain-hex b) (plain-hexes l)

plain-decimals : (f n : ℕ) → Plain (decimals f n)
plain-decimals zero n = refl
plain-decimals (suc f) n =
    cases (ltb n 10) (λ e. rw e (plain-one (48 + n % 10) (omega arith)))
    (λ e. rw e (plain-append (decimals f (n / 10)) ((48 + n % 10) ∷ []) (plain-decimals f (n / 10)) (plain-one (48 + n % 10) (omega arith))))

plain-decimal : (n : ℕ) → Plain (decimal_of n)
unfolding decimal_of
plain-decimal n = plain-decimals (suc n) n

plain-counted : (word : List ℕ) (n : ℕ) → Plain word → Plain (counted word n)
plain-counted word n p = plain-append word (decimal_of n) p (plain-decimal n)

plain-values : (values reply : List ℕ) → Plain (values_of values reply)
plain-values [] reply = refl
plain-values (a ∷ []) reply = plain-append (ascii " ") (word_hex_of a) refl (plain_word a)
plain-values (a ∷ b ∷ l) reply = plain-append (ascii " ") (hexes_of reply) refl (plain-hexes reply)

plain-word-of : (w : Word) → Plain (word_of w)
unfolding word_of
plain-word-of w = checks-are Plain (words w) [] (refl, (refl, (refl, (refl, (refl, (refl, (refl, tt))))))) (λ _. refl)

plain-text : (x : Said) (reply : List ℕ) → Plain (text_of x reply)
unfolding text_of
plain-text (refused n) reply = plain-counted (ascii " refused ") n refl
plain-text (says w values) reply =
    plain-append (ascii " ") (word_of w ++ values_of values reply) refl (plain-append (word_of w) (values_of values reply) (plain-word-of w) (plain-values values reply))

-- ---- lines

the_end : Line lf
the_end = record { front = []; is = refl; plain = refl }

-- a plain text before a line
before : (a l : List ℕ) → Plain a → Line l → Line (a ++ l)
before a l p h = record {
  front = a ++ h.front;
  is = ap (λ (x : List ℕ). a ++ x) h.is ∙ sym (append_assoc a h.front lf);
  plain = plain-append a h.front p h.plain;
}

-- a word and a number before a line
number-before : (word : List ℕ) (n : ℕ) (l : List ℕ) → Plain word → Line l → Line (counted word n ++ l)
number-before word n l p h = before (counted word n) l (plain-counted word n p) h

totals-ends : (v w x y z : ℕ) → Line (totals_line v w x y z)
totals-ends v w x y z =
    let space : List ℕ = ascii " " in
    let a = number-before space z lf refl the_end in
    let b = number-before space y (counted space z ++ lf) refl a in
    let c = number-before space x (counted space y ++ (counted space z ++ lf)) refl b in
    let d = number-before space w (counted space x ++ (counted space y ++ (counted space z ++ lf))) refl c in
    number-before (ascii "totals ") v (counted space w ++ (counted space x ++ (counted space y ++ (counted space z ++ lf)))) refl d

-- an item that has a line
abbrev Said-something : Item → Type 0
Said-something (Came k o) = Unit {0}
Said-something (Over t) = Unit {0}
Said-something (Broken n) = Unit {0}
Said-something (Refused r) = Unit {0}
Said-something TooLong = Unit {0}
Said-something Nothing = ⊥

item-ends : (i : Item) → Said-something i → Line (line_of i)
unfolding line_with
item-ends (Came k o) h =
    let t = text_of (said_outcome o) (reply_in (Came k o)) in
    before (decimal_of k) (t ++ lf) (plain-decimal k) (before t lf (plain-text (said_outcome o) (reply_in (Came k o))) the_end)
item-ends (Over t) h = totals-ends t.accepted t.answered t.given t.waiting t.owing
item-ends (Broken n) h = number-before (ascii "broken ") n lf refl the_end
item-ends (Refused r) h = number-before (ascii "table refused ") (number_of r) lf refl the_end
item-ends TooLong h = record { front = ascii "too long"; is = refl; plain = refl }
item-ends Nothing h = absurd h

-- ---- all lines

steps-end : (rows : List Row) (past : List history.Step) (k : ℕ) (m : Steps) → All Line (map line_of (items_of rows past k m))
steps-end rows past k over = (item-ends (Over _) tt, tt)
steps-end rows past k (broken b) = (item-ends (Broken b) tt, tt)
steps-end rows past k (then st m) = (item-ends (Came k _) tt, steps-end rows (called st ∷ past) (k + 1) m)

checked-end : (c : Result ⊤ Refusal) (rows : List Row) (m : Steps) → All Line (map line_of (checked_items c rows m))
checked-end (Ok tt) rows m = steps-end rows [] 1 m
checked-end (Err r) rows m = (item-ends (Refused r) tt, tt)

script-ends : (rows : List Row) (m : Script) → All Line (map line_of (script_items rows m))
script-ends rows (torn n) = (item-ends (Broken n) tt, tt)
script-ends rows (begins m) = checked-end (judge_table rows) rows m
script-ends rows (row-then a o m) = script-ends (record { address = a; opened = o } ∷ rows) m

pub every-line : (s : List ℕ) → All Line (prescribed s)
unfolding run_of
every-line s =
    cases (ltb 65536 (length s)) (λ e. rw e (item-ends TooLong tt, tt)) (λ e. rw e (script-ends [] (script_of 1 (file_of s))))
