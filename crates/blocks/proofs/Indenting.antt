-- Words that are being set in: what is still to be written of them, and how long they get. Assumes nothing.
use Prim.Native.Nat.{ℕ, ◌+◌, ◌*◌, ◌≤◌, ◌<◌}
use mathlib.Core.Path.{◌≡◌, sym, ap, ◌∙◌}
use mathlib.Core.Bool.{Bool, true, false, cond}
use mathlib.Core.List.{List, [], ◌∷◌, ◌++◌}
use native.Mathlib.Omega.{arith}
use native.Mathlib.Numerals.{add-one}
use lib.Dec.{eqb}
use lib.ListN.{length, drop, get_or, drop_of_length-le}
use lib.Seq.{drop-cons, append_snoc}
use Rattle.text.specs.declared.Writer.{Writer}
use Rattle.text.specs.Text.{ascii, Writes}
use Rattle.text.proofs.Laws.{Left, left_more, left_none}
use Rattle.blocks.specs.Words.{indented_from, indented}

-- ---- the loop of `indent`: at each turn the words from i on are still to come

module _ (fresh : Bool) {p q : Writer} {all : List ℕ} (s : List ℕ) (i : ℕ) (e : Left p q (indented_from fresh (drop i s)) all) where
  -- one byte more
  pub turn : {r : Writer} → i < length s → Writes q r (cond fresh (ascii "    ") [] ++ (get_or s i 0 ∷ [])) → Left p r (indented_from (eqb (get_or s i 0) 10) (drop (i + 1) s)) all
  turn h g =
      let b : ℕ = get_or s i 0 in
      let pad : List ℕ = cond fresh (ascii "    ") [] in
      let rest : List ℕ = indented_from (eqb b 10) (drop (i + 1) s) in
      let d : drop i s ≡ b ∷ drop (i + 1) s = rw (add-one, drop-cons s i 0) in
      let o : indented_from fresh (drop i s) ≡ (pad ++ (b ∷ [])) ++ rest = ap (indented_from fresh) d ∙ sym (append_snoc pad b rest) in
      left_more (pad ++ (b ∷ [])) rest (rw o at e) g

  -- no word is left, and the last line is closed
  pub closed : length s ≤ i → fresh ≡ true → Writes p q all
  closed h b = left_none (rw (b, drop_of_length-le s {i = i} h) at e)

-- ---- four spaces for each byte at most, and one byte to close

long-from : (fresh : Bool) (w : List ℕ) → length (indented_from fresh w) ≤ 5 * length w + 1
long-from true [] = omega arith
long-from false [] = omega arith
long-from true (b ∷ w) = omega (arith, long-from (eqb b 10) w)
long-from false (b ∷ w) = omega (arith, long-from (eqb b 10) w)

pub long : (w : List ℕ) → length (indented w) ≤ 5 * length w + 1
unfolding indented
long w = long-from true w
