-- The loop of `engrave`: what is left to engrave, byte by byte. Assumes nothing.
use Prim.Native.Nat.{ℕ, ◌+◌, ◌≤◌, ◌<◌}
use mathlib.Core.Path.{◌≡◌, ap, sym, ◌∙◌}
use mathlib.Core.List.{List}
use native.Mathlib.Numerals.{add-one}
use lib.ListN.{length, drop, get_or}
use lib.Seq.{drop-cons}
use lib.ListN.{drop_of_length-le}
use Rattle.forms.specs.Forms.{Stylus, nibbed, engraved_from}

-- one byte is engraved: the rest is left
pub one_more : (w : List ℕ) (i : ℕ) (x y : Stylus) (all : List ℕ) → i < length w → y ≡ nibbed x (get_or w i 0)
    → engraved_from x (drop i w) ≡ all → engraved_from y (drop (i + 1) w) ≡ all
one_more w i x y all h e f =
    ap (λ (z : Stylus). engraved_from z (drop (i + 1) w)) e
    ∙ (rw (add-one i) (ap (engraved_from x) (sym (drop-cons w i 0 h))) ∙ f)

-- nothing is left
pub no_more : (w : List ℕ) (i : ℕ) (x : Stylus) (all : List ℕ) → length w ≤ i → engraved_from x (drop i w) ≡ all → x.tip.bytes ≡ all
no_more w i x all h e = ap (engraved_from x) (sym (drop_of_length-le w {i = i} h)) ∙ e
