-- A page that is being filled: it holds whole lines, the first ones that were left. Assumes nothing.
use Prim.Native.Nat.{ℕ, suc, ◌+◌, ◌-◌, ◌≤◌, ◌<◌}
use mathlib.Core.Path.{◌≡◌, refl, sym, ap, ◌∙◌}
use mathlib.Core.Bool.{true, false}
use mathlib.Core.List.{List, [], ◌∷◌, map}
use native.Mathlib.Omega.{arith}
use lib.ListN.{length, take, drop, length-append}
use borrow.Author.Tests.{lt-ltb, le-ltb}
use Rattle.lists.proofs.Joined.{next-line}
use Rattle.lists.specs.Lists.{joined}
use Rattle.text.specs.Text.{Pen, pen, puts}
use Rattle.text.proofs.Laws.{puts_none, puts-at, puts-length, more as after-it}
use Rattle.run.specs.declared.Session.{Session}
use Rattle.run.specs.declared.Turn.{Turn}
use Rattle.run.specs.State.{Ready, sight_of, turned, Turns}
use Rattle.run.proofs.Left.{first-left, none_left, its-sight}
use Rattle.transcript.specs.Prescribed.{line_with, line_of, lines_left}
use Rattle.transcript.proofs.Short.{short}
use Rattle.pages.specs.Pages.{after, fitting, full, Paged}

-- ---- room

no_room : (n : ℕ) (ls : List (List ℕ)) → n < 64 → (fitting n ls ≡ 0) × (full n ls ≡ true)
no_room n [] h = (refl, lt-ltb n 64 h)
no_room n (l ∷ ls) h = (rw (lt-ltb n 64 h), rw (lt-ltb n 64 h))

-- ---- the loop

-- used bytes of the page stand for so many lines; v is the session after them
pub record Going (s page₀ : List ℕ) (w : Session) (page : List ℕ) (v : Session) (used : ℕ) : Type 0 where
  pub count : ℕ
  pub text : pen page used ≡ puts (pen page₀ 0) (joined (take count (lines_left s w)))
  pub size : used ≡ length (joined (take count (lines_left s w)))
  pub inside : used ≤ length page
  pub same : length page ≡ length page₀
  pub left : lines_left s v ≡ drop count (lines_left s w)
  pub moved : sight_of v ≡ after count s (sight_of w)
  pub fits : fitting (length page₀) (lines_left s w) ≡ count + fitting (length page - used) (drop count (lines_left s w))
  pub over : full (length page₀) (lines_left s w) ≡ full (length page - used) (drop count (lines_left s w))
  pub ready : Ready v

pub going : (s page : List ℕ) (w : Session) → Ready w → Going s page w page w 0
going s page w h =
    let e : length page - 0 ≡ length page = omega arith in
    record {
      count = 0;
      text = sym (puts_none (pen page 0));
      size = refl;
      inside = omega arith;
      same = refl;
      left = refl;
      moved = refl;
      fits = omega (arith, ap (λ (n : ℕ). fitting n (lines_left s w)) (sym e));
      over = ap (λ (n : ℕ). full n (lines_left s w)) (sym e);
      ready = h;
    }

module _ (s page₀ : List ℕ) (w : Session) (page : List ℕ) (v : Session) (used : ℕ) (go : Going s page₀ w page v used) where
  pub page-full : length page - used < 64 → Paged s w page₀ page (record { used = used; more = true; next = v })
  page-full h =
      let n = no_room (length page - used) (drop go.count (lines_left s w)) h in
      let k : fitting (length page₀) (lines_left s w) ≡ go.count = omega (arith, go.fits, n.0) in
      let m : full (length page₀) (lines_left s w) ≡ true = go.over ∙ n.1 in
      record {
        text = rw k go.text;
        size = rw k go.size;
        inside = go.inside;
        more = sym m;
        left = rw k go.left;
        moved = rw (m, k) go.moved;
        ready = go.ready;
      }

  module _ (t : Turn) (g : Turns s v t) (h : 64 ≤ length page - used) where
    pub page-turn : (page' : List ℕ) (used' : ℕ) → t.more ≡ true
        → pen page' used' ≡ puts (pen page used) (line_with t.item t.reply)
        → Going s page₀ w page' t.next used'
    page-turn page' used' y e =
        let ls : List (List ℕ) = lines_left s w in
        let l : List ℕ = line_of t.item in
        let f : pen page' used' ≡ puts (pen page used) l = e ∙ ap (λ (x : List ℕ). puts (pen page used) (line_with t.item x)) g.answer in
        let b : length l ≤ 64 = short t.item g.little in
        let at : used' ≡ used + length l = ap (λ (x : Pen). x.at) f ∙ puts-at l page used (omega (arith, go.inside)) in
        let len : length page' ≡ length page = ap (λ (x : Pen). length x.bytes) f ∙ puts-length (pen page used) l in
        let d : drop go.count ls ≡ l ∷ lines_left s t.next = sym go.left ∙ ap (map line_of) (first-left s v t g y) in
        let n = next-line go.count ls l (lines_left s t.next) d in
        let room : length page - used - length l ≡ length page' - used' = omega (arith, at, len) in
        record {
          count = suc go.count;
          text = after-it (pen page₀ 0) (pen page used) (pen page' used') (joined (take go.count ls)) l go.text f ∙ ap (puts (pen page₀ 0)) (sym n.0);
          size = omega (arith, at, go.size, ap length n.0, length-append (joined (take go.count ls)) l);
          inside = omega (arith, at, len, go.inside);
          same = len ∙ go.same;
          left = sym n.1;
          moved = its-sight s v t g ∙ ap (turned s) go.moved;
          fits = go.fits ∙ (rw (d, le-ltb (length page - used) 64 h, room, n.1) (omega arith));
          over = go.over ∙ rw (d, le-ltb (length page - used) 64 h, room, n.1);
          ready = g.ready;
        }

    pub page-stop : t.more ≡ false → Paged s w page₀ page (record { used = used; more = false; next = t.next })
    page-stop y =
        let ls : List (List ℕ) = lines_left s w in
        let n = none_left s v t g y in
        let d : drop go.count ls ≡ [] = sym go.left ∙ ap (map line_of) n.0 in
        let k : fitting (length page₀) ls ≡ go.count = go.fits ∙ rw d (omega arith) in
        let m : full (length page₀) ls ≡ false = go.over ∙ (ap (full (length page - used)) d ∙ le-ltb (length page - used) 64 h) in
        record {
          text = rw k go.text;
          size = rw k go.size;
          inside = go.inside;
          more = sym m;
          left = rw k (ap (map line_of) n.1 ∙ sym d);
          moved = rw (m, k) (its-sight s v t g ∙ ap (turned s) go.moved);
          ready = g.ready;
        }
