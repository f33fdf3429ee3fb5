-- A text that is written from the page's start on stands at its front, as far as the page goes; so a part is forms alone. Assumes nothing.
use Prim.Native.Nat.{ℕ, ◌≤◌, ◌<◌}
use mathlib.Core.Path.{◌≡◌, refl, sym, ap, ◌∙◌}
use mathlib.Core.Bool.{true, false}
use mathlib.Core.List.{List, [], ◌∷◌, ◌++◌, append-nil}
use native.Mathlib.Omega.{arith}
use lib.Dec.{ltb}
use lib.ListN.{length, take, drop, take-append-drop, drop_of_length-le}
use lib.Seq.{length-take-le, take_all, take-append_seam}
use borrow.Table.Steps.{cases}
use borrow.Author.Tests.{lt-ltb, le-ltb, ltb-true, ltb-false}
use Rattle.text.specs.Text.{Pen, pen, pushed, puts}
use Rattle.text.proofs.Laws.{puts_none, puts-append, puts-fit, puts-length, puts-inside, more as after-it}
use Rattle.run.specs.declared.Session.{Session}
use Rattle.run.specs.declared.Turn.{Turn}
use Rattle.run.specs.State.{Ready, Turns}
use Rattle.run.proofs.Left.{none_left}
use Rattle.forms.specs.Forms.{forms_text}
use Rattle.picture.specs.Picture.{no-form, more-forms, Drawn, Added, Rows, none, row, Part}

-- ---- the page's front

-- at the page's end nothing is written
pushes-none : (l : List ℕ) (b : ℕ) → pushed (pen l (length l)) b ≡ pen l (length l)
pushes-none l b = rw (le-ltb (length l) (length l) (omega arith))

at-end : (l t : List ℕ) → puts (pen l (length l)) t ≡ pen l (length l)
unfolding puts
at-end l [] = refl
at-end l (b ∷ t) = ap (λ (p : Pen). puts p t) (pushes-none l b) ∙ at-end l t

-- a text that is as long as the page, or longer
over-end : (l t : List ℕ) → length l ≤ length t → puts (pen l 0) t ≡ pen (take (length l) t) (length l)
over-end l t h =
    let u : List ℕ = take (length l) t in
    let n : length u ≡ length l = length-take-le (length l) t h in
    let d : u ++ drop (length u) l ≡ u = ap (λ (x : List ℕ). u ++ x) (drop_of_length-le l {i = length u} (omega (arith, n))) ∙ append-nil u in
    let f : puts (pen l 0) u ≡ pen u (length u) = puts-fit l u (omega (arith, n)) ∙ ap (λ (x : List ℕ). pen x (length u)) d in
    ap (puts (pen l 0)) (sym (take-append-drop (length l) t))
    ∙ (sym (puts-append (pen l 0) u (drop (length l) t))
    ∙ (ap (λ (p : Pen). puts p (drop (length l) t)) f
    ∙ (at-end u (drop (length l) t)
    ∙ ap (pen u) n)))

module _ (old new t : List ℕ) (used : ℕ) (e : pen new used ≡ puts (pen old 0) t) where
  same_length : length new ≡ length old
  same_length = ap (λ (x : Pen). length x.bytes) e ∙ puts-length (pen old 0) t

  fits : length t ≤ length old → take used new ≡ take (length new) t
  fits h =
      let f : pen new used ≡ pen (t ++ drop (length t) old) (length t) = e ∙ puts-fit old t h in
      let a : used ≡ length t = ap (λ (x : Pen). x.at) f in
      rw (ap (λ (x : Pen). x.bytes) f, a) (take-append_seam t (drop (length t) old)) ∙ sym (take_all (length new) t (omega (arith, same_length)))

  cut : length old ≤ length t → take used new ≡ take (length new) t
  cut h =
      let f : pen new used ≡ pen (take (length old) t) (length old) = e ∙ over-end old t h in
      let a : used ≡ length old = ap (λ (x : Pen). x.at) f in
      let b : new ≡ take (length old) t = ap (λ (x : Pen). x.bytes) f in
      take_all used new (omega (arith, a, same_length)) ∙ (b ∙ ap (λ (n : ℕ). take n t) (sym same_length))

  pub front : take used new ≡ take (length new) t
  front = cases (ltb (length old) (length t)) (λ h. cut (omega (arith, ltb-true (length old) (length t) h))) (λ h. fits (ltb-false (length old) (length t) h))

  pub inside : used ≤ length new
  inside =
      let a : used ≡ (puts (pen old 0) t).at = ap (λ (x : Pen). x.at) e in
      let b : length new ≡ length (puts (pen old 0) t).bytes = ap (λ (x : Pen). length x.bytes) e in
      omega (arith, a, b, puts-inside t (pen old 0) (omega arith))

-- ---- a part, from the contracts of what it calls

-- forms, from the contract of `show_forms::put_list`
pub drawn : (sheet old new list : List ℕ) (count used : ℕ) → pen new used ≡ puts (pen old 0) (forms_text sheet list count) → Drawn sheet new used
drawn sheet old new list count used e = record {
  all = forms_text sheet list count;
  forms = more-forms [] no-form list count;
  text = front old new (forms_text sheet list count) used e;
  inside = inside old new (forms_text sheet list count) used e;
}

-- ---- the loop of `fill_page`

-- where fewer bytes are used than the page has, all was written
whole : (old new t : List ℕ) (used : ℕ) → pen new used ≡ puts (pen old 0) t → length new ≡ 65536 → used ≤ 32768 → length t ≤ 32768
whole old new t used e r h =
    let n : length new ≡ length old = same_length old new t used e in
    cases (ltb (length old) (length t))
    (λ b. let a : used ≡ length old = ap (λ (x : Pen). x.at) (e ∙ over-end old t (omega (arith, ltb-true (length old) (length t) b))) in absurd (omega (arith, a, n, r, h)))
    (λ b. let a : used ≡ length t = ap (λ (x : Pen). x.at) (e ∙ puts-fit old t (ltb-false (length old) (length t) b)) in omega (arith, a, h))

-- used bytes of the page are the rows from w to v
pub record Going (s sheet page₀ : List ℕ) (w : Session) (page : List ℕ) (v : Session) (used : ℕ) : Type 0 where
  pub all : List ℕ
  pub rows : Rows s sheet w v all
  pub written : pen page used ≡ puts (pen page₀ 0) all
  pub ready : Ready v

pub going : (s sheet page : List ℕ) (w : Session) → Ready w → Going s sheet page w page w 0
going s sheet page w h = record { all = []; rows = none; written = sym (puts_none (pen page 0)); ready = h }

module _ (s sheet page₀ : List ℕ) (w : Session) (page : List ℕ) (v : Session) (used : ℕ) (go : Going s sheet page₀ w page v used) where
  pub page-full : 32768 < used → Part s w sheet page (record { used = used; more = true; next = v })
  page-full h = record {
    all = go.all;
    rows = go.rows;
    text = front page₀ page go.all used go.written;
    inside = inside page₀ page go.all used go.written;
    more = sym (lt-ltb 32768 used h);
    last = λ e. let z : ◌≡◌ {A = ℕ} 0 1 = cc in absurd (omega arith);
    ready = go.ready;
  }

  module _ (t : Turn) (g : Turns s v t) (h : used ≤ 32768) where
    pub page-turn : (page' : List ℕ) (used' : ℕ) → t.more ≡ true → Added sheet page used page' used' → Going s sheet page₀ w page' t.next used'
    page-turn page' used' y a =
        let f : List ℕ = forms_text sheet a.list a.count in
        record {
          all = go.all ++ f;
          rows = row v go.all go.rows (whole page₀ page go.all used go.written a.room h) t g y a.list a.count;
          written = after-it (pen page₀ 0) (pen page used) (pen page' used') go.all f go.written a.text;
          ready = g.ready;
        }

    pub page-stop : t.more ≡ false → Part s w sheet page (record { used = used; more = false; next = v })
    page-stop y = record {
      all = go.all;
      rows = go.rows;
      text = front page₀ page go.all used go.written;
      inside = inside page₀ page go.all used go.written;
      more = sym (le-ltb 32768 used h);
      last = λ e. (none_left s v t g y).0;
      ready = go.ready;
    }
