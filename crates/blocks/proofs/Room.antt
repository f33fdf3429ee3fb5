-- A page has room for a line and the words below it, where 24,511 bytes or fewer are used; so it holds its blocks whole. Assumes nothing.
use Prim.Native.Nat.{ℕ, ◌+◌, ◌≤◌, ◌<◌}
use mathlib.Core.Path.{◌≡◌, refl, sym, ap, ◌∙◌}
use mathlib.Core.Bool.{true, false}
use mathlib.Core.List.{List, [], ◌++◌}
use native.Mathlib.Omega.{arith}
use lib.ListN.{length, take, drop, length-append, length-take}
use lib.Seq.{take-append_seam}
use borrow.Author.Tests.{lt-ltb, le-ltb}
use Rattle.text.specs.Text.{Pen, pen, puts}
use Rattle.text.proofs.Laws.{puts_none, puts-fit, puts-at, puts-length, more as after-it}
use Rattle.run.specs.declared.Session.{Session}
use Rattle.run.specs.declared.Turn.{Turn}
use Rattle.run.specs.State.{Ready, Turns}
use Rattle.run.proofs.Left.{none_left}
use Rattle.transcript.specs.Prescribed.{line_with, line_of}
use Rattle.transcript.proofs.Short.{short}
use Rattle.blocks.specs.Words.{indented}
use Rattle.blocks.specs.Blocks.{Written, Noted, Put, Blocks, none, block, Told}
use Rattle.blocks.proofs.Indenting.{long}

-- a text that fits stands whole at the page's front
front : (old new t : List ℕ) (used : ℕ) → pen new used ≡ puts (pen old 0) t → length t ≤ length old → (take used new ≡ t) × (used ≤ length new)
front old new t used e h =
    let f : pen new used ≡ pen (t ++ drop (length t) old) (length t) = e ∙ puts-fit old t h in
    let n : length new ≡ length old = ap (λ (x : Pen). length x.bytes) e ∙ puts-length (pen old 0) t in
    let a : used ≡ length t = ap (λ (x : Pen). x.at) f in
    (rw (ap (λ (x : Pen). x.bytes) f, a) (take-append_seam t (drop (length t) old)), omega arith)

-- from the contract of `show_notes::note`: the words are those that were said
pub written : (old new words : List ℕ) (place said used : ℕ)
    → pen new used ≡ puts (pen old place) (indented (take said words))
    → length old ≡ 65536
    → length words ≡ 8192
    → Written old place new used
written old new words place said used e r n = record { words = take said words; few = omega (arith, length-take said words, n); room = r; text = e }

-- words alone
pub noted : (old new : List ℕ) (used : ℕ) → Written old 0 new used → Noted new used
noted old new used g =
    let h = front old new (indented g.words) used g.text (omega (arith, g.few, g.room, long g.words)) in
    record { words = g.words; text = h.0; inside = h.1 }

-- ---- the loop of `fill_page`

-- used bytes of the page are the blocks from w to v
pub record Going (s page₀ : List ℕ) (w : Session) (page : List ℕ) (v : Session) (used : ℕ) : Type 0 where
  pub text : List ℕ
  pub blocks : Blocks s w v text
  pub written : pen page used ≡ puts (pen page₀ 0) text
  pub size : used ≡ length text
  pub inside : used ≤ length page
  pub ready : Ready v

pub going : (s page : List ℕ) (w : Session) → Ready w → Going s page w page w 0
going s page w h = record {
  text = [];
  blocks = none;
  written = sym (puts_none (pen page 0));
  size = refl;
  inside = omega arith;
  ready = h;
}

module _ (s page₀ : List ℕ) (w : Session) (page : List ℕ) (v : Session) (used : ℕ) (go : Going s page₀ w page v used) where
  holds : (take used page ≡ go.text) × (used ≤ length page)
  holds =
      let n : length page ≡ length page₀ = ap (λ (x : Pen). length x.bytes) go.written ∙ puts-length (pen page₀ 0) go.text in
      front page₀ page go.text used go.written (omega (arith, n, go.size, go.inside))

  pub page-full : 24511 < used → Told s w page (record { used = used; more = true; next = v })
  page-full h = record {
    blocks = rw holds.0 go.blocks;
    inside = go.inside;
    more = sym (lt-ltb 24511 used h);
    last = λ z. let z : ◌≡◌ {A = ℕ} 0 1 = cc in absurd (omega arith);
    ready = go.ready;
  }

  module _ (t : Turn) (g : Turns s v t) (h : used ≤ 24511) where
    pub page-turn : (page' : List ℕ) (used' : ℕ) → t.more ≡ true → Put t page used page' used' → Going s page₀ w page' t.next used'
    page-turn page' used' y p =
        let l : List ℕ = line_of t.item in
        let words : List ℕ = p.below.words in
        let d : List ℕ = l ++ indented words in
        let e : pen p.mid p.end ≡ puts (pen page used) l = p.line ∙ ap (λ (x : List ℕ). puts (pen page used) (line_with t.item x)) g.answer in
        let f : pen page' used' ≡ puts (pen page used) d = after-it (pen page used) (pen p.mid p.end) (pen page' used') l (indented words) e p.below.text in
        let room : length page ≡ 65536 = sym (ap (λ (x : Pen). length x.bytes) e ∙ puts-length (pen page used) l) ∙ p.below.room in
        let b : length d ≤ 41025 = omega (arith, p.below.few, long words, short t.item g.little, length-append l (indented words)) in
        let at : used' ≡ used + length d = ap (λ (x : Pen). x.at) f ∙ puts-at d page used (omega (arith, room)) in
        let len : length page' ≡ length page = ap (λ (x : Pen). length x.bytes) f ∙ puts-length (pen page used) d in
        record {
          text = go.text ++ d;
          blocks = block v go.text go.blocks (omega (arith, go.size, h)) t g y words;
          written = after-it (pen page₀ 0) (pen page used) (pen page' used') go.text d go.written f;
          size = omega (arith, at, go.size, length-append go.text d);
          inside = omega (arith, at, len, room, b);
          ready = g.ready;
        }

    pub page-stop : t.more ≡ false → Told s w page (record { used = used; more = false; next = v })
    page-stop y = record {
      blocks = rw holds.0 go.blocks;
      inside = go.inside;
      more = sym (le-ltb 24511 used h);
      last = λ z. (none_left s v t g y).0;
      ready = go.ready;
    }
