-- The pages of a session, from the first to the last, are the text that its input prescribes. Assumes nothing.
use Prim.Native.Nat.{ℕ, ◌-◌, ◌≤◌, ◌<◌}
use mathlib.Core.Path.{◌≡◌, refl, sym, ap, ◌∙◌}
use mathlib.Core.Bool.{true, false}
use mathlib.Core.List.{List, [], ◌∷◌, ◌++◌, map, append-nil, append_assoc}
use native.Mathlib.Omega.{arith}
use lib.Dec.{ltb}
use lib.ListN.{length, take, drop, length-drop}
use lib.Seq.{take-append_seam}
use borrow.Table.Steps.{cases}
use borrow.Author.Tests.{le-ltb}
use Rattle.lists.proofs.Joined.{joined-more, joined-split}
use Rattle.lists.specs.Lists.{joined}
use Rattle.text.specs.Text.{Pen, pen}
use Rattle.text.proofs.Laws.{puts-fit, puts-length}
use Rattle.run.specs.declared.Item.{Item}
use Rattle.run.specs.declared.Session.{Session}
use Rattle.run.specs.Start.{Begins}
use Rattle.transcript.specs.Prescribed.{line_of, prescribed, lines_left}
use Rattle.pages.specs.declared.Page.{Page}
use Rattle.pages.specs.Pages.{fitting, full, Paged}

-- ---- one page

module _ (s : List ℕ) (w : Session) (old new : List ℕ) (p : Page) (g : Paged s w old new p) where
  -- it holds the next bytes of the text, and what is left comes after it
  pub page-text : joined (lines_left s w) ≡ take p.used new ++ joined (lines_left s p.next)
  page-text =
      let ls : List (List ℕ) = lines_left s w in
      let k : ℕ = fitting (length old) ls in
      let t : List ℕ = joined (take k ls) in
      let n : length new ≡ length old = ap (λ (x : Pen). length x.bytes) g.text ∙ puts-length (pen old 0) t in
      let e : pen new p.used ≡ pen (t ++ drop (length t) old) (length t) = g.text ∙ puts-fit old t (omega (arith, g.size, g.inside)) in
      let f : take p.used new ≡ t = rw (ap (λ (x : Pen). x.bytes) e, g.size) (take-append_seam t (drop (length t) old)) in
      joined-split k ls ∙ rw (f, g.left)

-- fewer lines are left after a page that was full
few-fit : (n : ℕ) (ls : List (List ℕ)) → fitting n ls ≤ length ls
few-fit n [] = omega arith
few-fit n (l ∷ ls) = cases (ltb n 64) (λ e. rw e (omega arith)) (λ e. rw e (omega (arith, few-fit (n - length l) ls)))

one-fits : (n : ℕ) (ls : List (List ℕ)) → 64 ≤ n → full n ls ≡ true → 1 ≤ fitting n ls
one-fits n [] h e = let z : ◌≡◌ {A = ℕ} 0 1 = cc (le-ltb n 64 h) in absurd (omega arith)
one-fits n (l ∷ ls) h e = rw (le-ltb n 64 h) (omega arith)

pub fewer : (s : List ℕ) (w : Session) (old new : List ℕ) (p : Page) → Paged s w old new p → 64 ≤ length old → p.more ≡ true
    → length (lines_left s p.next) < length (lines_left s w)
fewer s w old new p g h e =
    let ls : List (List ℕ) = lines_left s w in
    let k : ℕ = fitting (length old) ls in
    omega (arith, ap length g.left, length-drop k ls, few-fit (length old) ls, one-fits (length old) ls h (sym g.more ∙ e))

-- none are left after one that was not
none_left : (n : ℕ) (ls : List (List ℕ)) → full n ls ≡ false → drop (fitting n ls) ls ≡ []
none_left n [] = λ e. refl
none_left n (l ∷ ls) =
    cases (ltb n 64) (λ b. rw b (λ e. let z : ◌≡◌ {A = ℕ} 0 1 = cc in absurd (omega arith))) (λ b. rw b (λ e. none_left (n - length l) ls e))

-- ---- all pages

-- the pages of a session so far, in order, as the contracts of `session_begun::begin` and `fill_page` tell it: each is the used part of its buffer
pub data Printed (s : List ℕ) : Session → List (List ℕ) → Type 0 where
  begun : (w : Session) → Begins s w → Printed s w []
  filled : (w : Session) (pages : List (List ℕ)) → Printed s w pages
      → (old new : List ℕ) (p : Page) → Paged s w old new p
      → Printed s p.next (pages ++ (take p.used new ∷ []))

so_far : (s : List ℕ) (w : Session) (pages : List (List ℕ)) → Printed s w pages → joined (prescribed s) ≡ joined pages ++ joined (lines_left s w)
so_far s w pages (begun v b) = ap (λ (l : List Item). joined (map line_of l)) (sym b.all)
so_far s w pages (filled v ps h old new p g) =
    so_far s v ps h
    ∙ (ap (λ (x : List ℕ). joined ps ++ x) (page-text s v old new p g)
    ∙ (sym (append_assoc (joined ps) (take p.used new) (joined (lines_left s p.next)))
    ∙ ap (λ (x : List ℕ). x ++ joined (lines_left s p.next)) (sym (joined-more ps (take p.used new)))))

-- from the first page to the one that says that there is no more: the prescribed lines, joined
pub whole-text : (s : List ℕ) (w : Session) (pages : List (List ℕ)) → Printed s w pages
    → (old new : List ℕ) (p : Page) → Paged s w old new p → p.more ≡ false
    → joined (pages ++ (take p.used new ∷ [])) ≡ joined (prescribed s)
whole-text s w pages h old new p g e =
    let z : lines_left s p.next ≡ [] = g.left ∙ none_left (length old) (lines_left s w) (sym g.more ∙ e) in
    sym (so_far s p.next (pages ++ (take p.used new ∷ [])) (filled w pages h old new p g)
    ∙ (ap (λ (l : List (List ℕ)). joined (pages ++ (take p.used new ∷ [])) ++ joined l) z ∙ append-nil (joined (pages ++ (take p.used new ∷ [])))))
