-- The pages of an input, from the first to the last, are the lines that it prescribes, and the store is the one that they leave. Assumes nothing.
use Prim.Native.Nat.{◌+◌, ℕ, ◌≤◌}
use mathlib.Core.Bool.{false, true}
use mathlib.Core.List.{◌++◌, List, [], ◌∷◌}
use mathlib.Core.Path.{ap, refl, sym, ◌∙◌, ◌≡◌}
use native.Mathlib.Omega.{arith}
use lib.Dec.{ltb}
use lib.ListN.{drop, length, length-append, length-drop, take}
use lib.Seq.{drop-drop, take_all, take-append_seam}
use Rattle.book.specs.declared.Book.{Book}
use Rattle.ledger.specs.Ledger.{Paged, lines_left, prescribed, start, store, store_after}
use Rattle.ledger.specs.declared.Cursor.{Cursor}
use Rattle.ledger.specs.declared.Page.{Page}
use Rattle.lists.proofs.Joined.{joined-more, joined-take}
use Rattle.lists.proofs.Tests.{split}
use Rattle.lists.specs.Lists.{joined}
use Rattle.text.proofs.Laws.{puts-fit, puts-length}
use Rattle.text.specs.Text.{Pen, pen}

-- ---- one page: its used bytes are the next lines

page-text : (s : List ℕ) (b : Book) (area : List ℕ) (c : Cursor) (old area' new : List ℕ) (p : Page) → Paged s b area c old area' new p → 1024 ≤ length old
    → take p.used new ≡ joined (take p.lines (lines_left s b area c))
page-text s b area c old area' new p g h =
    let t : List ℕ = joined (take p.lines (lines_left s b area c)) in
    let n : length new ≡ length old = ap (λ (x : Pen). length x.bytes) g.text ∙ puts-length (pen old 0) t in
    let e : pen new p.used ≡ pen (t ++ drop (length t) old) (length t) = g.text ∙ puts-fit old t (omega (arith, g.size h, g.inside)) in
    rw (ap (λ (x : Pen). x.bytes) e, g.size h) (take-append_seam t (drop (length t) old))

-- ---- all pages

-- the pages of an input so far, in order, as the contracts of `begin` and `fill_page` tell it: each is the used part of its buffer, and says that there may be more;
-- with the store and the place after them, and how many lines they are
pub data Printed (s : List ℕ) (b₀ : Book) (area₀ : List ℕ) : Book → List ℕ → Cursor → ℕ → List (List ℕ) → Type 0 where
  begun : (c : Cursor) → (c.at ≡ 0) × (c.number ≡ 1) → Printed s b₀ area₀ b₀ area₀ c 0 []
  filled : (b : Book) (area : List ℕ) (c : Cursor) (n : ℕ) (pages : List (List ℕ)) → Printed s b₀ area₀ b area c n pages
      → (old area' new : List ℕ) (p : Page) → 1024 ≤ length old → Paged s b area c old area' new p → p.more ≡ true
      → Printed s b₀ area₀ p.book area' p.next (n + p.lines) (pages ++ (take p.used new ∷ []))

-- so many lines of an input are printed, and their store is kept: what a program that stops here has told and done
pub record SoFar (s : List ℕ) (b₀ : Book) (area₀ : List ℕ) (b : Book) (area : List ℕ) (n : ℕ) (pages : List (List ℕ)) : Type 0 where
  pub text : joined pages ≡ joined (take n (prescribed s b₀ area₀))
  pub few : n ≤ length (prescribed s b₀ area₀)
  pub store' : store b area ≡ store_after n s b₀ area₀ start

-- and what is left comes after them
record Ahead (s : List ℕ) (b₀ : Book) (area₀ : List ℕ) (b : Book) (area : List ℕ) (c : Cursor) (n : ℕ) : Type 0 where
  left : lines_left s b area c ≡ drop n (prescribed s b₀ area₀)
  stores : (k : ℕ) → store_after k s b area c ≡ store_after (n + k) s b₀ area₀ start

module _ (s : List ℕ) (b₀ : Book) (area₀ : List ℕ) where
  abbrev all : List (List ℕ)
  all = prescribed s b₀ area₀

  -- a page more
  next-page : (b : Book) (area : List ℕ) (c : Cursor) (n : ℕ) (pages : List (List ℕ)) → SoFar s b₀ area₀ b area n pages → Ahead s b₀ area₀ b area c n
      → (old area' new : List ℕ) (p : Page) → 1024 ≤ length old → Paged s b area c old area' new p
      → SoFar s b₀ area₀ p.book area' (n + p.lines) (pages ++ (take p.used new ∷ []))
  next-page b area c n pages w go old area' new p h g =
      record {
        text = joined-more pages (take p.used new)
            ∙ (rw (w.text, page-text s b area c old area' new p g h, go.left) (sym (joined-take n p.lines all w.few)));
        few = omega (arith, g.few, ap length go.left, length-drop n all, w.few);
        store' = g.store' ∙ go.stores p.lines;
      }

  goes : (b : Book) (area : List ℕ) (c : Cursor) (n : ℕ) (pages : List (List ℕ)) → Printed s b₀ area₀ b area c n pages → Ahead s b₀ area₀ b area c n
  goes b area c n pages (begun _ e) =
      record {
        left = λ i. lines_left s b₀ area₀ (record { at = e.0 i; number = e.1 i });
        stores = λ k. let z : k ≡ 0 + k = omega arith in λ i. store_after (z i) s b₀ area₀ (record { at = e.0 i; number = e.1 i });
      }
  goes b area c n pages (filled b' area' c' m pages' w old _ new p h g e) =
      let go = goes b' area' c' m pages' w in
      record {
        left = g.left e ∙ (ap (drop p.lines) go.left ∙ drop-drop p.lines m all);
        stores = λ k. let z : m + (p.lines + k) ≡ m + p.lines + k = omega arith in
            g.stores e k ∙ (go.stores (p.lines + k) ∙ ap (λ (j : ℕ). store_after j s b₀ area₀ start) z);
      }

  -- after each page
  pub so_far : (b : Book) (area : List ℕ) (c : Cursor) (n : ℕ) (pages : List (List ℕ)) → Printed s b₀ area₀ b area c n pages → SoFar s b₀ area₀ b area n pages
  so_far b area c n pages (begun _ e) = record { text = refl; few = omega arith; store' = split (ltb 65536 (length s)) (λ t. rw t) (λ t. rw t) }
  so_far b area c n pages (filled b' area' c' m pages' w old _ new p h g e) =
      next-page b' area' c' m pages' (so_far b' area' c' m pages' w) (goes b' area' c' m pages' w) old area new p h g

  module _ (b : Book) (area : List ℕ) (c : Cursor) (n : ℕ) (pages : List (List ℕ)) (w : Printed s b₀ area₀ b area c n pages)
      (old area' new : List ℕ) (p : Page) (h : 1024 ≤ length old) (g : Paged s b area c old area' new p) (e : p.more ≡ false) where
    last-page : SoFar s b₀ area₀ p.book area' (n + p.lines) (pages ++ (take p.used new ∷ []))
    last-page = next-page b area c n pages (so_far b area c n pages w) (goes b area c n pages w) old area' new p h g

    all_lines : n + p.lines ≡ length all
    all_lines =
        let z : length (lines_left s b area c) ≤ p.lines = omega (arith, ap length (g.last e), length-drop p.lines (lines_left s b area c)) in
        omega (arith, last-page.few, ap length (goes b area c n pages w).left, length-drop n all)

    -- from the first page to the one that says that there is no more: the prescribed lines, joined
    pub whole-text : joined (pages ++ (take p.used new ∷ [])) ≡ joined all
    whole-text = last-page.text ∙ ap joined (take_all (n + p.lines) all (omega (arith, all_lines)))

    -- and the store is the one that all of them leave
    pub whole-store : store p.book area' ≡ store_after (length all) s b₀ area₀ start
    whole-store = last-page.store' ∙ ap (λ (k : ℕ). store_after k s b₀ area₀ start) all_lines

  -- ---- there is a last page: each goes on by a byte at least, and none ends past 65,536

  one_each : (b : Book) (area : List ℕ) (c : Cursor) (n : ℕ) (pages : List (List ℕ)) → Printed s b₀ area₀ b area c n pages → (length pages ≤ c.at) × (c.at ≤ 65536)
  one_each b area c n pages (begun _ e) = (omega arith, omega (arith, e.0))
  one_each b area c n pages (filled b' area' c' m pages' w old _ new p h g e) =
      let i = one_each b' area' c' m pages' w in
      (omega (arith, i.0, g.onwards e h, length-append pages' (take p.used new ∷ [])), g.counted.near)

  pub few-pages : (b : Book) (area : List ℕ) (c : Cursor) (n : ℕ) (pages : List (List ℕ)) → Printed s b₀ area₀ b area c n pages → length pages ≤ 65536
  few-pages b area c n pages w = let i = one_each b area c n pages w in omega (arith, i.0, i.1)
