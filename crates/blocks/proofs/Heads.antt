-- Of all that is written, the lines that begin with no space are the transcript, whatever the words are. Assumes nothing.
-- What the contracts leave open: the words, and the bytes of a page behind its used part.
use Prim.Native.Nat.{ℕ, ◌≤◌, ◌<◌}
use mathlib.Core.Path.{◌≡◌, sym, ap, ◌∙◌}
use mathlib.Core.Bool.{true, false}
use mathlib.Core.List.{List, [], ◌∷◌, ◌++◌, map, append-nil, append_assoc}
use native.Mathlib.Omega.{arith}
use lib.ListN.{length, take}
use lib.Seq.{length-take-le}
use borrow.Author.Tests.{ltb-true}
use Rattle.lists.specs.Lists.{joined, All}
use Rattle.lists.proofs.Joined.{joined-more}
use Rattle.run.specs.declared.Item.{Item}
use Rattle.run.specs.declared.Session.{Session}
use Rattle.run.specs.declared.Turn.{Turn}
use Rattle.run.specs.State.{items_in, Turns}
use Rattle.run.proofs.Left.{first-left, fewer-left}
use Rattle.transcript.specs.Prescribed.{line_of, prescribed, lines_left}
use Rattle.transcript.proofs.Ends.{Line, every-line}
use Rattle.blocks.specs.declared.Page.{Page}
use Rattle.blocks.specs.Words.{indented}
use Rattle.blocks.specs.Blocks.{heads, Blocks, none, block, Told, Explained, begun, told}
use Rattle.blocks.proofs.Shows.{Shows, shows_more, shows-heads, words-hidden, bare-line, line-shown}

-- ---- a page that is full leaves fewer items

few-left : (s : List ℕ) (w v : Session) (text : List ℕ) → Blocks s w v text → length (items_in s v) ≤ length (items_in s w)
few-left s w v text none = omega arith
few-left s w v text (block u x h b t g y words) = omega (arith, few-left s w u x h, fewer-left s u t g y)

fewer-told : (s : List ℕ) (w v : Session) (text : List ℕ) → Blocks s w v text → 1 ≤ length text → length (items_in s v) < length (items_in s w)
fewer-told s w v text none k = absurd (omega arith)
fewer-told s w v text (block u x h b t g y words) k = omega (arith, few-left s w u x h, fewer-left s u t g y)

pub fewer : (s : List ℕ) (w : Session) (page : List ℕ) (p : Page) → Told s w page p → p.more ≡ true
    → length (items_in s p.next) < length (items_in s w)
fewer s w page p g y =
    fewer-told s w p.next (take p.used page) g.blocks
    (omega (arith, length-take-le p.used page g.inside, ltb-true 24511 p.used (sym g.more ∙ y)))

-- ---- all blocks

-- what begins with no space so far is a first part of the transcript, and the lines after it are left
record So-far (s : List ℕ) (w : Session) (text : List ℕ) : Type 0 where
  begins : List ℕ
  shows : Shows text begins
  whole : joined (prescribed s) ≡ begins ++ joined (lines_left s w)
  lines : All Line (lines_left s w)

-- one block more
module _ (s : List ℕ) (w : Session) (text : List ℕ) (f : So-far s w text) (t : Turn) (g : Turns s w t) (y : t.more ≡ true) (words : List ℕ) where
  one_more : So-far s t.next (text ++ (line_of t.item ++ indented words))
  one_more =
      let l : List ℕ = line_of t.item in
      let d : lines_left s w ≡ l ∷ lines_left s t.next = ap (map line_of) (first-left s w t g y) in
      let a : All Line (l ∷ lines_left s t.next) = rw d at f.lines in
      let h : Shows l l = line-shown l a.0 (bare-line t.item (sym g.more ∙ y)) in
      let k : Shows (l ++ indented words) (l ++ []) = shows_more l l (indented words) [] h (words-hidden words) in
      record {
        begins = f.begins ++ (l ++ []);
        shows = shows_more text f.begins (l ++ indented words) (l ++ []) f.shows k;
        whole = f.whole ∙ rw (d, append-nil l, append_assoc f.begins l (joined (lines_left s t.next)));
        lines = a.1;
      }

-- one page more
page-more : (s : List ℕ) (w v : Session) (before text : List ℕ) → So-far s w before → Blocks s w v text → So-far s v (before ++ text)
page-more s w v before text f none = rw (append-nil before) f
page-more s w v before text f (block u x h b t g y words) =
    rw (← append_assoc before x (line_of t.item ++ indented words)) (one_more s u (before ++ x) (page-more s w u before x f h) t g y words)

so_far : (s : List ℕ) (w : Session) (parts : List (List ℕ)) → Explained s w parts → So-far s w (joined parts)
so_far s w parts (begun v b page used g) = record {
  begins = [];
  shows = rw (append-nil (take used page), g.text) (words-hidden g.words);
  whole = ap (λ (l : List Item). joined (map line_of l)) (sym b.all);
  lines = rw b.all (every-line s);
}
so_far s w parts (told v ps h page p g) =
    rw (joined-more ps (take p.used page)) (page-more s v p.next (joined ps) (take p.used page) (so_far s v ps h) g.blocks)

-- from the preface to the page that says that there is no more: the prescribed lines, joined
pub first-lines : (s : List ℕ) (w : Session) (parts : List (List ℕ)) → Explained s w parts
    → (page : List ℕ) (p : Page) → Told s w page p → p.more ≡ false
    → heads (joined (parts ++ (take p.used page ∷ []))) ≡ joined (prescribed s)
first-lines s w parts h page p g e =
    let all : List (List ℕ) = parts ++ (take p.used page ∷ []) in
    let f = so_far s p.next all (told w parts h page p g) in
    shows-heads (joined all) f.begins f.shows
    ∙ sym (f.whole ∙ (ap (λ (l : List Item). f.begins ++ joined (map line_of l)) (g.last e) ∙ append-nil f.begins))
