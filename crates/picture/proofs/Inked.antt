-- A picture is forms of the sheet, whatever the input's bytes are; so each of its bytes is a digit or stands in a wording. Assumes nothing.
-- What the contracts leave open: which forms are drawn, and the bytes of a page behind its used part.
use Prim.Native.Nat.{ℕ, ◌≤◌, ◌<◌}
use mathlib.Core.Path.{◌≡◌, sym, ap, ◌∙◌}
use mathlib.Core.Bool.{true}
use mathlib.Core.List.{List, [], ◌∷◌, ◌++◌, append-nil}
use native.Mathlib.Omega.{arith}
use lib.ListN.{length, take}
use lib.Seq.{length-take-le, take-nil}
use borrow.Author.Tests.{ltb-true}
use Rattle.lists.specs.Lists.{joined, All}
use Rattle.lists.proofs.Joined.{joined-more}
use Rattle.lists.proofs.Members.{all_append, all_take}
use Rattle.lists.proofs.ByPlace.{all_snoc}
use Rattle.run.specs.declared.Session.{Session}
use Rattle.run.specs.State.{items_in}
use Rattle.run.proofs.Left.{fewer-left}
use Rattle.forms.specs.Forms.{forms_text}
use Rattle.forms.specs.Ink.{Ink}
use Rattle.forms.proofs.Ink.{list-inked}
use Rattle.picture.specs.declared.Page.{Page}
use Rattle.picture.specs.Picture.{Forms, no-form, more-forms, Drawn, Formed, Rows, none, row, Part, Pictured, begun, added}

-- ---- a page that is full leaves fewer items

few-left : (s sheet : List ℕ) (w v : Session) (text : List ℕ) → Rows s sheet w v text → length (items_in s v) ≤ length (items_in s w)
few-left s sheet w v text none = omega arith
few-left s sheet w v text (row u x h b t g y list count) = omega (arith, few-left s sheet w u x h, fewer-left s u t g y)

fewer-drawn : (s sheet : List ℕ) (w v : Session) (text : List ℕ) → Rows s sheet w v text → (n : ℕ) → 1 ≤ length (take n text)
    → length (items_in s v) < length (items_in s w)
fewer-drawn s sheet w v text none n k = absurd (omega (arith, ap length (take-nil {A = ℕ} n)))
fewer-drawn s sheet w v text (row u x h b t g y list count) n k = omega (arith, few-left s sheet w u x h, fewer-left s u t g y)

pub fewer : (s : List ℕ) (w : Session) (sheet page : List ℕ) (p : Page) → Part s w sheet page p → p.more ≡ true
    → length (items_in s p.next) < length (items_in s w)
fewer s w sheet page p g y =
    fewer-drawn s sheet w p.next g.all g.rows (length page)
    (omega (arith, ap length g.text, length-take-le p.used page g.inside, ltb-true 32768 p.used (sym g.more ∙ y)))

-- ---- one part

formed-part : (sheet new : List ℕ) (used : ℕ) → Drawn sheet new used → Formed sheet (take used new)
formed-part sheet new used d = record { all = d.all; forms = d.forms; room = length new; is = d.text }

forms-inked : (sheet text : List ℕ) → Forms sheet text → All (Ink sheet) text
forms-inked sheet text no-form = tt
forms-inked sheet text (more-forms x h list count) =
    all_append (Ink sheet) x (forms_text sheet list count) (forms-inked sheet x h) (list-inked sheet list count)

pub inked-part : (sheet new : List ℕ) (used : ℕ) → Drawn sheet new used → All (Ink sheet) (take used new)
inked-part sheet new used d = rw d.text (all_take (Ink sheet) (length new) d.all (forms-inked sheet d.all d.forms))

-- rows are forms
row-forms : (s sheet : List ℕ) (w v : Session) (text : List ℕ) → Rows s sheet w v text → Forms sheet text
row-forms s sheet w v text none = no-form
row-forms s sheet w v text (row u x h b t g y list count) = more-forms x (row-forms s sheet w u x h) list count

drawn-part : (s : List ℕ) (w : Session) (sheet page : List ℕ) (p : Page) → Part s w sheet page p → Drawn sheet page p.used
drawn-part s w sheet page p g = record {
  all = g.all;
  forms = row-forms s sheet w p.next g.all g.rows;
  text = g.text;
  inside = g.inside;
}

-- ---- all parts

-- one part more
more-ink : (sheet : List ℕ) (parts : List (List ℕ)) (page : List ℕ) (used : ℕ) → All (Ink sheet) (joined parts) → Drawn sheet page used
    → All (Ink sheet) (joined (parts ++ (take used page ∷ [])))
more-ink sheet parts page used a d =
    rw (joined-more parts (take used page)) (all_append (Ink sheet) (joined parts) (take used page) a (inked-part sheet page used d))

so_far : (s sheet : List ℕ) (w : Session) (parts : List (List ℕ)) → Pictured s sheet w parts → All (Ink sheet) (joined parts)
so_far s sheet w parts (begun v b page used d) = rw (append-nil (take used page)) (inked-part sheet page used d)
so_far s sheet w parts (added v ps h page p g) = more-ink sheet ps page p.used (so_far s sheet v ps h) (drawn-part s v sheet page p g)

-- from the beginning of the file to its end
pub all-inked : (s sheet : List ℕ) (w : Session) (parts : List (List ℕ)) → Pictured s sheet w parts
    → (page : List ℕ) (used : ℕ) → Drawn sheet page used
    → All (Ink sheet) (joined (parts ++ (take used page ∷ [])))
all-inked s sheet w parts h page used d = more-ink sheet parts page used (so_far s sheet w parts h) d

-- ---- and not only byte by byte: each part is whole forms, up to the end of its page

forms-so-far : (s sheet : List ℕ) (w : Session) (parts : List (List ℕ)) → Pictured s sheet w parts → All (Formed sheet) parts
forms-so-far s sheet w parts (begun v b page used d) = (formed-part sheet page used d, tt)
forms-so-far s sheet w parts (added v ps h page p g) =
    all_snoc (Formed sheet) ps (take p.used page) (forms-so-far s sheet v ps h) (formed-part sheet page p.used (drawn-part s v sheet page p g))

pub all-formed : (s sheet : List ℕ) (w : Session) (parts : List (List ℕ)) → Pictured s sheet w parts
    → (page : List ℕ) (used : ℕ) → Drawn sheet page used
    → All (Formed sheet) (parts ++ (take used page ∷ []))
all-formed s sheet w parts h page used d =
    all_snoc (Formed sheet) parts (take used page) (forms-so-far s sheet w parts h) (formed-part sheet page used d)
