-- The walk over the entries that drops those whose file is not made: what is kept so far, and what is left to see.
use Prim.Native.Nat.{◌+◌, ◌<◌, ℕ, ◌≤◌}
use mathlib.Core.Bool.{Bool, cond, false, true}
use mathlib.Core.List.{◌++◌, List, [], append_assoc, append-nil, ◌∷◌}
use mathlib.Core.Path.{ap, refl, sym, ◌∙◌, ◌≡◌}
use native.Mathlib.Numerals.{add-one}
use native.Mathlib.Omega.{arith}
use lib.ListN.{drop, drop_of_length-le, get_or, length, length-append}
use lib.Seq.{drop-cons}
use borrow.Author.Tests.{lt-ltb}
use Rattle.book.proofs.Laws.{holds, law-len}
use Rattle.book.specs.Book.{Shaped, book_of, entries_of, no_entry, pushed_of}
use Rattle.book.specs.declared.Book.{Book}
use Rattle.book.specs.declared.Entry.{Entry}
use Rattle.book.specs.declared.Kind.{Kind}
use Rattle.file_commands.specs.Erasing.{housed, swept_area}
use Rattle.lists.specs.Lists.{keep}
use Rattle.slots.proofs.Slots.{wiped-long}
use Rattle.slots.specs.Slots.{wiped}

-- `list`: the entries kept so far and those to come; `bytes`: the slots still to wipe
pub record Going (ks : List Kind) (l : List Entry) (area₀ area : List ℕ) (out : Book) (i : ℕ) : Type 0 where
  pub early : i ≤ length l
  pub long : length area ≡ length area₀
  pub shape : Shaped out
  pub table : out.kinds ≡ ks
  pub few : out.count ≤ i
  pub list : entries_of out ++ keep (housed ks) (drop i l) ≡ keep (housed ks) l
  pub bytes : swept_area ks (drop i l) area ≡ swept_area ks l area₀

module _ (ks : List Kind) (l : List Entry) (area₀ : List ℕ) where
  pub going-first : (out : Book) → length ks ≡ 16 → out ≡ book_of ks [] → Going ks l area₀ area₀ out 0
  going-first out h e = record {
    early = omega arith;
    long = refl;
    shape = rw e (record { few = omega arith; whole = ap (book_of ks) (sym (holds ks [])); files = h });
    table = ap (λ (v : Book). v.kinds) e;
    few = rw e (omega arith);
    list = rw e (ap (λ (z : List Entry). z ++ keep (housed ks) l) (holds ks []));
    bytes = refl;
  }

  module _ (area : List ℕ) (out : Book) (i : ℕ) (g : Going ks l area₀ area out i) (h : i < length l) (x : Entry) (here : x ≡ get_or l i no_entry) where
    next : drop i l ≡ x ∷ drop (i + 1) l
    next = drop-cons l i no_entry h ∙ rw (← here, add-one)

    seen : (t : Bool) → housed ks x ≡ t → swept_area ks (drop i l) area ≡ swept_area ks (drop (i + 1) l) (cond t area (wiped area x.slot))
    seen t u = ap (λ (z : List Entry). swept_area ks z area) next ∙ ap (λ (q : Bool). swept_area ks (drop (i + 1) l) (cond q area (wiped area x.slot))) u

    pub going-hit : (area' : List ℕ) (out' : Book) → housed ks x ≡ false → area' ≡ wiped area x.slot → out' ≡ out → Going ks l area₀ area' out' (i + 1)
    going-hit area' out' u ea eo =
        let k : keep (housed ks) (drop i l) ≡ keep (housed ks) (drop (i + 1) l) = ap (keep (housed ks)) next ∙ rw u in
        rw (ea, eo) (record {
          early = omega arith;
          long = wiped-long area x.slot ∙ g.long;
          shape = g.shape;
          table = g.table;
          few = omega (arith, g.few);
          list = ap (λ (z : List Entry). entries_of out ++ z) (sym k) ∙ g.list;
          bytes = sym (seen false u) ∙ g.bytes;
        })

    pub going-keep : (area' : List ℕ) (out' : Book) → length l ≤ 256 → housed ks x ≡ true → area' ≡ area → out' ≡ pushed_of out x → Going ks l area₀ area' out' (i + 1)
    going-keep area' out' m u ea eo =
        let k : keep (housed ks) (drop i l) ≡ x ∷ keep (housed ks) (drop (i + 1) l) = ap (keep (housed ks)) next ∙ rw u in
        let l' : List Entry = entries_of out ++ x ∷ [] in
        let n : length l' ≡ out.count + 1 = length-append (entries_of out) (x ∷ []) ∙ omega (arith, law-len out g.shape) in
        let o : out' ≡ book_of out.kinds l' = eo ∙ rw (lt-ltb out.count 256 (omega (arith, g.few))) in
        rw (ea, o) (record {
          early = omega arith;
          long = g.long;
          shape = record { few = omega (arith, n, g.few); whole = ap (book_of out.kinds) (sym (holds out.kinds l')); files = g.shape.files };
          table = g.table;
          few = omega (arith, n, g.few);
          list = ap (λ (z : List Entry). z ++ keep (housed ks) (drop (i + 1) l)) (holds out.kinds l')
              ∙ append_assoc (entries_of out) (x ∷ []) (keep (housed ks) (drop (i + 1) l)) ∙ ap (λ (z : List Entry). entries_of out ++ z) (sym k) ∙ g.list;
          bytes = sym (seen true u) ∙ g.bytes;
        })

  pub going-last : (area : List ℕ) (out : Book) (i : ℕ) → Going ks l area₀ area out i → length l ≤ i
      → (out ≡ book_of ks (keep (housed ks) l)) × (area ≡ swept_area ks l area₀)
  going-last area out i g h =
      let e : drop i l ≡ [] = drop_of_length-le l {i = i} h in
      let a : entries_of out ++ [] ≡ keep (housed ks) l = rw e at g.list in
      let w : area ≡ swept_area ks l area₀ = rw e at g.bytes in
      (g.shape.whole ∙ ap (λ (k : List Kind). book_of k (entries_of out)) g.table ∙ ap (book_of ks) (sym (append-nil (entries_of out)) ∙ a), w)
