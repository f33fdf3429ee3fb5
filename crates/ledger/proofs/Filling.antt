-- A page that is being filled: it holds whole lines, the first ones that were left, and the store is the one that they leave. Assumes nothing.
use Prim.Native.Nat.{◌+◌, ◌-◌, ◌<◌, suc, zero, ℕ, ◌≤◌}
use mathlib.Core.Bool.{Bool, false, true}
use mathlib.Core.List.{◌++◌, List, [], ◌∷◌}
use mathlib.Core.Path.{ap, refl, sym, ◌∙◌, ◌≡◌}
use native.Mathlib.Numerals.{add-one}
use native.Mathlib.Omega.{arith}
use lib.ListN.{drop, length, length-append, length-drop, take}
use borrow.Author.Tests.{le-ltb, lt-ltb}
use Rattle.book.specs.declared.Book.{Book}
use Rattle.fields.specs.Places.{between, step_at}
use Rattle.image.specs.Image.{Storable}
use Rattle.ledger.proofs.Left.{lines_at_lem, lines_at, next-inside, store_at_lem, store_at}
use Rattle.ledger.proofs.Said.{line-short}
use Rattle.ledger.specs.Ledger.{Counted, Hearing, Paged, heard, line_of, next_of}
use Rattle.ledger.specs.declared.Cursor.{Cursor}
use Rattle.ledger.specs.declared.Heard.{Heard}
use Rattle.ledger.specs.declared.Next.TheVariants.{Broken, End, Message}
use Rattle.lines.proofs.Short.{broken-short}
use Rattle.lines.specs.Lines.{broken_line, long_line}
use Rattle.lists.proofs.Joined.{next-line}
use Rattle.lists.proofs.Tests.{clash}
use Rattle.lists.specs.Lists.{joined}
use Rattle.store.specs.Store.{Answered}
use Rattle.text.proofs.Laws.{more as after-it, puts-at, puts-inside, puts-length, puts_none}
use Rattle.text.specs.Text.{Pen, pen, puts}

-- ---- the page alone: its used bytes are so many of the lines ls

pub record Filled (old new : List ℕ) (used count : ℕ) (ls : List (List ℕ)) : Type 0 where
  pub text : pen new used ≡ puts (pen old 0) (joined (take count ls))
  pub size : used ≡ length (joined (take count ls))
  pub inside : used ≤ length new
  pub same : length new ≡ length old
  pub few : count ≤ length ls

filled_none : (page : List ℕ) (ls : List (List ℕ)) → Filled page page 0 0 ls
filled_none page ls = record { text = sym (puts_none (pen page 0)); size = refl; inside = omega arith; same = refl; few = omega arith }

-- one line more, which fits
filled_more : (old page new : List ℕ) (used next count : ℕ) (ls : List (List ℕ)) (l : List ℕ) (rest : List (List ℕ))
    → Filled old page used count ls → drop count ls ≡ l ∷ rest → used + length l ≤ length page
    → pen new next ≡ puts (pen page used) l
    → Filled old new next (count + 1) ls
filled_more old page new used next count ls l rest g d room e =
    let n = next-line count ls l rest d in
    let m : take (count + 1) ls ≡ take (suc count) ls = ap (λ (k : ℕ). take k ls) (add-one count) in
    let j : joined (take (count + 1) ls) ≡ joined (take count ls) ++ l = ap joined m ∙ n.0 in
    let at : next ≡ used + length l = ap (λ (x : Pen). x.at) e ∙ puts-at l page used room in
    let len : length new ≡ length page = ap (λ (x : Pen). length x.bytes) e ∙ puts-length (pen page used) l in
    record {
      text = after-it (pen old 0) (pen page used) (pen new next) (joined (take count ls)) l g.text e ∙ ap (puts (pen old 0)) (sym j);
      size = omega (arith, at, g.size, ap length j, length-append (joined (take count ls)) l);
      inside = omega (arith, at, len);
      same = len ∙ g.same;
      few = omega (arith, ap length d, length-drop count ls, g.few);
    }

-- ---- the loop

abbrev pub place : (at number : ℕ) → Cursor
place at n = record { at = at; number = n }

pub record Going (s old area₀ : List ℕ) (b₀ : Book) (at₀ n₀ : ℕ) (page area : List ℕ) (b : Book) (at n used count : ℕ) : Type 0 where
  pub filled : Filled old page used count (lines_at s b₀ area₀ at₀ n₀)
  pub left : lines_at s b area at n ≡ drop count (lines_at s b₀ area₀ at₀ n₀)
  pub stores : (k : ℕ) → store_at k s b area at n ≡ store_at (count + k) s b₀ area₀ at₀ n₀
  pub onwards : at₀ + count ≤ at
  pub counted : Counted (place at n)
  pub storable : Storable b area

pub going : (s old area : List ℕ) (b : Book) (at n : ℕ) → Storable b area → Counted (place at n) → Going s old area b at n old area b at n 0 0
going s old area b at n ok h =
    record {
      filled = filled_none old (lines_at s b area at n);
      left = refl;
      stores = λ k. let z : k ≡ 0 + k = omega arith in ap (λ (j : ℕ). store_at j s b area at n) z;
      onwards = omega arith;
      counted = h;
      storable = ok;
    }

module _ {s old area₀ : List ℕ} {b₀ : Book} {at₀ n₀ : ℕ} {page area : List ℕ} {b : Book} {at n used count : ℕ}
    (go : Going s old area₀ b₀ at₀ n₀ page area b at n used count) (short : length s ≤ 65536) where
  -- the page ends here
  stops : (m : Bool) → (m ≡ false → drop count (lines_at s b₀ area₀ at₀ n₀) ≡ []) → (m ≡ true → 1024 ≤ length old → at₀ < at)
      → Paged s b₀ area₀ (place at₀ n₀) old area page (record { used = used; lines = count; more = m; next = place at n; book = b })
  stops m last on =
      let t = le-ltb 65536 (length s) short in
      let f = go.filled in
      let z : count + 0 ≡ count = omega arith in
      record {
        text = rw t f.text;
        size = λ h. rw t f.size;
        inside = f.inside;
        store' = rw t (go.stores 0 ∙ ap (λ (k : ℕ). store_at k s b₀ area₀ at₀ n₀) z);
        few = rw t f.few;
        left = λ h. rw t go.left;
        stores = λ h k. rw t (go.stores k);
        last = λ h. rw t (last h);
        onwards = on;
        storable = go.storable;
        counted = go.counted;
      }

  -- there is no more room
  pub page-full : length page - used < 1024
      → Paged s b₀ area₀ (place at₀ n₀) old area page (record { used = used; lines = count; more = true; next = place at n; book = b })
  page-full h = stops true (λ e. clash true refl e) (λ e k. omega (arith, go.onwards, some count go.filled.size k))
    where
      some : (k : ℕ) → used ≡ length (joined (take k (lines_at s b₀ area₀ at₀ n₀))) → 1024 ≤ length old → 0 < k
      some zero e k = absurd (omega (arith, go.filled.same))
      some (suc k) e l = omega arith

  -- there is a line, and the next waits for another page
  pub page-parts : 0 < count
      → Paged s b₀ area₀ (place at₀ n₀) old area page (record { used = used; lines = count; more = true; next = place at n; book = b })
  page-parts h = stops true (λ e. clash true refl e) (λ e k. omega (arith, go.onwards))

  -- the input is over
  pub page-over : End ≡ next_of (step_at s at)
      → Paged s b₀ area₀ (place at₀ n₀) old area page (record { used = used; lines = count; more = false; next = place at n; book = b })
  page-over e = stops false (λ h. sym go.left ∙ lines_at_lem s b area at n End e) (λ h. clash false h refl)

  module _ (room : 1024 ≤ length page - used) (page' : List ℕ) where
    -- a field that is no message
    pub page-broken : (used' : ℕ) → Broken ≡ next_of (step_at s at) → pen page' used' ≡ puts (pen page used) (broken_line n)
        → Paged s b₀ area₀ (place at₀ n₀) old area page' (record { used = used'; lines = count + 1; more = false; next = place at n; book = b })
    page-broken used' e w =
        let t = le-ltb 65536 (length s) short in
        let ls : List (List ℕ) = lines_at s b₀ area₀ at₀ n₀ in
        let d : drop count ls ≡ broken_line n ∷ [] = sym go.left ∙ lines_at_lem s b area at n Broken e in
        let b64 = broken-short n (omega (arith, go.counted.number, go.counted.near)) in
        let f = filled_more old page page' used used' count ls (broken_line n) [] go.filled d (omega (arith, go.filled.inside)) w in
        let z : drop (count + 1) ls ≡ [] = ap (λ (k : ℕ). drop k ls) (add-one count) ∙ (next-line count ls (broken_line n) [] d).1 in
        record {
          text = rw t f.text;
          size = λ h. rw t f.size;
          inside = f.inside;
          store' = rw t (sym (store_at_lem s b area at n Broken e 0) ∙ go.stores 1);
          few = rw t f.few;
          left = λ h. clash false h refl;
          stores = λ h. clash false h refl;
          last = λ h. rw t z;
          onwards = λ h. clash false h refl;
          storable = go.storable;
          counted = go.counted;
        }

    -- a message
    module _ (start next : ℕ) (e : Message start next ≡ next_of (step_at s at)) where
      pub page-turn : (area' : List ℕ) (h : Heard) → Hearing n (heard b area (between s start next)) page used area' page' h
          → Going s old area₀ b₀ at₀ n₀ page' area' h.book next (n + 1) h.used (count + 1)
      page-turn area' h g =
          let i = next-inside s at (Message start next) e in
          let w : Answered = heard b area (between s start next) in
          let l : List ℕ = line_of n w in
          let ls : List (List ℕ) = lines_at s b₀ area₀ at₀ n₀ in
          let rest : List (List ℕ) = lines_at s w.book w.area next (n + 1) in
          let d : drop count ls ≡ l ∷ rest = sym go.left ∙ lines_at_lem s b area at n (Message start next) e in
          let fit = line-short n w (omega (arith, go.counted.number, go.counted.near)) g.long in
          let z : drop (count + 1) ls ≡ rest = ap (λ (k : ℕ). drop k ls) (add-one count) ∙ (next-line count ls l rest d).1 in
          record {
            filled = filled_more old page page' used h.used count ls l rest go.filled d (omega (arith, go.filled.inside)) g.text;
            left = rw (g.book, g.area') (sym z);
            stores = λ k. let m : count + suc k ≡ count + 1 + k = omega arith in
                rw (g.book, g.area') (sym (store_at_lem s b area at n (Message start next) e k) ∙ (go.stores (suc k) ∙ ap (λ (j : ℕ). store_at j s b₀ area₀ at₀ n₀) m));
            onwards = omega (arith, go.onwards, i.0, i.1);
            counted = record { number = omega (arith, go.counted.number, i.0, i.1); near = omega (arith, i.2) };
            storable = g.storable;
          }

-- a message leaves less of the input
pub turn-less : (s : List ℕ) (at start next : ℕ) → Message start next ≡ next_of (step_at s at) → length s - next < length s - at
turn-less s at start next e = let i = next-inside s at (Message start next) e in omega (arith, i.0, i.1, i.2)

-- ---- an input that is too long

pub page-long : (s old area : List ℕ) (b : Book) (at n : ℕ) (new : List ℕ) (used : ℕ) → 65536 < length s → Storable b area → Counted (place at n)
    → pen new used ≡ puts (pen old 0) long_line
    → Paged s b area (place at n) old area new (record { used = used; lines = 1; more = false; next = place at n; book = b })
page-long s old area b at n new used h ok c w =
    let t = lt-ltb 65536 (length s) h in
    let p : Pen = puts (pen old 0) long_line in
    let in' : p.at ≤ length p.bytes = puts-inside long_line (pen old 0) (omega arith) in
    record {
      text = rw t w;
      size = λ k. rw t (ap (λ (x : Pen). x.at) w ∙ puts-at long_line old 0 (omega arith));
      inside = omega (arith, in', ap (λ (x : Pen). x.at) w, ap (λ (x : Pen). length x.bytes) w);
      store' = rw t refl;
      few = rw t (omega arith);
      left = λ k. clash false k refl;
      stores = λ k. clash false k refl;
      last = λ k. rw t refl;
      onwards = λ k. clash false k refl;
      storable = ok;
      counted = c;
    }
