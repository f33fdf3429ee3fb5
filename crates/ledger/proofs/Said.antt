-- What is said of a message: the returns of the writers over plain values, and that no line is longer than 1,024 bytes. Assumes nothing.
use Prim.Native.Nat.{◌-◌, ◌<◌, ℕ, ◌≤◌}
use Rattle.tapa.specs.declared.Refusal.{Refusal}
use Rattle.std.specs.Prelude.{Result, Option, Some, None, Ok, Err}
use mathlib.Core.List.{◌++◌, List, [], ◌∷◌}
use mathlib.Core.Path.{ap, sym, ◌∙◌, ◌≡◌}
use native.Mathlib.Omega.{arith}
use lib.ListN.{drop, length, length-append, length-take, replicate, take}
use lib.Seq.{take_all, take-length}
use Rattle.book.specs.declared.Book.{Book}
use Rattle.image.specs.Image.{Storable}
use Rattle.ledger.specs.Ledger.{Hearing, blank, heard, line_of, said_line, said_text}
use Rattle.lines.proofs.Short.{table-short}
use Rattle.lines.specs.Lines.{counted, lf}
use Rattle.lists.proofs.Onto.{prefix}
use Rattle.lists.specs.Lists.{Bytes}
use Rattle.store.proofs.Kept.{sound-kept}
use Rattle.store.specs.Store.{Handling, Answered, handled}
use Rattle.store.specs.declared.Handled.{Handled}
use Rattle.tapa.specs.Refusals.{number_of}
use Rattle.text.proofs.Laws.{five-digits, hexes-length}
use Rattle.text.specs.Text.{Pen, ascii, decimal_of, hexes_of, pen, puts}

-- ---- the reply's first bytes

module _ (n k : ℕ) (s : List ℕ) where
  pub some_bytes : k ≡ n → take (k - 0) (drop 0 s) ≡ take n s
  some_bytes e = prefix k s ∙ ap (λ (j : ℕ). take j s) e

  pub all-bytes : length s ≤ n → k ≡ length s → take (k - 0) (drop 0 s) ≡ take n s
  all-bytes h e = prefix k s ∙ (ap (λ (j : ℕ). take j s) e ∙ (take-length s ∙ sym (take_all n s h)))

-- ---- what was written for the case that the match found is what the answer says

pub say : (p q : Pen) (a found : Result (Option ℕ) Refusal) (reply : List ℕ) → a ≡ found → q ≡ puts p (said_text found reply) → q ≡ puts p (said_text a reply)
say p q a found reply e f = rw e f

-- ---- the store was asked, and the line was written

module _ (b : Book) (area message : List ℕ) (ok : Storable b area) (bytes : Bytes message)
    (area' reply : List ℕ) (h : Handled) (g : Handling (handled b area message (replicate 398 0)) area' reply h) (long : length reply ≡ 398) where
  pub hears : (n at : ℕ) (old new : List ℕ) (used : ℕ) → pen new used ≡ puts (pen old at) (said_line n h.answer reply)
      → Hearing n (heard b area message) old at area' new (record { used = used; book = h.next })
  unfolding blank
  hears n at old new used e =
      record {
        text = e ∙ (λ i. puts (pen old at) (said_line n (g.answer i) (g.reply' i)));
        book = g.next;
        area' = g.area';
        storable = record { law = g.law; sound = rw (g.next, g.area') (sound-kept b area message (replicate 398 0) ok.law bytes ok.sound) };
        long = ap length (sym g.reply') ∙ long;
      }

-- ---- a line is short

said-short : (n : ℕ) (a : Result (Option ℕ) Refusal) (reply : List ℕ) → n < 100000 → length reply ≡ 398 → length (said_line n a reply) ≤ 1024
said-short n (Ok (Some m)) reply h e =
    let r = hexes_of (take m reply) in
    let t = ascii " reply " ++ r in
    omega (
      arith,
      length-append (decimal_of n) (t ++ (10 ∷ [])),
      length-append t (10 ∷ []),
      length-append (ascii " reply ") r,
      hexes-length (take m reply),
      length-take m reply,
      five-digits n h,
    )
said-short n (Ok None) reply h e = omega (arith, length-append (decimal_of n) (10 ∷ []), five-digits n h)
said-short n (Err r) reply h e =
    let d = decimal_of (number_of r) in
    let t = ascii " refused " ++ d in
    omega (
      arith,
      length-append (decimal_of n) (t ++ (10 ∷ [])),
      length-append t (10 ∷ []),
      length-append (ascii " refused ") d,
      length-append (counted (ascii "table refused ") (number_of r)) lf,
      length-append (ascii "table refused ") d,
      table-short r,
      five-digits n h,
    )

pub line-short : (n : ℕ) (w : Answered) → n < 100000 → length w.reply ≡ 398 → length (line_of n w) ≤ 1024
line-short n w h e = said-short n w.answer w.reply h e
