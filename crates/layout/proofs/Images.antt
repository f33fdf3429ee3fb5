-- Whole images: what is written by the layout is an image, whose parts are found again; and what is an image is written so.
use Prim.Native.Nat.{◌*◌, ◌+◌, ◌-◌, ℕ, ◌≤◌}
use mathlib.Core.Bool.{true}
use mathlib.Core.List.{◌++◌, List, append_assoc}
use mathlib.Core.Path.{ap, refl, sym, ◌∙◌, ◌≡◌}
use native.Mathlib.Omega.{arith}
use lib.ListN.{drop, length, length-append, take, take-append-drop}
use lib.Seq.{drop_at, drop-drop, take-add, take_at}
use Rattle.adler.specs.Adler.{adler32}
use Rattle.book.specs.Book.{Limits}
use Rattle.book.specs.declared.Entry.{Entry}
use Rattle.book.specs.declared.Kind.{Kind}
use Rattle.layout.proofs.Readers.{entries-count}
use Rattle.layout.proofs.Back.{entries-back, entries-long, entries-of, kinds-back, kinds-limits, kinds-long, kinds-of, rows_of, word_back, word_of}
use Rattle.layout.proofs.Verdicts.{Imaged}
use Rattle.layout.specs.Judged.{count_in, entries_at, entries_in, kinds_at, rows_fit, slots_in, sound, table_fits, table_in}
use Rattle.layout.specs.Layout.{body_of, entry_bytes, flat, kind_bytes, sealed, size_of, sum_bytes}
use Rattle.lists.specs.Lists.{All, Bytes}
use Rattle.tapa.specs.Numbers.{two_bytes}

-- ---- the table's 16 rows, by their number

module _ (img : List ℕ) (k : ℕ) (e : k ≡ 16) where
  table-rows : kinds_at img 14 k ≡ table_in img
  unfolding table_in
  table-rows = ap (kinds_at img 14) e

  table_fits_lem : rows_fit img 14 k ≡ table_fits img
  unfolding table_fits
  table_fits_lem = ap (rows_fit img 14) e

-- ---- what is written is an image, with the very parts

module _ (ks : List Kind) (l : List Entry) (slots : List ℕ) (files : length ks ≡ 16) (full : length slots ≡ length l * 383) where
  abbrev body : List ℕ
  body = body_of ks l slots

  abbrev img : List ℕ
  img = sealed body

  abbrev end : List ℕ
  end = sum_bytes (adler32 body)

  table-long : length (flat kind_bytes ks) ≡ 48
  table-long = kinds-long ks ∙ omega arith

  body-long : length body ≡ 64 + length l * 389
  body-long = simp length-append (omega (arith, table-long, entries-long l))

  pub written-long : length img ≡ size_of (length l)
  written-long = length-append body end ∙ omega (arith, body-long)

  -- where the parts stand
  at_table : drop 14 img ≡ flat kind_bytes ks ++ (two_bytes (length l) ++ (flat entry_bytes l ++ (slots ++ end)))
  at_table = simp append_assoc

  at_count : drop 62 img ≡ two_bytes (length l) ++ (flat entry_bytes l ++ (slots ++ end))
  at_count = sym (drop-drop 48 14 img) ∙ ap (drop 48) at_table ∙ drop_at (flat kind_bytes ks) (two_bytes (length l) ++ (flat entry_bytes l ++ (slots ++ end))) 48 table-long

  at-entries : drop 64 img ≡ flat entry_bytes l ++ (slots ++ end)
  at-entries = sym (drop-drop 2 62 img) ∙ ap (drop 2) at_count

  at_slots : drop (64 + length l * 6) img ≡ slots ++ end
  at_slots = sym (drop-drop (length l * 6) 64 img) ∙ ap (drop (length l * 6)) at-entries ∙ drop_at (flat entry_bytes l) (slots ++ end) (length l * 6) (entries-long l)

  pub table_of : table_in img ≡ ks
  table_of = sym (table-rows img (length ks) files) ∙ kinds-of img (two_bytes (length l) ++ (flat entry_bytes l ++ (slots ++ end))) 14 ks at_table

  count_of : count_in img ≡ length l
  count_of = word_of img (flat entry_bytes l ++ (slots ++ end)) 62 (length l) at_count

  pub entries-are : entries_in img ≡ l
  entries-are = ap (entries_at img 64) count_of ∙ entries-of img (slots ++ end) 64 l at-entries

  pub slots-from : drop (64 + count_in img * 6) img ≡ slots ++ end
  slots-from = ap (λ (n : ℕ). drop (64 + n * 6) img) count_of ∙ at_slots

  pub slots-are : slots_in img ≡ slots
  slots-are = (λ i. take (count_of i * 383) (slots-from i)) ∙ take_at slots end (length l * 383) full

  pub written_is : All Limits ks → length l ≤ 256 → sound ks l slots ≡ true → Imaged img
  written_is limits few good =
      let m : length body ≡ length img - 4 = omega (arith, body-long, written-long) in
      record {
        line = refl;
        long = written-long ∙ ap size_of (sym count_of);
        sum = drop_at body end (length img - 4) m ∙ ap (λ (z : List ℕ). sum_bytes (adler32 z)) (sym (take_at body end (length img - 4) m));
        table = sym (table_fits_lem img (length ks) files) ∙ rows_of img (two_bytes (length l) ++ (flat entry_bytes l ++ (slots ++ end))) 14 ks limits at_table;
        few = rw count_of few;
        good = (λ i. sound (table_of i) (entries-are i) (slots-are i)) ∙ good;
      }

-- ---- what is an image is written so

five : (img : List ℕ) (n : ℕ)
    → take (64 + n * 389) img ≡ take 14 img ++ (take 48 (drop 14 img) ++ (take 2 (drop 62 img) ++ (take (n * 6) (drop 64 img) ++ take (n * 383) (drop (64 + n * 6) img))))
five img n =
    ap (λ (k : ℕ). take k img) (let e : 64 + n * 389 ≡ 14 + (48 + (2 + (n * 6 + n * 383))) = omega arith in e)
    ∙ take-add 14 (48 + (2 + (n * 6 + n * 383))) img
    ∙ ap (λ (z : List ℕ). take 14 img ++ z) (take-add 48 (2 + (n * 6 + n * 383)) (drop 14 img)
    ∙ ap (λ (z : List ℕ). take 48 (drop 14 img) ++ z) (ap (take (2 + (n * 6 + n * 383))) (drop-drop 48 14 img) ∙ take-add 2 (n * 6 + n * 383) (drop 62 img)
    ∙ ap (λ (z : List ℕ). take 2 (drop 62 img) ++ z) (ap (take (n * 6 + n * 383)) (drop-drop 2 62 img) ∙ take-add (n * 6) (n * 383) (drop 64 img)
    ∙ ap (λ (z : List ℕ). take (n * 6) (drop 64 img) ++ take (n * 383) z) (drop-drop (n * 6) 64 img))))

module _ (img : List ℕ) (bytes : Bytes img) (f : Imaged img) where
  pub table-limits : All Limits (table_in img)
  table-limits = rw (← table-rows img 16 refl) (kinds-limits img bytes 14 16 (table_fits_lem img 16 refl ∙ f.table))

  kinds-were : flat kind_bytes (table_in img) ≡ take 48 (drop 14 img)
  kinds-were = ap (flat kind_bytes) (sym (table-rows img 16 refl)) ∙ kinds-back img 14 16 (omega (arith, f.long)) (table_fits_lem img 16 refl ∙ f.table)

  count-was : two_bytes (length (entries_in img)) ≡ take 2 (drop 62 img)
  count-was = ap two_bytes (entries-count img 64 (count_in img)) ∙ word_back img 62 bytes (omega (arith, f.long))

  entries-were : flat entry_bytes (entries_in img) ≡ take (count_in img * 6) (drop 64 img)
  entries-were = entries-back img 64 (count_in img) bytes (omega (arith, f.long))

  body-was : body_of (table_in img) (entries_in img) (slots_in img) ≡ take (length img - 4) img
  body-was =
      (λ i. sym f.line i ++ (kinds-were i ++ (count-was i ++ (entries-were i ++ slots_in img))))
      ∙ sym (five img (count_in img)) ∙ ap (λ (n : ℕ). take n img) (let e : 64 + count_in img * 389 ≡ length img - 4 = omega (arith, f.long) in e)

  pub image-is : img ≡ sealed (body_of (table_in img) (entries_in img) (slots_in img))
  image-is = sym (take-append-drop (length img - 4) img) ∙ ap (λ (z : List ℕ). take (length img - 4) img ++ z) f.sum ∙ ap sealed (sym body-was)
