-- Which bytes are images: `Ok` is said of them just where the first line, the length, the checksum and what they hold are right.
use Prim.Native.Nat.{◌-◌, ℕ, ◌≤◌}
use Rattle.std.specs.Prelude.{Result, Ok, Err, ⊤}
use mathlib.Core.Bool.{◌&&◌, Bool, false, not, true}
use mathlib.Core.List.{◌++◌, List, [], ◌∷◌}
use mathlib.Core.Path.{ap, refl, sym, ◌∙◌, ◌≡◌}
use native.Mathlib.Omega.{arith}
use lib.Dec.{eqb, leb, ltb}
use lib.ListN.{drop, length, take}
use lib.Seq.{take-add, take_all, take-take}
use borrow.Author.Tests.{eq-eqb, eqb-true, le-leb, le-ltb, leb-true, ltb-false, not-false}
use Rattle.adler.specs.Adler.{adler32}
use Rattle.layout.specs.Judged.{count_in, entries_in, fits, is_named, is_version, slots_in, sound, sum_fits, table_fits, table_in, verdict_of}
use Rattle.layout.specs.Layout.{name, size_of, sum_bytes, version}
use Rattle.layout.specs.declared.Flaw.{Flaw}
use Rattle.layout.specs.declared.Flaw.TheVariants.{Bent, Cut, Foreign, Sum, Version}
use Rattle.lists.proofs.Parts.{part-within}
use Rattle.lists.proofs.Same.{same-eq, same-yes}
use Rattle.lists.proofs.Tests.{and_yes, checks-are, checks-last, differ}
use Rattle.lists.specs.Lists.{All}

-- what an image is: its first line, its length, its checksum, and what it holds
pub record Imaged (img : List ℕ) : Type 0 where
  pub line : take 14 img ≡ name ++ version
  pub long : length img ≡ size_of (count_in img)
  pub sum : drop (length img - 4) img ≡ sum_bytes (adler32 (take (length img - 4) img))
  pub table : table_fits img ≡ true
  pub few : count_in img ≤ 256
  pub good : sound (table_in img) (entries_in img) (slots_in img) ≡ true

-- ---- `Ok` says just this

module _ (img : List ℕ) (n : 68 ≤ length img) where
  name-all : take (length img) name ≡ name
  name-all = take_all (length img) name (omega arith)

  line-is : is_named img ≡ true → is_version img ≡ true → take 14 img ≡ name ++ version
  line-is a c =
      let e : take 12 img ≡ name = same-eq (take 12 img) (take (length img) name) a ∙ name-all in
      let f : take 2 (drop 12 img) ≡ version = same-eq (take 2 (drop 12 img)) version c in
      take-add 12 2 img ∙ (λ i. e i ++ f i)

  line-named : take 14 img ≡ name ++ version → is_named img ≡ true
  line-named e = same-yes (take 12 img) (take (length img) name) (sym (take-take 12 14 img (omega arith)) ∙ ap (take 12) e ∙ sym name-all)

  line-version : take 14 img ≡ name ++ version → is_version img ≡ true
  line-version e = same-yes (take 2 (drop 12 img)) version (sym (part-within 12 2 14 img (omega arith)) ∙ ap (λ (l : List ℕ). take 2 (drop 12 l)) e)

-- the tests in their order, each with what is said where it passes
abbrev tests : List ℕ → List (Bool × Result ⊤ Flaw)
tests img =
    (not (is_named img), Err Foreign)
    ∷ (ltb (length img) 14, Err Cut)
    ∷ (not (is_version img), Err Version)
    ∷ (ltb (length img) 68, Err Cut)
    ∷ (not (eqb (length img) (size_of (count_in img))), Err Cut)
    ∷ (not (sum_fits img), Err Sum)
    ∷ (not (fits img), Err Bent)
    ∷ []

all-failed : (img : List ℕ) → All (λ (t : Bool × Result ⊤ Flaw). t.0 ≡ false) (tests img) → Imaged img
all-failed img t =
    let n : 68 ≤ length img = ltb-false (length img) 68 t.1.1.1.0 in
    let p = and_yes (table_fits img) (leb (count_in img) 256 && sound (table_in img) (entries_in img) (slots_in img)) (not-false (fits img) t.1.1.1.1.1.1.0) in
    let q = and_yes (leb (count_in img) 256) (sound (table_in img) (entries_in img) (slots_in img)) p.1 in
    record {
      line = line-is img n (not-false (is_named img) t.0) (not-false (is_version img) t.1.1.0);
      long = eqb-true (length img) (size_of (count_in img)) (not-false (eqb (length img) (size_of (count_in img))) t.1.1.1.1.0);
      sum = same-eq (drop (length img - 4) img) (sum_bytes (adler32 (take (length img - 4) img))) (not-false (sum_fits img) t.1.1.1.1.1.0);
      table = p.0;
      few = leb-true (count_in img) 256 q.0;
      good = q.1;
    }

pub whole_is : (img : List ℕ) → verdict_of img ≡ Ok tt → Imaged img
unfolding verdict_of
whole_is img =
    checks-are (λ (v : Result ⊤ Flaw). v ≡ Ok tt → Imaged img) (tests img) (Ok tt)
    (λ e. differ (cc), (λ e. differ (cc), (λ e. differ (cc), (λ e. differ (cc), (λ e. differ (cc), (λ e. differ (cc), (λ e. differ (cc), tt)))))))
    (λ t e. all-failed img t)

pub is-whole : (img : List ℕ) → Imaged img → verdict_of img ≡ Ok tt
unfolding verdict_of
is-whole img f =
    let n : 68 ≤ length img = omega (arith, f.long) in
    let named = line-named img n f.line in
    let versed = line-version img n f.line in
    let long = eq-eqb (length img) (size_of (count_in img)) f.long in
    let sum : sum_fits img ≡ true = same-yes (drop (length img - 4) img) (sum_bytes (adler32 (take (length img - 4) img))) f.sum in
    let held : fits img ≡ true = rw (f.table, le-leb (count_in img) 256 f.few) f.good in
    checks-last (tests img) (Ok tt)
    (rw named refl, (le-ltb (length img) 14 (omega arith), (rw versed refl, (le-ltb (length img) 68 n, (rw long refl, (rw sum refl, (rw held refl, tt)))))))
