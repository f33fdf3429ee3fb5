-- What the code finds in a whole field, over plain values: the field's contents are the n bytes from a place a on. Assumes nothing.
use Prim.Native.Nat.{ℕ, ◌+◌, ◌≤◌, ◌<◌}
use mathlib.Core.Path.{◌≡◌}
use mathlib.Core.List.{List}
use native.Mathlib.Omega.{arith}
use lib.Dec.{eqb}
use lib.ListN.{length, take, drop, get_or, length-drop}
use lib.Seq.{get_or-drop, get_or-take, length-take-le}
use borrow.Author.Tests.{eq-eqb, ne_eqb, lt-leb, le-leb}
use Rattle.tapa.specs.Numbers.{word_at}
use Rattle.fields.specs.Fields.{row_of, step_of}
use Rattle.fields.specs.Places.{row_placed, step_placed}
use Rattle.fields.specs.declared.NextRow.TheVariants.{Row, Torn}
use Rattle.fields.specs.declared.NextStep.TheVariants.{Message, GiveUp, Replaced, Broken}

module _ (s : List ℕ) (a n : ℕ) (h : a + n ≤ length s) where
  pub long : length (take n (drop a s)) ≡ n
  long = length-take-le n (drop a s) (omega (arith, length-drop a s))

  byte : (i k : ℕ) → i < n → a + i ≡ k → get_or (take n (drop a s)) i 0 ≡ get_or s k 0
  byte i k l p = rw (← p, get_or-take n (drop a s) i 0) (get_or-drop a s i 0)

  pub torn-long : (n ≡ 3 → ⊥) → Torn ≡ row_placed (a + n) (row_of (take n (drop a s)))
  unfolding row_of
  torn-long q = rw (long, ne_eqb n 3 q)

  pub torn-status : n ≡ 3 → 1 < get_or s (a + 2) 0 → Torn ≡ row_placed (a + n) (row_of (take n (drop a s)))
  unfolding row_of
  torn-status q g = rw (long, eq-eqb n 3 q, byte 2 (a + 2) (omega arith) (omega arith), lt-leb (get_or s (a + 2) 0) 1 g)

  pub row-whole : (x : ℕ) → n ≡ 3 → get_or s (a + 2) 0 ≤ 1 → x ≡ word_at s a
      → Row x (eqb (get_or s (a + 2) 0) 1) (a + n) ≡ row_placed (a + n) (row_of (take n (drop a s)))
  unfolding row_of
  row-whole x q g p =
      rw (
        long,
        eq-eqb n 3 q,
        byte 2 (a + 2) (omega arith) (omega arith),
        le-leb (get_or s (a + 2) 0) 1 g,
        byte 0 a (omega arith) (omega arith),
        byte 1 (a + 1) (omega arith) (omega arith),
        p,
      )

  module _ (t : ℕ) where
    pub is-message : t ≡ 2 → Message a (a + n) ≡ step_placed a (a + n) (step_of t (take n (drop a s)))
    unfolding step_of
    is-message p = rw p

    pub is-give-up : (x : ℕ) → t ≡ 3 → n ≡ 3 → x ≡ word_at s (a + 1)
        → GiveUp (get_or s a 0) x (a + n) ≡ step_placed a (a + n) (step_of t (take n (drop a s)))
    unfolding step_of
    is-give-up x p q g =
        rw (
          p,
          long,
          eq-eqb n 3 q,
          byte 0 a (omega arith) (omega arith),
          byte 1 (a + 1) (omega arith) (omega arith),
          byte 2 (a + 1 + 1) (omega arith) (omega arith),
          g,
        )

    pub no-give-up : t ≡ 3 → (n ≡ 3 → ⊥) → Broken ≡ step_placed a (a + n) (step_of t (take n (drop a s)))
    unfolding step_of
    no-give-up p q = rw (p, long, ne_eqb n 3 q)

    pub is-replaced : (x : ℕ) → t ≡ 4 → n ≡ 2 → x ≡ word_at s a → Replaced x (a + n) ≡ step_placed a (a + n) (step_of t (take n (drop a s)))
    unfolding step_of
    is-replaced x p q g =
        rw (p, long, eq-eqb n 2 q, byte 0 a (omega arith) (omega arith), byte 1 (a + 1) (omega arith) (omega arith), g)

    pub no-replaced : t ≡ 4 → (n ≡ 2 → ⊥) → Broken ≡ step_placed a (a + n) (step_of t (take n (drop a s)))
    unfolding step_of
    no-replaced p q = rw (p, long, ne_eqb n 2 q)

    pub no_step : (t ≡ 2 → ⊥) → (t ≡ 3 → ⊥) → (t ≡ 4 → ⊥) → Broken ≡ step_placed a (a + n) (step_of t (take n (drop a s)))
    unfolding step_of
    no_step p q u = rw (ne_eqb t 2 p, ne_eqb t 3 q, ne_eqb t 4 u)

-- ---- for the code: its returns close by these

pub ruleset row_kinds = (torn-long, torn-status, row-whole)

pub ruleset step_kinds = (is-message, is-give-up, no-give-up, is-replaced, no-replaced, no_step)
