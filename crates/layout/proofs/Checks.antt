-- The verdict, check by check: what each one says where those before it found nothing wrong. Assumes nothing.
use Prim.Native.Nat.{◌<◌, ℕ, ◌≤◌}
use Rattle.std.specs.Prelude.{Ok, Err}
use mathlib.Core.Bool.{Bool, cond, false, true}
use mathlib.Core.List.{List}
use mathlib.Core.Path.{sym, ◌≡◌}
use lib.Dec.{eqb}
use lib.ListN.{length}
use borrow.Author.Tests.{eq-eqb, le-ltb, lt-ltb, ne_eqb}
use Rattle.layout.specs.Judged.{count_in, fits, is_named, is_version, sum_fits, verdict_of}
use Rattle.layout.specs.Layout.{size_of}
use Rattle.layout.specs.declared.Flaw.TheVariants.{Bent, Cut, Foreign, Sum, Version}

module _ (img : List ℕ) where
  pub is-foreign : is_named img ≡ false → Err Foreign ≡ verdict_of img
  unfolding verdict_of
  is-foreign n = sym (rw n)

  module _ (n : is_named img ≡ true) where
    pub is-stub : length img < 14 → Err Cut ≡ verdict_of img
    unfolding verdict_of
    is-stub h = sym (rw (n, lt-ltb (length img) 14 h))

    module _ (h : 14 ≤ length img) where
      pub is-other : is_version img ≡ false → Err Version ≡ verdict_of img
      unfolding verdict_of
      is-other v = sym (rw (n, le-ltb (length img) 14 h, v))

      module _ (v : is_version img ≡ true) where
        pub is-short : length img < 68 → Err Cut ≡ verdict_of img
        unfolding verdict_of
        is-short k = sym (rw (n, le-ltb (length img) 14 h, v, lt-ltb (length img) 68 k))

        module _ (k : 68 ≤ length img) where
          pub is_cut : (length img ≡ size_of (count_in img) → ⊥) → Err Cut ≡ verdict_of img
          unfolding verdict_of
          is_cut e = sym (rw (n, le-ltb (length img) 14 h, v, le-ltb (length img) 68 k, ne_eqb (length img) (size_of (count_in img)) e))

          module _ (e : length img ≡ size_of (count_in img)) where
            long : eqb (length img) (size_of (count_in img)) ≡ true
            long = eq-eqb (length img) (size_of (count_in img)) e

            pub is-summed : sum_fits img ≡ false → Err Sum ≡ verdict_of img
            unfolding verdict_of
            is-summed s = sym (rw (n, le-ltb (length img) 14 h, v, le-ltb (length img) 68 k, long, s))

            pub is-judged : sum_fits img ≡ true → (b : Bool) → fits img ≡ b → cond b (Ok tt) (Err Bent) ≡ verdict_of img
            unfolding verdict_of
            is-judged s true f = sym (rw (n, le-ltb (length img) 14 h, v, le-ltb (length img) 68 k, long, s, f))
            is-judged s false f = sym (rw (n, le-ltb (length img) 14 h, v, le-ltb (length img) 68 k, long, s, f))
