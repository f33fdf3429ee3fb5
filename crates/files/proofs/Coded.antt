-- Checks by their code: passed where it is '0000', else failed with it.
use Prim.Native.Nat.{ℕ}
use mathlib.Core.Bool.{false, true}
use mathlib.Core.Path.{◌≡◌}
use lib.Dec.{eqb}
use borrow.Author.Tests.{eqb-false, eqb-true}
use Rattle.std.specs.Prelude.{Err, Ok}
use Rattle.files.specs.Coded.{Refused, passing}
use Rattle.lists.proofs.Tests.{split}
use Rattle.tapa.specs.Codes.{successful}

pub passed : (n : ℕ) → passing n ≡ Ok tt → n ≡ successful
passed n e =
    split (eqb n successful) (λ t. eqb-true n successful t) (λ t. let z : Err n ≡ Ok tt = rw t at e in absurd (cc))

pub record Failing (n m : ℕ) : Type 0 where
  pub same : m ≡ n
  pub other : n ≡ successful → ⊥

pub failing : (n m : ℕ) → passing n ≡ Err m → Failing n m
failing n m e =
    split (eqb n successful)
    (λ t. let z : Ok tt ≡ Err m = rw t at e in absurd (cc))
    (λ t. let z : Err n ≡ Err m = rw t at e in record { same = cc; other = eqb-false n successful t })
