-- What the rules say of a command is known by the outcome that it makes.
use Prim.Native.Nat.{ℕ}
use mathlib.Core.Path.{◌≡◌, refl, sym, ◌∙◌}
use Rattle.lists.proofs.Tests.{differ}
use Rattle.message.specs.declared.Head.{Head}
use Rattle.rules.specs.declared.Outcome.{Outcome}
use Rattle.std.specs.declared.result.Result.{Result}
use Rattle.std.specs.declared.result.Result.TheVariants.{Ok, Err}
use Rattle.ruling.specs.Ruling.{ruled}

pub one-rule-for : (h : Head) (o : Outcome) (x y : Result (Unit {0}) ℕ) → ruled h x ≡ o → ruled h y ≡ o → x ≡ y
one-rule-for h o x y a b = go x y (a ∙ sym b)
  where
    go : (x y : Result (Unit {0}) ℕ) → ruled h x ≡ ruled h y → x ≡ y
    go (Err c) (Err d) e = cc
    go (Err c) (Ok x) e = differ (cc)
    go (Ok x) (Err d) e = differ (cc)
    go (Ok x) (Ok y) e = refl
