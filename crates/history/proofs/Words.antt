-- What an outcome ends, by its word.
use Prim.Native.Nat.{ℕ}
use mathlib.Core.Path.{◌≡◌, refl}
use mathlib.Core.Bool.{Bool, true, false, ◌&&◌}
use lib.Dec.{eqb}
use borrow.Author.Tests.{eqb-true}
use Rattle.lists.proofs.Tests.{split, clash, and_yes}
use Rattle.tapa.specs.Said.{Word, answered, swallowed, given, reset, Said, refused, says, rank, has_word}
use Rattle.place.specs.declared.Place.{Place}
use Rattle.places.specs.Places.{is_open, is_owed, on_thread, asks_exactly, owes_exactly, owed_by}
use Rattle.rules.specs.declared.Outcome.{Outcome}
use Rattle.rules.specs.Said.{said_outcome}
use Rattle.history.specs.History.{is_swallowed, is_reset, ends_wait, ends_one, named, ends}

-- an outcome has one word
other_word : (w u : Word) (s : Said) → has_word w s ≡ true → has_word u s ≡ eqb (rank u) (rank w)
other_word w u (refused n) e = clash false e refl
other_word w u (says x values) e = rw (eqb-true (rank w) (rank x) e)

module _ (o : Outcome) (p : Place) where
  pub ends-wait : ends_wait o ≡ true → ends o p ≡ asks_exactly (named o).asked (named o).thread p
  ends-wait w = rw w

  pub ends-owing : is_swallowed o ≡ true → ends o p ≡ owes_exactly (named o).asked (named o).thread p
  ends-owing s = rw (other_word swallowed answered (said_outcome o) s, other_word swallowed given (said_outcome o) s, s)

  pub ends-reset : is_reset o ≡ true → ends o p ≡ owed_by (named o).asked p
  ends-reset r =
      rw (other_word reset answered (said_outcome o) r, other_word reset given (said_outcome o) r, other_word reset swallowed (said_outcome o) r, r)

-- a place of exactly this address, on this thread
exactly : (b : Bool) (a t : ℕ) (p : Place) → ((b && on_thread t p) && eqb p.asked a) ≡ true → (p.asked ≡ a) × (p.thread ≡ t)
exactly b a t p e =
    let q = and_yes (b && on_thread t p) (eqb p.asked a) e in
    (eqb-true p.asked a q.1, eqb-true p.thread t (and_yes b (on_thread t p) q.0).1)

pub aimed : (o : Outcome) (p : Place) → ends_one o ≡ true → ends o p ≡ true → (p.asked ≡ (named o).asked) × (p.thread ≡ (named o).thread)
aimed o p e k =
    split (ends_wait o)
    (λ w. exactly (is_open p) (named o).asked (named o).thread p (rw (ends-wait o p w) at k))
    (λ w. exactly (is_owed p) (named o).asked (named o).thread p (rw (ends-owing o p (rw w at e)) at k))
