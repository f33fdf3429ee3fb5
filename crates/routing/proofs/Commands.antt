-- Any other type: what is done by what the rules say.
use Prim.Native.Nat.{ℕ, ◌≤◌, ◌<◌}
use mathlib.Core.Path.{◌≡◌, refl, ◌∙◌}
use mathlib.Core.List.{List}
use lib.ListN.{length}
use borrow.Author.Tests.{le-ltb}
use Rattle.lists.specs.Lists.{onto}
use Rattle.message.specs.declared.Head.{Head}
use Rattle.message.specs.Message.{responded, response_of}
use Rattle.place.specs.declared.Place.{Place}
use Rattle.places.specs.Places.{places_of, Becomes, pushed}
use Rattle.places.specs.Places as places
use Rattle.places.proofs.Room.{newest}
use Rattle.rules.specs.declared.Outcome.{Outcome}
use Rattle.rules.specs.declared.Outcome.TheVariants.{Passed}
use Rattle.rules.specs.Judge.{turned}
use Rattle.rules.specs.Apply.{place}
use Rattle.routing.specs.Steps.{Writing}

module _ (l : List ℕ) (n : ℕ) (g : places.Lawful l n) (h : Head) (o : Outcome) (b : List ℕ) where
  pub turns : (code : ℕ) (after : List ℕ) (u : Outcome)
      → u ≡ turned h code
      → turned h code ≡ o
      → 10 ≤ length b
      → after ≡ responded h.source h.destination h.thread code b
      → Writing o (places_of l n) l b after (record { outcome = u; len = n })
  turns code after u d e k w =
      let s : after ≡ onto (response_of h.source h.destination h.thread code) b = w ∙ rw (le-ltb (length b) 10 k) in
      rw (← e) (record { placing = record { outcome = d; places = record { holds = refl; law = g } }; reply = s })

  -- there is room, so the place is the newest
  pub passes : (more : ℕ) (m : List ℕ) (u : Outcome) (w : Place)
      → n < 48
      → u ≡ Passed h.source h.destination h.kind h.thread
      → w ≡ place h.source h.destination h.kind h.thread
      → Passed h.source h.destination h.kind h.thread ≡ o
      → Becomes m more (pushed w (places_of l n))
      → Writing o (places_of l n) m b b (record { outcome = u; len = more })
  passes more m u w k d f e p =
      rw (← e) (record { placing = record { outcome = d; places = record { holds = p.holds ∙ newest w l n k ∙ rw f; law = p.law } }; reply = refl })
