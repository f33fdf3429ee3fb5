-- Request 05 in the rules: who is answered, who is given up, and the tree that is left.
use Prim.Native.Nat.{ℕ, ◌≤◌}
use Rattle.std.specs.Prelude.{Some, Option, None}
use mathlib.Core.Path.{◌≡◌, refl, subst}
use mathlib.Core.Bool.{true, false}
use mathlib.Core.List.{List, ◌∷◌}
use lib.Dec.{eqb, ltb}
use borrow.Author.Tests.{eqb-true, ltb-false}
use Rattle.lists.specs.Lists.{some_of, first, without}
use Rattle.lists.proofs.Tests.{split, clash, differ, eqb_same}
use Rattle.lists.proofs.First.{first-yes, first-meets, none_passes}
use Rattle.lists.proofs.Kept.{without-within, changed-out}
use Rattle.tapa.specs.declared.Refusal.TheVariants.{ThreadAbove7, StrayResponse, WrongAsker, BufferTooSmall, HoldsAQuestion}
use Rattle.message.specs.declared.Head.{Head}
use Rattle.place.specs.declared.Place.{Place}
use Rattle.places.specs.Places.{open_on, asks_exactly, owes_exactly, holding, owing}
use Rattle.rules.specs.View.{View}
use Rattle.rules.specs.declared.Outcome.{Outcome}
use Rattle.rules.specs.declared.Outcome.TheVariants.{Passed, Answered, Swallowed, Given, Refused}
use Rattle.rules.specs.Judge.{answerable, late, reply, judge_response, yields, judge_give_up, Call, give_up, judge}
use Rattle.rules.specs.Apply.{place, places_after, applied}
use Rattle.rules.specs.Conduct.{Conduct}
use Rattle.rules.specs.Words.{tree_of, Rooted}
use Rattle.rules.proofs.Waits.{exact-on}
use Rattle.rules.proofs.Trees.{newest-holds-none}
use Rattle.rules.proofs.Allowed.{allowed}
use Rattle.rules.proofs.Kept.{conduct-kept}
use Rattle.rules.proofs.Words.{rooted-tree}
use Rattle.rules.proofs.Steps.{response-answered, give-up-holding, give-up-given}

-- ---- who is answered

-- a wait of the thread with exactly this source as its asked address, whose handler holds no question there, and whose asker is the destination
pub record Answers (places : List Place) (h : Head) : Type 0 where
  pub it : Place
  pub found : answerable places h.source h.thread ≡ Some it
  pub holds-none : holding places h.source h.thread ≡ false
  pub to-asker : it.asker ≡ h.destination

module _ (places : List Place) (h : Head) (code : ℕ) where
  -- 'A response answers its wait only if the answering handler holds no open question itself on that thread'
  pub answered-only : judge_response places h (Some code) ≡ Answered h.source h.destination h.thread code → Answers places h
  unfolding judge_response reply late
  answered-only e = go (answerable places h.source h.thread) refl e
    where
      go : (o : Option Place) → answerable places h.source h.thread ≡ o
          → reply places o h code ≡ Answered h.source h.destination h.thread code
          → Answers places h
      go None f e =
          split (some_of (owes_exactly h.source h.thread) places)
          (λ p. let z : Swallowed h.source h.thread ≡ Answered h.source h.destination h.thread code = rw p at e in differ (cc))
          (λ p. let z : Refused StrayResponse ≡ Answered h.source h.destination h.thread code = rw p at e in differ (cc))
      go (Some w) f e =
          split (holding places h.source h.thread)
          (λ p. let z : Refused StrayResponse ≡ Answered h.source h.destination h.thread code = rw p at e in differ (cc))
          (λ p. split (eqb w.asker h.destination)
          (λ q. record { it = w; found = f; holds-none = p; to-asker = eqb-true w.asker h.destination q })
          (λ q. let z : Refused WrongAsker ≡ Answered h.source h.destination h.thread code = rw (p, q) at e in differ (cc)))

  -- and then it does
  pub answered-then : Answers places h → judge_response places h (Some code) ≡ Answered h.source h.destination h.thread code
  answered-then a = response-answered places h (Some code) code refl a.it a.found a.holds-none a.to-asker

-- ---- who is given up

-- the address has a wait on the thread, and its handler holds a question there; 9 and 5 come before
pub record HeldUp (v : View) (room t a : ℕ) : Type 0 where
  pub enough : 10 ≤ room
  pub thread-small : t ≤ 7
  pub has-wait : some_of (asks_exactly a t) v.places ≡ true
  pub holds : holding v.places a t ≡ true

module _ (v : View) (room t a : ℕ) where
  -- 'of one that still holds a question on that thread is 20, after 14'
  pub twenty-only : judge_give_up v room t a ≡ Refused HoldsAQuestion → HeldUp v room t a
  unfolding judge_give_up yields
  twenty-only e =
      split (ltb room 10)
      (λ p. let z : Refused BufferTooSmall ≡ Refused HoldsAQuestion = rw p at e in differ (cc))
      (λ p. split (ltb 7 t)
      (λ q. let z : Refused ThreadAbove7 ≡ Refused HoldsAQuestion = rw (p, q) at e in differ (cc))
      (λ q. go (ltb-false room 10 p) (ltb-false 7 t q) (answerable v.places a t) refl (rw (p, q) at e)))
    where
      go : 10 ≤ room → t ≤ 7 → (o : Option Place) → answerable v.places a t ≡ o → yields v.places o t a ≡ Refused HoldsAQuestion → HeldUp v room t a
      go r s None f e = differ (cc)
      go r s (Some w) f e =
          split (holding v.places a t)
          (λ b. record {
            enough = r;
            thread-small = s;
            has-wait = first-meets (asks_exactly a t) (asks_exactly a t) v.places w f (first-yes (asks_exactly a t) v.places w f);
            holds = b;
          })
          (λ b. let z : Given w.asker a t ≡ Refused HoldsAQuestion = rw b at e in differ (cc))

  pub twenty-then : HeldUp v room t a → judge_give_up v room t a ≡ Refused HoldsAQuestion
  twenty-then k = go (answerable v.places a t) refl
    where
      go : (o : Option Place) → answerable v.places a t ≡ o → judge_give_up v room t a ≡ Refused HoldsAQuestion
      go None f = clash (some_of (asks_exactly a t) v.places) k.has-wait (none_passes (asks_exactly a t) v.places f)
      go (Some w) f = give-up-holding v room t a k.enough k.thread-small w f k.holds

-- the newest wait of a thread is a leaf: whoever gives up the newest first never meets 20
pub newest-given : (v : View) → Conduct v → (room t : ℕ) (w : Place) → 10 ≤ room → t ≤ 7 → first (open_on t) v.places ≡ Some w
    → (asker : ℕ) × (judge_give_up v room t w.asked ≡ Given asker w.asked t)
newest-given v c room t w enough small e = go (answerable v.places w.asked t) refl
  where
    has : some_of (asks_exactly w.asked t) v.places ≡ true
    has = first-meets (asks_exactly w.asked t) (open_on t) v.places w e (rw (first-yes (open_on t) v.places w e, eqb_same w.asked))

    go : (o : Option Place) → answerable v.places w.asked t ≡ o → (asker : ℕ) × (judge_give_up v room t w.asked ≡ Given asker w.asked t)
    go None f = clash (some_of (asks_exactly w.asked t) v.places) has (none_passes (asks_exactly w.asked t) v.places f)
    go (Some x) f = (x.asker, give-up-given v room t w.asked enough small x f (newest-holds-none t v.places w (c.trees t) e))

-- ---- the tree after an outcome

module _ (places : List Place) (asker asked t : ℕ) where
  -- a passed command is one wait more
  pub tree-grows : (kind : ℕ) → tree_of t (places_after (Passed asker asked kind t) places) ≡ place asker asked kind t ∷ tree_of t places
  tree-grows kind = rw (eqb_same t)

  -- an answer and a give up leave it without the wait for that address
  pub tree-answered : (code : ℕ) → tree_of t (places_after (Answered asked asker t code) places) ≡ without (asks_exactly asked t) (tree_of t places)
  tree-answered code = without-within (asks_exactly asked t) (open_on t) (exact-on asked t) places

  pub tree-given : tree_of t (places_after (Given asker asked t) places) ≡ without (asks_exactly asked t) (tree_of t places)
  tree-given = changed-out (asks_exactly asked t) (open_on t) (exact-on asked t) owing (λ x. refl) places

-- what is left after a call is a tree, on every thread: so a wait that is given up leaves one, and so does one that is answered
pub leaves-tree : (v : View) → Conduct v → (room : ℕ) (call : Call) (u : ℕ) → Rooted (tree_of u (applied (judge v room call) v).places)
leaves-tree v c room call u =
    let o = judge v room call in
    rooted-tree u (applied o v).places ((conduct-kept v o c (allowed v room call)).trees u)

pub given-leaves-tree : (v : View) → Conduct v → (room t a asker : ℕ) → judge v room (give_up t a) ≡ Given asker a t
    → (u : ℕ) → Rooted (tree_of u (applied (Given asker a t) v).places)
given-leaves-tree v c room t a asker e u =
    subst (λ (o : Outcome). Rooted (tree_of u (applied o v).places)) e (leaves-tree v c room (give_up t a) u)
