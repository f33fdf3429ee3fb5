-- A message by its type, a give up, and a replaced call: what is done.
use Prim.Native.Nat.{ℕ, ◌≤◌}
use Rattle.std.specs.Prelude.{Option, Some}
use mathlib.Core.Path.{◌≡◌, refl, ◌∙◌}
use mathlib.Core.Bool.{false}
use mathlib.Core.List.{List}
use lib.ListN.{length}
use borrow.Author.Tests.{le-ltb}
use Rattle.lists.specs.Lists.{find, keep, changed_at, onto}
use Rattle.lists.proofs.Tests.{split}
use Rattle.lists.proofs.Numbers.{change-found}
use Rattle.tapa.specs.Codes.{handler_error, event_handler}
use Rattle.tapa.specs.declared.Refusal.TheVariants.{EventCannotBeTaken}
use Rattle.message.specs.declared.Head.{Head}
use Rattle.message.specs.Message.{responded, response_of}
use Rattle.table.specs.Table.{opened_at, rows_of, Column, Opened}
use Rattle.places.specs.Places.{places_of, asks_exactly, not_owed_by, owing, Becomes}
use Rattle.places.specs.Places as places
use Rattle.rules.specs.View.{View}
use Rattle.rules.specs.declared.Outcome.{Outcome}
use Rattle.rules.specs.declared.Outcome.TheVariants.{Event, Given, Reset, Refused}
use Rattle.rules.specs.Judge.{judge_response, judge_event, judge_command}
use Rattle.rules.specs.Apply.{written, rows_after, places_after}
use Rattle.rules.proofs.Untouched.{command-rows, response-writes}
use Rattle.ruling.specs.Ruling.{held_view}
use Rattle.routing.specs.declared.Step.{Step}
use Rattle.routing.specs.Steps.{Writing, Moving, Stepping}

-- ---- Type 'C0' to handler '0700'

-- an event changes nothing, and neither does its refusal
module _ (c : List ℕ) (n : ℕ) (l : List ℕ) (k : ℕ) (g : places.Lawful l k) (d : Column c n) (b : List ℕ) where
  pub event-steps : (u o : Outcome) → u ≡ judge_event (rows_of c n) → o ≡ judge_event (rows_of c n)
      → Stepping u (held_view c n l k) c n l b b (record { outcome = o; len = k })
  event-steps u o p q =
      rw (p, q) (split (opened_at event_handler (rows_of c n)) (λ p. rw p (nothing Event refl refl refl)) (λ p. rw p (nothing (Refused EventCannotBeTaken) refl refl refl)))
    where
      nothing : (u : Outcome) → places_of l k ≡ places_after u (places_of l k) → rows_of c n ≡ rows_after u (held_view c n l k) → b ≡ written u b
          → Stepping u (held_view c n l k) c n l b b (record { outcome = u; len = k })
      nothing u p r w = record {
        moving = record { placing = record { outcome = refl; places = record { holds = p; law = g } }; table = record { holds = r; law = d } };
        reply = w;
      }

-- ---- by type

module _ (v : View) (h : Head) (code : Option ℕ) where
  pub response-steps : (o : Outcome) (coded : Option ℕ) (c : List ℕ) (n : ℕ) (l b : List ℕ) (s : Step)
      → o ≡ judge_response v.places h code
      → coded ≡ code
      → Moving (judge_response v.places h coded) v c n l s
      → Stepping o v c n l b b s
  response-steps o coded c n l b s e k p =
      rw e (record { moving = rw (← k) p; reply = response-writes v.places h code b })

pub command-steps : (v : View) (h : Head) (o : Outcome) (c : List ℕ) (n : ℕ) (l b after : List ℕ) (s : Step)
    → o ≡ judge_command v h
    → rows_of c n ≡ v.rows
    → Column c n
    → Writing (judge_command v h) v.places l b after s
    → Stepping o v c n l b after s
command-steps v h o c n l b after s e r g w =
    rw e (record { moving = record { placing = w.placing; table = record { holds = r ∙ command-rows v h; law = g } }; reply = w.reply })

-- a step with an outcome, by another name of it
pub step-as : (u o : Outcome) (v : View) (c : List ℕ) (n : ℕ) (l b after : List ℕ) (s : Step)
    → u ≡ o
    → Stepping o v c n l b after s
    → Stepping u v c n l b after s
step-as u o v c n l b after s e x = rw e x

-- ---- Give up

-- the wait that was found becomes an owing, and its asker gets a response
pub gives : (l : List ℕ) (n t a i : ℕ) (o : Outcome) (m b after : List ℕ) (asker : ℕ)
    → find (asks_exactly a t) (places_of l n) ≡ Some i
    → 10 ≤ length b
    → Becomes m n (changed_at owing i (places_of l n))
    → o ≡ Given asker a t
    → after ≡ responded asker a t handler_error b
    → Writing o (places_of l n) m b after (record { outcome = Given asker a t; len = n })
gives l n t a i o m b after asker f k x e w =
    let s : after ≡ onto (response_of asker a t handler_error) b = w ∙ rw (le-ltb (length b) 10 k) in
    rw e (record {
      placing = record {
        outcome = refl;
        places = record { holds = x.holds ∙ change-found owing (asks_exactly a t) (places_of l n) i f; law = x.law };
      };
      reply = s;
    })

-- ---- Replaced

pub resets : (before after : List ℕ) (n : ℕ) (l : List ℕ) (k : ℕ) (m : List ℕ) (less h : ℕ) (o : Outcome)
    → o ≡ Reset h
    → Opened before after n h false
    → Becomes m less (keep (not_owed_by h) (places_of l k))
    → Moving o (held_view before n l k) after n m (record { outcome = Reset h; len = less })
resets before after n l k m less h o e p b =
    rw e (record { placing = record { outcome = refl; places = record { holds = b.holds; law = b.law } }; table = record { holds = p.holds; law = p.law } })
