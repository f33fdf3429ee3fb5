-- Type 'FF': what is done with the place that was found.
use Prim.Native.Nat.{ℕ}
use Rattle.std.specs.Prelude.{Some, None, Option}
use mathlib.Core.Path.{◌≡◌, refl, sym, ap, ◌∙◌}
use mathlib.Core.Bool.{true, false}
use mathlib.Core.List.{List}
use borrow.Author.Tests.{eq-eqb, ne_eqb}
use Rattle.lists.specs.Lists.{find, without_at}
use Rattle.lists.proofs.First.{first-meets, none_passes}
use Rattle.lists.proofs.Numbers.{find_none, end-found}
use Rattle.tapa.specs.Address.{handler_of}
use Rattle.tapa.specs.Codes.{successful, open_handler, close_handler}
use Rattle.tapa.specs.declared.Refusal.TheVariants.{StrayResponse}
use Rattle.message.specs.declared.Head.{Head}
use Rattle.table.specs.Table.{rows_of, Column, Opened}
use Rattle.place.specs.declared.Place.{Place}
use Rattle.places.specs.Places.{place_at, places_of, asks_exactly, owes_exactly, Becomes}
use Rattle.places.proofs.Points.{here}
use Rattle.rules.specs.declared.Outcome.{Outcome}
use Rattle.rules.specs.declared.Outcome.TheVariants.{Answered, Swallowed, Refused}
use Rattle.rules.specs.Judge.{late}
use Rattle.rules.specs.Apply.{answered_rows}
use Rattle.rules.proofs.Steps.{late-swallowed, late-stray}
use Rattle.rules.proofs.Untouched.{late-rows}
use Rattle.ruling.specs.Ruling.{held_view}
use Rattle.routing.specs.Steps.{Placing, Moving, OpenOrClosed}

-- ---- a late response

module _ (l : List ℕ) (n : ℕ) (h : Head) where
  pub swallows : (i k : ℕ) (m : List ℕ)
      → find (owes_exactly h.source h.thread) (places_of l n) ≡ Some i
      → Becomes m k (without_at i (places_of l n))
      → Placing (late (places_of l n) h) (places_of l n) m (record { outcome = Swallowed h.source h.thread; len = k })
  swallows i k m f b =
      let q = owes_exactly h.source h.thread in
      let w = here q l n i f in
      rw (late-swallowed (places_of l n) h (first-meets q q (places_of l n) (place_at l i) w.it w.meets))
      (record { outcome = refl; places = record { holds = b.holds ∙ end-found q (places_of l n) i f; law = b.law } })

  pub strays : find (owes_exactly h.source h.thread) (places_of l n) ≡ None → late (places_of l n) h ≡ Refused StrayResponse
  strays f =
      let q = owes_exactly h.source h.thread in
      late-stray (places_of l n) h (none_passes q (places_of l n) (find_none q (places_of l n) f))

-- ---- a handler opened or closed

module _ (before : List ℕ) (n : ℕ) (w : Place) (code : ℕ) where
  pub opens_not : Column before n → (code ≡ successful → ⊥) → OpenOrClosed before before n w code
  unfolding answered_rows
  opens_not c x = record { holds = rw (ne_eqb code successful x); law = c }

  pub opens-other : Column before n → code ≡ successful → (w.kind ≡ open_handler → ⊥) → (w.kind ≡ close_handler → ⊥) → OpenOrClosed before before n w code
  unfolding answered_rows
  opens-other c e x y =
      record { holds = rw (eq-eqb code successful e, ne_eqb w.kind open_handler x, ne_eqb w.kind close_handler y); law = c }

  module _ (after : List ℕ) (h : ℕ) (e : code ≡ successful) (k : h ≡ handler_of w.asked) where
    pub opens : w.kind ≡ open_handler → Opened before after n h true → OpenOrClosed before after n w code
    unfolding answered_rows
    opens x o = record { holds = rw (eq-eqb code successful e, eq-eqb w.kind open_handler x) (rw k at o.holds); law = o.law }

    pub closes : (w.kind ≡ open_handler → ⊥) → w.kind ≡ close_handler → Opened before after n h false → OpenOrClosed before after n w code
    unfolding answered_rows
    closes y x o = record {
      holds = rw (eq-eqb code successful e, ne_eqb w.kind open_handler y, eq-eqb w.kind close_handler x) (rw k at o.holds);
      law = o.law;
    }

-- ---- a response

module _ (c : List ℕ) (n : ℕ) (l : List ℕ) (k : ℕ) (o : Outcome) where
  pub late-moves : (h : Head) (m : List ℕ) (less : ℕ) (u : Outcome)
      → o ≡ late (places_of l k) h
      → Column c n
      → Placing (late (places_of l k) h) (places_of l k) m (record { outcome = u; len = less })
      → Moving o (held_view c n l k) c n m (record { outcome = u; len = less })
  late-moves h m less u e g p = rw e (record { placing = p; table = record { holds = late-rows (held_view c n l k) h; law = g } })

  pub answers : (after m : List ℕ) (less i code source dest t : ℕ) (u : Outcome)
      → u ≡ Answered source dest t code
      → o ≡ Answered source dest t code
      → find (asks_exactly source t) (places_of l k) ≡ Some i
      → OpenOrClosed c after n (place_at l i) code
      → Becomes m less (without_at i (places_of l k))
      → Moving o (held_view c n l k) after n m (record { outcome = u; len = less })
  answers after m less i code source dest t u d e f r b =
      rw e (record {
        placing = record {
          outcome = d;
          places = record { holds = b.holds ∙ end-found (asks_exactly source t) (places_of l k) i f; law = b.law };
        };
        table = record {
          holds = r.holds ∙ ap (λ (w : Option Place). answered_rows w code (rows_of c n)) (sym (here (asks_exactly source t) l k i f).it);
          law = r.law;
        };
      })
