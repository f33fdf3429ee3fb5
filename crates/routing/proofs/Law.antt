-- The law of a router's state: it gives room for one place more, and a step keeps it.
use Prim.Native.Nat.{ℕ, ◌≤◌, ◌<◌}
use mathlib.Core.Path.{◌≡◌}
use mathlib.Core.List.{List}
use Rattle.table.specs.declared.Row.{Row}
use Rattle.place.specs.declared.Place.{Place}
use Rattle.places.proofs.Points.{len}
use Rattle.rules.specs.View.{View}
use Rattle.rules.specs.Judge.{Call, judge}
use Rattle.rules.specs.Apply.{applied}
use Rattle.rules.proofs.Bound.{bound_all, sized, room-left}
use Rattle.rules.proofs.Kept.{lawful-call}
use Rattle.ruling.specs.Ruling.{held_view}
use Rattle.routing.specs.declared.Step.{Step}
use Rattle.routing.specs.Law.{Lawful}
use Rattle.routing.specs.Steps.{Moving, Stepping}

views : (v w : View) → v.rows ≡ w.rows → v.places ≡ w.places → v ≡ w
views v w p q = go v.rows w.rows v.places w.places p q
  where
    go : (a b : List Row) (c d : List Place) → a ≡ b → c ≡ d → ◌≡◌ {A = View} (record { rows = a; places = c }) (record { rows = b; places = d })
    go a b c d p q = cc

module _ (c : List ℕ) (n : ℕ) (l : List ℕ) (k : ℕ) (g : Lawful c n l k) where
  -- 'waits and owings cannot pass 12 + 8 x 4 = 44'
  pub at-most-44 : k ≤ 44
  at-most-44 = rw (len l k) at (bound_all (held_view c n l k) (sized _ g.table) g.conduct)

  -- the law gives room for one place more, on which passing a command in place rests
  pub has_room : k < 48
  has_room = rw (len l k) at (room-left (held_view c n l k) g.table g.conduct)

  module _ (room : ℕ) (call : Call) (d m : List ℕ) (s : Step) where
    -- a step moves the arrays to the next view
    pub next-view : Moving (judge (held_view c n l k) room call) (held_view c n l k) d n m s
        → held_view d n m s.len ≡ applied (judge (held_view c n l k) room call) (held_view c n l k)
    next-view x =
        views (held_view d n m s.len) (applied (judge (held_view c n l k) room call) (held_view c n l k)) x.table.holds x.placing.places.holds

    pub law-kept : Moving (judge (held_view c n l k) room call) (held_view c n l k) d n m s → Lawful d n m s.len
    law-kept x =
        let f = lawful-call (held_view c n l k) room call (record { table = g.table; conduct = g.conduct }) in
        record {
          held = x.placing.places.law;
          column = x.table.law;
          table = rw x.table.holds f.table;
          conduct = rw (next-view x) f.conduct;
        }

    -- what a step shows, with the law that it keeps
    pub lawfully : (before after : List ℕ) → Stepping (judge (held_view c n l k) room call) (held_view c n l k) d n m before after s
        → Stepping (judge (held_view c n l k) room call) (held_view c n l k) d n m before after s × Lawful d n m s.len
    lawfully before after x = (x, law-kept x.moving)
