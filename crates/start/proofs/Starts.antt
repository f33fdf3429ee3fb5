-- What a start hands back: over an accepted table a fresh router that keeps the law.
use mathlib.Core.Path.{◌≡◌, refl, ap, ◌∙◌}
use Rattle.tapa.specs.declared.Refusal.{Refusal}
use Rattle.std.specs.Prelude.{Result, Ok, Err, IfOk, ⊤}
use mathlib.Core.List.{List, reverse}
use Rattle.table.specs.declared.Row.{Row}
use Rattle.table.specs.declared.Rows.{Rows}
use Rattle.table.specs.Table.{no_rows, held_rows, Held, judge_rows, judge_table, rows_read, Proper, kept_by}
use Rattle.table.proofs.Judged.{accepted, none-proper}
use Rattle.table.proofs.Read.{read-rows, none-held, kept-held, kept-proper}
use Rattle.setup.specs.declared.Accepted.{Accepted}
use Rattle.setup.specs.Setup.{kept, set_up_with, set_up_of, Settled}
use Rattle.setup.proofs.Settled.{set-up-settled, lent-settled}
use Rattle.places.proofs.Points as points
use Rattle.rules.specs.View.{fresh}
use Rattle.rules.proofs.Kept.{conduct-fresh}
use Rattle.router.specs.declared.Router.{Router}
use Rattle.router.specs.Router.{view_of, Lawful}
use Rattle.start.specs.Start.{fresh_over, blank, start_from, started, start_with, start_of, router_left, answer_of}

pub fresh-lawful : (t : Rows) → Held t → Proper (held_rows t) → Lawful (fresh_over t)
fresh-lawful t h p = record {
  held = (points.fresh).law;
  column = h;
  table = p;
  conduct = conduct-fresh (held_rows t);
}

pub blank-law : Lawful blank
blank-law = fresh-lawful no_rows none-held none-proper

pub over-law : (u : Accepted) → Settled u → Lawful (start_from u)
over-law u s = fresh-lawful u.rows s.held s.proper

-- 'the law shown of every state that a start .. hands back': also of the blank router that a refused table leaves
pub from-law : (s : Result Accepted Refusal) → ((u : Accepted) → s ≡ Ok u → Settled u) → Lawful (router_left (started s))
from-law (Ok u) f = over-law u (f u refl)
from-law (Err k) f = blank-law

pub started-law : (s : Result Accepted Refusal) → ((u : Accepted) → s ≡ Ok u → Settled u) → IfOk (started s) Lawful
started-law (Ok u) f = over-law u (f u refl)
started-law (Err k) f = tt

pub start-law : (t : Rows) → Held t → Lawful (router_left (start_with t))
start-law t h = from-law (set_up_with t) (set-up-settled t h)

pub lent-law : (rows : List Row) → Lawful (router_left (start_of rows))
lent-law rows = from-law (set_up_of rows) (lent-settled rows)

-- a router over the rows that the table keeps: that is the one that a start leaves
pub kept-law : (t : Rows) → Held t → Lawful (fresh_over (kept_by (judge_rows t) t))
kept-law t h = fresh-lawful (kept_by (judge_rows t) t) (kept-held t h) (kept-proper t)

pub kept-view : (t : Rows) → judge_rows t ≡ Ok tt → view_of (fresh_over (kept_by (judge_rows t) t)) ≡ fresh (held_rows t)
kept-view t e = ap (λ (c : Result ⊤ Refusal). view_of (fresh_over (kept_by c t))) e

pub left-kept : (t : Rows) → router_left (start_with t) ≡ fresh_over (kept_by (judge_rows t) t)
left-kept t = go (judge_rows t)
  where
    go : (c : Result ⊤ Refusal) → router_left (started (kept c t)) ≡ fresh_over (kept_by c t)
    go (Ok done) = refl
    go (Err k) = refl

-- of rows by value: over them
pub start-over : (t : Rows) → judge_rows t ≡ Ok tt → start_with t ≡ Ok (fresh_over t)
start-over t e = ap (λ (c : Result ⊤ Refusal). started (kept c t)) e

-- and a refused table starts nothing
pub start-refused : (t : Rows) (k : Refusal) → judge_rows t ≡ Err k → start_with t ≡ Err k
start-refused t k e = ap (λ (c : Result ⊤ Refusal). started (kept c t)) e

pub start-answers : (t : Rows) → answer_of (start_with t) ≡ judge_rows t
start-answers t = go (judge_rows t)
  where
    go : (c : Result ⊤ Refusal) → answer_of (started (kept c t)) ≡ c
    go (Ok done) = refl
    go (Err k) = refl

pub start-view : (t : Rows) → judge_rows t ≡ Ok tt → view_of (router_left (start_with t)) ≡ fresh (held_rows t)
start-view t e = ap (λ (c : Result ⊤ Refusal). view_of (router_left (started (kept c t)))) e

-- of lent rows: the view's rows are these, the last first
pub lent_view : (rows : List Row) → judge_table rows ≡ Ok tt → view_of (router_left (start_of rows)) ≡ fresh (reverse rows)
lent_view rows e =
    ap (λ (c : Result ⊤ Refusal). view_of (router_left (started (kept c (rows_read rows))))) e ∙ ap fresh (read-rows rows (accepted rows e).few)
