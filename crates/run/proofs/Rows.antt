-- The rows: the state before the first item leaves all that the input has, and is lawful. Assumes nothing.
use Prim.Native.Nat.{ℕ, zero, suc, ◌+◌, ◌≤◌, ◌<◌}
use Rattle.tapa.specs.declared.Refusal.{Refusal}
use Rattle.std.specs.Prelude.{Result, Ok, Err, ⊤}
use mathlib.Core.Path.{◌≡◌, refl, sym, ap, subst, ◌∙◌}
use mathlib.Core.Bool.{Bool, true, false}
use mathlib.Core.List.{List, [], ◌∷◌, ◌++◌, reverse, reverse-append}
use native.Mathlib.Omega.{arith}
use lib.Dec.{ltb}
use lib.ListN.{length}
use borrow.Table.Steps.{cases}
use borrow.Author.Tests.{lt-ltb, le-ltb, ltb-false}
use Rattle.table.specs.declared.Row as table
use Rattle.table.specs.declared.Rows.{Rows}
use Rattle.table.specs.Table.{held_rows, Held, no_rows, with_row, rows_read, judge_table, judge_rows, kept_by}
use Rattle.table.proofs.Judged.{accepted, judge-reverse, none-proper}
use Rattle.table.proofs.Read.{none-held, with-held, read_held, read-rows, read_next, judge-read}
use Rattle.router.specs.declared.Router.{Router}
use Rattle.router.specs.Router.{view_of}
use Rattle.start.specs.Start.{blank, fresh_over, start_with, answer_of, router_left}
use Rattle.start.proofs.Starts.{fresh-lawful, start-answers, kept-law, kept-view, left-kept}
use Rattle.rules.specs.View.{View}
use Rattle.fields.specs.declared.NextRow.{NextRow}
use Rattle.fields.specs.declared.NextRow.TheVariants.{Row, Torn, Over}
use Rattle.fields.specs.Fields.{Steps, Script, torn, begins, row-then}
use Rattle.fields.specs.Places.{row_at, steps_at, script_at, script_by}
use Rattle.fields.proofs.Left.{script-at, RowInside, row_inside}
use Rattle.run.specs.declared.Stage.{Stage}
use Rattle.run.specs.declared.Stage.TheVariants.{Settled}
use Rattle.run.specs.declared.Item.TheVariants.{Broken, TooLong}
use Rattle.run.specs.declared.Session.{Session}
use Rattle.run.specs.declared.Heading.{Heading}
use Rattle.run.specs.declared.Item.{Item}
use Rattle.run.specs.Run.{items_of, checked_items, script_items, run_of}
use Rattle.run.specs.State.{no_tally, items_from, items_left, SettledIn, Sound, Ready, items_in}
use Rattle.run.specs.Start.{heading_by, heading_of, checked_stage, stage_of, cursor_at, started_by, start_of, Begins}
use Rattle.run.proofs.Counts.{same-items}

-- ---- the loop: the rows from here on give what all of them give

pub inside-row : (s : List ℕ) (at : ℕ) (i : NextRow) → row_at s at ≡ i → RowInside s at i
inside-row s at i e = subst (λ (x : NextRow). RowInside s at x) e (row_inside s at)

-- the rows from a place on
abbrev pub rows_from : List ℕ → Rows → (n at : ℕ) → Heading
rows_from s t n at = heading_by t n at (script_at s n at)

module _ (s : List ℕ) (t : Rows) (n at : ℕ) (h : Heading) (go : rows_from s t n at ≡ h) where
  pub rows-again : (t' : Rows) (x : ℕ) (o : Bool) (nx : ℕ)
      → row_at s at ≡ Row x o nx
      → t' ≡ with_row t (record { address = x; opened = o })
      → rows_from s t' (n + 1) nx ≡ h
  rows-again t' x o nx e g =
      rw (g, ← (inside-row s at (Row x o nx) e).0)
      (sym (ap (heading_by t n at) (script-at s n at ∙ ap (script_by s n at) e ∙ ap (λ (k : ℕ). row-then x o (script_at s (n + 1) k)) (sym (inside-row s at (Row x o nx) e).0))) ∙ go)

  pub rows_end : (w : Heading) (i : NextRow) → row_at s at ≡ i → w ≡ heading_by t n at (script_by s n at i) → w ≡ h
  rows_end w i e g = g ∙ (sym (ap (heading_by t n at) (script-at s n at ∙ ap (script_by s n at) e)) ∙ go)

-- ---- the rows that are read are held

heading-held : (m : Script) (t : Rows) (n at : ℕ) → Held t → Held (heading_by t n at m).rows
heading-held (torn m) t n at h = h
heading-held (begins m) t n at h = h
heading-held (row-then a o m) t n at h = heading-held m _ (n + 1) (at + 6) (with-held t (record { address = a; opened = o }) h)

pub rows-held : (s : List ℕ) (x : Heading) → x ≡ heading_of s → Held x.rows
unfolding heading_of
rows-held s x e = subst (λ (y : Heading). Held y.rows) (sym e) (heading-held (script_at s 1 0) no_rows 1 0 none-held)

-- ---- the returns of `stage_after` and `started`

pub stage-torn : (b : Bool) (n : ℕ) (k : Result ⊤ Refusal) → b ≡ true → Settled (Broken n) ≡ stage_of b n k
stage-torn b n k e = rw e

pub stage-checked : (b : Bool) (n : ℕ) (k found : Result ⊤ Refusal) → b ≡ false → k ≡ found → checked_stage found ≡ stage_of b n k
stage-checked b n k found e f = rw (e, f)

pub starts : (x : Heading) (d : Result Router Refusal) → d ≡ start_with x.rows
    → ◌≡◌ {A = Session} (record { cursor = cursor_at x.at x.number (stage_of x.torn x.number (answer_of d)); router = router_left d }) (started_by x)
starts x d e =
    let k : answer_of d ≡ judge_rows x.rows = ap answer_of e ∙ start-answers x.rows in
    let r : router_left d ≡ fresh_over (kept_by (judge_rows x.rows) x.rows) = ap router_left e ∙ left-kept x.rows in
    λ i. record { cursor = cursor_at x.at x.number (stage_of x.torn x.number (k i)); router = r i }

-- ---- the state has these items, and keeps the law

record Whole (s : List ℕ) (b : Session) (l : List Item) : Type 0 where
  pub left : items_in s b ≡ l
  pub ready : Ready b

sound-at : (at n : ℕ) (g : Stage) → at ≤ 65536 → n ≤ at + 1 → SettledIn g → Sound (cursor_at at n g)
sound-at at n g a b c = record {
  small = a;
  fields = b;
  steps = omega arith;
  accepted = omega arith;
  answered = omega arith;
  given = omega arith;
  settled = c;
}

small-checked : (k : Result ⊤ Refusal) → SettledIn (checked_stage k)
small-checked (Ok tt) = tt
small-checked (Err r) = tt

-- zs are the rows read so far, in order
module _ (s : List ℕ) (fit : length s ≤ 65536) where
  checked-left : (t : Rows) (at n : ℕ) (k : Result ⊤ Refusal) → judge_rows t ≡ k
      → items_left s (view_of (fresh_over (kept_by (judge_rows t) t))) (cursor_at at n (checked_stage k)) ≡ checked_items k (held_rows t) (steps_at s n at)
  unfolding items_left
  checked-left t at n (Ok tt) e =
      rw (le-ltb 65536 (length s) fit)
      (ap (λ (v : View). items_from v no_tally 1 (steps_at s n at)) (kept-view t e)
      ∙ same-items (held_rows t) [] no_tally 1 (steps_at s n at) (record { accepted = refl; answered = refl; given = refl }))
  checked-left t at n (Err r) e = refl

  -- a refused table looks at no row
  checked-same : (k : Result ⊤ Refusal) (zs : List table.Row) (m : Steps) → judge_table zs ≡ k
      → checked_items k (held_rows (rows_read zs)) m ≡ checked_items k (reverse zs) m
  checked-same (Ok tt) zs m e = ap (λ (rows : List table.Row). items_of rows [] 1 m) (read-rows zs (accepted zs e).few)
  checked-same (Err r) zs m e = refl

  over-left : (zs : List table.Row) (at n : ℕ)
      → items_left s (view_of (fresh_over (kept_by (judge_rows (rows_read zs)) (rows_read zs)))) (cursor_at at n (checked_stage (judge_rows (rows_read zs))))
      ≡ checked_items (judge_table (reverse zs)) (reverse zs) (steps_at s n at)
  over-left zs at n =
      checked-left (rows_read zs) at n (judge_rows (rows_read zs)) refl
      ∙ (ap (λ (k : Result ⊤ Refusal). checked_items k (held_rows (rows_read zs)) (steps_at s n at)) (judge-read zs)
      ∙ (checked-same (judge_table zs) zs (steps_at s n at) refl
      ∙ ap (λ (k : Result ⊤ Refusal). checked_items k (reverse zs) (steps_at s n at)) (sym (judge-reverse zs))))

  rows_in : (zs : List table.Row) (n at : ℕ) (i : NextRow)
      → RowInside s at i
      → at ≤ length s
      → n ≤ at + 1
      → ((ys : List table.Row) (m nx : ℕ) → at + 6 ≡ nx → nx ≤ length s → m ≤ nx + 1
      → Whole s (started_by (heading_by (rows_read ys) m nx (script_at s m nx))) (script_items (reverse ys) (script_at s m nx)))
      → Whole s (started_by (heading_by (rows_read zs) n at (script_by s n at i))) (script_items (reverse zs) (script_by s n at i))
  unfolding items_left
  rows_in zs n at (Row x o nx) b a c f =
      let r : table.Row = record { address = x; opened = o } in
      let g = f (zs ++ (r ∷ [])) (n + 1) nx b.0 b.1 (omega (arith, b.0)) in
      let m : Script = script_at s (n + 1) nx in
      subst (λ (t : Rows). Whole s (started_by (heading_by t (n + 1) (at + 6) m)) (script_items (r ∷ reverse zs) m)) (sym (read_next zs r))
      (subst (λ (k : ℕ). Whole s (started_by (heading_by (rows_read (zs ++ (r ∷ []))) (n + 1) k m)) (script_items (r ∷ reverse zs) m)) (sym b.0)
      (subst (λ (ys : List table.Row). Whole s (started_by (heading_by (rows_read (zs ++ (r ∷ []))) (n + 1) nx m)) (script_items ys m)) (reverse-append zs (r ∷ [])) g))
  rows_in zs n at Torn b a c f = record {
    left = refl;
    ready = record { law = kept-law (rows_read zs) (read_held zs); sound = sound-at at n (stage_of true n (judge_rows (rows_read zs))) (omega arith) c (omega arith) };
  }
  rows_in zs n at Over b a c f = record {
    left = over-left zs at n;
    ready = record {
      law = kept-law (rows_read zs) (read_held zs);
      sound = sound-at at n (checked_stage (judge_rows (rows_read zs))) (omega arith) c (small-checked (judge_rows (rows_read zs)));
    };
  }

  rows_run : (f : ℕ) (zs : List table.Row) (n at : ℕ)
      → length s < at + f
      → at ≤ length s
      → n ≤ at + 1
      → Whole s (started_by (heading_by (rows_read zs) n at (script_at s n at))) (script_items (reverse zs) (script_at s n at))
  rows_run zero zs n at h a c = absurd (omega arith)
  rows_run (suc f) zs n at h a c =
      subst (λ (m : Script). Whole s (started_by (heading_by (rows_read zs) n at m)) (script_items (reverse zs) m)) (sym (script-at s n at))
      (rows_in zs n at (row_at s at) (row_inside s at) a c (λ ys m nx p q r. rows_run f ys m nx (omega arith) q r))

-- ---- the whole

started : (s : List ℕ) → Whole s (start_of s) (run_of s)
unfolding items_left start_of heading_of run_of script_at
started s =
    cases (ltb 65536 (length s))
    (λ e. rw e (record { left = refl; ready = record { law = fresh-lawful no_rows none-held none-proper; sound = sound-at 0 1 (Settled TooLong) (omega arith) (omega arith) tt } }))
    (λ e. rw e (rows_run s (ltb-false 65536 (length s) e) (suc (length s)) [] 1 0 (omega arith) (omega arith) (omega arith)))

pub begun : (s : List ℕ) (b : Session) → b ≡ start_of s → Begins s b
begun s b e = record {
  same = e;
  all = ap (λ (x : Session). items_left s (view_of x.router) x.cursor) e ∙ (started s).left;
  ready = subst Ready (sym e) (started s).ready;
}

-- the two returns of `begin`
pub long-start : (s : List ℕ) (r : Router) → 65536 < length s → r ≡ blank
    → ◌≡◌ {A = Session} (record { cursor = cursor_at 0 1 (Settled TooLong); router = r }) (start_of s)
unfolding start_of
long-start s r h e = rw (lt-ltb 65536 (length s) h, e)

pub rows_start : (s : List ℕ) (x : Heading) (b : Session) → length s ≤ 65536 → x ≡ heading_of s → b ≡ started_by x → b ≡ start_of s
unfolding start_of
rows_start s x b h e f = f ∙ rw (e, le-ltb 65536 (length s) h)
