-- Two desks at one router: each sees what it would see alone. Beside the router that both use, its own view follows, in which it is alone; on its
-- threads, and of its handlers that serve one at a time, the two are alike.
use Prim.Native.Nat.{ℕ}
use Rattle.std.specs.Prelude.{Some}
use mathlib.Core.Path.{◌≡◌, refl, sym, ap, ◌∙◌}
use mathlib.Core.Logic.{⊎_elim}
use mathlib.Core.Bool.{Bool, true, false, ◌||◌}
use mathlib.Core.List.{List, [], ◌∷◌}
use borrow.Author.Tests.{not-true}
use Rattle.lists.proofs.Tests.{split, clash, or_no}
use Rattle.tapa.specs.Address.{multi}
use Rattle.rules.specs.View.{View}
use Rattle.rules.specs.declared.Outcome.{Outcome}
use Rattle.rules.specs.Apply.{rows_after, places_after}
use Rattle.rules.proofs.Apart.{touches, part, of_thread, of_handler, part_left, part_same, multi-same, slot_same, rows_same}
use Rattle.tills.specs.Tills.{Step, outcome_of, after, thread_of}
use Rattle.tills.specs.Less.{asks_of}
use Rattle.tills.specs.Desks.{Desk, Separate, OfDesk, KeepsTo, Throughout, seen, after_all, Turn, at_one, at-two, after_turns, ones, twos, seen_at_one, seen_at_two, SameOn, of_neither, AsAlone}
use Rattle.tills.proofs.Reach.{thread-its, handler-its, asks-named, moves-named, gives-named, steady-rows, thread-left}
use Rattle.tills.proofs.Sees.{BusySame, outcome-same}
use Rattle.tills.proofs.Less.{multi-by-category, tree-same, owings-same}

-- what a desk can tell of two views
record Alike (desk : Desk) (v w : View) : Type 0 where
  rows : v.rows ≡ w.rows
  threads : (t : ℕ) → desk.threads t ≡ true → part (of_thread t) v.places ≡ part (of_thread t) w.places
  handlers : (h : ℕ) → desk.handlers h ≡ true → multi h ≡ false → part (of_handler h) v.places ≡ part (of_handler h) w.places

-- ---- a step of the desk, in both views

module _ (desk : Desk) (v w : View) (a : Alike desk v w) (c : Step) (i : KeepsTo desk w c) where
  its-thread : (t : ℕ) → thread_of c ≡ Some t → part (of_thread t) v.places ≡ part (of_thread t) w.places
  its-thread t e = a.threads t (i.thread t e)

  as-busy : BusySame v w a.rows (thread_of c) (asks_of c)
  as-busy t e h j =
      split (multi h) (λ m. multi-same t v.places w.places (its-thread t e) h m)
      (λ m. slot_same h t v.places w.places (a.handlers h (i.asks h j) m))

  own_same : outcome_of v c ≡ outcome_of w c
  own_same = outcome-same v w a.rows c its-thread as-busy

  own-after : Alike desk (after v c) (after w c)
  own-after = record {
    rows =
        ap (λ (o : Outcome). rows_after o v) own_same
        ∙ rows_same v w a.rows (outcome_of w c) (λ t e. its-thread t (thread-its w c t e));
    threads =
        λ t k. ap (λ (o : Outcome). part (of_thread t) (places_after o v.places)) own_same
        ∙ part_same (of_thread t) v.places w.places (a.threads t k) (outcome_of w c);
    handlers =
        λ h k m. ap (λ (o : Outcome). part (of_handler h) (places_after o v.places)) own_same
        ∙ part_same (of_handler h) v.places w.places (a.handlers h k m) (outcome_of w c);
  }

-- ---- a step of the other desk

module _ (desk other : Desk) (apart : Separate desk other) (v w u : View) (a : Alike desk v w) (b : Alike other v u) (d : Step) (i : KeepsTo other u d) where
  other-rows : (after v d).rows ≡ v.rows
  other-rows = (own-after other v u b d i).rows ∙ i.marks ∙ sym b.rows

  -- a handler of this desk that serves one at a time is not touched: it would be one of the other desk's, too
  not-touched : (h : ℕ) → desk.handlers h ≡ true → multi h ≡ false → touches (of_handler h) (outcome_of v d) ≡ false
  not-touched h k m =
      split (touches (of_handler h) (outcome_of v d))
      (λ p. let q : touches (of_handler h) (outcome_of u d) ≡ true = rw (own_same other v u b d i) at p in
      let theirs : other.handlers h ≡ true = ⊎_elim (i.moves h) (i.gives h) (handler-its u d h q) in
      clash (multi h) (multi-by-category h (apart.handlers h k theirs)) m)
      (λ p. p)

  other_after : Alike desk (after v d) w
  other_after = record {
    rows = other-rows ∙ a.rows;
    threads = λ t k. thread-left v d t (λ e. apart.threads t k (i.thread t e)) ∙ a.threads t k;
    handlers = λ h k m. part_left (of_handler h) (outcome_of v d) (not-touched h k m) v.places ∙ a.handlers h k m;
  }

-- ---- all steps

alike-here : (desk : Desk) (v : View) → Alike desk v v
alike-here desk v = record { rows = refl; threads = λ t k. refl; handlers = λ h k m. refl }

alone-rows : (desk : Desk) (v : View) (cs : List Step) → Throughout (KeepsTo desk) v cs → (after_all v cs).rows ≡ v.rows
alone-rows desk v [] i = refl
alone-rows desk v (c ∷ cs) i = alone-rows desk (after v c) cs i.1 ∙ i.0.marks

same-on : (threads : ℕ → Bool) (v w : View) → ((t : ℕ) → threads t ≡ true → part (of_thread t) v.places ≡ part (of_thread t) w.places) → SameOn threads v w
same-on threads v w e = record {
  trees = λ t k. tree-same t v.places w.places (e t k);
  owings = λ t k. owings-same t v.places w.places (e t k);
}

module _ (one two : Desk) (s : Separate one two) where
  round : Separate two one
  round = record { threads = λ t p q. s.threads t q p; handlers = λ h p q. s.handlers h q p }

  -- v is what both have made of the router, u and w what each would have made of it alone
  record Goes (v u w : View) (es : List Turn) : Type 0 where
    one-sees : seen_at_one v es ≡ seen u (ones es)
    two-sees : seen_at_two v es ≡ seen w (twos es)
    one-ends : Alike one (after_turns v es) (after_all u (ones es))
    two_ends : Alike two (after_turns v es) (after_all w (twos es))
    others : (t : ℕ) → one.threads t ≡ false → two.threads t ≡ false → part (of_thread t) (after_turns v es).places ≡ part (of_thread t) v.places

  goes : (v u w : View) → Alike one v u → Alike two v w → (es : List Turn) → Throughout (KeepsTo one) u (ones es) → Throughout (KeepsTo two) w (twos es) → Goes v u w es
  goes v u w a b [] i j = record { one-sees = refl; two-sees = refl; one-ends = a; two_ends = b; others = λ t p q. refl }
  goes v u w a b (at_one c ∷ es) i j =
      let g = goes (after v c) (after u c) w (own-after one v u a c i.0) (other_after two one round v w u b a c i.0) es i.1 j in
      record {
        one-sees = rw (g.one-sees, own_same one v u a c i.0);
        two-sees = g.two-sees;
        one-ends = g.one-ends;
        two_ends = g.two_ends;
        others = λ t p q. g.others t p q ∙ thread-left v c t (λ e. clash (one.threads t) (i.0.thread t e) p);
      }
  goes v u w a b (at-two d ∷ es) i j =
      let g = goes (after v d) u (after w d) (other_after one two s v u w a b d j.0) (own-after two v w b d j.0) es i j.1 in
      record {
        one-sees = g.one-sees;
        two-sees = rw (g.two-sees, own_same two v w b d j.0);
        one-ends = g.one-ends;
        two_ends = g.two_ends;
        others = λ t p q. g.others t p q ∙ thread-left v d t (λ e. clash (two.threads t) (j.0.thread t e) q);
      }

  -- however the two desks' steps come in, each desk sees what it would see alone
  pub kept-alone : (v : View) (es : List Turn) → Throughout (KeepsTo one) v (ones es) → Throughout (KeepsTo two) v (twos es) → AsAlone one two v es
  kept-alone v es i j =
      let g = goes v v v (alike-here one v) (alike-here two v) es i j in
      record {
        one-sees = g.one-sees;
        two-sees = g.two-sees;
        one-leaves = same-on one.threads (after_turns v es) (after_all v (ones es)) g.one-ends.threads;
        two-leaves = same-on two.threads (after_turns v es) (after_all v (twos es)) g.two_ends.threads;
        others =
            same-on (of_neither one two) (after_turns v es) v
            (λ t k. let n = or_no (one.threads t) (two.threads t) (not-true (one.threads t || two.threads t) k) in g.others t n.0 n.1);
        marks = g.one-ends.rows ∙ alone-rows one v (ones es) i;
      }

-- ---- and so where each names its own handlers alone

its-kept : (desk : Desk) (v : View) (c : Step) → OfDesk desk v c → KeepsTo desk v c
its-kept desk v c i = record {
  thread = i.thread;
  asks = λ h j. i.names h (asks-named v c h j);
  moves = λ h j. i.names h (moves-named v c h j);
  gives = λ h j. i.names h (gives-named v c h j);
  marks = steady-rows v c i.steady;
}

pub all-kept : (desk : Desk) (v : View) (cs : List Step) → Throughout (OfDesk desk) v cs → Throughout (KeepsTo desk) v cs
all-kept desk v [] i = tt
all-kept desk v (c ∷ cs) i = (its-kept desk v c i.0, all-kept desk (after v c) cs i.1)

pub as-alone : (one two : Desk) → Separate one two → (v : View) (es : List Turn) → Throughout (OfDesk one) v (ones es) → Throughout (OfDesk two) v (twos es) → AsAlone one two v es
as-alone one two s v es i j = kept-alone one two s v es (all-kept one v (ones es) i) (all-kept two v (twos es) j)
