-- Each answered, given or swallowed outcome ends exactly one command, and a reply goes to the one that asked.
use Prim.Native.Nat.{ℕ, ◌+◌}
use Rattle.std.specs.Prelude.{Option, Some, None}
use mathlib.Core.Path.{◌≡◌, refl, sym, ap, ◌∙◌}
use mathlib.Core.Logic.{◌⊎◌, inl, inr}
use mathlib.Core.Bool.{Bool, true, false}
use mathlib.Core.List.{List, [], ◌∷◌}
use native.Mathlib.Omega.{arith}
use lib.ListN.{length}
use borrow.Author.Tests.{eqb-true}
use Rattle.lists.specs.Lists.{one, count, some_of, In}
use Rattle.lists.proofs.Tests.{split, clash, and_yes}
use Rattle.lists.proofs.Counts.{count-some, length-keep}
use Rattle.lists.proofs.First.{first-yes, first-meets}
use Rattle.lists.proofs.Members.{only, put, alone, in_kept}
use Rattle.tapa.specs.Address.{handler_of}
use Rattle.table.specs.declared.Row.{Row}
use Rattle.place.specs.declared.Place.{Place}
use Rattle.places.specs.Places.{is_owed, asks_exactly, owes_exactly, asks, owing}
use Rattle.rules.specs.View.{View}
use Rattle.rules.specs.declared.Outcome.{Outcome}
use Rattle.rules.specs.declared.Outcome.TheVariants.{Passed, Answered, Swallowed, Event, Turned, Given, Reset, Refused}
use Rattle.rules.specs.Judge.{judge}
use Rattle.rules.specs.Conduct.{Conduct}
use Rattle.rules.proofs.Allowed.{Allowed, Leaf, allowed}
use Rattle.rules.proofs.Says.{says}
use Rattle.rules.proofs.After.{exact-once}
use Rattle.history.specs.History.{Step, Entry, entry, view_after, history, Sent, sent, standing, meets, ends, ended, ends_wait, ends_one, is_swallowed, named, Went, Concerns}
use Rattle.history.proofs.Went.{went}
use Rattle.history.proofs.Words.{ends-wait, ends-owing, ends-reset, aimed}
use Rattle.history.proofs.Law.{conduct-after}
use Rattle.history.proofs.Told.{stood, told, stands-as}

-- ---- the wait that an outcome ends is a leaf of its thread's tree, and the owing is there

abbrev There : View → Outcome → Type 0
There v o =
    (ends_wait o ≡ true → Leaf v (named o).asker (named o).asked (named o).thread)
    × (is_swallowed o ≡ true → some_of (owes_exactly (named o).asked (named o).thread) v.places ≡ true)

pub there : (v : View) (o : Outcome) → Allowed v o → There v o
there v (Passed asker asked kind t) a = (λ e. clash false e refl, λ e. clash false e refl)
there v (Answered asked asker t k) a = (λ e. a, λ e. clash false e refl)
there v (Swallowed asked t) a = (λ e. clash false e refl, λ e. a.0)
there v Event a = (λ e. clash false e refl, λ e. clash false e refl)
there v (Turned asker asked t k) a = (λ e. clash false e refl, λ e. clash false e refl)
there v (Given asker asked t) a = (λ e. a, λ e. clash false e refl)
there v (Reset h) a = (λ e. clash false e refl, λ e. clash false e refl)
there v (Refused r) a = (λ e. clash false e refl, λ e. clash false e refl)

-- ---- commands that a test picks are as many as the places that it picks

count-stood : (h : List Entry) (q : Place → Bool) (cs : List Sent) → count (λ (c : Sent). meets q (standing h c)) cs ≡ count q (stood h cs)
count-stood h q [] = refl
count-stood h q (c ∷ cs) = go (standing h c) (count-stood h q cs)
  where
    go : (o : Option Place) → count (λ (d : Sent). meets q (standing h d)) cs ≡ count q (stood h cs)
        → one (meets q o) + count (λ (d : Sent). meets q (standing h d)) cs ≡ count q (put o (stood h cs))
    go None ih = omega arith
    go (Some p) ih = omega arith

module _ (h : List Entry) (v : View) (c : Conduct v) (k : stood h (sent h) ≡ v.places) where
  ended-count : (o : Outcome) → length (ended h o) ≡ count (ends o) v.places
  ended-count o =
      length-keep (λ (d : Sent). meets (ends o) (standing h d)) (sent h) ∙ count-stood h (ends o) (sent h) ∙ ap (count (ends o)) k

  pub found-one : (asker asked t : ℕ) → Leaf v asker asked t → count (asks_exactly asked t) v.places ≡ 1
  found-one asker asked t i =
      let s = first-meets (asks_exactly asked t) (asks_exactly asked t) v.places i.it i.found (first-yes (asks_exactly asked t) v.places i.it i.found) in
      omega (arith, exact-once v c asked t, count-some (asks_exactly asked t) v.places s)

  counted : (o : Outcome) → Allowed v o → ends_one o ≡ true → count (ends o) v.places ≡ 1
  counted o a e =
      let n = named o in
      split (ends_wait o)
      (λ w. ap (λ (q : Place → Bool). count q v.places) (λ i p. ends-wait o p w i) ∙ found-one _ _ _ ((there v o a).0 w))
      (λ w. let s : is_swallowed o ≡ true = rw w at e in
      let once : count (owes_exactly n.asked n.thread) v.places ≡ 1 =
      omega (arith, exact-once v c n.asked n.thread, count-some (owes_exactly n.asked n.thread) v.places ((there v o a).1 s)) in
      ap (λ (q : Place → Bool). count q v.places) (λ i p. ends-owing o p s i) ∙ once)

  pub one_ended : (o : Outcome) → Allowed v o → ends_one o ≡ true → (d : Sent) × (ended h o ≡ d ∷ [])
  one_ended o a e = alone (ended h o) (ended-count o ∙ counted o a e)

-- ---- whom an outcome concerns

-- a command stands as it was sent, but that it may be owed
as-sent : (c y : Place) → (y ≡ c) ⊎ (y ≡ owing c) → (c.asker ≡ y.asker) × (c.asked ≡ y.asked) × (c.thread ≡ y.thread)
as-sent c y (inl e) = rw e (refl, refl, refl)
as-sent c y (inr e) = rw e (refl, refl, refl)

pub stood-in : (h : List Entry) (cs : List Sent) (d : Sent) (y : Place) → In d cs → standing h d ≡ Some y → In y (stood h cs)
stood-in h [] d y i e = absurd i
stood-in h (c ∷ cs) d y (inl k) e = let e' : standing h c ≡ Some y = rw k e in rw e' (inl refl)
stood-in h (c ∷ cs) d y (inr i) e = go (standing h c) (stood-in h cs d y i e)
  where
    go : (o : Option Place) → In y (stood h cs) → In y (put o (stood h cs))
    go None j = j
    go (Some p) j = inr j

-- a command that stands somehow, and what passes of it
pub met : (q : Place → Bool) (o : Option Place) → meets q o ≡ true → (y : Place) × (o ≡ Some y) × (q y ≡ true)
met q None e = clash false e refl
met q (Some y) e = (y, refl, e)

module _ (h : List Entry) (v : View) (c : Conduct v) (k : stood h (sent h) ≡ v.places) (d : Sent) (i : In d (sent h)) where
  standing-in : (y : Place) → standing h d ≡ Some y → In y v.places
  standing-in y e = rw k at (stood-in h (sent h) d y i e)

  pub concerns : (s : Step) (o : Outcome) → Allowed v o → Went (entry s o) → meets (ends o) (standing h d) ≡ true → Concerns (entry s o) d
  concerns st o a g m =
      let m' = met (ends o) (standing h d) m in
      let y = m'.0 in
      let s = as-sent d.command y (stands-as h d y m'.1) in
      let asker : ends_wait o ≡ true → d.command.asker ≡ (named o).asker =
      λ w.
      let n = (there v o a).0 w in
      let k : y ≡ n.it = only (asks_exactly _ _) v.places n.it y (omega (arith, exact-once v c (named o).asked (named o).thread)) n.found (standing-in y m'.1) (rw (ends-wait o y w) at m'.2) in
      s.0 ∙ ap (λ (p : Place). p.asker) k ∙ n.its-asker
      in
      record {
        its-reply = λ w.
            let r = g.reply (rw w) in record {
              head = r.head;
              read = r.read;
              to-asker = r.to-asker ∙ sym (asker w);
              from-asked = r.from-asked ∙ sym (s.1 ∙ (aimed o y (rw w) m'.2).0);
              kind = r.kind;
              on-thread = r.on-thread ∙ sym (s.2 ∙ (aimed o y (rw w) m'.2).1);
              with_code = r.with_code;
            };
        its-asker = asker;
        its-asked = λ e. s.1 ∙ (aimed o y e m'.2).0;
        its-thread = λ e. s.2 ∙ (aimed o y e m'.2).1;
        its-handler = λ r. ap handler_of s.1 ∙ eqb-true (handler_of y.asked) (named o).asked (and_yes (is_owed y) (asks (named o).asked y) (rw (ends-reset o y r) at m'.2)).1;
      }

-- ---- after any steps from any table

pub ends-its-own : (rows : List Row) (steps : List Step) (s : Step) (d : Sent) → In d (ended (history rows steps) (judge (view_after rows steps) s.room s.call))
    → Concerns (entry s (judge (view_after rows steps) s.room s.call)) d
ends-its-own rows steps s d i =
    let v = view_after rows steps in
    let h = history rows steps in
    let o = judge v s.room s.call in
    let p = in_kept (λ (x : Sent). meets (ends o) (standing h x)) d (sent h) i in
    concerns h v (conduct-after rows steps) (told rows steps) d p.0 s o (allowed v s.room s.call) (went s o (says v s.room s.call)) p.1

-- the next outcome, if it is answered, given or swallowed, ends exactly one command
pub ends-exactly-one : (rows : List Row) (steps : List Step) (s : Step) → ends_one (judge (view_after rows steps) s.room s.call) ≡ true
    → (d : Sent) × (ended (history rows steps) (judge (view_after rows steps) s.room s.call) ≡ d ∷ [])
ends-exactly-one rows steps s e =
    let v = view_after rows steps in
    one_ended (history rows steps) v (conduct-after rows steps) (told rows steps) (judge v s.room s.call) (allowed v s.room s.call) e
