-- A response that was not refused bears the mark of the command that it ends.
use Prim.Native.Nat.{ℕ, ◌≤◌, ◌<◌}
use Rattle.std.specs.Prelude.{Some}
use mathlib.Core.Path.{◌≡◌, refl, sym, ap, ◌∙◌}
use mathlib.Core.Logic.{inl, inr}
use mathlib.Core.Bool.{Bool, true, false, ◌&&◌, ◌||◌, or-true}
use mathlib.Core.List.{List, [], ◌∷◌}
use native.Mathlib.Omega.{arith}
use lib.Dec.{eqb, ltb}
use lib.ListN.{length}
use borrow.Author.Tests.{eq-eqb, lt-ltb}
use Rattle.lists.specs.Lists.{one, count, In}
use Rattle.lists.proofs.Tests.{split, clash, or_no, and_yes}
use Rattle.lists.proofs.Counts.{count-some}
use Rattle.lists.proofs.Members.{in_either, in-keep, in_count, in_one, in_all}
use Rattle.table.specs.declared.Row.{Row}
use Rattle.place.specs.declared.Place.{Place}
use Rattle.places.specs.Places.{is_open, is_owed, on_thread, asks_exactly, owes_exactly, asks, owing}
use Rattle.rules.specs.View.{View}
use Rattle.rules.specs.declared.Outcome.{Outcome}
use Rattle.rules.specs.Judge.{judge}
use Rattle.rules.specs.Conduct.{Conduct}
use Rattle.rules.proofs.Allowed.{Allowed, allowed}
use Rattle.rules.proofs.After.{exact-once}
use Rattle.history.specs.History.{Step, Entry, entry, view_after, history, is_passed, is_answered, is_given, is_swallowed, is_reset, ends_wait, ends_one, named, Sent, starts, sent, lives, lives_on, standing, meets, ends, ended}
use Rattle.history.specs.Marks.{addressed, is_reply, fits, replaces, replaced_since, used, AllThree, Marked, Honest, Bears}
use Rattle.history.proofs.Law.{conduct-after}
use Rattle.history.proofs.Told.{sent-before, older, stood, told, stands-as}
use Rattle.history.proofs.Ends.{there, found-one, one_ended, stood-in}
use Rattle.history.proofs.Words.{ends-wait, ends-owing, ends-reset}
use Rattle.history.proofs.Fates.{was}

-- ---- the mark's address is that of the wait or of the owing

-- a command stands with the address and the thread that it was sent with
stands-addressed : (h : List Entry) (c : Sent) (a t : ℕ) (y : Place) → standing h c ≡ Some y → addressed a t c.command ≡ true → addressed a t y ≡ true
stands-addressed h c a t y e p = elim (stands-as h c y e) [ inl k ↦ rw k p | inr k ↦ rw k p ]

open-exactly : (a t : ℕ) (y : Place) → addressed a t y ≡ true → is_owed y ≡ false → asks_exactly a t y ≡ true
open-exactly a t y p n = let z = and_yes (eqb y.asked a) (on_thread t y) p in rw (n, z.0, z.1)

owed-exactly : (a t : ℕ) (y : Place) → addressed a t y ≡ true → is_owed y ≡ true → owes_exactly a t y ≡ true
owed-exactly a t y p n = let z = and_yes (eqb y.asked a) (on_thread t y) p in rw (n, z.0, z.1)

reply-ends : (a g s : Bool) → (a || s) ≡ true → ((a || g) || s) ≡ true
reply-ends true g s e = refl
reply-ends false true s e = refl
reply-ends false false s e = e

-- what is ended by no give up and by no reply is ended by a replaced call
ended-else : (o : Outcome) (y : Place) → ends o y ≡ true → is_given o ≡ false → is_reply o ≡ false → is_reset o ≡ true
ended-else o y e g z =
    let n = or_no (is_answered o) (is_swallowed o) z in
    split (is_reset o) (λ r. r)
    (λ r. let w = was o y e in
    let x : 0 ≡ one (is_open y) = rw (n.0, g) at w.0 in
    let u : 0 ≡ one (is_owed y) = rw (n.1, r) at w.1 in
    split (is_owed y) (λ b. absurd (omega (arith, rw b at u))) (λ b. absurd (omega (arith, rw b at x))))

module _ (mark : ℕ → ℕ) where
  -- where a passed command has come to
  data Status (h : List Entry) (c : Sent) : Type 0 where
    under-way : (y : Place) → standing h c ≡ Some y → Status h c
    replied : used mark h c.no ≡ true → Status h c
    gone : replaced_since h c ≡ true → Status h c

  abbrev Every : List Entry → Type 0
  Every h = (c : Sent) → In c (sent h) → Status h c

  module _ (h : List Entry) (v : View) (l : Conduct v) (k : stood h (sent h) ≡ v.places) where
    counts : (q : Place → Bool) (c : Sent) (y : Place) → In c (sent h) → standing h c ≡ Some y → q y ≡ true → 1 ≤ count q v.places
    counts q c y i e p = in_count q y v.places p (rw k at (stood-in h (sent h) c y i e))

    -- a command that the outcome ends is the one that it ends
    ended_is : (o : Outcome) → Allowed v o → ends_one o ≡ true → (c : Sent) (y : Place) → In c (sent h) → standing h c ≡ Some y → ends o y ≡ true
        → ended h o ≡ c ∷ []
    ended_is o a z c y i e p =
        let d = one_ended h v l k o a z in
        let j : In c (ended h o) = in-keep (λ (x : Sent). meets (ends o) (standing h x)) c (sent h) (rw e p) i in
        d.1 ∙ ap (λ (x : Sent). x ∷ []) (in_one c d.0 (rw d.1 at j))

    -- the command that the mark names is open or owed, and it is what the response ends
    bears-it : (o : Outcome) → Allowed v o → is_reply o ≡ true → (c : Sent) (y : Place) → In c (sent h) → standing h c ≡ Some y → fits o c.command ≡ true
        → ended h o ≡ c ∷ []
    bears-it o a z c y i e f =
        let n = named o in
        let p = stands-addressed h c n.asked n.thread y e f in
        let r = reply-ends (is_answered o) (is_given o) (is_swallowed o) z in
        split (ends_wait o)
        (λ w. split (is_owed y)
        (λ b. absurd (omega (
          arith,
          exact-once v l n.asked n.thread,
          counts (owes_exactly n.asked n.thread) c y i e (owed-exactly n.asked n.thread y p b),
          found-one h v l k _ _ _ ((there v o a).0 w),
        )))
        (λ b. ended_is o a r c y i e (rw (ends-wait o y w) (open-exactly n.asked n.thread y p b))))
        (λ w. let s : is_swallowed o ≡ true = rw w at r in
        split (is_owed y)
        (λ b. ended_is o a r c y i e (rw (ends-owing o y s) (owed-exactly n.asked n.thread y p b)))
        (λ b. absurd (omega (
          arith,
          exact-once v l n.asked n.thread,
          counts (asks_exactly n.asked n.thread) c y i e (open-exactly n.asked n.thread y p b),
          count-some (owes_exactly n.asked n.thread) v.places ((there v o a).1 s),
        ))))

    bears : (o : Outcome) → Allowed v o → Every h → (is_reply o ≡ true → Marked mark (AllThree mark) h o) → Bears mark h o
    bears o a st m z = go (m z) (st (m z).of-it (m z).passed-before)
      where
        go : (n : Marked mark (AllThree mark) h o) → Status h n.of-it → (c : Sent) × (ended h o ≡ c ∷ []) × (c.no ≡ mark (length h))
        go n (under-way y e) = (n.of-it, bears-it o a z n.of-it y n.passed-before e n.meets.0, n.numbered)
        go n (replied u) = clash (used mark h n.of-it.no) u n.meets.1
        go n (gone r) = clash (replaced_since h n.of-it) r n.meets.2

    -- ---- one entry on

    module _ (s : Step) (c : Sent) (i : In c (sent h)) where
      abbrev on : Outcome → List Entry
      on o = entry s o ∷ h

      number : c.no < length h
      number = in_all (λ (x : Sent). x.no < length h) c (sent h) (sent-before h) i

      -- a command ended by a reply is numbered by its mark
      reply-used : (o : Outcome) → Bears mark h o → is_reply o ≡ true → ended h o ≡ c ∷ [] → used mark (on o) c.no ≡ true
      reply-used o b z e =
          let d = b z in
          let j : In c (ended h o) = rw e (inl refl) in
          let same : d.0 ≡ c = in_one c d.0 (rw d.1 at j) in
          let n : mark (length h) ≡ c.no = sym d.2 ∙ ap (λ (x : Sent). x.no) same in
          rw (z, eq-eqb (mark (length h)) c.no n)

      module _ (y : Place) (e : standing h c ≡ Some y) where
        stands : (o : Outcome) (z : Place) → lives o y ≡ Some z → Status (on o) c
        stands o z q = under-way z (older (entry s o) h c number ∙ ap (lives_on o) e ∙ q)

        same_asked : (a : ℕ) → asks a y ≡ true → asks a c.command ≡ true
        same_asked a p = elim (stands-as h c y e) [ inl q ↦ rw (← q) p | inr q ↦ ap (asks a) (sym q) ∙ p ]

        goes : (o : Outcome) → Allowed v o → Bears mark h o → Status (on o) c
        goes o a b =
            split (ends o y)
            (λ p. split (is_given o)
            (λ g. stands o (owing y) (rw (p, g)))
            (λ g. split (is_reply o)
            (λ z. replied (reply-used o b z (ended_is o a (reply-ends (is_answered o) (is_given o) (is_swallowed o) z) c y i e p)))
            (λ z. let r = ended-else o y p g z in
            gone (rw (lt-ltb c.no (length h) number, r, same_asked (named o).asked (and_yes (is_owed y) (asks (named o).asked y) (rw (ends-reset o y r) at p)).1)))))
            (λ p. stands o y (rw p))

      next-status : (o : Outcome) → Allowed v o → Bears mark h o → Status h c → Status (on o) c
      next-status o a b (under-way y e) = goes y e o a b
      next-status o a b (replied u) = replied (rw u (or-true (is_reply o && eqb (mark (length h)) c.no)))
      next-status o a b (gone r) = gone (rw r (or-true (ltb c.no (length h) && replaces o c.command)))

    -- a command of the entry itself
    new-status : (s : Step) (o : Outcome) (c : Sent) → In c (starts (length h) o) → Status (entry s o ∷ h) c
    new-status s o c j =
        split (is_passed o)
        (λ p. under-way c.command (rw (eq-eqb c.no (length h) (ap (λ (x : Sent). x.no) (sym (in_one c _ (rw p at j)))))))
        (λ p. absurd (rw p at j))

    every-next : (s : Step) (o : Outcome) → Allowed v o → Bears mark h o → Every h → Every (entry s o ∷ h)
    every-next s o a b st c i =
        elim (in_either c (starts (length h) o) (sent h) i) [ inl j ↦ new-status s o c j | inr j ↦ next-status s c j o a b (st c j) ]

  -- ---- a run

  bears-next : (rows : List Row) (steps : List Step) (s : Step) → Every (history rows steps)
      → (is_reply (judge (view_after rows steps) s.room s.call) ≡ true → Marked mark (AllThree mark) (history rows steps) (judge (view_after rows steps) s.room s.call))
      → Bears mark (history rows steps) (judge (view_after rows steps) s.room s.call)
  bears-next rows steps s st m =
      let v = view_after rows steps in
      bears (history rows steps) v (conduct-after rows steps) (told rows steps) (judge v s.room s.call) (allowed v s.room s.call) st m

  every : (rows : List Row) (steps : List Step) → Honest mark (history rows steps) → Every (history rows steps)
  every rows [] m c i = absurd i
  every rows (s ∷ steps) m c i =
      let v = view_after rows steps in
      let st = every rows steps m.1 in
      every-next (history rows steps) v (conduct-after rows steps) (told rows steps) s (judge v s.room s.call) (allowed v s.room s.call) (bears-next rows steps s st m.0) st c i

  -- the last entry of an honest history, if it is an answered or a swallowed response, bears the mark of the one command that it ends
  pub marks : (rows : List Row) (steps : List Step) (s : Step) → Honest mark (history rows (s ∷ steps))
      → Bears mark (history rows steps) (judge (view_after rows steps) s.room s.call)
  marks rows steps s m = bears-next rows steps s (every rows steps m.1) m.0
