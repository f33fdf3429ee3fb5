-- The history tells the state: the places are the commands that are open or owed, in order.
use Prim.Native.Nat.{ℕ, suc, ◌≤◌, ◌<◌}
use Rattle.std.specs.Prelude.{Option, Some, None}
use mathlib.Core.Path.{◌≡◌, refl, sym, ap, ◌∙◌}
use mathlib.Core.Logic.{◌⊎◌, inl, inr}
use mathlib.Core.Bool.{Bool, true, false, cond}
use mathlib.Core.List.{List, [], ◌∷◌, ◌++◌, map}
use native.Mathlib.Omega.{arith}
use lib.Dec.{eqb}
use lib.ListN.{length, length-map}
use borrow.Author.Tests.{ne_eqb}
use Rattle.lists.specs.Lists.{keep, All}
use Rattle.lists.proofs.Tests.{split, clash, differ, eqb_same}
use Rattle.lists.proofs.Counts.{All-map}
use Rattle.lists.proofs.First.{without-same}
use Rattle.lists.proofs.Members.{put, collect, collect-all, collect-keep, collect-changed}
use Rattle.table.specs.declared.Row.{Row}
use Rattle.place.specs.declared.Place.{Place}
use Rattle.places.specs.Places.{is_open, is_owed, waits, owings, asks_exactly, owes_exactly, owed_by, owing}
use Rattle.rules.specs.View.{View}
use Rattle.rules.specs.declared.Outcome.{Outcome}
use Rattle.rules.specs.declared.Outcome.TheVariants.{Passed, Answered, Swallowed, Event, Turned, Given, Reset, Refused}
use Rattle.rules.specs.Judge.{judge}
use Rattle.rules.specs.Apply.{place, places_after}
use Rattle.rules.specs.Conduct.{Conduct}
use Rattle.rules.proofs.After.{exact-once}
use Rattle.history.specs.History.{Step, Entry, entry, view_after, history, is_passed, is_given, named, Sent, starts, sent, ends, lives, lives_on, standing, meets, open_in, owed_in, as_waits, as_owings}
use Rattle.history.proofs.Law.{conduct-after}

-- ---- the numbers of the commands

abbrev Before : ℕ → Sent → Type 0
Before n c = c.no < n

later : (n : ℕ) (l : List Sent) → All (Before n) l → All (Before (suc n)) l
later n l a = All-map (Before n) (Before (suc n)) (λ c k. omega arith) l a

starts-then : (P : Sent → Type 0) (n : ℕ) (o : Outcome) (l : List Sent)
    → ((asker asked kind t : ℕ) → P record { no = n; command = place asker asked kind t }) → All P l → All P (starts n o ++ l)
starts-then P n o l f a = split (is_passed o) (λ p. rw p (f (named o).asker (named o).asked (named o).kind (named o).thread, a)) (λ p. rw p a)

pub sent-before : (h : List Entry) → All (Before (length h)) (sent h)
sent-before [] = tt
sent-before (e ∷ h) =
    starts-then (Before (suc (length h))) (length h) e.outcome (sent h) (λ a b k t. omega arith) (later (length h) (sent h) (sent-before h))

-- a command is passed as a wait
abbrev Opened : Sent → Type 0
Opened c = is_open c.command ≡ true

sent-open : (h : List Entry) → All Opened (sent h)
sent-open [] = tt
sent-open (e ∷ h) = starts-then Opened (length h) e.outcome (sent h) (λ a b k t. refl) (sent-open h)

-- ---- how a command stands, one entry on

pub older : (e : Entry) (h : List Entry) (c : Sent) → c.no < length h → standing (e ∷ h) c ≡ lives_on e.outcome (standing h c)
older e h c k = rw (ne_eqb c.no (length h) (λ q. omega arith))

pub unsent : (h : List Entry) (c : Sent) → length h ≤ c.no → standing h c ≡ None
unsent [] c k = refl
unsent (e ∷ h) c k = rw (ne_eqb c.no (length h) (λ q. omega arith), unsent h c (omega arith))

-- how some commands stand: a place for each that is open or owed
abbrev pub stood : List Entry → List Sent → List Place
stood h [] = []
stood h (c ∷ cs) = put (standing h c) (stood h cs)

stood-moves : (e : Entry) (h : List Entry) (cs : List Sent) → All (Before (length h)) cs
    → stood (e ∷ h) cs ≡ collect (lives e.outcome) (stood h cs)
stood-moves e h [] a = refl
stood-moves e h (c ∷ cs) a =
    rw (older e h c a.0, stood-moves e h cs a.1) (go (standing h c))
  where
    go : (o : Option Place)
        → put (lives_on e.outcome o) (collect (lives e.outcome) (stood h cs)) ≡ collect (lives e.outcome) (put o (stood h cs))
    go None = refl
    go (Some p) = refl

-- ---- what an outcome does to the places is what it does to the commands, one by one

starting : (e : Entry) (h : List Entry) (ps : List Place) → stood (e ∷ h) (sent h) ≡ ps
    → stood (e ∷ h) (sent (e ∷ h)) ≡ stood (e ∷ h) (starts (length h) e.outcome) ++ ps
starting e h ps k = split (is_passed e.outcome) (λ p. rw (p, eqb_same (length h), k)) (λ p. rw p k)

begun : (e : Entry) (h : List Entry) (v : View) → Conduct v
    → stood (e ∷ h) (starts (length h) e.outcome) ++ collect (lives e.outcome) v.places ≡ places_after e.outcome v.places
begun e h v c = go e.outcome
  where
    go : (o : Outcome) → stood (e ∷ h) (starts (length h) o) ++ collect (lives o) v.places ≡ places_after o v.places
    go (Passed asker asked kind t) = rw (eqb_same (length h), collect-all v.places)
    go (Answered asked asker t k) =
        collect-keep (asks_exactly asked t) v.places ∙ sym (without-same (asks_exactly asked t) v.places (omega (arith, exact-once v c asked t)))
    go (Swallowed asked t) =
        collect-keep (owes_exactly asked t) v.places ∙ sym (without-same (owes_exactly asked t) v.places (omega (arith, exact-once v c asked t)))
    go Event = collect-all v.places
    go (Turned asker asked t k) = collect-all v.places
    go (Given asker asked t) = collect-changed owing (asks_exactly asked t) v.places (omega (arith, exact-once v c asked t))
    go (Reset a) = collect-keep (owed_by a) v.places
    go (Refused r) = collect-all v.places

told-step : (e : Entry) (h : List Entry) (v : View) → Conduct v → stood h (sent h) ≡ v.places
    → stood (e ∷ h) (sent (e ∷ h)) ≡ places_after e.outcome v.places
told-step e h v c k =
    starting e h (collect (lives e.outcome) v.places) (stood-moves e h (sent h) (sent-before h) ∙ ap (collect (lives e.outcome)) k)
    ∙ begun e h v c

pub told : (rows : List Row) (steps : List Step) → stood (history rows steps) (sent (history rows steps)) ≡ (view_after rows steps).places
told rows [] = refl
told rows (s ∷ steps) =
    let v = view_after rows steps in
    told-step (entry s (judge v s.room s.call)) (history rows steps) v (conduct-after rows steps) (told rows steps)

-- ---- a command stands as it was sent, or as owed

lived : (q g : Bool) (p y : Place) → cond q (cond g (Some (owing p)) None) (Some p) ≡ Some y → (y ≡ p) ⊎ (y ≡ owing p)
lived true true p y e = let k : owing p ≡ y = cc in inr (sym k)
lived true false p y e = differ (cc)
lived false g p y e = let k : p ≡ y = cc in inl (sym k)

pub stands-as : (h : List Entry) (c : Sent) (y : Place) → standing h c ≡ Some y → (y ≡ c.command) ⊎ (y ≡ owing c.command)
stands-as [] c y e = differ (cc)
stands-as (e ∷ h) c y k =
    split (eqb c.no (length h))
    (λ b. let k' : Some c.command ≡ Some y = rw b at k in let m : c.command ≡ y = cc in inl (sym m))
    (λ b. go (standing h c) (stands-as h c) (rw b at k))
  where
    on : (p : Place) → (y ≡ p) ⊎ (y ≡ owing p) → (p ≡ c.command) ⊎ (p ≡ owing c.command) → (y ≡ c.command) ⊎ (y ≡ owing c.command)
    on p (inl a) (inl b) = inl (a ∙ b)
    on p (inl a) (inr b) = inr (a ∙ b)
    on p (inr a) (inl b) = inr (a ∙ ap owing b)
    on p (inr a) (inr b) = inr (a ∙ ap owing b)

    go : (o : Option Place) → ((z : Place) → o ≡ Some z → (z ≡ c.command) ⊎ (z ≡ owing c.command)) → lives_on e.outcome o ≡ Some y
        → (y ≡ c.command) ⊎ (y ≡ owing c.command)
    go None ih m = differ (cc)
    go (Some p) ih m = on p (lived (ends e.outcome p) (is_given e.outcome) p y m) (ih p refl)

open-as : (h : List Entry) (c : Sent) (y : Place) → standing h c ≡ Some y → is_open y ≡ true → y ≡ c.command
open-as h c y e o = elim (stands-as h c y e) [ inl k ↦ k | inr k ↦ clash (is_open y) o (ap is_open k) ]

owed-as : (h : List Entry) (c : Sent) (y : Place) → standing h c ≡ Some y → Opened c → is_owed y ≡ true → y ≡ owing c.command
owed-as h c y e s o = elim (stands-as h c y e) [ inl k ↦ clash (is_open y) (ap is_open k ∙ s) (rw o) | inr k ↦ k ]

-- ---- the waits are the open commands, the owings are the owed ones, in order

-- of some commands, those that a test picks: as places, and as commands
module _ (h : List Entry) (q : Place → Bool) (f : Sent → Place) where
  picked : (cs : List Sent) → All (λ (c : Sent). (y : Place) → standing h c ≡ Some y → q y ≡ true → y ≡ f c) cs
      → keep q (stood h cs) ≡ map f (keep (λ (c : Sent). meets q (standing h c)) cs)
  picked [] a = refl
  picked (c ∷ cs) a = go (standing h c) refl (picked cs a.1)
    where
      go : (o : Option Place) → standing h c ≡ o
          → keep q (stood h cs) ≡ map f (keep (λ (d : Sent). meets q (standing h d)) cs)
          → keep q (put o (stood h cs)) ≡ map f (cond (meets q o) (c ∷ keep (λ (d : Sent). meets q (standing h d)) cs) (keep (λ (d : Sent). meets q (standing h d)) cs))
      go None e ih = ih
      go (Some y) e ih = split (q y) (λ b. rw (b, ih, a.0 y e b)) (λ b. rw b ih)

pub waits-told : (rows : List Row) (steps : List Step) → waits (view_after rows steps).places ≡ as_waits (open_in (history rows steps))
waits-told rows steps =
    let h = history rows steps in
    ap waits (sym (told rows steps)) ∙ picked h is_open (λ (c : Sent). c.command) (sent h) (All-map Opened _ (λ c s. open-as h c) (sent h) (sent-open h))

pub owings-told : (rows : List Row) (steps : List Step) → owings (view_after rows steps).places ≡ as_owings (owed_in (history rows steps))
owings-told rows steps =
    let h = history rows steps in
    ap owings (sym (told rows steps))
    ∙ picked h is_owed (λ (c : Sent). owing c.command) (sent h) (All-map Opened _ (λ c s y e. owed-as h c y e s) (sent h) (sent-open h))

-- and so they are as many
pub how-many-open : (rows : List Row) (steps : List Step) → length (waits (view_after rows steps).places) ≡ length (open_in (history rows steps))
how-many-open rows steps = ap length (waits-told rows steps) ∙ length-map (open_in (history rows steps)) (λ (c : Sent). c.command)

pub how-many-owed : (rows : List Row) (steps : List Step) → length (owings (view_after rows steps).places) ≡ length (owed_in (history rows steps))
how-many-owed rows steps = ap length (owings-told rows steps) ∙ length-map (owed_in (history rows steps)) (λ (c : Sent). owing c.command)
