-- A thread's tree, and that a passed command and an ended wait keep it.
use Prim.Native.Nat.{ℕ}
use Rattle.std.specs.Prelude.{Some}
use mathlib.Core.Path.{◌≡◌, refl, sym}
use mathlib.Core.Bool.{Bool, true, false, ◌&&◌, or-true}
use mathlib.Core.List.{List, [], ◌∷◌}
use lib.Dec.{eqb}
use borrow.Author.Tests.{eqb-true, eq-eqb}
use Rattle.lists.specs.Lists.{some_of, first, without}
use Rattle.lists.proofs.Tests.{split, clash, or_no, and_yes, or_left, eqb_same}
use Rattle.lists.proofs.Counts.{some-le, none-le}
use Rattle.lists.proofs.First.{none-without, some-without, first-yes}
use Rattle.tapa.specs.Address.{category_of, handler_of}
use Rattle.place.specs.declared.Place.{Place}
use Rattle.places.specs.Places.{open_on, asks_exactly, asks, stands, stands_on, holds_on, holding}
use Rattle.rules.specs.Judge.{may_ask}
use Rattle.rules.specs.Conduct.{grown_in, Grown, Tree}
use Rattle.rules.proofs.Waits.{open-thread}

-- h is asked in a wait of thread t
abbrev pub asked_on : ℕ → ℕ → Place → Bool
asked_on t h p = open_on t p && asks h p

pub asked-on : (t h : ℕ) (p : Place) → asked_on t h p ≡ true → open_on t p ≡ true
asked-on t h p q = (and_yes (open_on t p) (asks h p) q).0

-- ---- the tree
module _ (r t : ℕ) where
  -- a thread with no waits: any root will do
  bare : (l : List Place) → some_of (open_on t) l ≡ false → Grown r t l
  bare [] e = tt
  bare (p ∷ l) e = let f = or_no (open_on t p) (some_of (open_on t) l) e in (λ o. clash (open_on t p) o f.0, bare l f.1)

  -- who is in the tree stays in it, and who stands in a wait of it is in it
  more : (h : ℕ) (p : Place) (l : List Place) → grown_in r t h l ≡ true → grown_in r t h (p ∷ l) ≡ true
  more h p l e = split (eqb h r) (λ b. rw b) (λ b. let e' : some_of (asked_on t h) l ≡ true = rw b at e in rw (b, e', or-true))

  pub standing : (h : ℕ) (l : List Place) → Grown r t l → some_of (stands_on t h) l ≡ true → grown_in r t h l ≡ true
  standing h [] g e = clash false e refl
  standing h (p ∷ l) g e =
      split (stands_on t h p)
      (λ b. let y = and_yes (open_on t p) (stands h p) b in
      split (asks h p) (λ q. rw (y.0, q, or-true))
      (λ q. let k : eqb (handler_of p.asker) h ≡ true = or_left (eqb (handler_of p.asker) h) (asks h p) y.1 q in
      more h p l (rw (eqb-true (handler_of p.asker) h k) at (g.0 y.0).0)))
      (λ b. more h p l (standing h l g.1 (rw b at e)))

  -- and the root stands in the tree, unless it is empty
  pub rooted : (h : ℕ) (l : List Place) → Grown r t l → some_of (open_on t) l ≡ true → grown_in r t h l ≡ true → some_of (stands_on t h) l ≡ true
  rooted h [] g s e = clash false s refl
  rooted h (p ∷ l) g s e =
      split (some_of (asked_on t h) (p ∷ l))
      (λ b. some-le (asked_on t h) (stands_on t h) (λ x q. let y = and_yes (open_on t x) (asks h x) q in rw (y.0, y.1, or-true)) (p ∷ l) b)
      (λ b. let k : h ≡ r = eqb-true h r (or_left (eqb h r) (some_of (asked_on t h) (p ∷ l)) e b) in
      split (some_of (open_on t) l)
      (λ q. rw (rooted h l g.1 q (rw k (rw (eqb_same r))), or-true))
      (λ q.
      let o : open_on t p ≡ true = or_left (open_on t p) (some_of (open_on t) l) s q in
      let n = none-le (asked_on t (handler_of p.asker)) (open_on t) (asked-on t (handler_of p.asker)) l q in
      let z : eqb (handler_of p.asker) r ≡ true = or_left (eqb (handler_of p.asker) r) _ (g.0 o).0 n in
      rw (o, k, z)))

  -- a wait whose asked handler holds no question on its thread can be taken out
  grown-without : (q : Place → Bool) (l : List Place) (x : Place) → first q l ≡ Some x → some_of (holds_on x.thread (handler_of x.asked)) l ≡ false
      → Grown r t l → Grown r t (without q l)
  grown-without q [] x f n g = tt
  grown-without q (p ∷ l) x f n g =
      split (q p) (λ b. rw b g.1)
      (λ b.
      let m = or_no (holds_on x.thread (handler_of x.asked) p) (some_of (holds_on x.thread (handler_of x.asked)) l) n in
      let f' : first q l ≡ Some x = rw b at f in
      rw b (
        λ o.
            let other : asked_on t (handler_of p.asker) x ≡ false =
            split (asked_on t (handler_of p.asker) x)
            (λ c. let y = and_yes (open_on t x) (asks (handler_of p.asker) x) c in
            clash (holds_on x.thread (handler_of x.asked) p)
            (rw (eqb-true x.thread t (open-thread t x y.0), o) (eq-eqb (handler_of p.asker) (handler_of x.asked) (sym (eqb-true (handler_of x.asked) (handler_of p.asker) y.1))))
            m.0)
            (λ c. c) in
            let a = or_no (eqb (handler_of p.asked) r) (some_of (asked_on t (handler_of p.asked)) l) (g.0 o).1 in (
              rw (some-without (asked_on t (handler_of p.asker)) q l x f' other) (g.0 o).0,
              rw a.0 (none-without (asked_on t (handler_of p.asked)) q l a.1),
            ),
        grown-without q l x f' m.1 g.1,
      ))

  -- nobody who is not in the tree holds a question in it
  outside-holds : (h : ℕ) (l : List Place) → Grown r t l → grown_in r t h l ≡ false → some_of (holds_on t h) l ≡ false
  outside-holds h [] g n = refl
  outside-holds h (p ∷ l) g n =
      let a = or_no (eqb h r) (some_of (asked_on t h) (p ∷ l)) n in
      let b = or_no (asked_on t h p) (some_of (asked_on t h) l) a.1 in
      let n' : grown_in r t h l ≡ false = rw (a.0, b.1) in
      let not-it : holds_on t h p ≡ false = split (holds_on t h p)
      (λ q. let y = and_yes (open_on t p) (eqb (handler_of p.asker) h) q in
      clash (grown_in r t h l) (rw (eqb-true (handler_of p.asker) h y.1) at (g.0 y.0).0) n') (λ q. q) in
      rw not-it (outside-holds h l g.1 n')

  -- and so the handler that the newest wait asks holds none
  newest-leaf : (l : List Place) (x : Place) → first (open_on t) l ≡ Some x → Grown r t l → some_of (holds_on t (handler_of x.asked)) l ≡ false
  newest-leaf [] x e g = refl
  newest-leaf (p ∷ l) x e g =
      split (open_on t p)
      (λ b.
      let k : p ≡ x = (let f : Some p ≡ Some x = rw b at e in cc) in
      let n : grown_in r t (handler_of x.asked) l ≡ false = rw k at (g.0 b).1 in
      let not-it : holds_on t (handler_of x.asked) p ≡ false = split (holds_on t (handler_of x.asked) p)
      (λ q. let y = and_yes (open_on t p) (eqb (handler_of p.asker) (handler_of x.asked)) q in
      clash (grown_in r t (handler_of x.asked) l) (rw (eqb-true (handler_of p.asker) (handler_of x.asked) y.1) at (g.0 b).0) n) (λ q. q) in
      rw not-it (outside-holds (handler_of x.asked) l g.1 n))
      (λ b. let not-it : holds_on t (handler_of x.asked) p ≡ false = rw b in rw not-it (newest-leaf l x (rw b at e) g.1))

-- a command that meets d and e
pub tree-passed : (t : ℕ) (l : List Place) (p : Place) → may_ask l p.thread p.asker ≡ true
    → some_of (stands_on p.thread (handler_of p.asked)) l ≡ false → eqb (handler_of p.asked) (handler_of p.asker) ≡ false → Tree t l → Tree t (p ∷ l)
tree-passed t l p may not_in ne g =
    split (open_on t p)
    (λ o.
    let e : p.thread ≡ t = eqb-true p.thread t (open-thread t p o) in
    let out : some_of (stands_on t (handler_of p.asked)) l ≡ false = rw e at not_in in
    let d : may_ask l t p.asker ≡ true = rw e at may in
    split (some_of (open_on t) l)
    (λ s.
    let m : some_of (stands_on t (handler_of p.asker)) l ≡ true = rw s at d in
    let r = handler_of g.root in record {
      root = g.root;
      driver = g.driver;
      grown = (
        λ _. (
          standing r t (handler_of p.asker) l g.grown m,
          split (grown_in r t (handler_of p.asked) l) (λ b. clash (some_of (stands_on t (handler_of p.asked)) l) (rooted r t (handler_of p.asked) l g.grown s b) out) (λ b. b),
        ),
        g.grown,
      );
    })
    (λ s.
    let m : eqb (category_of p.asker) 1 ≡ true = rw s at d in
    record {
      root = p.asker;
      driver = eqb-true (category_of p.asker) 1 m;
      grown = (
        λ _. (
          rw (eqb_same (handler_of p.asker)),
          rw ne (none-le (asked_on t (handler_of p.asked)) (open_on t) (asked-on t (handler_of p.asked)) l s),
        ),
        bare (handler_of p.asker) t l s,
      );
    }))
    (λ o. record { root = g.root; driver = g.driver; grown = (λ q. clash (open_on t p) q o, g.grown) })

-- the wait of thread t that asks exactly a, taken out where its handler holds no question: every thread's tree stands
pub tree-ended : (u t a : ℕ) (l : List Place) (x : Place) → first (asks_exactly a t) l ≡ Some x → holding l a t ≡ false
    → Tree u l → Tree u (without (asks_exactly a t) l)
tree-ended u t a l x f n g =
    let y = and_yes (open_on t x) (eqb x.asked a) (first-yes (asks_exactly a t) l x f) in
    let k : x.thread ≡ t = eqb-true x.thread t (open-thread t x y.0) in
    record {
      root = g.root;
      driver = g.driver;
      grown = grown-without (handler_of g.root) u (asks_exactly a t) l x f (rw (k, eqb-true x.asked a y.1) n) g.grown;
    }

-- the newest wait of a thread is a leaf: whoever gives up the newest first meets no question that is held
pub newest-holds-none : (t : ℕ) (l : List Place) (x : Place) → Tree t l → first (open_on t) l ≡ Some x → holding l x.asked t ≡ false
newest-holds-none t l x g e = newest-leaf (handler_of g.root) t l x e g.grown
