-- The tests of rules d and e are the sentences of the rules, and the conduct gives the law in plain words.
use Prim.Native.Nat.{ℕ, ◌≤◌}
use mathlib.Core.Path.{◌≡◌, refl, sym, ap, ◌∙◌}
use mathlib.Core.Bool.{Bool, true, false, ◌||◌, ◌&&◌, or-true, or-false, and-true}
use mathlib.Core.List.{List, [], ◌∷◌}
use native.Mathlib.Omega.{arith}
use lib.Dec.{eqb}
use borrow.Author.Tests.{eqb-true}
use Rattle.lists.specs.Lists.{count, some_of}
use Rattle.lists.proofs.Tests.{split, clash, and_yes, or_left, eqb-turn}
use Rattle.lists.proofs.Counts.{count-le, none-zero, none-le, some-ext, some-kept, keep-nothing, keep_some, All-map}
use Rattle.lists.proofs.Kept.{some-parts}
use Rattle.tapa.specs.Address.{handler_of, multi}
use Rattle.table.specs.Table.{listed}
use Rattle.place.specs.declared.Place.{Place}
use Rattle.places.specs.Places.{is_open, is_owed, waits, owings, on_thread, open_on, asks, stands_on, on_slot}
use Rattle.rules.specs.View.{View}
use Rattle.rules.specs.Judge.{may_ask, busy}
use Rattle.rules.specs.Conduct.{Placed, grown_in, Grown, Tree, Conduct}
use Rattle.rules.specs.Words.{tree_of, root_of, d_lets_ask, asks_on, e_turns_back, asked_by, Linked, Begun, Rooted, Worded}
use Rattle.rules.proofs.Trees.{asked_on, standing, rooted}

-- ---- rule e

-- a multi handler that is asked on this thread stands in its tree
none-asked : (places : List Place) (h t : ℕ) → some_of (stands_on t h) places ≡ false → some_of (asks_on h t) (waits places) ≡ false
none-asked places h t e =
    some-kept (asks_on h t) is_open places
    ∙ none-le (λ (p : Place). is_open p && asks_on h t p) (stands_on t h)
    (λ p q. let x = and_yes (is_open p) (asks_on h t p) q in let y = and_yes (asks h p) (on_thread t p) x.1 in rw (x.0, y.1, y.0, or-true)) places e

pub e-worded : (places : List Place) (asker h t : ℕ) → busy places asker h t ≡ e_turns_back places asker h t
unfolding busy
e-worded places asker h t =
    split (some_of (stands_on t h) places)
    (λ p. rw p)
    (λ p. rw p (ap (λ (b : Bool). eqb h (handler_of asker) || b) (split (multi h)
    (λ m.
    rw (m, some-ext (on_slot h t) (asks_on h t) (λ x. rw m) places, some-parts is_owed (asks_on h t) places, none-asked places h t p) (or-false _))
    (λ m.
    rw (m, some-ext (on_slot h t) (asks h) (λ x. rw (m, and-true)) places, some-parts is_owed (asks h) places) (turn (some_of (asks h) (owings places)) (some_of (asks h) (waits places)))))))
  where
    turn : (a b : Bool) → (a || b) ≡ (b || a || false)
    turn true true = refl
    turn true false = refl
    turn false true = refl
    turn false false = refl

-- ---- the tree

-- the asked handlers of the thread's waits, and the tree that they make
some-asked : (t h : ℕ) (l : List Place) → some_of (asked_on t h) l ≡ some_of (λ x. eqb x h) (asked_by (tree_of t l))
some-asked t h [] = refl
some-asked t h (p ∷ l) = split (open_on t p) (λ b. rw (b, some-asked t h l)) (λ b. rw (b, some-asked t h l))

grown-listed : (r t h : ℕ) (l : List Place) → grown_in r t h l ≡ some_of (λ x. eqb x h) (r ∷ asked_by (tree_of t l))
grown-listed r t h l = rw (some-asked t h l, eqb-turn h r)

distinct : (r t h : ℕ) (l : List Place) → Grown r t l → count (λ x. eqb x h) (r ∷ asked_by (tree_of t l)) ≤ 1
distinct r t h [] g = split (eqb r h) (λ b. rw b (omega arith)) (λ b. rw b (omega arith))
distinct r t h (p ∷ l) g =
    split (open_on t p)
    (λ b. rw b (split (eqb (handler_of p.asked) h)
    (λ q.
    let n : some_of (λ x. eqb x h) (r ∷ asked_by (tree_of t l)) ≡ false =
    ap (λ (k : ℕ). some_of (λ x. eqb x k) (r ∷ asked_by (tree_of t l))) (sym (eqb-true (handler_of p.asked) h q))
    ∙ sym (grown-listed r t (handler_of p.asked) l)
    ∙ (g.0 b).1 in
    rw q (omega (arith, none-zero (λ x. eqb x h) (r ∷ asked_by (tree_of t l)) n)))
    (λ q. rw q (omega (arith, distinct r t h l g.1)))))
    (λ b. rw b (distinct r t h l g.1))

-- each wait's asker is the root, or is asked by an older wait
linked : (r t : ℕ) (l : List Place) → Grown r t l → Linked r (tree_of t l)
linked r t [] g = tt
linked r t (p ∷ l) g =
    split (open_on t p) (λ b. rw b (rw (grown-listed r t (handler_of p.asker) l) at (g.0 b).0, linked r t l g.1))
    (λ b. rw b (linked r t l g.1))

-- and so the oldest wait's asker is the root
oldest : (r : ℕ) (w : Place) (older : List Place) → Linked r (w ∷ older) → root_of w older ≡ r
oldest r w [] k = sym (eqb-true r (handler_of w.asker) (or_left (eqb r (handler_of w.asker)) false k.0 refl))
oldest r w (v ∷ older) k = oldest r v older k.1

begun : (r : ℕ) (l : List Place) → Linked r l → Begun r l
begun r [] k = tt
begun r (w ∷ older) k = oldest r w older k

-- the root of the law is the asker of the thread's oldest wait
pub last-root : (t : ℕ) (l : List Place) (g : Tree t l) → Begun (handler_of g.root) (tree_of t l)
last-root t l g = begun (handler_of g.root) (tree_of t l) (linked (handler_of g.root) t l g.grown)

-- ---- rule d

-- who stands in the tree is its root or asked in it, and the other way round
in_tree : (t h : ℕ) (l : List Place) (g : Tree t l) → some_of (open_on t) l ≡ true → some_of (stands_on t h) l ≡ grown_in (handler_of g.root) t h l
in_tree t h l g s =
    split (some_of (stands_on t h) l)
    (λ b. b ∙ sym (standing (handler_of g.root) t h l g.grown b))
    (λ b. split (grown_in (handler_of g.root) t h l)
    (λ c. clash (some_of (stands_on t h) l) (rooted (handler_of g.root) t h l g.grown s c) b)
    (λ c. b ∙ sym c))

-- the handlers that a tree's waits ask, by the waits
asked-some : (h : ℕ) (l : List Place) → some_of (λ x. eqb x h) (asked_by l) ≡ some_of (asks h) l
asked-some h [] = refl
asked-some h (w ∷ l) = rw (asked-some h l)

pub d-worded : (t a : ℕ) (l : List Place) → Tree t l → may_ask l t a ≡ d_lets_ask (tree_of t l) a
d-worded t a l g = go (tree_of t l) refl (last-root t l g)
  where
    go : (m : List Place) → tree_of t l ≡ m → Begun (handler_of g.root) m → may_ask l t a ≡ d_lets_ask m a
    go [] e b = rw (keep-nothing (open_on t) l e)
    go (w ∷ older) e b =
        let s : some_of (open_on t) l ≡ true = keep_some (open_on t) l w older e in
        rw (s, b, in_tree t (handler_of a) l g s, grown-listed (handler_of g.root) t (handler_of a) l, e, asked-some (handler_of a) (w ∷ older))

-- ---- the law

-- a thread's tree, in plain words
pub rooted-tree : (t : ℕ) (l : List Place) → Tree t l → Rooted (tree_of t l)
rooted-tree t l g = record {
  root = g.root;
  till-driver = g.driver;
  oldest = last-root t l g;
  linked = linked (handler_of g.root) t l g.grown;
  no-handler-twice = λ h. distinct (handler_of g.root) t h l g.grown;
}

pub worded : (v : View) → Conduct v → Worded v
worded v c = record {
  trees = λ t. rooted-tree t v.places (c.trees t);
  threads = All-map (Placed v.rows) (λ (p : Place). p.thread ≤ 7) (λ x a. a.1) v.places c.placed;
  in_table = All-map (Placed v.rows) (λ (p : Place). listed (handler_of p.asked) v.rows ≡ true) (λ x a. a.0) v.places c.placed;
  single-once = λ h m. omega (arith, c.once h 0, count-le (asks h) (on_slot h 0) (λ x q. rw (q, m)) v.places);
  multi-once = λ h t m.
      omega (arith, c.once h t, count-le (asks_on h t) (on_slot h t) (λ x q. let y = and_yes (asks h x) (on_thread t x) q in rw (y.0, y.1, or-true)) v.places);
}
