-- How many places there can be: one a single handler and eight a multi handler, so 44 at the most, and there is always room for one more.
use Prim.Native.Nat.{ℕ, zero, suc, ◌+◌, ◌*◌, ◌≤◌, ◌<◌}
use mathlib.Core.Path.{◌≡◌, refl, sym, ap}
use mathlib.Core.Bool.{Bool, true, false, cond, or-true}
use mathlib.Core.List.{List, [], ◌∷◌, ◌++◌}
use native.Mathlib.Nat.{not-suc-le-zero}
use native.Mathlib.Omega.{arith}
use lib.Dec.{eqb}
use lib.ListN.{length, length-append}
use borrow.Author.Tests.{eqb-true, eqb-false, eq-eqb}
use Rattle.lists.specs.Lists.{count, All}
use Rattle.lists.proofs.Tests.{split, clash}
use Rattle.lists.proofs.Counts.{count-append}
use Rattle.tapa.specs.Address.{handler_of, multi}
use Rattle.table.specs.declared.Row.{Row}
use Rattle.table.specs.Table.{listed, is_multi, Proper}
use Rattle.place.specs.declared.Place.{Place}
use Rattle.places.specs.Places.{on_thread, asks, on_slot}
use Rattle.rules.specs.View.{View}
use Rattle.rules.specs.Conduct.{Placed, Conduct}
use Rattle.rules.specs.Words.{singles, multis, most_of, Sized, most}

-- how many commands a handler can have under way
abbrev width : ℕ → ℕ
width a = cond (multi a) 8 1

-- ---- slots

-- the slots of a handler, and of a table
abbrev keys : ℕ → ℕ → List (ℕ × ℕ)
keys a zero = []
keys a (suc n) = (a, n) ∷ keys a n

abbrev slots : List Row → List (ℕ × ℕ)
slots [] = []
slots (r ∷ rows) = keys r.address (width r.address) ++ slots rows

abbrev in_slot : Place → ℕ × ℕ → Bool
in_slot p k = on_slot k.0 k.1 p

-- the places, counted slot by slot
abbrev hits : List (ℕ × ℕ) → List Place → ℕ
hits [] l = 0
hits (k ∷ ks) l = count (on_slot k.0 k.1) l + hits ks l

length-keys : (a n : ℕ) → length (keys a n) ≡ n
length-keys a zero = refl
length-keys a (suc n) = ap suc (length-keys a n)

length-slots : (rows : List Row) → length (slots rows) ≡ singles rows + 8 * multis rows
length-slots [] = refl
length-slots (r ∷ rows) =
    rw (length-append (keys r.address (width r.address)) (slots rows), length-keys r.address (width r.address))
    (split (multi r.address) (λ m. rw m (omega (arith, length-slots rows))) (λ m. rw m (omega (arith, length-slots rows))))

keys-hit : (p : Place) (a n : ℕ) → asks a p ≡ true → p.thread < n → 1 ≤ count (in_slot p) (keys a n)
keys-hit p a zero e h = absurd (not-suc-le-zero h)
keys-hit p a (suc n) e h =
    split (on_thread n p) (λ b. rw (e, b, or-true) (omega arith))
    (λ b. let ne : p.thread ≡ n → ⊥ = eqb-false p.thread n b in omega (arith, keys-hit p a n e (omega arith)))

-- a place whose handler is in the table is on one of its slots
slots-hit : (p : Place) (rows : List Row) → listed (handler_of p.asked) rows ≡ true → p.thread ≤ 7 → 1 ≤ count (in_slot p) (slots rows)
slots-hit p [] e h = clash false e refl
slots-hit p (r ∷ rows) e h =
    rw (count-append (in_slot p) (keys r.address (width r.address)) (slots rows))
    (split (eqb r.address (handler_of p.asked))
    (λ b. let q : asks r.address p ≡ true = eq-eqb (handler_of p.asked) r.address (sym (eqb-true r.address (handler_of p.asked) b)) in
    split (multi r.address) (λ m. rw m (omega (arith, keys-hit p r.address 8 q (omega arith)))) (λ m. rw (m, q, m) (omega arith)))
    (λ b. let k : listed (handler_of p.asked) rows ≡ true = rw b at e in omega (arith, slots-hit p rows k h)))

hits-nil : (ks : List (ℕ × ℕ)) → hits ks [] ≡ 0
hits-nil [] = refl
hits-nil (k ∷ ks) = omega (arith, hits-nil ks)

hits-cons : (ks : List (ℕ × ℕ)) (p : Place) (l : List Place) → hits ks (p ∷ l) ≡ count (in_slot p) ks + hits ks l
hits-cons [] p l = refl
hits-cons (k ∷ ks) p l = omega (arith, hits-cons ks p l)

-- each place is on some slot
hits-all : (rows : List Row) (l : List Place) → All (Placed rows) l → length l ≤ hits (slots rows) l
hits-all rows [] a = omega arith
hits-all rows (p ∷ l) a =
    omega (arith, hits-cons (slots rows) p l, slots-hit p rows a.0.0 a.0.1, hits-all rows l a.1)

-- no slot has two
hits-le : (l : List Place) → ((h t : ℕ) → count (on_slot h t) l ≤ 1) → (ks : List (ℕ × ℕ)) → hits ks l ≤ length ks
hits-le l f [] = omega arith
hits-le l f (k ∷ ks) = omega (arith, f k.0 k.1, hits-le l f ks)

-- ---- the bound

pub bound : (v : View) → Conduct v → length v.places ≤ most_of v.rows
bound v c = omega (arith, hits-all v.rows v.places c.placed, hits-le v.places c.once (slots v.rows), length-slots v.rows)

kinds : (rows : List Row) → singles rows + multis rows ≡ length rows
kinds [] = refl
kinds (r ∷ rows) = split (is_multi r) (λ m. rw m (omega (arith, kinds rows))) (λ m. rw m (omega (arith, kinds rows)))

-- 'at most 16 handlers, of which at most 4 serve several threads'
pub bound_all : (v : View) → Sized v.rows → Conduct v → length v.places ≤ most
bound_all v s c =
    let few = s.handlers in let many = s.several in
    omega (arith, bound v c, kinds v.rows)

-- an accepted table is so: '1 to 16 rows', 'at most 4 multi rows'
pub sized : (rows : List Row) → Proper rows → Sized rows
sized rows p = record { handlers = p.few; several = p.multis }

-- 'and the list has 48 places': there is room for one more. The code rests on this where it passes a command
pub room-left : (v : View) → Proper v.rows → Conduct v → length v.places < 48
room-left v p c = omega (arith, bound_all v (sized v.rows p) c)
