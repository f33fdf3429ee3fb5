-- Laws of text in a buffer: calls that follow one another, room, decimals, lengths.
use Prim.Native.Nat.{ℕ, zero, suc, ◌+◌, ◌*◌, ◌/◌, ◌%◌, ◌≤◌, ◌<◌}
use mathlib.Core.Path.{◌≡◌, refl, sym, ap, ◌∙◌}
use mathlib.Core.List.{List, [], ◌∷◌, ◌++◌, append-nil, append_assoc}
use native.Mathlib.Omega.{arith}
use native.Mathlib.Numerals.{add-one}
use lib.Dec.{ltb}
use lib.ListN.{length, take, drop, get_or, set, length-append, length-set}
use lib.Seq.{take-suc, append_snoc, set-append_seam}
use borrow.Table.Steps.{cases}
use borrow.Author.Tests.{lt-ltb, le-ltb, ltb-true, ltb-false}
use Rattle.text.specs.declared.Writer.{Writer}
use Rattle.text.specs.Text.{pen_of, Writes, Pen, pen, pushed, puts, spelled, hexes_of, decimals, decimal_of}

-- ---- calls that follow one another

pub puts_none : (p : Pen) → puts p [] ≡ p
unfolding puts
puts_none p = refl

pub puts-append : (p : Pen) (a b : List ℕ) → puts (puts p a) b ≡ puts p (a ++ b)
unfolding puts
puts-append p [] b = refl
puts-append p (x ∷ a) b = puts-append (pushed p x) a b

-- a call that writes a, and then one that writes b, write a ++ b
pub more : (p q r : Pen) (a b : List ℕ) → q ≡ puts p a → r ≡ puts q b → r ≡ puts p (a ++ b)
more p q r a b e f = f ∙ (ap (λ (z : Pen). puts z b) e ∙ puts-append p a b)

-- a writer that wrote nothing
pub wrote_none : (p : Writer) → Writes p p []
unfolding puts
wrote_none p = record { lent = refl; text = refl }

-- a call that writes a, and then one that writes b, write a ++ b
pub and_then : {p q r : Writer} {a b : List ℕ} → Writes p q a → Writes q r b → Writes p r (a ++ b)
and_then e f = record { lent = f.lent ∙ e.lent; text = more _ _ _ _ _ e.text f.text }

-- ---- a loop that says what is left: with the rest behind q, all is behind p

pub record Left (p q : Writer) (rest all : List ℕ) : Type 0 where
  pub lent : q.bytes.ghost_name ≡ p.bytes.ghost_name
  pub text : puts (pen_of q) rest ≡ puts (pen_of p) all

pub left_all : (p : Writer) (all : List ℕ) → Left p p all all
left_all p all = record { lent = refl; text = refl }

pub left_more : {p q r : Writer} {all : List ℕ} (a rest : List ℕ) → Left p q (a ++ rest) all → Writes q r a → Left p r rest all
left_more a rest e f = record { lent = f.lent ∙ e.lent; text = ap (λ (z : Pen). puts z rest) f.text ∙ (puts-append _ a rest ∙ e.text) }

pub left_none : {p q : Writer} {all : List ℕ} → Left p q [] all → Writes p q all
unfolding puts
left_none e = record { lent = e.lent; text = e.text }

-- ---- the bytes of a slice, one more: f is the text of one byte

spelled-append : (f : ℕ → List ℕ) (a b : List ℕ) → spelled f (a ++ b) ≡ spelled f a ++ spelled f b
spelled-append f [] b = refl
spelled-append f (x ∷ a) b = rw (spelled-append f a b, append_assoc)

pub spelled-more : (f : ℕ → List ℕ) (s : List ℕ) (i : ℕ) → i < length s → spelled f (take (i + 1) s) ≡ spelled f (take i s) ++ f (get_or s i 0)
spelled-more f s i h = rw (add-one, take-suc s i 0, spelled-append f (take i s) (get_or s i 0 ∷ []), append-nil)

-- ---- decimals

more-fuel : (f g n : ℕ) → n < f → n < g → decimals f n ≡ decimals g n
more-fuel zero g n p q = absurd (omega arith)
more-fuel (suc f) zero n p q = absurd (omega arith)
more-fuel (suc f) (suc g) n p q =
    cases (ltb n 10) (λ e. rw e)
    (λ e. rw (e, more-fuel f g (n / 10) (omega (arith, ltb-false n 10 e)) (omega (arith, ltb-false n 10 e))))

pub decimal-one : (n : ℕ) → n < 10 → decimal_of n ≡ (48 + n % 10) ∷ []
unfolding decimal_of
decimal-one n h = rw (lt-ltb n 10 h)

pub decimal-more : (n : ℕ) → 10 ≤ n → decimal_of n ≡ decimal_of (n / 10) ++ ((48 + n % 10) ∷ [])
unfolding decimal_of
decimal-more n h = rw (le-ltb n 10 h, more-fuel n (suc (n / 10)) (n / 10) (omega arith) (omega arith))

-- ---- room: what fits is written whole, and what stood behind it stays

same-pen : {l l' : List ℕ} {a a' : ℕ} → l ≡ l' → a ≡ a' → pen l a ≡ pen l' a'
same-pen p q = λ i. pen (p i) (q i)

one_in : (d : List ℕ) (y : ℕ) (r : List ℕ) (b : ℕ)
    → pushed (pen (d ++ y ∷ r) (length d)) b ≡ pen ((d ++ (b ∷ [])) ++ r) (length (d ++ (b ∷ [])))
one_in d y r b =
    rw (lt-ltb (length d) (length (d ++ y ∷ r)) (omega (arith, length-append d (y ∷ r))), set-append_seam d y r b)
    (same-pen (sym (append_snoc d b r)) (omega (arith, length-append d (b ∷ []))))

-- d is written already, r is the room behind it
fit : (d r t : List ℕ) → length t ≤ length r → puts (pen (d ++ r) (length d)) t ≡ pen (d ++ (t ++ drop (length t) r)) (length d + length t)
unfolding puts
fit d r [] h = same-pen refl (omega arith)
fit d [] (b ∷ t) h = absurd (omega arith)
fit d (y ∷ r) (b ∷ t) h =
    ap (λ (p : Pen). puts p t) (one_in d y r b)
    ∙ (fit (d ++ (b ∷ [])) r t (omega arith)
    ∙ same-pen (append_snoc d b (t ++ drop (length t) r)) (omega (arith, length-append d (b ∷ []))))

pub puts-fit : (l t : List ℕ) → length t ≤ length l → puts (pen l 0) t ≡ pen (t ++ drop (length t) l) (length t)
puts-fit l t h = fit [] l t h ∙ same-pen refl (omega arith)

-- the place after what fits
pushes : (l : List ℕ) (a b : ℕ) → a < length l → pushed (pen l a) b ≡ pen (set l a b) (a + 1)
pushes l a b h = rw (lt-ltb a (length l) h)

pub puts-at : (t l : List ℕ) (a : ℕ) → a + length t ≤ length l → (puts (pen l a) t).at ≡ a + length t
unfolding puts
puts-at [] l a h = omega arith
puts-at (b ∷ t) l a h =
    let e : (puts (pen (set l a b) (a + 1)) t).at ≡ a + 1 + length t = puts-at t (set l a b) (a + 1) (omega (arith, length-set l a b)) in
    ap (λ (p : Pen). (puts p t).at) (pushes l a b (omega arith)) ∙ (e ∙ omega arith)

-- a buffer keeps its length
pub puts-length : (p : Pen) (t : List ℕ) → length (puts p t).bytes ≡ length p.bytes
unfolding puts
puts-length p [] = refl
puts-length p (b ∷ t) =
    puts-length (pushed p b) t
    ∙ cases (ltb p.at (length p.bytes)) (λ e. rw e (length-set p.bytes p.at b)) (λ e. rw e)

-- the place never leaves the buffer
pub puts-inside : (t : List ℕ) (p : Pen) → p.at ≤ length p.bytes → (puts p t).at ≤ length (puts p t).bytes
unfolding puts
puts-inside [] p h = h
puts-inside (b ∷ t) p h =
    puts-inside t (pushed p b)
    (cases (ltb p.at (length p.bytes))
    (λ e. rw e (omega (arith, ltb-true p.at (length p.bytes) e, length-set p.bytes p.at b)))
    (λ e. rw e h))

-- ---- how long numbers and bytes are in print

pub hexes-length : (l : List ℕ) → length (hexes_of l) ≡ length l + length l
hexes-length [] = refl
hexes-length (x ∷ l) = omega (arith, hexes-length l)

-- ten times the bound, one digit more
wider : (b k : ℕ) → 1 ≤ k → ((m : ℕ) → m < b → length (decimal_of m) ≤ k) → (n : ℕ) → n < b * 10 → length (decimal_of n) ≤ suc k
wider b k p f n h =
    cases (ltb n 10)
    (λ e. rw (decimal-one n (ltb-true n 10 e)) (omega arith))
    (λ e. rw (decimal-more n (ltb-false n 10 e))
    (omega (arith, length-append (decimal_of (n / 10)) ((48 + n % 10) ∷ []), f (n / 10) (omega arith))))

one-digit : (n : ℕ) → n < 10 → length (decimal_of n) ≤ 1
one-digit n h = rw (decimal-one n h) (omega arith)

pub five-digits : (n : ℕ) → n < 100000 → length (decimal_of n) ≤ 5
five-digits = wider 10000 4 (omega arith) (wider 1000 3 (omega arith) (wider 100 2 (omega arith) (wider 10 1 (omega arith) one-digit)))
