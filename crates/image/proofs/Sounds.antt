-- The test `sound`, which a reader runs over the entries of an image, is neither weaker nor stronger than the law of a store.
use Prim.Native.Nat.{◌-◌, ◌<◌, ℕ, ◌≤◌}
use mathlib.Core.Bool.{◌&&◌, Bool, cond, false, not, or-true, true, ◌||◌}
use mathlib.Core.List.{◌++◌, List, [], ◌∷◌}
use mathlib.Core.Path.{refl, sym, ◌∙◌, ◌≡◌}
use native.Mathlib.Omega.{arith}
use lib.Dec.{eqb, leb, ltb}
use lib.ListN.{drop, get_or, length, length-take, take}
use lib.Seq.{drop_at, take-append-le}
use borrow.Author.Tests.{eqb-false, eqb-true, le-leb, le-ltb, leb-true, lt-ltb, ltb-false, ltb-true, ne_eqb, not-false}
use Rattle.book.proofs.Laws.{row-limits}
use Rattle.book.proofs.Searches.{all-recs, both-parts, count-both, recs-head, recs-tail}
use Rattle.book.proofs.Tables.{kind-some, made_row}
use Rattle.book.proofs.Views.{all-view, ids-once, view-all}
use Rattle.book.specs.Book.{Fits, Limits, entries_of, file_of, files_from, in_file, in_slot, key_at, kind_of, no_kind, rec_of, records_of}
use Rattle.book.specs.declared.Book.{Book}
use Rattle.book.specs.declared.Entry.{Entry}
use Rattle.book.specs.declared.Kind.{Kind}
use Rattle.files.specs.Files.{Record, keyed}
use Rattle.files.specs.Sound.{Ranged, Sound, SoundFile, Within, pointed}
use Rattle.image.specs.Image.{Storable, slot_bytes}
use Rattle.layout.specs.Judged.{clashes, entry_fits, has_keys, has_twin, sound}
use Rattle.layout.specs.Layout.{flat}
use Rattle.lists.proofs.Counts.{once_more, once-none}
use Rattle.lists.proofs.Same.{same-eq, same_self, same_turn}
use Rattle.lists.proofs.Tests.{checks-are, clash, eqb_same, eqb-turn, or_no, split}
use Rattle.lists.specs.Least.{same}
use Rattle.lists.specs.Lists.{All, checks, count, some_of}
use Rattle.slots.proofs.Slots.{window-long}
use Rattle.slots.specs.Slots.{window}

-- ---- an entry alone

-- what the test asks of it
pub record Own (ks : List Kind) (x : Entry) : Type 0 where
  pub made : (kind_of ks x.file).made ≡ true
  pub range : (1 ≤ x.pointer) × (x.pointer ≤ 256)
  pub key : x.keylen ≤ (kind_of ks x.file).keymax
  pub body : x.len ≤ (kind_of ks x.file).recmax

-- where it passes, and only there
own_of : (ks : List Kind) (x : Entry) → entry_fits ks x ≡ true → Own ks x
own_of ks x =
    let k : Kind = kind_of ks x.file in
    let asked : List (Bool × Bool) = (not k.made, false) ∷ (eqb x.pointer 0, false) ∷ (ltb 256 x.pointer, false) ∷ (ltb k.keymax x.keylen, false) ∷ [] in
    checks-are (λ (b : Bool). b ≡ true → Own ks x) asked (leb x.len k.recmax) (no, (no, (no, (no, tt))))
    (λ r e. record {
      made = not-false k.made r.0;
      range = (omega (arith, eqb-false x.pointer 0 r.1.0), ltb-false 256 x.pointer r.1.1.0);
      key = ltb-false k.keymax x.keylen r.1.1.1.0;
      body = leb-true x.len k.recmax e;
    })
  where
    no : false ≡ true → Own ks x
    no e = clash false e refl

own_is : (ks : List Kind) (x : Entry) → Own ks x → entry_fits ks x ≡ true
own_is ks x o =
    let k : Kind = kind_of ks x.file in
    rw (o.made, ne_eqb x.pointer 0 (λ e. omega (arith, o.range.0)), le-ltb 256 x.pointer o.range.1, le-ltb k.keymax x.keylen o.key)
    (le-leb x.len k.recmax o.body)

-- it is the law's, but for the slot, which the test does not look at, and the pointer, which the law of the files has
fits-of : (ks : List Kind) (x : Entry) → x.slot ≤ 255 → Own ks x → Fits ks x
fits-of ks x h o =
    let r = made_row ks x.file o.made in
    record { filed = r.0; made = rw r.1 o.made; slot = h; key = rw r.1 o.key; body = rw r.1 o.body }

own-fits : (ks : List Kind) (area : List ℕ) (x : Entry) → Fits ks x → ((kind_of ks x.file).made ≡ true → Ranged (rec_of area x)) → Own ks x
own-fits ks area x f r =
    let k : get_or ks (x.file - 1) no_kind ≡ kind_of ks x.file = kind-some ks x.file x.file refl (λ e. omega (arith, f.filed)) in
    let t : (kind_of ks x.file).made ≡ true = rw k at f.made in
    record { made = t; range = r t; key = rw k at f.key; body = rw k at f.body }

-- ---- entries with any slots

-- the three parts of the test of a list: its first entry fits, has no twin behind it, and the rest passes
record Parts (own twin rest : Bool) : Type 0 where
  head : own ≡ true
  alone : twin ≡ false
  tail : rest ≡ true

parts : (own twin rest : Bool) → own && (not twin && rest) ≡ true → Parts own twin rest
parts true false rest e = record { head = refl; alone = refl; tail = e }
parts true true rest e = clash false e refl
parts false twin rest e = clash false e refl

abbrev twin_behind : List Kind → Entry → List Entry → List ℕ → Bool
twin_behind ks x l slots = has_twin (has_keys ks x) x (take x.keylen slots) l (drop 383 slots)

sound-parts : (ks : List Kind) (x : Entry) (l : List Entry) (slots : List ℕ) → sound ks (x ∷ l) slots ≡ true
    → Parts (entry_fits ks x) (twin_behind ks x l slots) (sound ks l (drop 383 slots))
sound-parts ks x l slots e = parts (entry_fits ks x) (twin_behind ks x l slots) (sound ks l (drop 383 slots)) e

-- each entry is as the test asks
pub owns : (ks : List Kind) (l : List Entry) (slots : List ℕ) → sound ks l slots ≡ true → All (Own ks) l
owns ks [] slots e = tt
owns ks (x ∷ l) slots e = let p = sound-parts ks x l slots e in (own_of ks x p.head, owns ks l (drop 383 slots) p.tail)

-- so each fits, where the slot numbers are bytes
pub fit_all : (ks : List Kind) (l : List Entry) (slots : List ℕ) → All (λ (x : Entry). x.slot ≤ 255) l → sound ks l slots ≡ true → All (Fits ks) l
fit_all ks [] slots a e = tt
fit_all ks (x ∷ l) slots a e =
    let p = sound-parts ks x l slots e in
    (fits-of ks x a.0 (own_of ks x p.head), fit_all ks l (drop 383 slots) a.1 p.tail)

-- no entry behind one has its slot
none-slot : (keyed : Bool) (x : Entry) (key : List ℕ) (l : List Entry) (slots : List ℕ) → has_twin keyed x key l slots ≡ false → some_of (in_slot x.slot) l ≡ false
none-slot keyed x key [] slots e = refl
none-slot keyed x key (y ∷ l) slots e =
    let n = or_no (clashes keyed x key y (take y.keylen slots)) (has_twin keyed x key l (drop 383 slots)) e in
    split (eqb x.slot y.slot) (λ t. clash true refl (rw t at n.0))
    (λ t. rw (eqb-turn y.slot x.slot, t) (none-slot keyed x key l (drop 383 slots) n.1))

-- so no two have one
pub all_apart : (ks : List Kind) (l : List Entry) (slots : List ℕ) → sound ks l slots ≡ true → (s : ℕ) → count (in_slot s) l ≤ 1
all_apart ks [] slots e s = omega arith
all_apart ks (x ∷ l) slots e s =
    let p = sound-parts ks x l slots e in
    once_more (in_slot s) x l (λ t. rw (← eqb-true x.slot s t) (none-slot (has_keys ks x) x (take x.keylen slots) l (drop 383 slots) p.alone))
    (all_apart ks l (drop 383 slots) p.tail s)

-- ---- entries with the slots of an area

-- an entry of a file with a pointer (with a key it is `key_at`)
abbrev pointed_at : ℕ → ℕ → Entry → Bool
pointed_at f p x = cond (in_file f x) (eqb x.pointer p) false

-- the key of an entry, in its slot
abbrev key_in : List ℕ → Entry → List ℕ
key_in area x = (rec_of area x).key

-- whether one of a list has the slot of an entry, or its file with its pointer or its key
abbrev twin_in : List ℕ → Bool → Entry → List ℕ → List Entry → Bool
twin_in area keyed x key l = some_of (in_slot x.slot) l || (some_of (pointed_at x.file x.pointer) l || (keyed && some_of (key_at area x.file key) l))

-- the same of two entries
clash-is : (area : List ℕ) (keyed : Bool) (x : Entry) (key : List ℕ) (y : Entry)
    → clashes keyed x key y (key_in area y) ≡ in_slot x.slot y || (pointed_at x.file x.pointer y || (keyed && key_at area x.file key y))
clash-is area keyed x key y =
    rw (eqb-turn x.slot y.slot, eqb-turn x.file y.file, eqb-turn x.pointer y.pointer, same_turn key (key_in area y))
    (three (in_slot x.slot y) (in_file x.file y) (eqb y.pointer x.pointer) keyed (same (key_in area y) key))
  where
    three : (s f p k e : Bool) → checks ((s, true) ∷ (not f, false) ∷ (p, true) ∷ (not k, false) ∷ []) e ≡ s || (cond f p false || (k && cond f e false))
    three true f p k e = refl
    three false false p true e = refl
    three false false p false e = refl
    three false true true k e = refl
    three false true false true e = refl
    three false true false false e = refl

module _ (ks : List Kind) (area : List ℕ) where
  -- what an entry has that no other of a list has
  record Alone (x : Entry) (l : List Entry) : Type 0 where
    slot : some_of (in_slot x.slot) l ≡ false
    pointer : some_of (pointed_at x.file x.pointer) l ≡ false
    key : 0 < (kind_of ks x.file).keymax → some_of (key_at area x.file (key_in area x)) l ≡ false

  -- no slot, no pointer of a file and no key of a file with keys stands twice
  record Single (l : List Entry) : Type 0 where
    slots : (s : ℕ) → count (in_slot s) l ≤ 1
    pointers : (f : ℕ) → (kind_of ks f).made ≡ true → (p : ℕ) → count (pointed_at f p) l ≤ 1
    keys : (f : ℕ) → (kind_of ks f).made ≡ true → 0 < (kind_of ks f).keymax → (key : List ℕ) → count (key_at area f key) l ≤ 1

  -- ---- no twin, exactly where it is alone
  module _ (x : Entry) (l : List Entry) where
    alone-twin : twin_in area (has_keys ks x) x (key_in area x) l ≡ false → Alone x l
    alone-twin e =
        let a = or_no (some_of (in_slot x.slot) l) _ e in
        let b = or_no (some_of (pointed_at x.file x.pointer) l) _ a.1 in
        record { slot = a.0; pointer = b.0; key = λ h. rw (lt-ltb 0 (kind_of ks x.file).keymax h) at b.1 }

    twin-alone : Alone x l → twin_in area (has_keys ks x) x (key_in area x) l ≡ false
    twin-alone w =
        rw (w.slot, w.pointer)
        (split (has_keys ks x) (λ k. rw k (w.key (ltb-true 0 (kind_of ks x.file).keymax k))) (λ k. rw k))

    -- ---- nothing twice with one more in front, exactly where that is alone
    single_more : Alone x l → Single l → Single (x ∷ l)
    single_more w s = record {
      slots = λ n. once_more (in_slot n) x l (λ t. rw (← eqb-true x.slot n t) w.slot) (s.slots n);
      pointers = λ f t p. once_more (pointed_at f p) x l
          (λ u. let q = both-parts f (rec_of area) (pointed p) x u in rw (← q.0, ← eqb-true x.pointer p q.1) w.pointer) (s.pointers f t p);
      keys = λ f t h key. once_more (key_at area f key) x l
          (λ u.
          let q = both-parts f (rec_of area) (keyed key) x u in
          let k : 0 < (kind_of ks x.file).keymax = rw q.0 h in
          rw (← q.0, ← same-eq (key_in area x) key q.1) (w.key k))
          (s.keys f t h key);
    }

    module _ (s : Single (x ∷ l)) where
      single-rest : Single l
      single-rest = record {
        slots = λ n. omega (arith, s.slots n);
        pointers = λ f t p. omega (arith, s.pointers f t p);
        keys = λ f t h key. omega (arith, s.keys f t h key);
      }

      alone-front : (kind_of ks x.file).made ≡ true → Alone x l
      alone-front t =
          let own = eqb_same x.file in
          record {
            slot = once-none (in_slot x.slot) x l (s.slots x.slot) (eqb_same x.slot);
            pointer = once-none (pointed_at x.file x.pointer) x l (s.pointers x.file t x.pointer) (rw own (eqb_same x.pointer));
            key = λ h. once-none (key_at area x.file (key_in area x)) x l (s.keys x.file t h (key_in area x)) (rw own (same_self (key_in area x)));
          }

-- ---- the test of entries with the slots of an area
module _ (ks : List Kind) (limits : All Limits ks) (area : List ℕ) (long : length area ≡ 98048) where
  -- a key ends within its slot, and behind 383 bytes the next slot begins
  front : (x : Entry) (r : List ℕ) → Fits ks x → take x.keylen (window area x.slot ++ r) ≡ key_in area x
  front x r f =
      take-append-le x.keylen (window area x.slot) r
      (omega (arith, window-long area x.slot long f.slot, f.key, (row-limits ks (x.file - 1) limits).0))

  behind : (x : Entry) (r : List ℕ) → Fits ks x → drop 383 (window area x.slot ++ r) ≡ r
  behind x r f = drop_at (window area x.slot) r 383 (window-long area x.slot long f.slot)

  -- the search for a twin
  twin-is : (keyed : Bool) (x : Entry) (key : List ℕ) (l : List Entry) → All (Fits ks) l → has_twin keyed x key l (flat (slot_bytes area) l) ≡ twin_in area keyed x key l
  twin-is keyed x key [] a = none keyed
    where
      none : (k : Bool) → false ≡ k && false
      none true = refl
      none false = refl
  twin-is keyed x key (y ∷ l) a =
      let r : List ℕ = flat (slot_bytes area) l in
      rw (front y r a.0, behind y r a.0, clash-is area keyed x key y, twin-is keyed x key l a.1)
      (sorted (in_slot x.slot y) _ (pointed_at x.file x.pointer y) _ keyed (key_at area x.file key y) _)
    where
      sorted : (s s' p p' k e e' : Bool) → (s || (p || (k && e))) || (s' || (p' || (k && e'))) ≡ (s || s') || ((p || p') || (k && (e || e')))
      sorted true s' p p' k e e' = refl
      sorted false true p p' k e e' = or-true (p || (k && e))
      sorted false false true p' k e e' = refl
      sorted false false false true k e e' = or-true (k && e)
      sorted false false false false true e e' = refl
      sorted false false false false false e e' = refl

  -- the test of a list, by its first entry
  sound-step : (x : Entry) (l : List Entry) → Fits ks x → All (Fits ks) l
      → sound ks (x ∷ l) (flat (slot_bytes area) (x ∷ l)) ≡ entry_fits ks x && (not (twin_in area (has_keys ks x) x (key_in area x) l) && sound ks l (flat (slot_bytes area) l))
  sound-step x l f a =
      let r : List ℕ = flat (slot_bytes area) l in
      rw (front x r f, behind x r f, twin-is (has_keys ks x) x (key_in area x) l a)

  -- it passes where nothing stands twice, and only there
  sound-single : (l : List Entry) → All (Fits ks) l → All (Own ks) l → Single ks area l → sound ks l (flat (slot_bytes area) l) ≡ true
  sound-single [] a o s = refl
  sound-single (x ∷ l) a o s =
      sound-step x l a.0 a.1
      ∙ rw (own_is ks x o.0, twin-alone ks area x l (alone-front ks area x l s o.0.made)) (sound-single l a.1 o.1 (single-rest ks area x l s))

  single-sound : (l : List Entry) → All (Fits ks) l → sound ks l (flat (slot_bytes area) l) ≡ true → Single ks area l
  single-sound [] a e = record { slots = λ s. omega arith; pointers = λ f t p. omega arith; keys = λ f t h key. omega arith }
  single-sound (x ∷ l) a e =
      let p = parts (entry_fits ks x) _ _ (sym (sound-step x l a.0 a.1) ∙ e) in
      single_more ks area x l (alone-twin ks area x l p.alone) (single-sound l a.1 p.tail)

-- ---- the files that book and area stand for

-- from the test to the law of the files. (Without the limits a key could run on into the next slot, and the test would see other keys than the files have.)
pub sound-view : (ks : List Kind) (l : List Entry) (area : List ℕ) → All Limits ks → length area ≡ 98048 → All (Fits ks) l
    → sound ks l (flat (slot_bytes area) l) ≡ true → Sound (files_from 1 ks l area)
sound-view ks l area limits long a e = record { files = all-view l area SoundFile ks file; ids = λ f. ids-once l area f 1 ks }
  where
    s : Single ks area l
    s = single-sound ks limits area long l a e

    each : (f : ℕ) (P : Record → Type 0) → ((x : Entry) → x.file ≡ f → Own ks x → P (rec_of area x)) → All P (records_of area f l)
    each f P g = all-recs f (rec_of area) P (Own ks) g l (owns ks l (flat (slot_bytes area) l) e)

    within : (f : ℕ) (x : Entry) → x.file ≡ f → Own ks x → Within (file_of f (kind_of ks f) l area) (rec_of area x)
    within f x m o =
        let k : x.keylen ≤ (kind_of ks f).keymax = rw m at o.key in
        let r : x.len ≤ (kind_of ks f).recmax = rw m at o.body in
        let w : List ℕ = window area x.slot in
        (omega (arith, length-take x.keylen w), omega (arith, length-take x.len (drop x.keylen w)))

    file : (f : ℕ) → (kind_of ks f).made ≡ true → SoundFile (file_of f (kind_of ks f) l area)
    file f t = record {
      pointers = λ p. rw count-both (s.pointers f t p);
      ranged = each f Ranged (λ x m o. o.range);
      within = each f (Within (file_of f (kind_of ks f) l area)) (within f);
      keys = λ h key. rw count-both (s.keys f t h key);
    }

-- from the law to the test
pub sound-of : (b : Book) (area : List ℕ) → Storable b area → sound b.kinds (entries_of b) (flat (slot_bytes area) (entries_of b)) ≡ true
sound-of b area h =
    sound-single ks h.law.limits area h.law.roomy (entries_of b) h.law.fit (all_own (entries_of b) h.law.fit (λ f t. (file f t).ranged))
    (record { slots = h.law.apart; pointers = λ f t p. rw count-both at ((file f t).pointers p); keys = λ f t k key. rw count-both at ((file f t).keys k key) })
  where
    ks : List Kind
    ks = b.kinds

    file : (f : ℕ) → (kind_of ks f).made ≡ true → SoundFile (file_of f (kind_of ks f) (entries_of b) area)
    file = view-all (entries_of b) area SoundFile ks h.sound.files

    all_own : (l : List Entry) → All (Fits ks) l → ((f : ℕ) → (kind_of ks f).made ≡ true → All Ranged (records_of area f l)) → All (Own ks) l
    all_own [] a g = tt
    all_own (x ∷ l) a g = (
      own-fits ks area x a.0 (λ t. recs-head x.file (rec_of area) Ranged x l (g x.file t) (eqb_same x.file)),
      all_own l a.1 (λ f t. recs-tail f (rec_of area) Ranged x l (g f t)),
    )
