-- Slots poured into an area: what they hold then, and that the files of a book depend on them alone.
use Prim.Native.Nat.{◌*◌, ◌+◌, suc, ℕ, ◌≤◌}
use mathlib.Core.List.{◌++◌, List, [], ◌∷◌}
use mathlib.Core.Path.{ap, refl, sym, ◌∙◌, ◌≡◌}
use native.Mathlib.Omega.{arith}
use lib.ListN.{drop, length, length-drop, take}
use lib.Seq.{drop_at, length-take-le, take-add, take_at}
use borrow.Author.Tests.{eqb-false}
use Rattle.book.specs.Book.{Fits, files_from, in_file, in_slot, rec_in, rec_of, records_of}
use Rattle.book.specs.declared.Entry.{Entry}
use Rattle.book.specs.declared.Kind.{Kind}
use Rattle.image.proofs.Flats.{flat-long, slots-wide}
use Rattle.image.specs.Image.{poured, slot_bytes}
use Rattle.layout.specs.Layout.{flat}
use Rattle.lists.proofs.Bytes.{bytes-append, bytes_drop, bytes_take, bytes-tested}
use Rattle.lists.proofs.Counts.{count-zero}
use Rattle.lists.proofs.Tests.{eqb_same, split}
use Rattle.lists.specs.Lists.{All, Bytes, count}
use Rattle.slots.proofs.Slots.{put-long, window-long, window-other, window_same}
use Rattle.slots.specs.Slots.{put, window}

-- ---- bytes

pub slots-bytes : (l : List Entry) (area : List ℕ) → Bytes area → Bytes (flat (slot_bytes area) l)
slots-bytes [] area b = bytes-tested [] refl
slots-bytes (x ∷ l) area b =
    bytes-append (window area x.slot) (flat (slot_bytes area) l) (bytes_take 383 (drop (x.slot * 383) area) (bytes_drop (x.slot * 383) area b)) (slots-bytes l area b)

pub poured-bytes : (l : List Entry) (slots area : List ℕ) → Bytes slots → Bytes area → Bytes (poured l slots area)
poured-bytes [] slots area b c = c
poured-bytes (x ∷ l) slots area b c =
    let front : List ℕ = take (x.slot * 383) area in
    let back : List ℕ = drop (x.slot * 383 + 383) area in
    poured-bytes l (drop 383 slots) (put area x.slot (take 383 slots)) (bytes_drop 383 slots b)
    (bytes-append front (take 383 slots ++ back) (bytes_take (x.slot * 383) area c) (bytes-append (take 383 slots) back (bytes_take 383 slots b) (bytes_drop (x.slot * 383 + 383) area c)))

-- ---- lengths, and what the slots hold

-- the others have other slots
alone : (x : Entry) (l : List Entry) → count (in_slot x.slot) (x ∷ l) ≤ 1 → count (in_slot x.slot) l ≡ 0
alone x l h = let e : 1 + count (in_slot x.slot) l ≤ 1 = rw (eqb_same x.slot) at h in omega arith

module _ (ks : List Kind) where
  pub slots-long : (l : List Entry) (area : List ℕ) → length area ≡ 98048 → All (Fits ks) l → length (flat (slot_bytes area) l) ≡ length l * 383
  slots-long l area h fit = flat-long (slot_bytes area) 383 l (slots-wide area ks l h fit)

  -- ---- one slot, and those behind it
  module _ (x : Entry) (l : List Entry) (slots area : List ℕ) (h : length area ≡ 98048) (fit : All (Fits ks) (x ∷ l)) (room : suc (length l) * 383 ≤ length slots) where
    piece : length (take 383 slots) ≡ 383
    piece = length-take-le 383 slots (omega arith)

    rest : length l * 383 ≤ length (drop 383 slots)
    rest = omega (arith, length-drop 383 slots)

    one-long : length (put area x.slot (take 383 slots)) ≡ 98048
    one-long = put-long area (take 383 slots) x.slot h piece fit.0.slot ∙ h

    one_same : window (put area x.slot (take 383 slots)) x.slot ≡ take 383 slots
    one_same = window_same area (take 383 slots) x.slot h piece fit.0.slot

    one-other : (s : ℕ) → (s ≡ x.slot → ⊥) → window (put area x.slot (take 383 slots)) s ≡ window area s
    one-other s = window-other area (take 383 slots) x.slot h piece fit.0.slot s

  pub poured-long : (l : List Entry) (slots area : List ℕ) → length area ≡ 98048 → All (Fits ks) l → length l * 383 ≤ length slots → length (poured l slots area) ≡ 98048
  poured-long [] slots area h fit room = h
  poured-long (x ∷ l) slots area h fit room =
      poured-long l (drop 383 slots) (put area x.slot (take 383 slots)) (one-long x l slots area h fit room) fit.1 (rest x l slots area h fit room)

  -- a slot that no entry has is as it was
  pub poured-other : (l : List Entry) (slots area : List ℕ) (s : ℕ) → length area ≡ 98048 → All (Fits ks) l → length l * 383 ≤ length slots → count (in_slot s) l ≡ 0
      → window (poured l slots area) s ≡ window area s
  poured-other [] slots area s h fit room z = refl
  poured-other (x ∷ l) slots area s h fit room z =
      let c = count-zero (in_slot s) x l z in
      poured-other l (drop 383 slots) (put area x.slot (take 383 slots)) s (one-long x l slots area h fit room) fit.1 (rest x l slots area h fit room) c.1
      ∙ one-other x l slots area h fit room s (λ e. eqb-false x.slot s c.0 (sym e))

  -- the slots of the entries hold what was poured
  pub poured-slots : (l : List Entry) (slots area : List ℕ) → length area ≡ 98048 → All (Fits ks) l → length l * 383 ≤ length slots → ((s : ℕ) → count (in_slot s) l ≤ 1)
      → flat (slot_bytes (poured l slots area)) l ≡ take (length l * 383) slots
  poured-slots [] slots area h fit room apart = refl
  poured-slots (x ∷ l) slots area h fit room apart =
      let area' : List ℕ = put area x.slot (take 383 slots) in
      let h' = one-long x l slots area h fit room in
      let more = rest x l slots area h fit room in
      let first : window (poured l (drop 383 slots) area') x.slot ≡ take 383 slots =
      poured-other l (drop 383 slots) area' x.slot h' fit.1 more (alone x l (apart x.slot)) ∙ one_same x l slots area h fit room in
      let others : flat (slot_bytes (poured l (drop 383 slots) area')) l ≡ take (length l * 383) (drop 383 slots) =
      poured-slots l (drop 383 slots) area' h' fit.1 more (λ s. omega (arith, apart s)) in
      (λ i. first i ++ others i) ∙ sym (take-add 383 (length l * 383) slots) ∙ ap (λ (n : ℕ). take n slots) (let e : 383 + length l * 383 ≡ suc (length l) * 383 = omega arith in e)

  -- ---- the same slots, the same files

  module _ (area area' : List ℕ) (h : length area ≡ 98048) (h' : length area' ≡ 98048) where
    pub same-records : (l : List Entry) (f : ℕ) → All (Fits ks) l → flat (slot_bytes area) l ≡ flat (slot_bytes area') l → records_of area f l ≡ records_of area' f l
    same-records [] f fit e = refl
    same-records (x ∷ l) f fit e =
        let w : List ℕ = window area x.slot in
        let w' : List ℕ = window area' x.slot in
        let k : length w ≡ 383 = window-long area x.slot h fit.0.slot in
        let k' : length w' ≡ 383 = window-long area' x.slot h' fit.0.slot in
        let r : List ℕ = flat (slot_bytes area) l in
        let r' : List ℕ = flat (slot_bytes area') l in
        let first : w ≡ w' = sym (take_at w r 383 k) ∙ ap (take 383) e ∙ take_at w' r' 383 k' in
        let others : r ≡ r' = sym (drop_at w r 383 k) ∙ ap (drop 383) e ∙ drop_at w' r' 383 k' in
        let same : rec_of area x ≡ rec_of area' x = ap (λ (z : List ℕ). rec_in z x) first in
        split (in_file f x) (λ t. rw t (λ i. same i ∷ same-records l f fit.1 others i)) (λ t. rw t (same-records l f fit.1 others))

pub same-files : (n : ℕ) (ks : List Kind) (l : List Entry) (area area' : List ℕ) → ((f : ℕ) → records_of area f l ≡ records_of area' f l) → files_from n ks l area ≡ files_from n ks l area'
same-files n [] l area area' e = refl
same-files n (k ∷ ks) l area area' e =
    split k.made
    (λ t. rw t (λ i. record { id = n; key_max = k.keymax; rec_max = k.recmax; records = e n i } ∷ same-files (suc n) ks l area area' e i))
    (λ t. rw t (same-files (suc n) ks l area area' e))
