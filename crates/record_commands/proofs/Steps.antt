-- What the returns of the commands need, over plain values.
use Prim.Native.Nat.{◌%◌, ◌+◌, ◌-◌, ◌<◌, ℕ, ◌≤◌}
use mathlib.Core.Bool.{Bool, cond, false, not, true}
use mathlib.Core.List.{◌++◌, List, [], ◌∷◌}
use mathlib.Core.Logic.{◌⊎◌, ⊎_elim}
use mathlib.Core.Path.{ap, refl, sym, ◌∙◌, ◌≡◌}
use native.Mathlib.Nat.{mod-eq_of_lt}
use native.Mathlib.Omega.{arith}
use lib.Dec.{eqb, leb, ltb}
use lib.ListN.{get_or, length, replicate, set, take}
use lib.Seq.{drop_at, take_at}
use borrow.Author.Tests.{eq-eqb, eqb-false, eqb-true, le-ltb, leb-false, lt-ltb, ltb-false, ne_eqb, not-false}
use Rattle.std.specs.Prelude.{Err, Ok, None, Option, Some, is_some}
use Rattle.book.proofs.Laws.{kind-limits, law-len, slot_small}
use Rattle.book.specs.Book.{Fits, Lawful, book_of, entries_of, in_slot, key_at, kind_of, meant, no_entry, pushed_of, rec_in, rec_of}
use Rattle.book.specs.declared.Book.{Book}
use Rattle.book.specs.declared.Entry.{Entry}
use Rattle.book.specs.declared.Kind.{Kind}
use Rattle.files.specs.Coded.{Coded}
use Rattle.lists.proofs.ByPlace.{all-at, count_cut, hit}
use Rattle.lists.proofs.Tests.{checks-are, split}
use Rattle.lists.specs.ByPlace.{cut, is_at, place}
use Rattle.lists.specs.Lists.{count}
use Rattle.record_commands.specs.Records.{add_area, add_of, asked_code, wiped_by, code_of_add, delete_area, delete_of, deleted_by, erased_area, erased_book, find_delete_area, find_delete_of, new_entry, resized, rewritten_by, twin_at, update_area, update_at, update_of, update_seen, updated_by}
use Rattle.record_commands.specs.declared.Added.{Added}
use Rattle.sights.specs.Sights.{find_of, found_at}
use Rattle.sights.specs.declared.Got.{Got}
use Rattle.slots.proofs.Slots.{window_same, written_is}
use Rattle.slots.specs.Slots.{put, slot_of, written}
use Rattle.tapa.specs.Codes.{file_seek_error, insufficient_resources, invalid_file_id, invalid_record_pointer, record_too_large, search_key_existing, search_key_too_large, successful}

-- ---- what the law tells of one entry
module _ (b : Book) (area : List ℕ) (law : Lawful b area) (i : ℕ) (inside : i < length (entries_of b)) where
  pub fits-there : Fits b.kinds (get_or (entries_of b) i no_entry)
  fits-there = all-at no_entry (Fits b.kinds) (entries_of b) i inside law.fit

  -- no other entry has its slot
  pub slot-alone : count (in_slot (get_or (entries_of b) i no_entry).slot) (cut (entries_of b) i) ≡ 0
  slot-alone =
      let s = (get_or (entries_of b) i no_entry).slot in
      let c = count_cut no_entry (in_slot s) (entries_of b) i inside in
      let c' : count (in_slot s) (entries_of b) ≡ 1 + count (in_slot s) (cut (entries_of b) i) = rw (eq-eqb s s refl) at c in
      omega (arith, law.apart s)

-- a slot that was written holds the record
pub new-record : (area key d : List ℕ) (s : ℕ) → length area ≡ 98048 → length (slot_of key d) ≡ 383 → s ≤ 255 → (f p : ℕ)
    → rec_of (put area s (slot_of key d)) (record { file = f; pointer = p; slot = s; keylen = length key; len = length d }) ≡ record { pointer = p; key = key; bytes = d }
new-record area key d s long full small f p =
    let r : List ℕ = replicate (383 - length key - length d) 0 in
    ap (λ (w : List ℕ). rec_in w (record { file = f; pointer = p; slot = s; keylen = length key; len = length d })) (window_same area (slot_of key d) s long full small)
    ∙ (λ i. record { pointer = p; key = take_at key (d ++ r) (length key) refl i; bytes = (ap (take (length d)) (drop_at key (d ++ r) (length key) refl) ∙ take_at d r (length d) refl) i })

-- a number as short as a key or data goes into an entry as it is
pub as-it-is : (n r : ℕ) → r ≡ n % 65536 → n ≤ 255 → r ≡ n
as-it-is n r e h = e ∙ mod-eq_of_lt (omega arith)

-- the test of a code, from what is known of an equal one
pub code_other : (n m : ℕ) → n ≡ m → (n ≡ successful → ⊥) → eqb m successful ≡ false
code_other n m e h = ap (λ (k : ℕ). eqb k successful) (sym e) ∙ ne_eqb n successful h

pub code-good : (n m : ℕ) → n ≡ m → n ≡ successful → eqb m successful ≡ true
code-good n m e h = eq-eqb m successful (sym e ∙ h)

-- a search that found is one that ended at a place
pub some-at : (z : Option ℕ) → is_some z ≡ is_at z
some-at (Some i) = refl
some-at None = refl

-- ---- Delete
module _ (b : Book) (area : List ℕ) (f p : ℕ) where
  pub delete-hit : (i : ℕ) (next : Book) (area' : List ℕ) → (kind_of b.kinds f).made ≡ true → place (meant f p) 0 (entries_of b) ≡ Some i
      → next ≡ erased_book b i → area' ≡ erased_area b area i
      → (Ok next ≡ delete_of b f p) × (area' ≡ delete_area b area f p)
  delete-hit i next area' e g m n = rw (e, g) (ap Ok m, n)

-- ---- Find and Delete

module _ (b : Book) (area : List ℕ) (f : ℕ) (key : List ℕ) where
  -- where Find got a record, its search ended there
  pub find-found : (g : Got) → Ok g ≡ find_of b area f key → place (key_at area f key) 0 (entries_of b) ≡ Some g.at
  find-found g e =
      checks-are (λ (v : Coded Got). Ok g ≡ v → place (key_at area f key) 0 (entries_of b) ≡ Some g.at)
      ((not (kind_of b.kinds f).made, Err invalid_file_id) ∷ (ltb (kind_of b.kinds f).keymax (length key), Err search_key_too_large) ∷ [])
      (found_at (entries_of b) (place (key_at area f key) 0 (entries_of b)))
      (wrong invalid_file_id, (wrong search_key_too_large, tt))
      (λ t x. go (place (key_at area f key) 0 (entries_of b)) x)
      e
    where
      wrong : {P : Type 0} (n : ℕ) → Ok g ≡ Err n → P
      wrong n x = absurd (cc)

      go : (z : Option ℕ) → Ok g ≡ found_at (entries_of b) z → z ≡ Some g.at
      go None x = wrong file_seek_error x
      go (Some i) x = let m : g ≡ record { at = i; other = (get_or (entries_of b) i no_entry).pointer } = cc in ap (λ (v : Got). Some v.at) (sym m)

  pub find-delete-none : (n : ℕ) → Err n ≡ find_of b area f key → (Err n ≡ find_delete_of b area f key) × (area ≡ find_delete_area b area f key)
  find-delete-none n e = (ap (deleted_by b) e, ap (wiped_by b area) e)

  module _ (g : Got) (e : Ok g ≡ find_of b area f key) where
    pub find-delete-hit : (next : Book) (area' : List ℕ) → next ≡ erased_book b g.at → area' ≡ erased_area b area g.at
        → (Ok next ≡ find_delete_of b area f key) × (area' ≡ find_delete_area b area f key)
    find-delete-hit next area' m n = (ap Ok m ∙ ap (deleted_by b) e, n ∙ ap (wiped_by b area) e)

-- ---- what Add and Update look at first

pub record Asked (k : Kind) (key d : List ℕ) : Type 0 where
  pub made : k.made ≡ true
  pub small : length d ≤ k.recmax
  pub short : length key ≤ k.keymax

pub asked : (k : Kind) (key d : List ℕ) → asked_code k key d ≡ successful → Asked k key d
asked k key d e =
    checks-are (λ (n : ℕ). n ≡ successful → Asked k key d)
    ((not k.made, invalid_file_id) ∷ (ltb k.recmax (length d), record_too_large) ∷ (ltb k.keymax (length key), search_key_too_large) ∷ [])
    successful
    (λ z. absurd (omega arith), (λ z. absurd (omega arith), (λ z. absurd (omega arith), tt)))
    (λ t z. record { made = not-false _ t.0; small = ltb-false _ _ t.1.0; short = ltb-false _ _ t.1.1.0 })
    e

-- both lengths are within the house's
pub lengths : (b : Book) (area : List ℕ) → Lawful b area → (f : ℕ) (key d : List ℕ) → Asked (kind_of b.kinds f) key d → (length key ≤ 255) × (length d ≤ 128)
lengths b area law f key d fit = let k = kind-limits b.kinds f law.limits in (omega (arith, k.0, fit.short), omega (arith, k.1, fit.small))

-- ---- Add

-- the check that no record has the key, in a file with keys
pub no-twin : (n : ℕ) (t : Bool) → ((0 < n) × (t ≡ false)) ⊎ (n ≤ 0) → cond (ltb 0 n) t false ≡ false
no-twin n t w = ⊎_elim (λ (a : (0 < n) × (t ≡ false)). rw (lt-ltb 0 n a.0, a.1)) (λ (a : n ≤ 0). rw (le-ltb 0 n a)) w

-- what is known where no check applies
pub record AddFit (b : Book) (f : ℕ) (key d : List ℕ) : Type 0 where
  pub fit : Asked (kind_of b.kinds f) key d
  pub room : length (entries_of b) < 256

pub add_fit : (b : Book) (area : List ℕ) (f : ℕ) (key d : List ℕ) → code_of_add b area f key d ≡ successful → AddFit b f key d
add_fit b area f key d e =
    let k = kind_of b.kinds f in
    split (eqb (asked_code k key d) successful)
    (λ u.
    checks-are (λ (n : ℕ). n ≡ successful → AddFit b f key d)
    ((cond (ltb 0 k.keymax) (is_at (place (key_at area f key) 0 (entries_of b))) false, search_key_existing) ∷ (leb 256 (length (entries_of b)), insufficient_resources) ∷ [])
    successful
    (λ z. absurd (omega arith), (λ z. absurd (omega arith), tt))
    (λ t z. record { fit = asked k key d (eqb-true (asked_code k key d) successful u); room = leb-false _ _ t.1.0 })
    (rw u at e))
    (λ u. absurd (eqb-false (asked_code k key d) successful u (rw u at e)))

module _ (b : Book) (area : List ℕ) (f : ℕ) (key d : List ℕ) where
  pub add-refused : (n : ℕ) → n ≡ code_of_add b area f key d → (n ≡ successful → ⊥)
      → (Err n ≡ add_of b area f key d) × (area ≡ add_area b area f key d)
  add-refused n e h =
      rw (code_other n (code_of_add b area f key d) e h) (ap Err e, refl)

  module _ (law : Lawful b area) (e : code_of_add b area f key d ≡ successful) where
    pub lengths-add : (length key ≤ 255) × (length d ≤ 128)
    lengths-add = lengths b area law f key d (add_fit b area f key d e).fit

    pub slot-add : (new_entry b f key d).slot ≤ 255
    slot-add = slot_small b law.shape (omega (arith, (add_fit b area f key d e).room, law-len b law.shape))

    pub add_done : (p s k n : ℕ) (next : Book) (area' : List ℕ) → p ≡ (new_entry b f key d).pointer → s ≡ (new_entry b f key d).slot
        → k ≡ length key % 65536 → n ≡ length d % 65536 → next ≡ pushed_of b (record { file = f; pointer = p; slot = s; keylen = k; len = n })
        → area' ≡ written area s key d
        → (Ok (record { pointer = p; next = next }) ≡ add_of b area f key d) × (area' ≡ add_area b area f key d)
    add_done p s k n next area' ep es ek en eb ea =
        let z : eqb (code_of_add b area f key d) successful ≡ true = eq-eqb (code_of_add b area f key d) successful e in
        let lk = as-it-is (length key) k ek lengths-add.0 in
        let ln = as-it-is (length d) n en (omega (arith, lengths-add.1)) in
        let entry : ◌≡◌ {A = Entry} (record { file = f; pointer = p; slot = s; keylen = k; len = n }) (new_entry b f key d) =
        (λ i. record { file = f; pointer = ep i; slot = es i; keylen = lk i; len = ln i }) in
        let room : ltb b.count 256 ≡ true = lt-ltb b.count 256 (omega (arith, (add_fit b area f key d e).room, law-len b law.shape)) in
        let more : next ≡ book_of b.kinds (entries_of b ++ new_entry b f key d ∷ []) = eb ∙ rw room (ap (λ (x : Entry). book_of b.kinds (entries_of b ++ x ∷ [])) entry) in
        let full : area' ≡ put area (new_entry b f key d).slot (slot_of key d) =
        ea ∙ ap (λ (t : ℕ). written area t key d) es ∙ written_is area (new_entry b f key d).slot law.roomy slot-add key d lengths-add.0 lengths-add.1 in
        rw z (λ i. Ok (record { pointer = ep i; next = more i }), full)

-- ---- Update

-- what is known where there is such a record
pub record UpdateFit (b : Book) (f p : ℕ) (key d : List ℕ) (g : Got) : Type 0 where
  pub fit : Asked (kind_of b.kinds f) key d
  pub found : place (meant f p) 0 (entries_of b) ≡ Some g.at
  pub own : g.other ≡ (get_or (entries_of b) g.at no_entry).pointer

module _ (b : Book) (area : List ℕ) (f p : ℕ) (key d : List ℕ) where
  -- an Update that fails has another code than '0000'
  pub seen-fails : (n : ℕ) → Err n ≡ update_seen b area f p key d → n ≡ successful → ⊥
  seen-fails n e c =
      let k = kind_of b.kinds f in
      split (eqb (asked_code k key d) successful)
      (λ t. go (place (meant f p) 0 (entries_of b)) refl (rw t at e))
      (λ t. let z : ◌≡◌ {A = Coded Got} (Err n) (Err (asked_code k key d)) = rw t at e in let m : n ≡ asked_code k key d = cc in eqb-false (asked_code k key d) successful t (sym m ∙ c))
    where
      is : (m : ℕ) → 0 < m → ◌≡◌ {A = Coded Got} (Err n) (Err m) → ⊥
      is m h x = let z : n ≡ m = cc in omega (arith, c)

      go : (z : Option ℕ) → place (meant f p) 0 (entries_of b) ≡ z → Err n ≡ update_at b area f key (place (meant f p) 0 (entries_of b)) → ⊥
      go None y x = is invalid_record_pointer (omega arith) (rw y at x)
      go (Some i) y x =
          split (twin_at b area f key (kind_of b.kinds f).keymax i)
          (λ t. is search_key_existing (omega arith) (rw (y, t) at x))
          (λ t. let z : Err n ≡ Ok (record { at = i; other = (get_or (entries_of b) i no_entry).pointer }) = rw (y, t) at x in absurd (cc))

  pub update-refused : (n : ℕ) → Err n ≡ update_seen b area f p key d → (Err n ≡ update_of b area f p key d) × (area ≡ update_area b area f p key d)
  update-refused n e = (ap (updated_by b key d) e, ap (rewritten_by b area key d) e)

module _ (b : Book) (area : List ℕ) (f p : ℕ) (key d : List ℕ) (g : Got) (e : Ok g ≡ update_seen b area f p key d) where
  pub update-fit : UpdateFit b f p key d g
  update-fit =
      let k = kind_of b.kinds f in
      split (eqb (asked_code k key d) successful)
      (λ t. go (asked k key d (eqb-true (asked_code k key d) successful t)) (place (meant f p) 0 (entries_of b)) refl (rw t at e))
      (λ t. wrong (asked_code k key d) (rw t at e))
    where
      wrong : (n : ℕ) → Ok g ≡ Err n → UpdateFit b f p key d g
      wrong n x = absurd (cc)

      go : Asked (kind_of b.kinds f) key d → (z : Option ℕ) → place (meant f p) 0 (entries_of b) ≡ z → Ok g ≡ update_at b area f key (place (meant f p) 0 (entries_of b)) → UpdateFit b f p key d g
      go a None y x = wrong invalid_record_pointer (rw y at x)
      go a (Some i) y x =
          split (twin_at b area f key (kind_of b.kinds f).keymax i)
          (λ t. wrong search_key_existing (rw (y, t) at x))
          (λ t.
          let o : Ok g ≡ Ok (record { at = i; other = (get_or (entries_of b) i no_entry).pointer }) = rw (y, t) at x in
          let w : g ≡ record { at = i; other = (get_or (entries_of b) i no_entry).pointer } = cc in
          let m : g.at ≡ i = ap (λ (v : Got). v.at) w in
          record { fit = a; found = y ∙ ap Some (sym m); own = ap (λ (v : Got). v.other) w ∙ ap (λ (j : ℕ). (get_or (entries_of b) j no_entry).pointer) (sym m) })

  module _ (law : Lawful b area) where
    abbrev x : Entry
    x = get_or (entries_of b) g.at no_entry

    pub update-done : (v : Entry) (k n : ℕ) (next : Book) (area' : List ℕ) → v ≡ x → k ≡ length key % 65536 → n ≡ length d % 65536
        → next ≡ book_of b.kinds (set (entries_of b) g.at (record { file = v.file; pointer = v.pointer; slot = v.slot; keylen = k; len = n }))
        → area' ≡ written area v.slot key d
        → (Ok (record { pointer = g.other; next = next }) ≡ update_of b area f p key d) × (area' ≡ update_area b area f p key d)
    update-done v k n next area' ev ek en eb ea =
        let fit = update-fit in
        let long = lengths b area law f key d fit.fit in
        let lk = as-it-is (length key) k ek long.0 in
        let ln = as-it-is (length d) n en (omega (arith, long.1)) in
        let entry : ◌≡◌ {A = Entry} (record { file = v.file; pointer = v.pointer; slot = v.slot; keylen = k; len = n }) (resized x key d) =
        (λ i. record { file = (ev i).file; pointer = (ev i).pointer; slot = (ev i).slot; keylen = lk i; len = ln i }) in
        let anew : next ≡ book_of b.kinds (set (entries_of b) g.at (resized x key d)) = eb ∙ ap (λ (y : Entry). book_of b.kinds (set (entries_of b) g.at y)) entry in
        let there = hit no_entry (meant f p) (entries_of b) g.at fit.found in
        let small : x.slot ≤ 255 = (fits-there b area law g.at there.inside).slot in
        let full : area' ≡ put area x.slot (slot_of key d) =
        ea ∙ ap (λ (y : Entry). written area y.slot key d) ev ∙ written_is area x.slot law.roomy small key d long.0 long.1 in
        (ap (λ (o : Book). Ok (record { pointer = g.other; next = o })) anew ∙ ap (updated_by b key d) e, full ∙ ap (rewritten_by b area key d) e)
