-- The entries of an image with their slots, looked at one by one: whether one clashes with a later one, and whether all are sound. Assumes nothing.
use Prim.Native.Nat.{◌*◌, ◌+◌, ◌-◌, ◌<◌, ℕ, ◌≤◌}
use mathlib.Core.Bool.{◌&&◌, Bool, false, not, true, ◌||◌}
use mathlib.Core.List.{List, [], ◌∷◌}
use mathlib.Core.Path.{ap, sym, ◌∙◌, ◌≡◌}
use native.Mathlib.Numerals.{add-one}
use native.Mathlib.Omega.{arith}
use lib.Dec.{ltb}
use lib.ListN.{drop, drop_of_length-le, take}
use lib.Seq.{drop-cons, drop-drop}
use Rattle.book.specs.Book.{kind_of, no_entry}
use Rattle.book.specs.declared.Entry.{Entry}
use Rattle.book.specs.declared.Kind.{Kind}
use Rattle.layout.proofs.Readers.{entries-count}
use Rattle.layout.specs.Judged.{clashes, count_in, entries_in, entry_fits, entry_in, has_keys, has_twin, kind_fits, slots_in, sound, table_in, twin_from}
use Rattle.lists.proofs.Parts.{part-within}

module _ (img : List ℕ) where
  -- ---- an entry and its slot

  next-entry : (i : ℕ) → i < count_in img → drop i (entries_in img) ≡ entry_in img i ∷ drop (i + 1) (entries_in img)
  next-entry i h =
      drop-cons (entries_in img) i no_entry (omega (arith, entries-count img 64 (count_in img)))
      ∙ ap (λ (n : ℕ). entry_in img i ∷ drop n (entries_in img)) (sym (add-one i))

  next-slot : (i : ℕ) → drop 383 (drop (i * 383) (slots_in img)) ≡ drop ((i + 1) * 383) (slots_in img)
  next-slot i =
      drop-drop 383 (i * 383) (slots_in img) ∙ ap (λ (n : ℕ). drop n (slots_in img)) (let e : i * 383 + 383 ≡ (i + 1) * 383 = omega arith in e)

  none_left : (i : ℕ) → count_in img ≤ i → drop i (entries_in img) ≡ []
  none_left i h = drop_of_length-le (entries_in img) {i = i} (omega (arith, entries-count img 64 (count_in img)))

  abbrev pub key_in : ℕ → List ℕ
  key_in i = take (entry_in img i).keylen (drop (i * 383) (slots_in img))

  -- a key, as the code cuts it out of the image
  pub key-is : (n i k : ℕ) (x : Entry) → n ≡ count_in img → i < n → x ≡ entry_in img i → x.keylen ≤ 255 → k ≡ x.keylen
      → take ((((64 + n * 6) + i * 383) + k) - ((64 + n * 6) + i * 383)) (drop ((64 + n * 6) + i * 383) img) ≡ key_in i
  key-is n i k x e h ex b ek =
      let at = (64 + n * 6) + i * 383 in
      let long : (at + k) - at ≡ x.keylen = omega arith in
      ap (λ (m : ℕ). take m (drop at img)) long
      ∙ ap (take x.keylen) (sym (drop-drop (i * 383) (64 + n * 6) img))
      ∙ sym (part-within (i * 383) x.keylen (n * 383) (drop (64 + n * 6) img) (omega arith))
      ∙ (λ t. take (ex t).keylen (drop (i * 383) (take (e t * 383) (drop (64 + e t * 6) img))))

  -- ---- a later entry that clashes

  -- entry i with entry j
  abbrev pub meets : ℕ → ℕ → Bool
  meets i j = clashes (has_keys (table_in img) (entry_in img i)) (entry_in img i) (key_in i) (entry_in img j) (key_in j)

  -- the same of what was read of them
  pub meets-is : (i j : ℕ) (k : Kind) (x y : Entry) (key other : List ℕ) (r : Bool) → x ≡ entry_in img i → k ≡ kind_of (table_in img) x.file
      → key ≡ key_in i → y ≡ entry_in img j → other ≡ key_in j → r ≡ clashes (ltb 0 k.keymax) x key y other → r ≡ meets i j
  meets-is i j k x y key other r ex ek e ey f g =
      let ek' = ek ∙ ap (λ (v : Entry). kind_of (table_in img) v.file) ex in
      g ∙ (λ t. clashes (ltb 0 (ek' t).keymax) (ex t) (e t) (ey t) (f t))

  twin-step : (i j : ℕ) → j < count_in img → twin_from img i j ≡ (meets i j || twin_from img i (j + 1))
  twin-step i j h =
      let x = entry_in img i in
      let keyed = has_keys (table_in img) x in
      ap (λ (l : List Entry). has_twin keyed x (key_in i) l (drop (j * 383) (slots_in img))) (next-entry j h)
      ∙ ap (λ (s : List ℕ). meets i j || has_twin keyed x (key_in i) (drop (j + 1) (entries_in img)) s) (next-slot j)

  pub twin-hit : (i j : ℕ) → j < count_in img → meets i j ≡ true → twin_from img i j ≡ true
  twin-hit i j h t = twin-step i j h ∙ ap (λ (b : Bool). b || twin_from img i (j + 1)) t

  pub twin-miss : (i j : ℕ) → j < count_in img → meets i j ≡ false → twin_from img i (j + 1) ≡ twin_from img i j
  twin-miss i j h t = sym (twin-step i j h ∙ ap (λ (b : Bool). b || twin_from img i (j + 1)) t)

  pub twin-end : (i j : ℕ) → count_in img ≤ j → twin_from img i j ≡ false
  twin-end i j h =
      let x = entry_in img i in
      ap (λ (l : List Entry). has_twin (has_keys (table_in img) x) x (key_in i) l (drop (j * 383) (slots_in img))) (none_left j h)

  -- ---- all entries

  -- those from place i on
  abbrev pub sound_from : ℕ → Bool
  sound_from i = sound (table_in img) (drop i (entries_in img)) (drop (i * 383) (slots_in img))

  abbrev pub fits_at : ℕ → Bool
  fits_at i = entry_fits (table_in img) (entry_in img i)

  -- the same of what was read of entry i
  pub fits-is : (i : ℕ) (k : Kind) (x : Entry) (r : Bool) → x ≡ entry_in img i → k ≡ kind_of (table_in img) x.file → r ≡ kind_fits k x → r ≡ fits_at i
  fits-is i k x r ex ek g =
      let ek' = ek ∙ ap (λ (v : Entry). kind_of (table_in img) v.file) ex in
      g ∙ (λ t. kind_fits (ek' t) (ex t))

  sound-step : (i : ℕ) → i < count_in img → sound_from i ≡ fits_at i && (not (twin_from img i (i + 1)) && sound_from (i + 1))
  sound-step i h =
      let x = entry_in img i in
      let l = drop (i + 1) (entries_in img) in
      ap (λ (m : List Entry). sound (table_in img) m (drop (i * 383) (slots_in img))) (next-entry i h)
      ∙ ap (λ (s : List ℕ). fits_at i && (not (has_twin (has_keys (table_in img) x) x (key_in i) l s) && sound (table_in img) l s)) (next-slot i)

  pub sound-bent : (i : ℕ) → i < count_in img → fits_at i ≡ false → sound_from i ≡ false
  sound-bent i h t = sound-step i h ∙ ap (λ (b : Bool). b && (not (twin_from img i (i + 1)) && sound_from (i + 1))) t

  pub sound-twin : (i : ℕ) → i < count_in img → fits_at i ≡ true → twin_from img i (i + 1) ≡ true → sound_from i ≡ false
  sound-twin i h t u = sound-step i h ∙ (λ j. t j && (not (u j) && sound_from (i + 1)))

  pub sound_more : (i : ℕ) → i < count_in img → fits_at i ≡ true → twin_from img i (i + 1) ≡ false → sound_from (i + 1) ≡ sound_from i
  sound_more i h t u = sym (sound-step i h ∙ (λ j. t j && (not (u j) && sound_from (i + 1))))

  pub sound-end : (i : ℕ) → count_in img ≤ i → sound_from i ≡ true
  sound-end i h = ap (λ (m : List Entry). sound (table_in img) m (drop (i * 383) (slots_in img))) (none_left i h)
