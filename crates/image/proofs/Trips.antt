-- Stores and their images: what is saved is loaded again, what is loaded was saved, two stores with one image are one store, and a changed byte is seen.
use Prim.Native.Nat.{◌*◌, ◌+◌, ◌<◌, ℕ, ◌≤◌}
use mathlib.Core.Bool.{false, true}
use Rattle.std.specs.Prelude.{Result, Ok, Err, is_ok, ⊤}
use mathlib.Core.List.{◌++◌, List, [], ◌∷◌}
use mathlib.Core.Path.{ap, refl, sym, ◌∙◌, ◌≡◌}
use native.Mathlib.Omega.{arith}
use lib.Dec.{eqb}
use lib.ListN.{drop, length, length-append, length-drop, take}
use lib.Seq.{get_or-append_seam, take_at}
use Rattle.adler.specs.Adler.{adler32}
use Rattle.book.proofs.Laws.{holds, kind-limits, law-len, lawful-of}
use Rattle.book.proofs.Tables.{made-few}
use Rattle.book.specs.Book.{Fits, book_of, entries_of, files_from, in_slot, no_kinds, view_of}
use Rattle.book.specs.declared.Book.{Book}
use Rattle.book.specs.declared.Entry.{Entry}
use Rattle.book.specs.declared.Kind.{Kind}
use Rattle.files.specs.Sound.{Sound}
use Rattle.image.proofs.Loads.{loaded-area, loaded-book, loaded-not, loaded-whole, whole-alone}
use Rattle.image.proofs.Pours.{poured-bytes, poured-long, poured-slots, same-files, same-records, slots-bytes, slots-long}
use Rattle.image.proofs.Sounds.{Own, all_apart, fit_all, owns, sound-of, sound-view}
use Rattle.image.specs.Image.{Storable, image_of, load_area, handed, load_of, loaded, poured, restored, restored_area, slot_bytes}
use Rattle.layout.proofs.Back.{slots_small}
use Rattle.layout.proofs.Readers.{entries-count, table-count}
use Rattle.layout.proofs.Bytes.{Small, written-bytes}
use Rattle.layout.proofs.Images.{entries-are, image-is, slots-from, table-limits, table_of, written_is, written-long}
use Rattle.layout.proofs.OneByte.{same_byte}
use Rattle.layout.proofs.Verdicts.{Imaged, is-whole, whole_is}
use Rattle.layout.specs.Judged.{count_in, entries_in, slots_in, table_in, verdict_of}
use Rattle.layout.specs.Layout.{body_of, flat, sealed, size_of, sum_bytes}
use Rattle.layout.specs.declared.Flaw.{Flaw}
use Rattle.layout.specs.declared.Flaw.TheVariants.{Area}
use Rattle.lists.proofs.Bytes.{bytes_drop}
use Rattle.lists.proofs.Tests.{clash, split, differ}
use Rattle.lists.specs.Lists.{All, Bytes, count}

-- ---- what is saved is loaded again

module _ (b : Book) (area : List ℕ) (st : Storable b area) where
  -- the slots in use, as they stand in the image
  abbrev kept : List ℕ
  kept = flat (slot_bytes area) (entries_of b)

  kept-long : length kept ≡ length (entries_of b) * 383
  kept-long = slots-long b.kinds (entries_of b) area st.law.roomy st.law.fit

  held-few : length (entries_of b) ≤ 256
  held-few = omega (arith, law-len b st.law.shape, st.law.shape.few)

  pub image-long : length (image_of b area) ≡ size_of (length (entries_of b))
  image-long = written-long b.kinds (entries_of b) kept st.law.shape.files kept-long

  pub image-small : length (image_of b area) ≤ 99652
  image-small = omega (arith, image-long, held-few)

  pub saved-whole : verdict_of (image_of b area) ≡ Ok tt
  saved-whole = is-whole (image_of b area) (written_is b.kinds (entries_of b) kept st.law.shape.files kept-long st.law.limits held-few (sound-of b area st))

  table-was : table_in (image_of b area) ≡ b.kinds
  table-was = table_of b.kinds (entries_of b) kept st.law.shape.files kept-long

  entries-were : entries_in (image_of b area) ≡ entries_of b
  entries-were = entries-are b.kinds (entries_of b) kept st.law.shape.files kept-long

  -- .. into any lent area of the right size
  module _ (area₀ : List ℕ) (roomy : length area₀ ≡ 98048) where
    -- the very book
    pub load-save : load_of (image_of b area) area₀ ≡ Ok b
    load-save =
        loaded-book (image_of b area) area₀ roomy saved-whole
        ∙ (λ i. Ok (book_of (table-was i) (entries-were i)))
        ∙ ap (λ (v : Book). Ok v) (sym st.law.shape.whole)

    abbrev again : List ℕ
    again = load_area (image_of b area) area₀

    abbrev end : List ℕ
    end = sum_bytes (adler32 (body_of b.kinds (entries_of b) kept))

    area-is : again ≡ poured (entries_of b) (kept ++ end) area₀
    area-is =
        loaded-area (image_of b area) area₀ roomy saved-whole
        ∙ (λ i. poured (entries-were i) (slots-from b.kinds (entries_of b) kept st.law.shape.files kept-long i) area₀)

    room : length (entries_of b) * 383 ≤ length (kept ++ end)
    room = omega (arith, length-append kept end, kept-long)

    area-long : length again ≡ 98048
    area-long = ap length area-is ∙ poured-long b.kinds (entries_of b) (kept ++ end) area₀ roomy st.law.fit room

    -- every slot in use, byte for byte
    pub load-save-slots : flat (slot_bytes again) (entries_of b) ≡ flat (slot_bytes area) (entries_of b)
    load-save-slots =
        ap (λ (a : List ℕ). flat (slot_bytes a) (entries_of b)) area-is
        ∙ poured-slots b.kinds (entries_of b) (kept ++ end) area₀ roomy st.law.fit room st.law.apart
        ∙ take_at kept end (length (entries_of b) * 383) kept-long

    -- 'the same records (files, order, pointers, keys, data)'
    pub load-save-view : view_of b again ≡ view_of b area
    load-save-view =
        same-files 1 b.kinds (entries_of b) again area
        (λ f. same-records b.kinds again area area-long st.law.roomy (entries_of b) f st.law.fit load-save-slots)

    pub load-save-storable : Storable b again
    load-save-storable = record {
      law = record { shape = st.law.shape; limits = st.law.limits; roomy = area-long; fit = st.law.fit; apart = st.law.apart };
      sound = rw load-save-view st.sound;
    }

-- 'Two lawful stores with the same image are the same store.'
pub one-image : (b b' : Book) (area area' : List ℕ) → Storable b area → Storable b' area' → image_of b area ≡ image_of b' area' → (b ≡ b') × (view_of b area ≡ view_of b' area')
one-image b b' area area' st st' e =
    let roomy = st.law.roomy in
    let same : b ≡ b' = ap loaded (sym (load-save b area st area roomy) ∙ ap (λ (img : List ℕ). load_of img area) e ∙ load-save b' area' st' area roomy) in
    (same, sym (load-save-view b area st area roomy) ∙ (λ i. view_of (same i) (load_area (e i) area)) ∙ load-save-view b' area' st' area roomy)

-- ---- what is loaded was saved

module _ (img area : List ℕ) (bytes : Bytes img) (ok : is_ok (load_of img area) ≡ true) where
  abbrev ks : List Kind
  ks = table_in img

  abbrev l : List Entry
  l = entries_in img

  roomy : length area ≡ 98048
  roomy = (loaded-whole img area ok).0

  whole : verdict_of img ≡ Ok tt
  whole = (loaded-whole img area ok).1

  image : Imaged img
  image = whole_is img whole

  book-is : (loaded (load_of img area)) ≡ book_of ks l
  book-is = ap loaded (loaded-book img area roomy whole)

  abbrev filled : List ℕ
  filled = restored_area img area

  area-was : load_area img area ≡ filled
  area-was = loaded-area img area roomy whole

  fit : All (Fits ks) l
  fit = fit_all ks l (slots_in img) (slots_small img bytes 64 (count_in img)) image.good

  apart : (s : ℕ) → count (in_slot s) l ≤ 1
  apart = all_apart ks l (slots_in img) image.good

  many : length l ≡ count_in img
  many = entries-count img 64 (count_in img)

  has_room : length l * 383 ≤ length (drop (64 + count_in img * 6) img)
  has_room = omega (arith, many, image.long, length-drop (64 + count_in img * 6) img)

  filled-long : length filled ≡ 98048
  filled-long = poured-long ks l (drop (64 + count_in img * 6) img) area roomy fit has_room

  slots-were : flat (slot_bytes filled) l ≡ slots_in img
  slots-were =
      poured-slots ks l (drop (64 + count_in img * 6) img) area roomy fit has_room apart
      ∙ ap (λ (n : ℕ). take (n * 383) (drop (64 + count_in img * 6) img)) many

  filled-sound : Sound (files_from 1 ks l filled)
  filled-sound = sound-view ks l filled (table-limits img bytes image) filled-long fit (rw slots-were image.good)

  restored-storable : Storable (book_of ks l) filled
  restored-storable = record {
    law = lawful-of ks l filled (omega (arith, many, image.few)) (table-count img) (table-limits img bytes image) filled-long fit apart;
    sound = rw (holds ks l) filled-sound;
  }

  pub accepted-storable : Storable (loaded (load_of img area)) (load_area img area)
  accepted-storable = rw (book-is, area-was) restored-storable

  restored-image : image_of (book_of ks l) filled ≡ img
  restored-image =
      ap (λ (m : List Entry). sealed (body_of ks m (flat (slot_bytes filled) m))) (holds ks l)
      ∙ ap (λ (s : List ℕ). sealed (body_of ks l s)) slots-were
      ∙ sym (image-is img bytes image)

  pub accepted-image : img ≡ image_of (loaded (load_of img area)) (load_area img area)
  accepted-image = sym ((λ i. image_of (book-is i) (area-was i)) ∙ restored-image)

-- ---- '`load` accepts exactly the images that `save` can write'

-- some store, its area of bytes as any lent one, has this image
pub record Image (img : List ℕ) : Type 0 where
  pub book : Book
  pub area : List ℕ
  pub bytes : Bytes area
  pub store : Storable book area
  pub is : img ≡ image_of book area

module _ (img area : List ℕ) (bytes : Bytes img) (lent : Bytes area) (roomy : length area ≡ 98048) where
  was-saved : is_ok (load_of img area) ≡ true → Image img
  was-saved ok = record {
    book = (loaded (load_of img area));
    area = load_area img area;
    bytes = rw (area-was img area bytes ok) (poured-bytes (entries_in img) (drop (64 + count_in img * 6) img) area (bytes_drop (64 + count_in img * 6) img bytes) lent);
    store = accepted-storable img area bytes ok;
    is = accepted-image img area bytes ok;
  }

  is-loaded : Image img → is_ok (load_of img area) ≡ true
  is-loaded i = ap (λ (z : List ℕ). is_ok (load_of z area)) i.is ∙ ap (λ (r : Result Book Flaw). is_ok r) (load-save i.book i.area i.store area roomy)

  pub accepts-exactly : (is_ok (load_of img area) ≡ true → Image img) × (Image img → is_ok (load_of img area) ≡ true)
  accepts-exactly = (was-saved, is-loaded)

-- .. and leaves what was lent untouched where it accepts nothing
refused-flaw : (img area : List ℕ) (v : Result ⊤ Flaw) → verdict_of img ≡ v → is_ok (handed v (restored img)) ≡ false → eqb (length area) 98048 ≡ true
    → (load_area img area ≡ area) × (loaded (load_of img area) ≡ book_of no_kinds [])
unfolding load_of load_area
refused-flaw img area (Ok u) f e t = clash true refl e
refused-flaw img area (Err x) f e t = (rw (t, f), rw (t, f))

pub refused-untouched : (img area : List ℕ) → is_ok (load_of img area) ≡ false → (load_area img area ≡ area) × (loaded (load_of img area) ≡ book_of no_kinds [])
unfolding load_of load_area
refused-untouched img area e = split (eqb (length area) 98048) (λ t. refused-flaw img area (verdict_of img) refl (rw t at e) t) (λ t. (rw t, rw t))

-- and of an image that is bent no book is handed out, whatever it says of one
pub refused-bent : (img area : List ℕ) (k : Flaw) → verdict_of img ≡ Err k → (b : Book) → load_of img area ≡ Ok b → ⊥
unfolding load_of
refused-bent img area k v b f =
    split (eqb (length area) 98048)
    (λ t. let z : ◌≡◌ {A = Result Book Flaw} (Err k) (Ok b) = rw (t, v) at f in differ (cc))
    (λ t. let z : ◌≡◌ {A = Result Book Flaw} (Err Area) (Ok b) = rw t at f in differ (cc))

-- ---- an image is bytes

module _ (b : Book) (area : List ℕ) (st : Storable b area) (bytes : Bytes area) where
  small : (x : Entry) → Fits b.kinds x → Own b.kinds x → Small x
  small x f o =
      let k = kind-limits b.kinds x.file st.law.limits in
      record { file = omega (arith, made-few b.kinds x.file st.law.shape.files o.made); pointer = omega (arith, o.range); slot = f.slot; key = omega (arith, o.key, k.0); body = omega (arith, o.body, k.1) }

  smalls : (l : List Entry) → All (Fits b.kinds) l → All (Own b.kinds) l → All Small l
  smalls [] f o = tt
  smalls (x ∷ l) f o = (small x f.0 o.0, smalls l f.1 o.1)

  pub image-bytes : Bytes (image_of b area)
  image-bytes =
      written-bytes b.kinds (entries_of b) (kept b area st) st.law.limits (held-few b area st)
      (smalls (entries_of b) st.law.fit (owns b.kinds (entries_of b) (kept b area st) (sound-of b area st)))
      (slots-bytes (entries_of b) area bytes)

-- ---- 'A single changed byte anywhere in the file is seen'

-- two images that differ in one byte at most are the same
pub one_byte : (p q : List ℕ) (x y : ℕ) → x < 256 → y < 256 → verdict_of (p ++ x ∷ q) ≡ Ok tt → verdict_of (p ++ y ∷ q) ≡ Ok tt → x ≡ y
one_byte p q x y bx by vx vy = same_byte p q x y (whole_is (p ++ x ∷ q) vx).sum (whole_is (p ++ y ∷ q) vy).sum bx by

-- a saved store with one byte changed, wherever it stands, is refused
module _ (b : Book) (area : List ℕ) (st : Storable b area) (bytes : Bytes area) (p q : List ℕ) (x y : ℕ) (is : image_of b area ≡ p ++ x ∷ q) (other : x ≡ y → ⊥) (byte : y < 256) where
  was : x < 256
  was = rw (is, get_or-append_seam p x q 0) at (image-bytes b area st bytes (length p))

  pub changed-byte : is_ok (verdict_of (p ++ y ∷ q)) ≡ false
  changed-byte =
      split (is_ok (verdict_of (p ++ y ∷ q)))
      (λ t. absurd (other (one_byte p q x y was byte (ap verdict_of (sym is) ∙ saved-whole b area st) (whole-alone (verdict_of (p ++ y ∷ q)) t))))
      (λ t. t)

  pub changed-refused : (area₀ : List ℕ) → is_ok (load_of (p ++ y ∷ q) area₀) ≡ false
  changed-refused area₀ = loaded-not (p ++ y ∷ q) area₀ changed-byte
