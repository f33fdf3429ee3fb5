-- The identifiers of new files: they rise, are of 1 to 16, and there is one as long as fewer than 16 files are held.
use Prim.Native.Nat.{◌+◌, ◌<◌, suc, zero, ℕ, ◌≤◌}
use Rattle.std.specs.Prelude.{Option, Some, None}
use mathlib.Core.Bool.{false, true}
use mathlib.Core.List.{List}
use mathlib.Core.Path.{ap, refl, subst, sym, ◌∙◌, ◌≡◌}
use native.Mathlib.Nat.{not-suc-le-zero}
use native.Mathlib.Omega.{arith}
use lib.Dec.{eqb, ltb}
use lib.ListN.{get_or, length, length-set, set}
use lib.Seq.{get_or-set_other, get_or-set_same}
use borrow.Author.Tests.{eqb-false, eqb-true, le-leb, le-ltb, lt-ltb, ltb-false, ltb-true}
use Rattle.book.proofs.Tables.{free-at}
use Rattle.book.specs.Book.{Lawful, created_at, entries_of, free_kind, is_made, kind, no_kind, view_of}
use Rattle.book.specs.declared.Book.{Book}
use Rattle.book.specs.declared.Kind.{Kind}
use Rattle.file_commands.proofs.Creates.{Identifier, all_made, create-right, files-long, free-below, full-none, made_more}
use Rattle.file_commands.specs.Erasing.{create_ids, create_of, right_shape}
use Rattle.files.specs.Coded.{result_code}
use Rattle.files.specs.Files.{File, create_code, new_ids}
use Rattle.lists.proofs.ByPlace.{few-keep}
use Rattle.lists.proofs.Counts.{length-keep}
use Rattle.lists.proofs.Tests.{clash, split}
use Rattle.lists.specs.ByPlace.{is_at}
use Rattle.lists.specs.Least.{Rising}
use Rattle.lists.specs.Lists.{All, count}
use Rattle.tapa.specs.Codes.{insufficient_resources, successful}

-- ---- the identifiers rise: all places below the free one are made, and stay so
rises : (n k r m : ℕ) (b : Book) → length b.kinds ≡ 16 → count is_made b.kinds + n ≤ 16 → ((j : ℕ) → j < m → (get_or b.kinds j no_kind).made ≡ true)
    → Rising m (create_ids n k r b)
rises zero k r m b e h low = tt
rises (suc n) k r m b e h low = go (free_kind 0 b.kinds) refl (λ (i : ℕ). rises n k r (i + 1) (created_at b k r (Some i)).next)
  where
    go : (z : Option ℕ) → free_kind 0 b.kinds ≡ z
        → ((i : ℕ) → length (set b.kinds i (kind k r)) ≡ 16 → count is_made (set b.kinds i (kind k r)) + n ≤ 16
        → ((j : ℕ) → j < i + 1 → (get_or (set b.kinds i (kind k r)) j no_kind).made ≡ true) → Rising (i + 1) (create_ids n k r (created_at b k r (Some i)).next))
        → Rising m (create_ids (suc n) k r b)
    go None f ih = absurd (omega (arith, full-none 0 b.kinds f))
    go (Some i) f ih =
        let z = free-at b.kinds i f in
        let above : m < i + 1 = split (ltb i m) (λ t. clash (get_or b.kinds i no_kind).made (low i (ltb-true i m t)) z.free) (λ t. omega (arith, ltb-false i m t)) in
        let below : (j : ℕ) → j < i + 1 → (get_or (set b.kinds i (kind k r)) j no_kind).made ≡ true =
        (λ j g. split (eqb i j)
        (λ t. let w : i ≡ j = eqb-true i j t in ap (λ (q : ℕ). (get_or (set b.kinds i (kind k r)) q no_kind).made) (sym w) ∙ ap (λ (x : Kind). x.made) (get_or-set_same b.kinds i (kind k r) no_kind z.inside))
        (λ t. ap (λ (x : Kind). x.made) (get_or-set_other b.kinds i j (kind k r) no_kind (λ w. eqb-false i j t (let y : i ≡ j = omega arith in y)))
        ∙ free-below 0 i b.kinds (f ∙ ap Some (let u : i ≡ 0 + i = omega arith in u)) j (less i j t g))) in
        rw f (above, ih i (length-set b.kinds i (kind k r) ∙ e) (omega (arith, made_more b.kinds k r i z.inside z.free)) below)
      where
        less : (i j : ℕ) → eqb i j ≡ false → j < i + 1 → j < i
        less i j t g = split (ltb j i) (λ u. ltb-true j i u) (λ u. absurd (eqb-false i j t (let y : i ≡ j = omega (arith, ltb-false j i u) in y)))

module _ (b : Book) (area : List ℕ) (law : Lawful b area) where
  abbrev s : List File
  s = view_of b area

  held : length s ≡ count is_made b.kinds
  held = files-long (entries_of b) area 1 b.kinds

  -- 'several at once in rising order', and each of 1 to 16; that each is the lowest free one is `free_id` itself
  pub record IdsRight (n k r : ℕ) : Type 0 where
    pub rise : Rising 0 (new_ids n k r s)
    pub among : All Identifier (new_ids n k r s)

  pub ids-rise : (n k r : ℕ) → k ≤ 255 → r ≤ 128 → length s + n ≤ 16 → IdsRight n k r
  ids-rise n k r hk hr h =
      let room : count is_made b.kinds + n ≤ 16 = omega (arith, held) in
      let a = all_made n k r b area law hk hr room in
      record {
        rise = subst (Rising 0) a.ids (rises n k r 0 b law.shape.files room (λ j g. absurd (not-suc-le-zero g)));
        among = subst (All Identifier) a.ids a.among;
      }

  -- ---- the room: 'Files held plus new ones over 16 is 'FFF6''

  pub held-few : length s ≤ 16
  held-few = omega (arith, held, length-keep is_made b.kinds, few-keep is_made b.kinds, law.shape.files)

  pub record RoomRight (n k r : ℕ) : Type 0 where
    pub full : 16 < length s + n → result_code (create_of b n k r) ≡ insufficient_resources
    pub free : length s + n ≤ 16 → result_code (create_of b n k r) ≡ successful

  pub room-create : (n k r : ℕ) → k ≤ 255 → right_shape n r ≡ true → RoomRight n k r
  room-create n k r hk y =
      let c : result_code (create_of b n k r) ≡ create_code s n = (create-right b area law n k r hk).code ∙ rw y in
      record { full = λ h. c ∙ rw (lt-ltb 16 (length s + n) h); free = λ h. c ∙ rw (le-ltb 16 (length s + n) h) }

  -- one file is refused exactly where 16 are held, and else there is a free row for it
  pub record RoomForOne (k r : ℕ) : Type 0 where
    pub full : length s ≡ 16 → result_code (create_of b 1 k r) ≡ insufficient_resources
    pub free : length s < 16 → (result_code (create_of b 1 k r) ≡ successful) × is_at (free_kind 0 b.kinds) ≡ true

  pub room-for-one : (k r : ℕ) → k ≤ 255 → r ≤ 128 → RoomForOne k r
  room-for-one k r hk hr =
      let m = room-create 1 k r hk (rw (le-leb r 128 hr)) in
      record { full = λ e. m.full (omega arith); free = λ h. (m.free (omega arith), row h (free_kind 0 b.kinds) refl) }
    where
      row : length s < 16 → (z : Option ℕ) → free_kind 0 b.kinds ≡ z → is_at z ≡ true
      row h None e = absurd (omega (arith, held, full-none 0 b.kinds e, law.shape.files))
      row h (Some i) e = refl
