-- Nothing of a deleted record stays in the area, and nothing of what an updated record held before.
use Prim.Native.Nat.{ℕ, ◌≤◌}
use mathlib.Core.Bool.{Bool, false, true}
use mathlib.Core.List.{List}
use mathlib.Core.Path.{ap, refl, subst, sym, ◌∙◌, ◌≡◌}
use native.Mathlib.Omega.{arith}
use lib.Dec.{eqb}
use lib.ListN.{get_or, length}
use borrow.Author.Tests.{eq-eqb, eqb-true}
use Rattle.book.specs.Book.{Lawful, entries_of, key_at, kind_of, meant, no_entry}
use Rattle.book.specs.declared.Book.{Book}
use Rattle.book.specs.declared.Entry.{Entry}
use Rattle.std.specs.Prelude.{Err, Ok, None, Option, Some}
use Rattle.files.specs.Coded.{Coded, Refused, result_code}
use Rattle.lists.proofs.ByPlace.{hit}
use Rattle.lists.proofs.Tests.{split}
use Rattle.lists.specs.ByPlace.{place}
use Rattle.record_commands.proofs.Steps.{find-found, fits-there, lengths, seen-fails, update-fit}
use Rattle.record_commands.specs.Leaks.{DeleteLeaves, FindDeleteLeaves, OneSlot, UpdateLeaves, slot_at}
use Rattle.record_commands.specs.Records.{delete_area, deleted_by, erased_area, find_delete_area, rewritten_by, update_area, update_seen, updated_by, wiped_by}
use Rattle.sights.proofs.Steps.{find-fails}
use Rattle.sights.specs.Sights.{find_of}
use Rattle.sights.specs.declared.Got.{Got}
use Rattle.slots.proofs.Slots.{blank-long, full-long, window-other, window_same}
use Rattle.slots.specs.Slots.{blank, put, slot_of}
use Rattle.tapa.specs.Codes.{invalid_file_id, invalid_record_pointer, successful}

module _ (b : Book) (area : List ℕ) (law : Lawful b area) where
  put_one : (q : Entry → Bool) (i : ℕ) (xs : List ℕ) → length xs ≡ 383 → place q 0 (entries_of b) ≡ Some i
      → OneSlot area (put area (get_or (entries_of b) i no_entry).slot xs) (slot_at (entries_of b) (place q 0 (entries_of b))) xs
  put_one q i xs full e =
      let s = (get_or (entries_of b) i no_entry).slot in
      let small : s ≤ 255 = (fits-there b area law i (hit no_entry q (entries_of b) i e).inside).slot in
      let at : slot_at (entries_of b) (place q 0 (entries_of b)) ≡ s = ap (slot_at (entries_of b)) e in
      record {
        own = rw at (window_same area xs s law.roomy full small);
        others = λ t n. window-other area xs s law.roomy full small t (λ m. n (m ∙ sym at));
      }

  pub delete-leaves : (f p : ℕ) → DeleteLeaves b area f p
  delete-leaves f p c = go (kind_of b.kinds f).made refl (place (meant f p) 0 (entries_of b)) refl
    where
      go : (m : Bool) → (kind_of b.kinds f).made ≡ m → (z : Option ℕ) → place (meant f p) 0 (entries_of b) ≡ z
          → OneSlot area (delete_area b area f p) (slot_at (entries_of b) (place (meant f p) 0 (entries_of b))) blank
      go false t z e = let w : ◌≡◌ {A = ℕ} invalid_file_id successful = rw t at c in absurd (omega arith)
      go true t None e = let w : ◌≡◌ {A = ℕ} invalid_record_pointer successful = rw (t, e) at c in absurd (omega arith)
      go true t (Some i) e =
          let a : delete_area b area f p ≡ erased_area b area i = rw (t, e) in
          subst (λ (r : List ℕ). OneSlot area r (slot_at (entries_of b) (place (meant f p) 0 (entries_of b))) blank) (sym a) (put_one (meant f p) i blank blank-long e)

  pub find-delete-leaves : (f : ℕ) (key : List ℕ) → FindDeleteLeaves b area f key
  find-delete-leaves f key c = go (find_of b area f key) refl
    where
      go : (r : Coded Got) → find_of b area f key ≡ r → OneSlot area (find_delete_area b area f key) (slot_at (entries_of b) (place (key_at area f key) 0 (entries_of b))) blank
      go (Ok g) e =
          let a : find_delete_area b area f key ≡ erased_area b area g.at = ap (wiped_by b area) e in
          subst (λ (r : List ℕ). OneSlot area r (slot_at (entries_of b) (place (key_at area f key) 0 (entries_of b))) blank) (sym a)
          (put_one (key_at area f key) g.at blank blank-long (find-found b area f key g (sym e)))
      go (Err n) e =
          let w : Refused {A = Got} (Err n) = subst (λ (r : Coded Got). Refused r) e (find-fails b area f key) in
          absurd (w (sym (ap (λ (r : Coded Got). result_code (deleted_by b r)) e) ∙ c))

  pub update-leaves : (f p : ℕ) (key d : List ℕ) → UpdateLeaves b area f p key d
  update-leaves f p key d c = go (update_seen b area f p key d) refl
    where
      go : (r : Coded Got) → update_seen b area f p key d ≡ r
          → OneSlot area (update_area b area f p key d) (slot_at (entries_of b) (place (meant f p) 0 (entries_of b))) (slot_of key d)
      go (Ok g) e =
          let fit = update-fit b area f p key d g (sym e) in
          let n = lengths b area law f key d fit.fit in
          let a : update_area b area f p key d ≡ put area (get_or (entries_of b) g.at no_entry).slot (slot_of key d) = ap (rewritten_by b area key d) e in
          subst (λ (r : List ℕ). OneSlot area r (slot_at (entries_of b) (place (meant f p) 0 (entries_of b))) (slot_of key d)) (sym a)
          (put_one (meant f p) g.at (slot_of key d) (full-long key d n.0 n.1) fit.found)
      go (Err n) e = absurd (seen-fails b area f p key d n (sym e) (sym (ap (λ (r : Coded Got). result_code (updated_by b key d r)) e) ∙ c))
