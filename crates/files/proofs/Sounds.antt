-- Every command keeps the plain list sound.
use Prim.Native.Nat.{◌+◌, ◌<◌, suc, zero, ℕ, ◌≤◌}
use Rattle.std.specs.Prelude.{Option, Some}
use mathlib.Core.Bool.{Bool, cond, false, true}
use mathlib.Core.List.{List, [], map, ◌∷◌}
use mathlib.Core.Path.{ap, refl, sym, ◌∙◌, ◌≡◌}
use native.Mathlib.Omega.{arith}
use lib.Dec.{eqb, leb, ltb}
use lib.ListN.{get_or, length, length-map}
use borrow.Author.Tests.{eqb-true, leb-false, lt-ltb, ltb-false}
use Rattle.files.specs.Asked.{Done, coded, commands, create_shape, data_from, done_by, file_in, get_shape, ids_of, ids_shape, key_from, key_shape, mark_shape, on_add, on_clear, on_create, on_delete, on_delete_files, on_find, on_find_delete, on_get, on_mark, on_update, record_shape, shaped}
use Rattle.files.specs.Files.{File, Record, add, add_code, add_code_in, change, clear, clear_code, create, create_all, create_code, create_one, delete, delete_code, delete_files, delete_files_code, empty_file, find_delete, find_delete_code, free_id, free_pointer, held, insert, keyed, look, not_of, renewed, sought, update, update_code, update_code_in, with_record, with_records}
use Rattle.files.specs.Sound.{Ranged, Sound, SoundFile, Within, called, pointed}
use Rattle.lists.proofs.ByPlace.{all_keep, all_snoc, count-snoc}
use Rattle.lists.proofs.Counts.{count-keep, none-zero}
use Rattle.lists.proofs.First.{all_changed, all_without, count-changed, count-changed-to, count-without}
use Rattle.lists.proofs.Least.{count-free, least-free, least-ge, least-le}
use Rattle.lists.proofs.Same.{same-eq}
use Rattle.lists.proofs.Tests.{checks-are, differ, split}
use Rattle.lists.specs.Least.{same}
use Rattle.lists.specs.Lists.{All, changed, count, one, some_of, without}
use Rattle.tapa.specs.Codes.{insufficient_resources, invalid_record_pointer, record_too_large, search_key_existing, search_key_too_large, unsupported_operation}
use Rattle.tapa.specs.Numbers.{word_at}

-- ---- one file changed
change-none : (h : List Record → List Record) (f : ℕ) (s : List File) → count (called f) s ≡ 0 → change h f s ≡ s
change-none h f [] e = refl
change-none h f (g ∷ s) e =
    split (called f g) (λ t. let z : 1 + count (called f) s ≡ 0 = rw t at e in absurd (omega arith))
    (λ t. let z : 0 + count (called f) s ≡ 0 = rw t at e in rw t (ap (λ (w : List File). g ∷ w) (change-none h f s (let y : count (called f) s ≡ 0 = omega arith in y))))

ids-kept : (h : List Record → List Record) (f m : ℕ) (s : List File) → count (called m) (change h f s) ≡ count (called m) s
ids-kept h f m [] = refl
ids-kept h f m (g ∷ s) = split (called f g) (λ t. rw t (omega (arith, ids-kept h f m s))) (λ t. rw t (omega (arith, ids-kept h f m s)))

files-kept : (h : List Record → List Record) (f : ℕ) (s : List File) → ((g : File) → look f s ≡ Some g → SoundFile g → SoundFile (with_records g (h g.records)))
    → All SoundFile s → ((m : ℕ) → count (called m) s ≤ 1) → All SoundFile (change h f s)
files-kept h f [] step a c = tt
files-kept h f (g ∷ s) step a c =
    split (called f g)
    (λ t.
    let n : 1 + count (called f) s ≤ 1 = rw t at (c f) in
    rw (t, change-none h f s (let y : count (called f) s ≡ 0 = omega arith in y)) (step g (rw t) a.0, a.1))
    (λ t.
    let tail : (k : File) → look f s ≡ Some k → SoundFile k → SoundFile (with_records k (h k.records)) = (λ k e. step k (let y : look f (g ∷ s) ≡ look f s = rw t in y ∙ e)) in
    rw t (a.0, files-kept h f s tail a.1 (λ m. omega (arith, c m))))

sound-change : (h : List Record → List Record) (f : ℕ) (s : List File) → ((g : File) → look f s ≡ Some g → SoundFile g → SoundFile (with_records g (h g.records))) → Sound s → Sound (change h f s)
sound-change h f s step w = record { files = files-kept h f s step w.files w.ids; ids = λ m. omega (arith, ids-kept h f m s, w.ids m) }

when-zero : (n : ℕ) (s t : List File) → Sound s → (n ≡ 0 → Sound t) → Sound (cond (eqb n 0) t s)
when-zero n s t w f = split (eqb n 0) (λ u. rw u (f (eqb-true n 0 u))) (λ u. rw u w)

-- ---- fewer records: Delete, Find and Delete, Clear
fewer : (q : Record → Bool) (g : File) → SoundFile g → SoundFile (with_records g (without q g.records))
fewer q g w = record {
  pointers = λ p. omega (arith, w.pointers p, count-without (pointed p) q g.records);
  ranged = all_without Ranged q g.records w.ranged;
  within = all_without (Within g) q g.records w.within;
  keys = λ h key. omega (arith, w.keys h key, count-without (keyed key) q g.records);
}

sound-delete : (s : List File) (f p : ℕ) → Sound s → Sound (delete s f p)
sound-delete s f p w = when-zero (delete_code s f p) s _ w (λ e. sound-change (without (sought p)) f s (λ g l. fewer (sought p) g) w)

sound-find-delete : (s : List File) (f : ℕ) (key : List ℕ) → Sound s → Sound (find_delete s f key)
sound-find-delete s f key w = when-zero (find_delete_code s f key) s _ w (λ e. sound-change (without (keyed key)) f s (λ g l. fewer (keyed key) g) w)

sound-clear : (s : List File) (f : ℕ) → Sound s → Sound (clear s f)
sound-clear s f w =
    when-zero (clear_code s f) s _ w
    (λ e. sound-change (λ (rs : List Record). []) f s (λ g l v. record { pointers = λ p. omega arith; ranged = tt; within = tt; keys = λ h key. omega arith }) w)

sound-delete-files : (s : List File) (fs : List ℕ) → Sound s → Sound (delete_files s fs)
sound-delete-files s fs w =
    when-zero (delete_files_code s fs) s _ w
    (λ e. record { files = all_keep SoundFile (not_of fs) s w.files; ids = λ m. omega (arith, w.ids m, count-keep (called m) (not_of fs) s) })

-- ---- Add
held_in : (f : ℕ) (s : List File) (g : File) → look f s ≡ Some g → length g.records ≤ held s
held_in f [] g e = differ (cc)
held_in f (k ∷ s) g e =
    split (called f k)
    (λ t. let y : Some k ≡ Some g = rw t at e in let z : k ≡ g = cc in let v : length k.records ≡ length g.records = ap (λ (x : File). length x.records) z in omega arith)
    (λ t. omega (arith, held_in f s g (rw t at e)))

record AddFacts (s : List File) (g : File) (key d : List ℕ) : Type 0 where
  small : length d ≤ g.rec_max
  short : length key ≤ g.key_max
  twin : cond (ltb 0 g.key_max) (some_of (keyed key) g.records) false ≡ false
  room : held s < 256

add-facts : (s : List File) (g : File) (key d : List ℕ) → add_code_in s (Some g) key d ≡ 0 → AddFacts s g key d
add-facts s g key d e =
    split (ltb g.rec_max (length d))
    (λ t2. let z : ◌≡◌ {A = ℕ} record_too_large 0 = rw t2 at e in absurd (omega arith))
    (λ t2. split (ltb g.key_max (length key))
    (λ t3. let z : ◌≡◌ {A = ℕ} search_key_too_large 0 = rw (t2, t3) at e in absurd (omega arith))
    (λ t3. split (cond (ltb 0 g.key_max) (some_of (keyed key) g.records) false)
    (λ t4. let z : ◌≡◌ {A = ℕ} search_key_existing 0 = rw (t2, t3, t4) at e in absurd (omega arith))
    (λ t4. split (leb 256 (held s))
    (λ t5. let z : ◌≡◌ {A = ℕ} insufficient_resources 0 = rw (t2, t3, t4, t5) at e in absurd (omega arith))
    (λ t5. record { small = ltb-false g.rec_max (length d) t2; short = ltb-false g.key_max (length key) t3; twin = t4; room = leb-false 256 (held s) t5 }))))

one_more : (s : List File) (g : File) (key d : List ℕ) → AddFacts s g key d → length g.records ≤ held s → SoundFile g → SoundFile (with_records g (with_record key d g.records))
one_more s g key d a n w =
    let rs = g.records in
    let p = free_pointer rs in
    let x : Record = record { pointer = p; key = key; bytes = d } in
    let ps = map (λ (r : Record). r.pointer) rs in
    let long : length ps ≡ length rs = length-map rs (λ (r : Record). r.pointer) in
    let free : count (pointed p) rs ≡ 0 = count-free (λ (r : Record). r.pointer) p rs (least-free 1 ps (omega (arith, a.room))) in
    record {
      pointers = λ m. rw (count-snoc (pointed m) rs x)
          (split (eqb p m)
          (λ t. let e : p ≡ m = eqb-true p m t in let z : count (pointed m) rs ≡ 0 = ap (λ (j : ℕ). count (pointed j) rs) (sym e) ∙ free in rw t (omega arith))
          (λ t. rw t (omega (arith, w.pointers m))));
      ranged = all_snoc Ranged rs x w.ranged (least-ge 1 ps, omega (arith, least-le 1 ps, a.room));
      within = all_snoc (Within g) rs x w.within (a.short, a.small);
      keys = λ h k. rw (count-snoc (keyed k) rs x)
          (split (same key k)
          (λ t. let e : key ≡ k = same-eq key k t in
          let v : some_of (keyed key) rs ≡ false = rw (lt-ltb 0 g.key_max h) at a.twin in
          let z : count (keyed k) rs ≡ 0 = ap (λ (j : List ℕ). count (keyed j) rs) (sym e) ∙ none-zero (keyed key) rs v in rw t (omega arith))
          (λ t. rw t (omega (arith, w.keys h k))));
    }

sound-add : (s : List File) (f : ℕ) (key d : List ℕ) → Sound s → Sound (add s f key d)
sound-add s f key d w =
    when-zero (add_code s f key d) s _ w
    (λ e. sound-change (with_record key d) f s
    (λ g l. one_more s g key d (add-facts s g key d (ap (λ (o : Option File). add_code_in s o key d) (sym l) ∙ e)) (held_in f s g l)) w)

-- ---- Update
record UpdateFacts (g : File) (p : ℕ) (key d : List ℕ) : Type 0 where
  small : length d ≤ g.rec_max
  short : length key ≤ g.key_max
  twin : cond (ltb 0 g.key_max) (some_of (keyed key) (without (sought p) g.records)) false ≡ false

update-facts : (g : File) (p : ℕ) (key d : List ℕ) → update_code_in (Some g) p key d ≡ 0 → UpdateFacts g p key d
update-facts g p key d e =
    split (ltb g.rec_max (length d))
    (λ t2. let z : ◌≡◌ {A = ℕ} record_too_large 0 = rw t2 at e in absurd (omega arith))
    (λ t2. split (ltb g.key_max (length key))
    (λ t3. let z : ◌≡◌ {A = ℕ} search_key_too_large 0 = rw (t2, t3) at e in absurd (omega arith))
    (λ t3. split (some_of (sought p) g.records)
    (λ t4. split (cond (ltb 0 g.key_max) (some_of (keyed key) (without (sought p) g.records)) false)
    (λ t5. let z : ◌≡◌ {A = ℕ} search_key_existing 0 = rw (t2, t3, t4, t5) at e in absurd (omega arith))
    (λ t5. record { small = ltb-false g.rec_max (length d) t2; short = ltb-false g.key_max (length key) t3; twin = t5 }))
    (λ t4. let z : ◌≡◌ {A = ℕ} invalid_record_pointer 0 = rw (t2, t3, t4) at e in absurd (omega arith))))

one-anew : (g : File) (p : ℕ) (key d : List ℕ) → UpdateFacts g p key d → SoundFile g → SoundFile (with_records g (changed (renewed key d) (sought p) g.records))
one-anew g p key d a w =
    let rs = g.records in
    let q = sought p in
    let h = renewed key d in
    record {
      pointers = λ m. omega (arith, w.pointers m, count-changed h (pointed m) q (λ r. refl) rs);
      ranged = all_changed h q Ranged (λ r v. v) rs w.ranged;
      within = all_changed h q (Within g) (λ r v. (a.short, a.small)) rs w.within;
      keys = λ n k.
          split (same key k)
          (λ t. let e : key ≡ k = same-eq key k t in
          let v : some_of (keyed key) (without q rs) ≡ false = rw (lt-ltb 0 g.key_max n) at a.twin in
          let z : count (keyed k) (without q rs) ≡ 0 = ap (λ (j : List ℕ). count (keyed j) (without q rs)) (sym e) ∙ none-zero (keyed key) (without q rs) v in
          let c : count (keyed k) (changed h q rs) ≤ 1 + count (keyed k) (without q rs) = count-changed-to h q (keyed k) true (λ r. t) rs in
          omega arith)
          (λ t. let c : count (keyed k) (changed h q rs) ≤ 0 + count (keyed k) (without q rs) = count-changed-to h q (keyed k) false (λ r. t) rs in
          omega (arith, w.keys n k, count-without (keyed k) q rs));
    }

sound-update : (s : List File) (f p : ℕ) (key d : List ℕ) → Sound s → Sound (update s f p key d)
sound-update s f p key d w =
    when-zero (update_code s f p key d) s _ w
    (λ e. sound-change (changed (renewed key d) (sought p)) f s
    (λ g l. one-anew g p key d (update-facts g p key d (ap (λ (o : Option File). update_code_in o p key d) (sym l) ∙ e))) w)

-- ---- Create
all_insert : (g : File) (s : List File) → SoundFile g → All SoundFile s → All SoundFile (insert g s)
all_insert g [] p a = (p, tt)
all_insert g (x ∷ s) p a = split (ltb g.id x.id) (λ t. rw t (p, a)) (λ t. rw t (a.0, all_insert g s p a.1))

count-insert : (m : ℕ) (g : File) (s : List File) → count (called m) (insert g s) ≡ one (called m g) + count (called m) s
count-insert m g [] = refl
count-insert m g (x ∷ s) = split (ltb g.id x.id) (λ t. rw t) (λ t. rw t (omega (arith, count-insert m g s)))

length-insert : (g : File) (s : List File) → length (insert g s) ≡ suc (length s)
length-insert g [] = refl
length-insert g (x ∷ s) = split (ltb g.id x.id) (λ t. rw t) (λ t. rw t (ap suc (length-insert g s)))

sound-one : (k r : ℕ) (s : List File) → length s < 256 → Sound s → Sound (create_one k r s)
sound-one k r s h w =
    let n = free_id s in
    let ns = map (λ (g : File). g.id) s in
    let free : count (called n) s ≡ 0 = count-free (λ (g : File). g.id) n s (least-free 1 ns (omega (arith, length-map s (λ (g : File). g.id)))) in
    record {
      files = all_insert (empty_file n k r) s (record { pointers = λ p. omega arith; ranged = tt; within = tt; keys = λ v key. omega arith }) w.files;
      ids = λ m. rw (count-insert m (empty_file n k r) s)
          (split (eqb n m) (λ t. let e : n ≡ m = eqb-true n m t in let z : count (called m) s ≡ 0 = ap (λ (j : ℕ). count (called j) s) (sym e) ∙ free in rw t (omega arith))
          (λ t. rw t (omega (arith, w.ids m))));
    }

sound-all : (n k r : ℕ) (s : List File) → length s + n ≤ 16 → Sound s → Sound (create_all n k r s)
sound-all zero k r s h w = w
sound-all (suc n) k r s h w =
    sound-all n k r (create_one k r s) (omega (arith, length-insert (empty_file (free_id s) k r) s)) (sound-one k r s (omega arith) w)

sound-create : (s : List File) (n k r : ℕ) → Sound s → Sound (create s n k r)
sound-create s n k r w =
    when-zero (create_code s n) s _ w
    (λ e. sound-all n k r s
    (split (ltb 16 (length s + n)) (λ t. let z : ◌≡◌ {A = ℕ} insufficient_resources 0 = rw t at e in absurd (omega arith)) (λ t. ltb-false 16 (length s + n) t)) w)

pub sound_none : Sound []
sound_none = record { files = tt; ids = λ f. omega arith }

-- ---- a whole command, of any type and with any data

pub sound-done : (kind : ℕ) (part : List ℕ) (s : List File) → Sound s → Sound (done_by kind part s).files
unfolding done_by
sound-done kind part s w =
    checks-are (λ (d : Done). Sound d.files) (commands kind part s) (coded unsupported_operation s) (
      done (create_shape part) (on_create part s) (sound-create s (get_or part 0 0) (get_or part 1 0) (word_at part 2) w),
      (
        done (ids_shape part) (on_delete_files part s) (sound-delete-files s (ids_of part) w),
        (
          done (record_shape 2 part) (on_add part s) (sound-add s (file_in part) (key_from part 2) (data_from part 2) w),
          (
            done (get_shape part) (on_get part s) w,
            (
              done (record_shape 4 part) (on_update part s) (sound-update s (file_in part) (word_at part 2) (key_from part 4) (data_from part 4) w),
              (
                done (key_shape part) (on_find part s) w,
                (
                  done (eqb (length part) 4) (on_delete part s) (sound-delete s (file_in part) (word_at part 2) w),
                  (
                    done (key_shape part) (on_find_delete part s) (sound-find-delete s (file_in part) (key_from part 2) w),
                    (
                      done (eqb (length part) 2) (on_clear part s) (sound-clear s (file_in part) w),
                      (
                        done (mark_shape part) (on_mark s) w,
                        (
                          done (mark_shape part) (on_mark s) w,
                          tt,
                        ),
                      ),
                    ),
                  ),
                ),
              ),
            ),
          ),
        ),
      ),
    )
    (λ r. w)
  where
    done : (t : Bool) (d : Done) → Sound d.files → Sound (shaped t d s).files
    done true d v = v
    done false d v = w
