-- Every response ends in one of nine codes: 'FF54', 'FF55', 'FF57' and 'FF58' are never given, nor 'FFF3', 'FFF5', 'FFF7', 'FFF8' and 'FFF9'.
use Prim.Native.Nat.{◌+◌, ℕ}
use Rattle.std.specs.Prelude.{Option, Some, None}
use mathlib.Core.Bool.{Bool, cond, false, not, true}
use mathlib.Core.List.{◌++◌, List, [], ◌∷◌}
use mathlib.Core.Path.{refl, ◌≡◌}
use lib.Dec.{eqb, leb, ltb}
use lib.ListN.{get_or, length}
use Rattle.files.specs.Asked.{Done, carrying, coded, commands, create_shape, data_from, done_by, file_in, get_shape, ids_of, ids_shape, key_from, key_shape, mark_shape, on_add, on_clear, on_create, on_delete, on_delete_files, on_find, on_find_delete, on_get, on_mark, on_update, record_shape, seen_part, shaped, sight_bytes, words_of}
use Rattle.files.specs.Files.{File, Sight, Spot, add_code, add_code_in, add_pointer, clear_code, create_code, delete_code, delete_code_in, delete_files_code, find, find_delete_code, find_delete_code_in, find_in, found, get, get_in, has, held, keyed, look, new_ids, seek, seek_by, sought, told, twice, update_code, update_code_in, update_pointer}
use Rattle.lists.proofs.Tests.{checks-are, split}
use Rattle.lists.specs.Lists.{some_of, without}
use Rattle.tapa.specs.Codes.{successful, unsupported_operation}
use Rattle.tapa.specs.Numbers.{two_bytes, word_at}

-- ---- the nine codes

abbrev pub codes : List ℕ
codes = 0x0000 ∷ 0xFFFB ∷ 0xFF50 ∷ 0xFF51 ∷ 0xFF52 ∷ 0xFF53 ∷ 0xFF56 ∷ 0xFF59 ∷ 0xFFF6 ∷ []

abbrev pub Known : ℕ → Type 0
Known code = some_of (eqb code) codes ≡ true

-- a response's data: what the command gives back, if anything, and then a code of the nine
pub record Ended (part : List ℕ) : Type 0 where
  pub fields : List ℕ
  pub code : ℕ
  pub is : part ≡ fields ++ two_bytes code
  pub known : Known code

alone : (code : ℕ) → Known code → Ended (two_bytes code)
alone code k = record { fields = []; code = code; is = refl; known = k }

behind : (code : ℕ) (fields : List ℕ) → Known code → Ended (carrying code fields)
behind code fields k =
    split (eqb code successful)
    (λ t. rw t (record { fields = fields; code = successful; is = refl; known = refl }))
    (λ t. rw t (alone code k))

shown : (z : Sight) → Known z.code → Ended (seen_part z)
shown z k = behind z.code (sight_bytes z.it z.pointer) k

-- ---- each command's codes

either : (t : Bool) (x y : ℕ) → Known x → Known y → Known (cond t x y)
either true x y a b = a
either false x y a b = b

deleting-files : (s : List File) (fs : List ℕ) → Known (delete_files_code s fs)
deleting-files s fs = either (some_of (λ (f : ℕ). not (has s f)) fs) _ _ refl (either (twice fs) _ _ refl refl)

adding : (s : List File) (o : Option File) (key d : List ℕ) → Known (add_code_in s o key d)
adding s None key d = refl
adding s (Some g) key d =
    either (ltb g.rec_max (length d)) _ _ refl
    (either (ltb g.key_max (length key)) _ _ refl
    (either (cond (ltb 0 g.key_max) (some_of (keyed key) g.records) false) _ _ refl (either (leb 256 (held s)) _ _ refl refl)))

updating : (o : Option File) (p : ℕ) (key d : List ℕ) → Known (update_code_in o p key d)
updating None p key d = refl
updating (Some g) p key d =
    either (ltb g.rec_max (length d)) _ _ refl
    (either (ltb g.key_max (length key)) _ _ refl
    (either (not (some_of (sought p) g.records)) _ _ refl
    (either (cond (ltb 0 g.key_max) (some_of (keyed key) (without (sought p) g.records)) false) _ _ refl refl)))

deleting : (o : Option File) (p : ℕ) → Known (delete_code_in o p)
deleting None p = refl
deleting (Some g) p = either (some_of (sought p) g.records) _ _ refl refl

finding-to-delete : (o : Option File) (key : List ℕ) → Known (find_delete_code_in o key)
finding-to-delete None key = refl
finding-to-delete (Some g) key = either (ltb g.key_max (length key)) _ _ refl (either (some_of (keyed key) g.records) _ _ refl refl)

spotted : (o : ℕ) (z : Option Spot) → Known (told o z).code
spotted o None = either (ltb o 2) _ _ refl refl
spotted o (Some z) = refl

getting : (g : Option File) (p o : ℕ) → Known (get_in g p o).code
getting None p o = refl
getting (Some g) p o = spotted o (seek_by o p g.records)

sighted : (z : Option Spot) → Known (found z).code
sighted None = refl
sighted (Some z) = refl

finding : (o : Option File) (key : List ℕ) → Known (find_in o key).code
finding None key = refl
finding (Some g) key =
    split (ltb g.key_max (length key)) (λ t. rw t) (λ t. rw t (sighted (seek (keyed key) [] g.records)))

-- ---- a whole command, of any type and with any data

pub never-others : (kind : ℕ) (part : List ℕ) (s : List File) → Ended (done_by kind part s).part
unfolding done_by
never-others kind part s =
    checks-are (λ (d : Done). Ended d.part) (commands kind part s) (coded unsupported_operation s) (
      ended (create_shape part) (on_create part s)
          (behind (create_code s (get_or part 0 0)) (words_of (new_ids (get_or part 0 0) (get_or part 1 0) (word_at part 2) s))
          (either (ltb 16 (length s + get_or part 0 0)) _ _ refl refl)),
      (
        ended (ids_shape part) (on_delete_files part s) (alone (delete_files_code s (ids_of part)) (deleting-files s (ids_of part))),
        (
          ended (record_shape 2 part) (on_add part s)
              (behind (add_code s (file_in part) (key_from part 2) (data_from part 2)) (two_bytes (add_pointer s (file_in part) (key_from part 2) (data_from part 2)))
              (adding s (look (file_in part) s) (key_from part 2) (data_from part 2))),
          (
            ended (get_shape part) (on_get part s)
                (shown (get s (file_in part) (word_at part 2) (get_or part 4 0)) (getting (look (file_in part) s) (word_at part 2) (get_or part 4 0))),
            (
              ended (record_shape 4 part) (on_update part s)
                  (behind (update_code s (file_in part) (word_at part 2) (key_from part 4) (data_from part 4))
                  (two_bytes (update_pointer s (file_in part) (word_at part 2) (key_from part 4) (data_from part 4)))
                  (updating (look (file_in part) s) (word_at part 2) (key_from part 4) (data_from part 4))),
              (
                ended (key_shape part) (on_find part s)
                    (shown (find s (file_in part) (key_from part 2)) (finding (look (file_in part) s) (key_from part 2))),
                (
                  ended (eqb (length part) 4) (on_delete part s)
                      (alone (delete_code s (file_in part) (word_at part 2)) (deleting (look (file_in part) s) (word_at part 2))),
                  (
                    ended (key_shape part) (on_find_delete part s)
                        (alone (find_delete_code s (file_in part) (key_from part 2)) (finding-to-delete (look (file_in part) s) (key_from part 2))),
                    (
                      ended (eqb (length part) 2) (on_clear part s) (alone (clear_code s (file_in part)) (either (has s (file_in part)) _ _ refl refl)),
                      (
                        ended (mark_shape part) (on_mark s) (alone successful refl),
                        (
                          ended (mark_shape part) (on_mark s) (alone successful refl),
                          tt,
                        ),
                      ),
                    ),
                  ),
                ),
              ),
            ),
          ),
        ),
      ),
    )
    (λ r. alone unsupported_operation refl)
  where
    ended : (t : Bool) (d : Done) → Ended d.part → Ended (shaped t d s).part
    ended true d v = v
    ended false d v = alone unsupported_operation refl
