-- 'Every command does to the store what it does to a plain list of files, each a list of records': one theorem a command, one over all, and one of a whole message.
use Prim.Native.Nat.{◌<◌, suc, zero, ℕ, ◌≤◌}
use Rattle.tapa.specs.declared.Refusal.{Refusal}
use Rattle.message.specs.declared.Head.{Head}
use mathlib.Core.Bool.{Bool, cond, false, true}
use mathlib.Core.List.{◌++◌, List, [], ◌∷◌}
use mathlib.Core.Path.{ap, refl, sym, ◌∙◌, ◌≡◌}
use native.Mathlib.Omega.{arith}
use lib.Dec.{eqb}
use lib.ListN.{drop, get_or, length, take}
use lib.Seq.{get_or-drop, take_at}
use borrow.Author.Tests.{eqb-true, ne_eqb}
use Rattle.std.specs.Prelude.{Err, Ok, Result, Some}
use Rattle.book.specs.Book.{Lawful, view_of}
use Rattle.book.specs.declared.Book.{Book}
use Rattle.file_commands.proofs.Creates.{CreateRight, create-fails, create-right}
use Rattle.file_commands.proofs.Erases.{clear-right, delete-files-right}
use Rattle.file_commands.specs.Erasing.{create_of, made_ids, padded, right_shape}
use Rattle.file_commands.specs.declared.Made.{Made}
use Rattle.files.specs.Asked.{Done, carrying, coded, create_shape, data_from, done_by, file_in, get_shape, ids_of, ids_shape, key_from, key_shape, mark_shape, on_add, on_clear, on_create, on_delete, on_delete_files, on_find, on_find_delete, on_get, on_mark, on_update, record_shape, seen_part, shaped, words_of}
use Rattle.files.specs.Coded.{Coded, Refused, answered, result_code}
use Rattle.files.specs.Files.{File, create_code, create_one, new_ids}
use Rattle.lists.proofs.Tests.{checks-twin, split}
use Rattle.lists.specs.Lists.{Bytes}
use Rattle.message.specs.Message.{part_of, read_of, reads}
use Rattle.record_commands.proofs.Adds.{add-fails, add_right}
use Rattle.record_commands.proofs.Deletes.{delete-right, find-delete-right}
use Rattle.record_commands.proofs.Updates.{update-fails, update-right}
use Rattle.record_commands.specs.Records.{add_of, added_pointer, update_of}
use Rattle.record_commands.specs.declared.Added.{Added}
use Rattle.replies.specs.Replies.{answer_of, replied}
use Rattle.sights.proofs.Sights.{find-right, get-right}
use Rattle.store.specs.Plain.{Told, tells_after, told_of}
use Rattle.store.specs.Store.{Deed, Answered, add_deed, checked, clear_deed, code_deed, create_deed, deed_if, deed_of, delete_deed, delete_files_deed, find_deed, find_delete_deed, get_deed, handled, ids_part, made_deed, mark_deed, obeys, pointer_part, update_deed}
use Rattle.tapa.specs.Codes.{add_record, clear_file, close_handler, create_file, delete_file, delete_record, find_and_delete, find_record, get_record, open_handler, successful, unsupported_operation, update_record}
use Rattle.tapa.specs.Numbers.{two_bytes, word_at}

-- a byte of the data part is one of the message
part-byte : (message : List ℕ) → Bytes message → get_or (part_of message) 1 0 ≤ 255
unfolding part_of
part-byte message bytes =
    split (reads (read_of message))
    (λ t. rw t (let e : get_or (drop 8 message) 1 0 ≡ get_or message 9 0 = get_or-drop 8 message 1 0 in omega (arith, e, bytes 9)))
    (λ t. rw t (omega arith))

-- a deed is what is done to the list of files that the book and the area stand for: the same response, the same files then, and the law is kept
pub record Right (d : Deed) (p : Done) : Type 0 where
  pub part : d.part ≡ p.part
  pub files : view_of d.book d.area ≡ p.files
  pub lawful : Lawful d.book d.area

-- ---- a command's answer, from its code and its fields
module _ {A : Type 0} (fields : A → List ℕ) where
  carried : (r : Coded A) (code : ℕ) (l : List ℕ) → result_code r ≡ code → Refused r → ((a : A) → r ≡ Ok a → fields a ≡ l) → answered fields r ≡ carrying code l
  carried (Ok a) code l c n f = rw (sym c) (ap (λ (z : List ℕ). z ++ two_bytes successful) (f a refl))
  carried (Err m) code l c n f = rw (sym c, ne_eqb m successful n)

  alone : (r : Coded A) (code : ℕ) → result_code r ≡ code → 0 < code → answered fields r ≡ two_bytes code
  alone (Ok a) code c h = let z : successful ≡ code = c in absurd (omega arith)
  alone (Err m) code c h = ap two_bytes c

pointed : (g : Coded Added) (p : ℕ) → added_pointer g ≡ p → (a : Added) → g ≡ Ok a → pointer_part a ≡ two_bytes p
pointed g p e a k = ap two_bytes (ap added_pointer (sym k) ∙ e)

module _ (b : Book) (area : List ℕ) (law : Lawful b area) where
  abbrev s : List File
  s = view_of b area

  -- a wrong shape is answered alike, and changes nothing
  by_shape : (t : Bool) (d : Deed) (p : Done) → (t ≡ true → Right d p) → Right (deed_if t d b area) (shaped t p s)
  by_shape true d p r = r refl
  by_shape false d p r = record { part = refl; files = refl; lawful = law }

  module _ (part : List ℕ) where
    -- ---- Create File

    module _ (byte : get_or part 1 0 ≤ 255) where
      abbrev n : ℕ
      n = get_or part 0 0

      abbrev k : ℕ
      k = get_or part 1 0

      abbrev r : ℕ
      r = word_at part 2

      is : CreateRight b area law n k r byte
      is = create-right b area law n k r byte

      abbrev m : Coded Made
      m = create_of b n k r

      abbrev ids : Made → List ℕ
      ids = ids_part n

      -- the shape is right: the identifiers are those of the new files
      part-is : right_shape n r ≡ true → answered ids m ≡ carrying (create_code s n) (words_of (new_ids n k r s))
      part-is t = carried ids m (create_code s n) (words_of (new_ids n k r s)) (is.code ∙ rw t) (create-fails b n k r) given
        where
          news : (n : ℕ) (s : List File) → length (new_ids n k r s) ≡ n
          news zero s = refl
          news (suc n) s = ap suc (news n (create_one k r s))

          given : (a : Made) → m ≡ Ok a → ids a ≡ words_of (new_ids n k r s)
          given a e =
              let l : a.ids ≡ padded (new_ids n k r s) = ap made_ids (sym e) ∙ is.ids ∙ ap (λ (z : Coded Made). padded (cond (eqb (result_code z) successful) (new_ids n k r s) [])) e in
              ap words_of (ap (take n) l ∙ take_at (new_ids n k r s) _ n (news n s))

      of-shape : length part ≡ 4 → (t : Bool) → right_shape n r ≡ t → Right (made_deed n m b area) (shaped t (on_create part s) s)
      of-shape e true t = record { part = part-is t; files = is.view ∙ rw t; lawful = is.lawful }
      of-shape e false t =
          let c : result_code m ≡ unsupported_operation = is.code ∙ rw t in
          record { part = alone ids m unsupported_operation c (omega arith); files = is.view ∙ rw t; lawful = is.lawful }

      pub create-does : Right (create_deed part b area) (shaped (create_shape part) (on_create part s) s)
      unfolding create_shape
      create-does =
          split (eqb (length part) 4)
          (λ t. rw t (of-shape (eqb-true (length part) 4 t) (right_shape n r) refl))
          (λ t. rw t (record { part = refl; files = refl; lawful = law }))

    -- ---- Delete File

    pub delete-files-does : Right (delete_files_deed part b area) (shaped (ids_shape part) (on_delete_files part s) s)
    delete-files-does =
        let r = delete-files-right b area law (ids_of part) in
        by_shape (ids_shape part) _ _ (λ t. record { part = ap two_bytes r.code; files = r.view; lawful = r.lawful })

    -- ---- Add File Record

    pub add-does : Right (add_deed part b area) (shaped (record_shape 2 part) (on_add part s) s)
    add-does =
        let r = add_right b area law (file_in part) (key_from part 2) (data_from part 2) in
        let g = add_of b area (file_in part) (key_from part 2) (data_from part 2) in
        by_shape (record_shape 2 part) _ _ (λ t. record {
          part = carried pointer_part g _ _ r.code (add-fails b area law (file_in part) (key_from part 2) (data_from part 2)) (pointed g _ r.pointer);
          files = r.view;
          lawful = r.lawful;
        })

    -- ---- Get File Record

    pub get-does : Right (get_deed part b area) (shaped (get_shape part) (on_get part s) s)
    get-does = by_shape (get_shape part) _ _ (λ t. record { part = ap seen_part (get-right b area (file_in part) (word_at part 2) (get_or part 4 0)); files = refl; lawful = law })

    -- ---- Update File Record

    pub update-does : Right (update_deed part b area) (shaped (record_shape 4 part) (on_update part s) s)
    update-does =
        let r = update-right b area law (file_in part) (word_at part 2) (key_from part 4) (data_from part 4) in
        let g = update_of b area (file_in part) (word_at part 2) (key_from part 4) (data_from part 4) in
        by_shape (record_shape 4 part) _ _ (λ t. record {
          part = carried pointer_part g _ _ r.code (update-fails b area law (file_in part) (word_at part 2) (key_from part 4) (data_from part 4)) (pointed g _ r.pointer);
          files = r.view;
          lawful = r.lawful;
        })

    -- ---- Find and Get File Record

    pub find-does : Right (find_deed part b area) (shaped (key_shape part) (on_find part s) s)
    find-does = by_shape (key_shape part) _ _ (λ t. record { part = ap seen_part (find-right b area (file_in part) (key_from part 2)); files = refl; lawful = law })

    -- ---- Delete File Record

    pub delete-does : Right (delete_deed part b area) (shaped (eqb (length part) 4) (on_delete part s) s)
    delete-does =
        let r = delete-right b area law (file_in part) (word_at part 2) in
        by_shape (eqb (length part) 4) _ _ (λ t. record { part = ap two_bytes r.code; files = r.view; lawful = r.lawful })

    -- ---- Find and Delete File Record

    pub find-delete-does : Right (find_delete_deed part b area) (shaped (key_shape part) (on_find_delete part s) s)
    find-delete-does =
        let r = find-delete-right b area law (file_in part) (key_from part 2) in
        by_shape (key_shape part) _ _ (λ t. record { part = ap two_bytes r.code; files = r.view; lawful = r.lawful })

    -- ---- Clear File

    pub clear-does : Right (clear_deed part b area) (shaped (eqb (length part) 2) (on_clear part s) s)
    clear-does =
        let r = clear-right b area law (file_in part) in
        by_shape (eqb (length part) 2) _ _ (λ t. record { part = ap two_bytes r.code; files = r.view; lawful = r.lawful })

    -- ---- Open Handler and Close Handler

    pub mark-does : Right (mark_deed part b area) (shaped (mark_shape part) (on_mark s) s)
    mark-does = by_shape (mark_shape part) _ _ (λ t. record { part = refl; files = refl; lawful = law })

    -- ---- every command, of any type and with any data

    abbrev twins : ℕ → List (Bool × (Deed × Done))
    twins kind =
        (eqb kind create_file, (create_deed part b area, shaped (create_shape part) (on_create part s) s))
        ∷ (eqb kind delete_file, (delete_files_deed part b area, shaped (ids_shape part) (on_delete_files part s) s))
        ∷ (eqb kind add_record, (add_deed part b area, shaped (record_shape 2 part) (on_add part s) s))
        ∷ (eqb kind get_record, (get_deed part b area, shaped (get_shape part) (on_get part s) s))
        ∷ (eqb kind update_record, (update_deed part b area, shaped (record_shape 4 part) (on_update part s) s))
        ∷ (eqb kind find_record, (find_deed part b area, shaped (key_shape part) (on_find part s) s))
        ∷ (eqb kind delete_record, (delete_deed part b area, shaped (eqb (length part) 4) (on_delete part s) s))
        ∷ (eqb kind find_and_delete, (find_delete_deed part b area, shaped (key_shape part) (on_find_delete part s) s))
        ∷ (eqb kind clear_file, (clear_deed part b area, shaped (eqb (length part) 2) (on_clear part s) s))
        ∷ (eqb kind open_handler, (mark_deed part b area, shaped (mark_shape part) (on_mark s) s))
        ∷ (eqb kind close_handler, (mark_deed part b area, shaped (mark_shape part) (on_mark s) s))
        ∷ []

    pub does-right : (kind : ℕ) → get_or part 1 0 ≤ 255 → Right (deed_of kind part b area) (done_by kind part s)
    unfolding deed_of done_by
    does-right kind byte =
        checks-twin Right (twins kind) (code_deed unsupported_operation b area) (coded unsupported_operation s)
        (create-does byte, (delete-files-does, (add-does, (get-does, (update-does, (find-does, (delete-does, (find-delete-does, (clear-does, (mark-does, (mark-does, tt)))))))))))
        (record { part = refl; files = refl; lawful = law })

  -- ---- a whole message

  pub record AsPlain (w : Answered) (t : Told) : Type 0 where
    pub answer : w.answer ≡ t.answer
    pub files : view_of w.book w.area ≡ t.files
    pub reply : w.reply ≡ t.reply
    pub lawful : Lawful w.book w.area

  pub as_plain : (message reply : List ℕ) → Bytes message → AsPlain (handled b area message reply) (told_of s message reply)
  unfolding handled told_of
  as_plain message reply bytes = go (checked (length reply) message)
    where
      byte : get_or (part_of message) 1 0 ≤ 255
      byte = part-byte message bytes

      go : (c : Result Head Refusal) → AsPlain (obeys c (part_of message) b area reply) (tells_after c (part_of message) s reply)
      go (Err r) = record { answer = refl; files = refl; reply = refl; lawful = law }
      go (Ok h) =
          let r = does-right (part_of message) h.kind byte in
          record {
            answer = ap (λ (p : List ℕ). answer_of (Some p)) r.part;
            files = r.files;
            reply = ap (λ (p : List ℕ). replied h (Some p) reply) r.part;
            lawful = r.lawful;
          }
