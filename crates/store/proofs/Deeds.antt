-- What each command's returns need: its shape, its parts, and the deed that it is.
use Prim.Native.Nat.{◌+◌, ◌-◌, ◌<◌, suc, zero, ℕ, ◌≤◌}
use mathlib.Core.Bool.{Bool, false, true}
use mathlib.Core.List.{List}
use mathlib.Core.Path.{ap, refl, subst, sym, ◌∙◌, ◌≡◌}
use native.Mathlib.Omega.{arith}
use lib.Dec.{eqb}
use lib.ListN.{drop, get_or, length, length-append, length-drop, length-replicate, take}
use lib.Seq.{take_all}
use borrow.Author.Tests.{eq-eqb, eqb-true, le-leb, lt-leb, ne_eqb}
use Rattle.std.specs.Prelude.{Err, Ok}
use Rattle.book.specs.Book.{Lawful, entries_of, one_more}
use Rattle.book.specs.declared.Book.{Book}
use Rattle.file_commands.proofs.Creates.{create-right, create-room}
use Rattle.file_commands.specs.Erasing.{code_of_create, create_ids, create_of, made_book, made_ids, padded}
use Rattle.file_commands.specs.declared.Made.{Made}
use Rattle.files.specs.Asked.{data_from, get_shape, key_from, key_len, key_shape, mark_shape, rec_len, record_shape, seen_part, words_of}
use Rattle.files.specs.Coded.{Coded, answered, left_in, result_code}
use Rattle.files.specs.Files.{unseen}
use Rattle.lists.proofs.Tests.{and_yes, split}
use Rattle.record_commands.specs.Records.{added_book}
use Rattle.record_commands.specs.declared.Added.{Added}
use Rattle.sights.specs.Sights.{sight_of}
use Rattle.sights.specs.declared.Got.{Got}
use Rattle.store.specs.Store.{Deed, Did, MakesAtMost, Roomy, Says, add_deed, added_deed, clear_deed, code_deed, create_deed, deed_if, deed_of, delete_deed, delete_files_deed, gone_deed, ids_part, pointer_part, find_deed, find_delete_deed, get_deed, mark_deed, shown_deed, update_deed}
use Rattle.store.specs.declared.Done.{Done}
use Rattle.tapa.specs.Codes.{add_record, clear_file, close_handler, create_file, delete_file, delete_record, find_and_delete, find_record, get_record, open_handler, successful, unsupported_operation, update_record}
use Rattle.tapa.specs.Numbers.{two_bytes, word_at}

-- ---- a wrong shape

pub wrong : (t : Bool) (d : Deed) (b : Book) (area before after : List ℕ) (r : Done) → Lawful b area → t ≡ false
    → Says (two_bytes unsupported_operation) before after b r → Did (deed_if t d b area) before after area r
wrong t d b area before after r law e s = rw e (record { says = s; area' = refl; law = law })

-- what Get or Find got is shown
pub seen : (t : Bool) (g h : Coded Got) (b : Book) (area before after : List ℕ) (r : Done) → Lawful b area → t ≡ true → g ≡ h
    → Says (seen_part (sight_of area (entries_of b) g)) before after b r → Did (deed_if t (shown_deed h b area) b area) before after area r
seen t g h b area before after r law e k s =
    rw e (record { says = subst (λ (z : Coded Got). Says (seen_part (sight_of area (entries_of b) z)) before after b r) k s; area' = refl; law = law })

-- where they got none, the code stands alone
pub unseen-alone : (n : ℕ) → seen_part (unseen n) ≡ two_bytes n
unseen-alone n = split (eqb n successful) (λ t. rw t (ap two_bytes (sym (eqb-true n successful t)))) (λ t. rw t)

-- ---- files or records went, or one was written: the code and the next book, and what the area then holds

pub gone-did : (t : Bool) (g e : Coded Book) (b : Book) (area a after₁ before after : List ℕ) (r : Done) → Lawful (left_in b e) a → t ≡ true → g ≡ e → after₁ ≡ a
    → Says (two_bytes (result_code g)) before after (left_in b g) r → Did (deed_if t (gone_deed e b a) b area) before after after₁ r
gone-did t g e b area a after₁ before after r law te ge ea s =
    rw te (record { says = subst (λ (z : Coded Book). Says (two_bytes (result_code z)) before after (left_in b z) r) ge s; area' = ea; law = law })

pub added-did : (t : Bool) (g e : Coded Added) (b : Book) (area a after₁ before after : List ℕ) (r : Done) → Lawful (added_book b e) a → t ≡ true → g ≡ e → after₁ ≡ a
    → Says (answered pointer_part g) before after (added_book b g) r → Did (deed_if t (added_deed e b a) b area) before after after₁ r
added-did t g e b area a after₁ before after r law te ge ea s =
    rw te (record { says = subst (λ (z : Coded Added). Says (answered pointer_part z) before after (added_book b z) r) ge s; area' = ea; law = law })

-- ---- Create

module _ (part : List ℕ) (b : Book) (area : List ℕ) (law : Lawful b area) (m : Coded Made) (e : m ≡ create_of b (get_or part 0 0) (get_or part 1 0) (word_at part 2))
    (long : length part ≡ 4) (byte : get_or part 1 0 ≤ 255) (before after : List ℕ) (r : Done) where
  -- m stands for what Create came to
  pub made-did : Says (answered (ids_part (get_or part 0 0)) m) before after (made_book b m) r → Did (create_deed part b area) before after area r
  made-did s =
      rw (eq-eqb (length part) 4 long)
      (record {
        says = subst (λ (z : Coded Made). Says (answered (ids_part (get_or part 0 0)) z) before after (made_book b z) r) e s;
        area' = refl;
        law = (create-right b area law (get_or part 0 0) (get_or part 1 0) (word_at part 2) byte).lawful;
      })

ids-long : (n k r : ℕ) (b : Book) → length (create_ids n k r b) ≡ n
ids-long zero k r b = refl
ids-long (suc n) k r b = ap suc (ids-long n k r (one_more b k r).next)

-- where files were made, there are at most 16 of them, and 16 places for their identifiers
pub made-room : (b : Book) (n k r : ℕ) (m : Made) → Ok m ≡ create_of b n k r → Roomy n m
made-room b n k r m e =
    split (eqb (code_of_create b n r) successful)
    (λ t.
    let room = create-room b n r (eqb-true (code_of_create b n r) 0 t) in
    let made : m.ids ≡ padded (create_ids n k r b) = ap made_ids e ∙ rw t in
    let size : length (create_ids n k r b) ≡ n = ids-long n k r b in
    record { few = room.few; places = ap length made ∙ simp (length-append, length-replicate) (omega (arith, size, room.few)) })
    (λ t. let z : Ok m ≡ Err (code_of_create b n r) = rw t at e in absurd (cc))

pub makes-at-most : (b : Book) (n k r : ℕ) (m : Coded Made) → m ≡ create_of b n k r → MakesAtMost n m
makes-at-most b n k r (Ok m) e = made-room b n k r m e
makes-at-most b n k r (Err c) e = tt

-- ---- Get

module _ (part : List ℕ) where
  pub get-long : (length part ≡ 5 → ⊥) → get_shape part ≡ false
  unfolding get_shape
  get-long h = rw (ne_eqb (length part) 5 h)

  pub get-far : length part ≡ 5 → 3 < get_or part 4 0 → get_shape part ≡ false
  unfolding get_shape
  get-far e h = rw (eq-eqb (length part) 5 e, lt-leb (get_or part 4 0) 3 h)

  pub get-fits : length part ≡ 5 → get_or part 4 0 ≤ 3 → get_shape part ≡ true
  unfolding get_shape
  get-fits e h = rw (eq-eqb (length part) 5 e, le-leb (get_or part 4 0) 3 h)

  -- ---- Find, and Find and Delete: ID_FILE, LEN_SKEY, the key

  pub key-there : key_shape part ≡ true → length part ≡ 3 + key_len part 2
  unfolding key_shape
  key-there e = eqb-true (length part) (3 + key_len part 2) e

  pub key-rest : key_shape part ≡ true → take (length part - 3) (drop 3 part) ≡ key_from part 2
  key-rest e = ap (λ (n : ℕ). take n (drop 3 part)) (let z : length part - 3 ≡ key_len part 2 = omega (arith, key-there e) in z)

  -- ---- Add and Update: LEN_SKEY, the key, LEN_REC, the record data

  module _ (at : ℕ) (e : record_shape at part ≡ true) where
    pub record-there : length part ≡ at + 3 + key_len part at + rec_len part at
    unfolding record_shape
    record-there = eqb-true (length part) _ (and_yes _ _ e).0

    pub key-part : (n : ℕ) → n ≡ at + 1 + key_len part at → take (n - (at + 1)) (drop (at + 1) part) ≡ key_from part at
    key-part n h = ap (λ (m : ℕ). take m (drop (at + 1) part)) (let z : n - (at + 1) ≡ key_len part at = omega arith in z)

    pub data-part : (n : ℕ) → n ≡ at + 3 + key_len part at → take (length part - n) (drop n part) ≡ data_from part at
    data-part n h = take_all (length part - n) (drop n part) (omega (arith, length-drop n part)) ∙ ap (λ (m : ℕ). drop m part) h

-- ---- Open Handler and Close Handler: no data

pub mark-long : (part : List ℕ) → (length part ≡ 0 → ⊥) → mark_shape part ≡ false
unfolding mark_shape
mark-long part h = ne_eqb (length part) 0 h

pub mark-none : (part : List ℕ) → length part ≡ 0 → mark_shape part ≡ true
unfolding mark_shape
mark-none part h = eq-eqb (length part) 0 h

-- ---- which command it is

module _ (part : List ℕ) (b : Book) (area : List ℕ) where
  pub by-create : (kind : ℕ) → kind ≡ create_file → deed_of kind part b area ≡ create_deed part b area
  unfolding deed_of
  by-create kind e = rw e

  pub by-delete-files : (kind : ℕ) → kind ≡ delete_file → deed_of kind part b area ≡ delete_files_deed part b area
  unfolding deed_of
  by-delete-files kind e = rw e

  pub by-add : (kind : ℕ) → kind ≡ add_record → deed_of kind part b area ≡ add_deed part b area
  unfolding deed_of
  by-add kind e = rw e

  pub by-get : (kind : ℕ) → kind ≡ get_record → deed_of kind part b area ≡ get_deed part b area
  unfolding deed_of
  by-get kind e = rw e

  pub by-update : (kind : ℕ) → kind ≡ update_record → deed_of kind part b area ≡ update_deed part b area
  unfolding deed_of
  by-update kind e = rw e

  pub by-find : (kind : ℕ) → kind ≡ find_record → deed_of kind part b area ≡ find_deed part b area
  unfolding deed_of
  by-find kind e = rw e

  pub by-delete : (kind : ℕ) → kind ≡ delete_record → deed_of kind part b area ≡ delete_deed part b area
  unfolding deed_of
  by-delete kind e = rw e

  pub by-find-delete : (kind : ℕ) → kind ≡ find_and_delete → deed_of kind part b area ≡ find_delete_deed part b area
  unfolding deed_of
  by-find-delete kind e = rw e

  pub by-clear : (kind : ℕ) → kind ≡ clear_file → deed_of kind part b area ≡ clear_deed part b area
  unfolding deed_of
  by-clear kind e = rw e

  pub by-open : (kind : ℕ) → kind ≡ open_handler → deed_of kind part b area ≡ mark_deed part b area
  unfolding deed_of
  by-open kind e = rw e

  pub by-close : (kind : ℕ) → kind ≡ close_handler → deed_of kind part b area ≡ mark_deed part b area
  unfolding deed_of
  by-close kind e = rw e

  pub by-other : (kind : ℕ) → (kind ≡ create_file → ⊥) → (kind ≡ delete_file → ⊥) → (kind ≡ add_record → ⊥) → (kind ≡ get_record → ⊥) → (kind ≡ update_record → ⊥)
      → (kind ≡ find_record → ⊥) → (kind ≡ delete_record → ⊥) → (kind ≡ find_and_delete → ⊥) → (kind ≡ clear_file → ⊥)
      → (kind ≡ open_handler → ⊥) → (kind ≡ close_handler → ⊥) → deed_of kind part b area ≡ code_deed unsupported_operation b area
  unfolding deed_of
  by-other kind h0 h1 h2 h3 h4 h5 h6 h7 h8 h9 h10 =
      rw (
        ne_eqb kind create_file h0,
        ne_eqb kind delete_file h1,
        ne_eqb kind add_record h2,
        ne_eqb kind get_record h3,
        ne_eqb kind update_record h4,
        ne_eqb kind find_record h5,
        ne_eqb kind delete_record h6,
        ne_eqb kind find_and_delete h7,
        ne_eqb kind clear_file h8,
        ne_eqb kind open_handler h9,
        ne_eqb kind close_handler h10,
      )

pub as-deed : (d e : Deed) (before after area : List ℕ) (r : Done) → d ≡ e → Did e before after area r → Did d before after area r
as-deed d e before after area r k s = rw k s
