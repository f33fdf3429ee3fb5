-- The data store (section 11): what a message comes to, over the book and the lent area.
use Rattle.std.specs.Prelude.{IfOk, ◌≤◌, ◌<◌, ℕ, Bool, cond, not, ◌||◌, List, [], ◌∷◌, ◌≡◌, eqb, get_or, length, take, Option, Result, Ok, Err, Some}
use Rattle.book.specs.Book.{Lawful, entries_of}
use Rattle.book.specs.declared.Book.{Book}
use Rattle.file_commands.specs.Erasing.{clear_area, clear_of, create_of, delete_files_area, delete_files_of, made_book}
use Rattle.file_commands.specs.declared.Made.{Made}
use Rattle.files.specs.Asked.{data_from, file_in, get_shape, ids_of, ids_shape, key_from, key_shape, mark_shape, record_shape, seen_part, words_of}
use Rattle.files.specs.Coded.{Coded, answered, left_in, result_code}
use Rattle.lists.specs.Lists.{checks, onto}
use Rattle.message.specs.Message.{part_of}
use Rattle.message.specs.declared.Head.{Head}
use Rattle.record_commands.specs.Records.{add_area, add_of, added_book, delete_area, delete_of, find_delete_area, find_delete_of, update_area, update_of}
use Rattle.record_commands.specs.declared.Added.{Added}
use Rattle.replies.specs.Checked.{opened, owned}
use Rattle.replies.specs.Replies.{answer_of, replied}
use Rattle.sights.specs.Sights.{find_of, get_of, sight_of}
use Rattle.sights.specs.declared.Got.{Got}
use Rattle.store.specs.declared.Done.{Done}
use Rattle.store.specs.declared.Handled.{Handled}
use Rattle.tapa.specs.Address.{category_of, data_store}
use Rattle.tapa.specs.Codes.{add_record, clear_file, close_handler, create_file, delete_file, delete_record, find_and_delete, find_record, get_record, open_handler, response, successful, unsupported_operation, update_record}
use Rattle.tapa.specs.Numbers.{two_bytes, word_at}
use Rattle.tapa.specs.declared.Refusal.{Refusal}

-- ---- the checks

-- 'Refusal 15 unless the destination's category is 05 and the type is not 'FF'; any sub-address reaches the one store'
unfoldable pub elsewhere : Head → Bool
elsewhere h = not (eqb (category_of h.destination) data_store) || eqb h.kind response

-- 'Refusals: 9, 1, 2, 3 and 15 as for the event queue', 'the longest response as the least buffer size': 398 = 8 + 1 + 255 + 2 + 128 + 2 + 2
abbrev pub checked : ℕ → List ℕ → Result Head Refusal
checked room message = owned elsewhere (opened 398 room message)

-- ---- what a command comes to: the response's data, the next book, and the area

pub record Deed : Type 0 where
  pub part : List ℕ
  pub book : Book
  pub area : List ℕ

abbrev pub code_deed : ℕ → Book → List ℕ → Deed
code_deed code b area = record { part = two_bytes code; book = b; area = area }

-- a command of a wrong shape is answered 'FFFB' and changes nothing
abbrev pub deed_if : Bool → Deed → Book → List ℕ → Deed
deed_if right d b area = cond right d (code_deed unsupported_operation b area)

-- the identifiers of n new files
abbrev pub ids_part : ℕ → Made → List ℕ
ids_part n m = words_of (take n m.ids)

abbrev pub made_deed : ℕ → Coded Made → Book → List ℕ → Deed
made_deed n r b area = record { part = answered (ids_part n) r; book = made_book b r; area = area }

-- the rest of Create's shape is among its codes (room file_commands)
abbrev pub create_deed : List ℕ → Book → List ℕ → Deed
create_deed part b area =
    deed_if (eqb (length part) 4) (made_deed (get_or part 0 0) (create_of b (get_or part 0 0) (get_or part 1 0) (word_at part 2)) b area) b area

-- files or records went: the code alone
abbrev pub gone_deed : Coded Book → Book → List ℕ → Deed
gone_deed r b area = code_deed (result_code r) (left_in b r) area

abbrev pub delete_files_deed : List ℕ → Book → List ℕ → Deed
delete_files_deed part b area = deed_if (ids_shape part) (gone_deed (delete_files_of b (ids_of part)) b (delete_files_area b (ids_of part) area)) b area

-- a record was added or updated: its pointer
abbrev pub pointer_part : Added → List ℕ
pointer_part a = two_bytes a.pointer

abbrev pub added_deed : Coded Added → Book → List ℕ → Deed
added_deed r b area = record { part = answered pointer_part r; book = added_book b r; area = area }

abbrev pub add_deed : List ℕ → Book → List ℕ → Deed
add_deed part b area =
    deed_if (record_shape 2 part)
    (added_deed (add_of b area (file_in part) (key_from part 2) (data_from part 2)) b (add_area b area (file_in part) (key_from part 2) (data_from part 2))) b area

abbrev pub shown_deed : Coded Got → Book → List ℕ → Deed
shown_deed g b area = record { part = seen_part (sight_of area (entries_of b) g); book = b; area = area }

abbrev pub get_deed : List ℕ → Book → List ℕ → Deed
get_deed part b area = deed_if (get_shape part) (shown_deed (get_of b (file_in part) (word_at part 2) (get_or part 4 0)) b area) b area

abbrev pub update_deed : List ℕ → Book → List ℕ → Deed
update_deed part b area =
    deed_if (record_shape 4 part)
    (added_deed (update_of b area (file_in part) (word_at part 2) (key_from part 4) (data_from part 4)) b
    (update_area b area (file_in part) (word_at part 2) (key_from part 4) (data_from part 4))) b area

abbrev pub find_deed : List ℕ → Book → List ℕ → Deed
find_deed part b area = deed_if (key_shape part) (shown_deed (find_of b area (file_in part) (key_from part 2)) b area) b area

abbrev pub delete_deed : List ℕ → Book → List ℕ → Deed
delete_deed part b area =
    deed_if (eqb (length part) 4) (gone_deed (delete_of b (file_in part) (word_at part 2)) b (delete_area b area (file_in part) (word_at part 2))) b area

abbrev pub find_delete_deed : List ℕ → Book → List ℕ → Deed
find_delete_deed part b area =
    deed_if (key_shape part)
    (gone_deed (find_delete_of b area (file_in part) (key_from part 2)) b (find_delete_area b area (file_in part) (key_from part 2))) b area

abbrev pub clear_deed : List ℕ → Book → List ℕ → Deed
clear_deed part b area = deed_if (eqb (length part) 2) (gone_deed (clear_of b (file_in part)) b (clear_area b area (file_in part))) b area

-- 'Open Handler and Close Handler without data are answered '0000', and nothing changes in the store'
abbrev pub mark_deed : List ℕ → Book → List ℕ → Deed
mark_deed part b area = deed_if (mark_shape part) (code_deed successful b area) b area

-- 'Every other type outside 90 to 98 gets 'FFFB'.'
unfoldable pub deed_of : ℕ → List ℕ → Book → List ℕ → Deed
deed_of kind part b area =
    checks
    ((eqb kind create_file, create_deed part b area)
    ∷ (eqb kind delete_file, delete_files_deed part b area)
    ∷ (eqb kind add_record, add_deed part b area)
    ∷ (eqb kind get_record, get_deed part b area)
    ∷ (eqb kind update_record, update_deed part b area)
    ∷ (eqb kind find_record, find_deed part b area)
    ∷ (eqb kind delete_record, delete_deed part b area)
    ∷ (eqb kind find_and_delete, find_delete_deed part b area)
    ∷ (eqb kind clear_file, clear_deed part b area)
    ∷ (eqb kind open_handler, mark_deed part b area)
    ∷ (eqb kind close_handler, mark_deed part b area)
    ∷ [])
    (code_deed unsupported_operation b area)

-- ---- all of it

-- what a message comes to: the answer, the next book, and the whole lent memory
pub record Answered : Type 0 where
  pub answer : Result (Option ℕ) Refusal
  pub book : Book
  pub area : List ℕ
  pub reply : List ℕ

-- 'A refusal returns its number only and changes nothing'
abbrev pub refuses : Refusal → Book → List ℕ → List ℕ → Answered
refuses r b area reply = record { answer = Err r; book = b; area = area; reply = reply }

abbrev pub does : Head → Deed → List ℕ → Answered
does h d reply = record { answer = answer_of (Some d.part); book = d.book; area = d.area; reply = replied h (Some d.part) reply }

abbrev pub obeys : Result Head Refusal → List ℕ → Book → List ℕ → List ℕ → Answered
obeys (Err r) part b area reply = refuses r b area reply
obeys (Ok h) part b area reply = does h (deed_of h.kind part b area) reply

unfoldable pub handled : Book → List ℕ → List ℕ → List ℕ → Answered
handled b area message reply = obeys (checked (length reply) message) (part_of message) b area reply

-- ---- what the functions promise

-- a response's data stand at the start of a buffer, and this book goes on
pub record Says (part before after : List ℕ) (b : Book) (d : Done) : Type 0 where
  pub long : d.long ≡ length part
  pub next : d.next ≡ b
  pub body : after ≡ onto part before

-- a command was done: its response, its book, and what the area then holds, and the two are lawful
pub record Did (deed : Deed) (before after area : List ℕ) (d : Done) : Type 0 where
  pub says : Says deed.part before after deed.book d
  pub area' : area ≡ deed.area
  pub law : Lawful deed.book deed.area

-- where files were made, there are at most 16 of them, and 16 places for their identifiers
pub record Roomy (n : ℕ) (m : Made) : Type 0 where
  pub few : n ≤ 16
  pub places : length m.ids ≡ 16

abbrev pub MakesAtMost : ℕ → Coded Made → Type 0
MakesAtMost n r = IfOk r (Roomy n)

-- what Get or Find got is a record of the book
abbrev pub Shows : Book → Coded Got → Type 0
Shows b r = IfOk r (λ g. g.at < length (entries_of b))

-- a call that came to this: its answer and next book, and what the lent memory then holds; the law of book and area is kept
pub record Handling (w : Answered) (area reply : List ℕ) (h : Handled) : Type 0 where
  pub answer : h.answer ≡ w.answer
  pub next : h.next ≡ w.book
  pub area' : area ≡ w.area
  pub reply' : reply ≡ w.reply
  pub law : Lawful h.next area
