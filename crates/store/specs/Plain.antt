-- What a message comes to, said of the plain list of files alone: no book, no area, no slot.
use Rattle.std.specs.Prelude.{ℕ, List, length, Option, Result, Ok, Err, Some}
use Rattle.tapa.specs.declared.Refusal.{Refusal}
use Rattle.files.specs.Asked.{Done, done_by}
use Rattle.files.specs.Files.{File}
use Rattle.message.specs.Message.{part_of}
use Rattle.message.specs.declared.Head.{Head}
use Rattle.replies.specs.Replies.{answer_of, replied}
use Rattle.store.specs.Store.{checked}

pub record Told : Type 0 where
  pub answer : Result (Option ℕ) Refusal
  pub files : List File
  pub reply : List ℕ

abbrev pub tells : Head → Done → List ℕ → Told
tells h d reply = record { answer = answer_of (Some d.part); files = d.files; reply = replied h (Some d.part) reply }

abbrev pub tells_after : Result Head Refusal → List ℕ → List File → List ℕ → Told
tells_after (Err r) part s reply = record { answer = Err r; files = s; reply = reply }
tells_after (Ok h) part s reply = tells h (done_by h.kind part s) reply

unfoldable pub told_of : List File → List ℕ → List ℕ → Told
told_of s message reply = tells_after (checked (length reply) message) (part_of message) s reply
