-- Demand 2 holds of the data store: of every run of it, from a fresh book.
use Prim.Native.Nat.{ℕ}
use mathlib.Core.List.{List, [], ◌∷◌}
use mathlib.Core.Path.{ap, ◌∙◌, ◌≡◌}
use lib.ListN.{length}
use Rattle.book.proofs.Tables.{fresh-law}
use Rattle.book.specs.Book.{book_of, no_kinds, view_of}
use Rattle.book.specs.declared.Book.{Book}
use Rattle.files.specs.Files.{File}
use Rattle.lists.specs.Lists.{Bytes}
use Rattle.store.proofs.Kept.{fresh-sound, fresh-view, sound-kept}
use Rattle.store.proofs.Right.{as_plain}
use Rattle.store.specs.Plain.{Told, told_of}
use Rattle.store.specs.Store.{Handling, handled}
use Rattle.store.specs.declared.Handled.{Handled}
use Rattle.demands.specs.Stored.{AsFiles, Exchange, Stored, begun, files_after, went_on}

-- one message more
pub one_more : (h : List Exchange) (b : Book) (area : List ℕ) → AsFiles h b area
    → (message before after area' : List ℕ) (out : Handled) → Bytes message → Handling (handled b area message before) area' after out
    → AsFiles (record { message = message; before = before; answer = out.answer; after = after } ∷ h) out.next area'
one_more h b area w message before after area' out bytes c =
    let p = as_plain b area w.law message before bytes in
    let t : told_of (view_of b area) message before ≡ told_of (files_after h) message before = ap (λ (l : List File). told_of l message before) w.files in
    let v : view_of out.next area' ≡ view_of (handled b area message before).book (handled b area message before).area = (λ i. view_of (c.next i) (c.area' i)) in
    record {
      law = c.law;
      files = v ∙ p.files ∙ ap (λ (x : Told). x.files) t;
      said = ((c.answer ∙ p.answer ∙ ap (λ (x : Told). x.answer) t, c.reply' ∙ p.reply ∙ ap (λ (x : Told). x.reply) t), w.said);
      sound = rw v (sound-kept b area message before w.law bytes w.sound);
    }

-- before the first
pub none_yet : (area : List ℕ) → length area ≡ 98048 → AsFiles [] (book_of no_kinds []) area
none_yet area e = record { law = fresh-law area e; files = fresh-view area; said = tt; sound = fresh-sound area }

pub stored-as-files : {h : List Exchange} {b : Book} {area : List ℕ} → Stored h b area → AsFiles h b area
stored-as-files (begun area e) = none_yet area e
stored-as-files (went_on h b area s message before after area' out bytes c) = one_more h b area (stored-as-files s) message before after area' out bytes c
