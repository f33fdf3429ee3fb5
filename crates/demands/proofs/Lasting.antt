-- Demand 2 holds of a data store over restarts.
use Prim.Native.Nat.{ℕ}
use mathlib.Core.List.{List}
use mathlib.Core.Path.{ap, ◌∙◌, ◌≡◌}
use Rattle.book.specs.declared.Book.{Book}
use Rattle.demands.proofs.Stored.{none_yet, one_more}
use Rattle.demands.specs.Lasting.{Lasting, Outlives, begun, restarted, went_on}
use Rattle.demands.specs.Stored.{AsFiles, Exchange}
use Rattle.image.proofs.Trips.{load-save, load-save-storable, load-save-view}
use Rattle.image.specs.Image.{Storable, image_of, load_of, loaded}

storable : {h : List Exchange} {b : Book} {area : List ℕ} → AsFiles h b area → Storable b area
storable w = record { law = w.law; sound = w.sound }

pub lasting-as-files : {h : List Exchange} {b : Book} {area : List ℕ} → Lasting h b area → AsFiles h b area
lasting-as-files (begun area e) = none_yet area e
lasting-as-files (went_on h b area s message before after area' out bytes c) = one_more h b area (lasting-as-files s) message before after area' out bytes c
lasting-as-files (restarted h b area s lent e) =
    let w = lasting-as-files s in
    let k = load-save-storable b area (storable w) lent e in
    let same : loaded (load_of (image_of b area) lent) ≡ b = ap loaded (load-save b area (storable w) lent e) in
    rw same (record { law = k.law; files = load-save-view b area (storable w) lent e ∙ w.files; said = w.said; sound = k.sound })

pub outlives : {h : List Exchange} {b : Book} {area : List ℕ} → Lasting h b area → Outlives h b area
outlives {h} {b} {area} s = let w = lasting-as-files s in record { files = w; back = λ lent e. load-save b area (storable w) lent e }
