-- The messages of an input are bytes, as the input is. Assumes nothing.
use Prim.Native.Nat.{◌*◌, ◌+◌, suc, zero, ℕ}
use Rattle.std.specs.Prelude.{Option, Some, None}
use mathlib.Core.Bool.{◌&&◌}
use mathlib.Core.List.{List, [], ◌∷◌}
use lib.Dec.{eqb, leb}
use lib.ListN.{drop, get_or, length}
use Rattle.fields.specs.Fields.{File, Step, Steps, broken, cut, ended, field, file_of, give-up, message, over, parse, replaced, step_of, step_then, steps_of, then}
use Rattle.fields.specs.Places.{steps_at}
use Rattle.lists.proofs.Bytes.{bytes_drop, bytes_take}
use Rattle.lists.proofs.Tests.{checks-are, split}
use Rattle.lists.specs.Lists.{Bytes}
use Rattle.tapa.specs.Numbers.{word_at}

-- ---- the contents of every field

abbrev FileBytes : File → Type 0
FileBytes ended = Unit {0}
FileBytes (cut t) = Unit {0}
FileBytes (field t c r) = Bytes c × FileBytes r

parse-bytes : (f : ℕ) (s : List ℕ) → Bytes s → FileBytes (parse f s)
parse-bytes zero s b = tt
parse-bytes (suc f) [] b = tt
parse-bytes (suc f) (t ∷ []) b = tt
parse-bytes (suc f) (t ∷ h ∷ []) b = tt
parse-bytes (suc f) (t ∷ h ∷ l ∷ s) b =
    let n : ℕ = h * 256 + l in
    let bytes : Bytes s = λ i. b (suc (suc (suc i))) in
    split (leb n (length s))
    (λ e. rw e (bytes_take n s bytes, parse-bytes f (drop n s) (bytes_drop n s bytes)))
    (λ e. rw e tt)

-- ---- the bytes of every message

abbrev pub StepsBytes : Steps → Type 0
StepsBytes over = Unit {0}
StepsBytes (broken n) = Unit {0}
StepsBytes (then (message c) m) = Bytes c × StepsBytes m
StepsBytes (then (give-up t a) m) = StepsBytes m
StepsBytes (then (replaced a) m) = StepsBytes m

step-bytes : (n t : ℕ) (c : List ℕ) (m : Steps) → Bytes c → StepsBytes m → StepsBytes (step_then n (step_of t c) m)
unfolding step_of
step-bytes n t c m b w =
    checks-are (λ (o : Option Step). StepsBytes (step_then n o m))
    ((eqb t 2, Some (message c))
    ∷ (eqb t 3 && eqb (length c) 3, Some (give-up (get_or c 0 0) (word_at c 1)))
    ∷ (eqb t 4 && eqb (length c) 2, Some (replaced (word_at c 0)))
    ∷ [])
    None
    ((b, w), (w, (w, tt)))
    (λ f. tt)

of-file : (n : ℕ) (r : File) → FileBytes r → StepsBytes (steps_of n r)
of-file n ended b = tt
of-file n (cut t) b = tt
of-file n (field t c r) b = step-bytes n t c (steps_of (n + 1) r) b.0 (of-file (n + 1) r b.1)

pub steps-bytes : (s : List ℕ) (n at : ℕ) → Bytes s → StepsBytes (steps_at s n at)
unfolding steps_at file_of
steps-bytes s n at b = of-file n (file_of (drop at s)) (parse-bytes (length (drop at s)) (drop at s) (bytes_drop at s b))
