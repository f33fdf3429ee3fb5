-- After any calls, the source held for a thread is that of the last '42' command kept on it: joining and refusals leave it.
use Prim.Native.Nat.{ℕ, ◌+◌, ◌-◌, ◌≤◌, ◌<◌}
use Rattle.tapa.specs.declared.Refusal.{Refusal}
use Rattle.std.specs.Prelude.{Result, Ok, Err, Some, None}
use mathlib.Core.Path.{◌≡◌, refl, sym, ap, ◌∙◌}
use mathlib.Core.Bool.{Bool, true, false, cond}
use mathlib.Core.List.{List, [], ◌∷◌}
use native.Mathlib.Omega.{arith}
use lib.Dec.{eqb, ltb, leb}
use lib.ListN.{length, length-set, get_or-replicate}
use lib.Seq.{get_or-set_same, get_or-set_other}
use borrow.Author.Tests.{ltb-true, ltb-false, eqb-true, eqb-false, le-leb, lt-leb}
use Rattle.tapa.specs.Codes.{icc_command}
use Rattle.message.specs.Message.{read_of}
use Rattle.message.specs.declared.Head.{Head}
use Rattle.joiner.specs.declared.Joiner.{Joiner}
use Rattle.joiner.specs.Joining.{fresh_joiner, counting, with_source, taking_of, count_to, next_of, keeping_on, keeper_on, kept_of}
use Rattle.joiner.specs.Sources.{source_for, Call, keeping, joining, joiner_after, source_in, newer, last_source}

-- a joiner has a place for each of the eight threads, as its arrays have by their type
pub record Eight (j : Joiner) : Type 0 where
  pub sources : length j.sources ≡ 8
  pub kept : length j.kept ≡ 8

pub fresh-eight : Eight fresh_joiner
fresh-eight = record { sources = refl; kept = refl }

-- ---- a source put in its place
module _ (j : Joiner) (eight : Eight j) (thread source : ℕ) (few : thread ≤ 7) where
  with-eight : Eight (with_source j thread source)
  with-eight = record { sources = length-set j.sources thread source ∙ eight.sources; kept = length-set j.kept thread true ∙ eight.kept }

  with-own : source_for (with_source j thread source) thread ≡ Some source
  with-own =
      let n : thread < length j.sources = omega (arith, eight.sources) in
      let k : thread < length j.kept = omega (arith, eight.kept) in
      rw (get_or-set_same j.kept thread true false k, get_or-set_same j.sources thread source 0 n)

  with-other : (t : ℕ) → (t ≡ thread → ⊥) → source_for (with_source j thread source) t ≡ source_for j t
  with-other t n = rw (get_or-set_other j.kept thread t true false n, get_or-set_other j.sources thread t source 0 n)

-- ---- one message
module _ (j : Joiner) (eight : Eight j) (t : ℕ) where
  -- what keeping a message that reads so does
  abbrev Keeps : Result Head Refusal → Type 0
  Keeps r = Eight (keeper_on r (keeping_on r) j) × (source_for (keeper_on r (keeping_on r) j) t ≡ newer (source_in r t) (source_for j t))

  own-or-other : (h : Head) → h.thread ≤ 7 → (y : Bool) → eqb h.thread t ≡ y
      → source_for (with_source j h.thread h.source) t ≡ newer (cond y (Some h.source) None) (source_for j t)
  own-or-other h l true e =
      ap (source_for (with_source j h.thread h.source)) (sym (eqb-true h.thread t e)) ∙ with-own j eight h.thread h.source l
  own-or-other h l false e = with-other j eight h.thread h.source l t (λ x. eqb-false h.thread t e (sym x))

  keeps-read : (h : Head) (a : Bool) → eqb h.kind icc_command ≡ a → (b : Bool) → ltb 7 h.thread ≡ b → Keeps (Ok h)
  keeps-read h false ea b eb = (rw ea eight, rw ea)
  keeps-read h true ea true eb =
      let over : leb h.thread 7 ≡ false = lt-leb h.thread 7 (ltb-true 7 h.thread eb) in
      (rw (ea, eb) eight, rw (ea, eb, over))
  keeps-read h true ea false eb =
      let few : h.thread ≤ 7 = ltb-false 7 h.thread eb in
      (rw (ea, eb) (with-eight j eight h.thread h.source few), rw (ea, eb, le-leb h.thread 7 few) (own-or-other h few (eqb h.thread t) refl))

  keeps : (r : Result Head Refusal) → Keeps r
  keeps (Err r) = (eight, refl)
  keeps (Ok h) = keeps-read h (eqb h.kind icc_command) refl (ltb 7 h.thread) refl

  kept-message : (message : List ℕ) → Eight (kept_of j message).next × (source_for (kept_of j message).next t ≡ newer (source_in (read_of message) t) (source_for j t))
  unfolding kept_of
  kept-message message = keeps (read_of message)

  -- ---- one piece: joining looks at the sources, and leaves them
  kept_piece : (piece buffer : List ℕ) → Eight (next_of j piece buffer) × (source_for (next_of j piece buffer) t ≡ source_for j t)
  unfolding next_of
  kept_piece piece buffer = go (ltb (length buffer) 1032) (count_to (taking_of j.joined piece) (j.joined + (length piece - 2)))
    where
      go : (b : Bool) (n : ℕ) → Eight (cond b j (counting j n)) × (source_for (cond b j (counting j n)) t ≡ source_for j t)
      go true n = (eight, refl)
      go false n = (record { sources = eight.sources; kept = eight.kept }, refl)

-- ---- any calls
pub last-kept : (calls : List Call) (j : Joiner) → Eight j → (thread : ℕ) → source_for (joiner_after j calls) thread ≡ last_source calls thread (source_for j thread)
last-kept [] j eight thread = refl
last-kept (keeping message ∷ calls) j eight thread =
    let k = kept-message j eight thread message in
    last-kept calls (kept_of j message).next k.0 thread ∙ ap (last_source calls thread) k.1
last-kept (joining piece buffer ∷ calls) j eight thread =
    let k = kept_piece j eight thread piece buffer in
    last-kept calls (next_of j piece buffer) k.0 thread ∙ ap (last_source calls thread) k.1

-- from a fresh joiner on: none before the first
pub fresh-last-kept : (calls : List Call) (thread : ℕ) → thread ≤ 7 → source_for (joiner_after fresh_joiner calls) thread ≡ last_source calls thread None
fresh-last-kept calls thread few = last-kept calls fresh_joiner fresh-eight thread ∙ ap (last_source calls thread) (none-held thread few)
  where
    none-held : (t : ℕ) → t ≤ 7 → source_for fresh_joiner t ≡ None
    none-held t l =
        let k : t < 8 = omega arith in
        rw (get_or-replicate 8 t false false k)
