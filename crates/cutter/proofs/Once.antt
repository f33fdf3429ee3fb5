-- Each contract of psam_commands leaves one answer possible, with one content of the lent buffer.
-- `start_check` ensures an equation with a definition: two answers are then equal by it.
use mathlib.Core.Path.{◌≡◌, sym, ◌∙◌}
use mathlib.Core.List.{List}
use Prim.Native.Nat.{ℕ}
use denote.Ref.{Bor}
use Rattle.cutter.specs.declared.Handed.{Handed}
use Rattle.cutter.specs.declared.Cutter.{Cutter}
use Rattle.cutter.specs.declared.Step.{Step}
use Rattle.cutter.specs.declared.Begun.{Begun}
use Rattle.cutter.specs.declared.First.{First}
use Rattle.cutter.specs.Cutting.{PartToCut, HandsOut, Steps, Begins, Firsts}

pub one-cut-next : (part : List ℕ) (thread at : ℕ) (before a a' : List ℕ) (h h' : Handed)
    → HandsOut part thread at before a h → HandsOut part thread at before a' h' → (h ≡ h') × (a ≡ a')
one-cut-next part thread at before a a' h h' x y = (x.answer ∙ sym y.answer, x.buffer ∙ sym y.buffer)

pub one-next : (c : Cutter) (before a a' : List ℕ) (s s' : Step) → Steps c before a s → Steps c before a' s' → (s ≡ s') × (a ≡ a')
one-next c before a a' s s' x y = (x.answer ∙ sym y.answer, x.buffer ∙ sym y.buffer)

pub one-first-command : (message before a a' : List ℕ) (f f' : First) → Firsts message before a f → Firsts message before a' f' → (f ≡ f') × (a ≡ a')
one-first-command message before a a' f f' x y = (x.answer ∙ sym y.answer, x.buffer ∙ sym y.buffer)

-- what can be seen of a part: its bytes and where they stand
pub record SamePart (x y : Bor (List ℕ)) : Type 0 where
  pub bytes : x.now ≡ y.now
  pub place : x.ref_ptr ≡ y.ref_ptr

pub one-part-to-cut : (message x y : Bor (List ℕ)) → PartToCut message x → PartToCut message y → SamePart x y
one-part-to-cut message x y p q = record { bytes = p.bytes ∙ sym q.bytes; place = p.place ∙ sym q.place }

pub one-begin : (message : Bor (List ℕ)) (b b' : Begun) → Begins message b → Begins message b'
    → (b.start ≡ b'.start) × (SamePart b.cutter.part b'.cutter.part × ((b.cutter.thread ≡ b'.cutter.thread) × (b.cutter.at ≡ b'.cutter.at)))
one-begin message b b' x y = (
  x.start ∙ sym y.start,
  (one-part-to-cut message b.cutter.part b'.cutter.part x.part y.part, (x.thread ∙ sym y.thread, x.at ∙ sym y.at)),
)
