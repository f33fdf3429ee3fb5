-- A text that is being read: its bytes so far stand in the buffer, and the rest is still to be scanned. Assumes nothing.
use Prim.Native.Nat.{ℕ, zero, suc, ◌+◌, ◌≤◌, ◌<◌}
use mathlib.Core.Path.{◌≡◌, refl, ap, ◌∙◌}
use mathlib.Core.List.{List, [], ◌∷◌, ◌++◌, append_assoc, append-nil}
use native.Mathlib.Omega.{arith}
use native.Mathlib.Numerals.{add-one}
use lib.ListN.{length, drop, get_or, length-append}
use lib.Seq.{drop-cons}
use Rattle.std.specs.Prelude.{Result, Err, ⊤}
use Rattle.text.specs.declared.Writer.{Writer}
use Rattle.text.specs.Text.{Pen, pen, pen_of, puts, Writes}
use Rattle.text.proofs.Laws.{wrote_none, and_then}
use Rattle.hexes.specs.declared.Mistake.{Mistake}
use Rattle.hexes.specs.declared.Mode.{Mode}
use Rattle.hexes.specs.declared.Mode.TheVariants.{Between}
use Rattle.hexes.specs.declared.Step.{Step}
use Rattle.hexes.specs.declared.Step.TheVariants.{Go, Byte, Stop}
use Rattle.hexes.specs.Reading.{Begun, GoesOn, class_of, step_of, Scan, stopped, on_step, ended_of, scan_from, scan_of, Reads}

drop_past : (n : ℕ) (l : List ℕ) → length l ≤ n → drop n l ≡ []
drop_past zero [] h = refl
drop_past zero (x ∷ l) h = absurd (omega arith)
drop_past (suc n) [] h = refl
drop_past (suc n) (x ∷ l) h = drop_past n l (omega arith)

next-char : (s : List ℕ) (i : ℕ) → i < length s → drop i s ≡ get_or s i 0 ∷ drop (i + 1) s
next-char s i h = rw add-one (drop-cons s i 0 h)

-- ---- the scan

-- bytes in front of a scan
abbrev pub behind : List ℕ → Scan → Scan
behind d s = record { bytes = d ++ s.bytes; ends = s.ends }

-- the writer w has what was scanned of the text so far, and began as first
pub record Going (text : List ℕ) (first w : Writer) (mode : Mode) (count i : ℕ) : Type 0 where
  pub begun : Begun mode
  pub done : List ℕ
  pub written : Writes first w done
  pub counted : count ≡ length done
  pub few : count ≤ i
  pub rest : scan_of text ≡ behind done (scan_from mode i (drop i text))

pub begins : (text : List ℕ) (first : Writer) → Going text first first Between 0 0
unfolding scan_of
begins text first = record { begun = tt; done = []; written = wrote_none first; counted = refl; few = omega arith; rest = refl }

module _ (text old : List ℕ) (first w : Writer) (mode : Mode) (count i : ℕ) (go : Going text first w mode count i) where
  ends_as : pen_of first ≡ pen old 0 → (n : ℕ) (e : Result ⊤ Mistake) → n ≡ w.at → scan_of text ≡ behind go.done (stopped e)
      → Reads text old w.bytes.now (record { length = n; count = count; ends = e })
  ends_as b n e p z = record {
    held = rw (z, append-nil go.done, p) (go.written.text ∙ ap (λ (q : Pen). puts q go.done) b);
    counted = rw (z, append-nil go.done) go.counted;
    ends = rw z refl;
  }

  -- at the end of the text
  pub over : pen_of first ≡ pen old 0 → (n : ℕ) (e : Result ⊤ Mistake) → n ≡ w.at → length text ≤ i → e ≡ ended_of mode
      → Reads text old w.bytes.now (record { length = n; count = count; ends = e })
  over b n e p h q = ends_as b n e p (go.rest ∙ rw (drop_past i text h, q))

  module _ (h : i < length text) (t : Step) (e : t ≡ step_of mode (class_of (get_or text i 0)) i) where
    here : scan_of text ≡ behind go.done (on_step t (λ m. scan_from m (i + 1) (drop (i + 1) text)))
    here = go.rest ∙ rw (next-char text i h, e)

    pub goes : (m : Mode) → GoesOn t → t ≡ Go m → Going text first w m count (i + 1)
    goes m g p = record {
      begun = rw p at g;
      done = go.done;
      written = go.written;
      counted = go.counted;
      few = omega (arith, go.few);
      rest = here ∙ rw p;
    }

    pub gains : (b : ℕ) (x : Writer) → t ≡ Byte b → Writes w x (b ∷ []) → Going text first x Between (count + 1) (i + 1)
    gains b x p g = record {
      begun = tt;
      done = go.done ++ (b ∷ []);
      written = and_then go.written g;
      counted = omega (arith, go.counted, length-append go.done (b ∷ []));
      few = omega (arith, go.few);
      rest = here ∙ rw (p, append_assoc);
    }

    pub stops : pen_of first ≡ pen old 0 → (n : ℕ) (x : Mistake) → n ≡ w.at → t ≡ Stop x → Reads text old w.bytes.now (record { length = n; count = count; ends = Err x })
    stops b n x p q = ends_as b n (Err x) p (here ∙ rw q)
