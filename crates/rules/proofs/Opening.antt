-- 'If it was Open Handler or Close Handler and the code is '0000', the handler becomes open or closed.' Exactly then: the types and the code stand
-- here as bytes.
use Prim.Native.Nat.{ℕ}
use Rattle.std.specs.Prelude.{Some}
use mathlib.Core.Path.{◌≡◌, refl}
use mathlib.Core.Bool.{Bool, true, false, ◌&&◌, cond, and-false}
use mathlib.Core.List.{List, [], ◌∷◌}
use lib.Dec.{eqb}
use borrow.Author.Tests.{ne_eqb}
use Rattle.tapa.specs.Address.{category_of, handler_of, multi}
use Rattle.known_types.specs.Types.{own, common}
use Rattle.message.specs.Message.{read_of, part_of, code_of}
use Rattle.table.specs.declared.Row.{Row}
use Rattle.table.specs.Table.{set_opened}
use Rattle.place.specs.declared.Place.{Place}
use Rattle.rules.specs.View.{View, fresh}
use Rattle.rules.specs.Judge.{Call, message, judge, late, reply, judge_response, busy, judge_command, judge_kind, judge_read, judge_message}
use Rattle.rules.specs.Apply.{answered_rows, applied}
use Rattle.rules.proofs.Sums.{row}

module _ (w : Place) (code : ℕ) (rows : List Row) where
  pub answered-moves : answered_rows (Some w) code rows
      ≡ cond (eqb code 0x0000 && eqb w.kind 0xF0)
      (set_opened (handler_of w.asked) true rows)
      (cond (eqb code 0x0000 && eqb w.kind 0xF1) (set_opened (handler_of w.asked) false rows) rows)
  unfolding answered_rows
  answered-moves = refl

  pub opens : code ≡ 0x0000 → w.kind ≡ 0xF0 → answered_rows (Some w) code rows ≡ set_opened (handler_of w.asked) true rows
  unfolding answered_rows
  opens c k = rw (c, k)

  pub closes : code ≡ 0x0000 → w.kind ≡ 0xF1 → answered_rows (Some w) code rows ≡ set_opened (handler_of w.asked) false rows
  unfolding answered_rows
  closes c k = rw (c, k)

  -- a failed Open or Close moves no mark
  pub other-code : (code ≡ 0x0000 → ⊥) → answered_rows (Some w) code rows ≡ rows
  unfolding answered_rows
  other-code n = rw (ne_eqb code 0x0000 n)

  -- nor does an answer to any other command
  pub other-type : (w.kind ≡ 0xF0 → ⊥) → (w.kind ≡ 0xF1 → ⊥) → answered_rows (Some w) code rows ≡ rows
  unfolding answered_rows
  other-type n m = rw (ne_eqb w.kind 0xF0 n, ne_eqb w.kind 0xF1 m, and-false)

-- ---- computed: the reader '0202' is closed, the till '0100' opens it on thread 3 by its other address, and closes it again

abbrev kiosk : (opened : Bool) → List Row
kiosk o = row 0x0100 true ∷ row 0x0202 o ∷ []

-- the wait of type 'F0' or 'F1', written out
abbrev waiting : (opened : Bool) → (kind : ℕ) → (owed : Bool) → View
waiting o kind owed = record { rows = kiosk o; places = record { asker = 0x0100; asked = 0x0282; kind = kind; thread = 3; owed = owed } ∷ [] }

-- the view after a call
abbrev next : View → Call → View
next v c = applied (judge v 10 c) v

abbrev asks : ℕ → Call
asks kind = message (0x02 ∷ 0x82 ∷ 0x01 ∷ 0x00 ∷ kind ∷ 0x03 ∷ 0x00 ∷ 0x00 ∷ [])

abbrev answers : (high low : ℕ) → Call
answers high low = message (0x01 ∷ 0x00 ∷ 0x02 ∷ 0x82 ∷ 0xFF ∷ 0x03 ∷ 0x00 ∷ 0x02 ∷ high ∷ low ∷ [])

pub record Computed : Type 0 where
  -- 'it is passed and becomes' a wait: exact asker, exact asked address, type, thread
  pub asked-to-open : next (fresh (kiosk false)) (asks 0xF0) ≡ waiting false 0xF0 false
  pub asked-to-close : next (fresh (kiosk true)) (asks 0xF1) ≡ waiting true 0xF1 false
  pub asked-by-bit : next (fresh (kiosk true)) (message (0x02 ∷ 0x82 ∷ 0x01 ∷ 0x80 ∷ 0x45 ∷ 0x03 ∷ 0x00 ∷ 0x00 ∷ []))
      ≡ record { rows = kiosk true; places = record { asker = 0x0180; asked = 0x0282; kind = 0x45; thread = 3; owed = false } ∷ [] }
  -- with '0000'
  pub opened : next (waiting false 0xF0 false) (answers 0x00 0x00) ≡ fresh (kiosk true)
  pub closed : next (waiting true 0xF1 false) (answers 0x00 0x00) ≡ fresh (kiosk false)
  -- a failed Open, a failed Close, an answer to another command
  pub not_opened : (next (waiting false 0xF0 false) (answers 0xFF 0xF3) ≡ fresh (kiosk false)) × (next (waiting false 0xF0 false) (answers 0x00 0x01) ≡ fresh (kiosk false))
  pub not-closed : (next (waiting true 0xF1 false) (answers 0xFF 0xF3) ≡ fresh (kiosk true)) × (next (waiting true 0xF1 false) (answers 0x01 0x00) ≡ fresh (kiosk true))
  pub other-command : (next (waiting false 0xF3 false) (answers 0x00 0x00) ≡ fresh (kiosk false)) × (next (waiting true 0x45 false) (answers 0x00 0x00) ≡ fresh (kiosk true))
  -- a late '0000' moves no mark
  pub late-open : next (waiting false 0xF0 true) (answers 0x00 0x00) ≡ fresh (kiosk false)
  pub late-close : next (waiting true 0xF1 true) (answers 0x00 0x00) ≡ fresh (kiosk true)
  -- the code is the last two data bytes of a longer answer too
  pub longer : (next (waiting false 0xF0 false) (message (0x01 ∷ 0x00 ∷ 0x02 ∷ 0x82 ∷ 0xFF ∷ 0x03 ∷ 0x00 ∷ 0x04 ∷ 0xFF ∷ 0xF3 ∷ 0x00 ∷ 0x00 ∷ [])) ≡ fresh (kiosk true))
      × (next (waiting false 0xF0 false) (message (0x01 ∷ 0x00 ∷ 0x02 ∷ 0x82 ∷ 0xFF ∷ 0x03 ∷ 0x00 ∷ 0x04 ∷ 0x00 ∷ 0x00 ∷ 0xFF ∷ 0xF3 ∷ [])) ≡ fresh (kiosk false))

pub computed : Computed
unfolding read_of part_of code_of category_of handler_of multi own common late reply judge_response busy judge_command judge_kind judge_read judge_message answered_rows
computed = record {
  asked-to-open = refl;
  asked-to-close = refl;
  asked-by-bit = refl;
  opened = refl;
  closed = refl;
  not_opened = (refl, refl);
  not-closed = (refl, refl);
  other-command = (refl, refl);
  late-open = refl;
  late-close = refl;
  longer = (refl, refl);
}
