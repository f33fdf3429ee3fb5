-- Histories that the premises on marks let in. A premise that asked more of a device than the page does, and counted refused responses, or barred older
-- marks at a replaced call of another handler or at one that was refused, would shut them out.
use Rattle.std.specs.Prelude.{ℕ, ◌≡◌, true, cond, List, [], ◌∷◌, map, eqb}
use Rattle.tapa.specs.Said.{Said, refused, says, passed, answered, swallowed, given, reset}
use Rattle.table.specs.declared.Row.{Row}
use Rattle.rules.specs.Judge.{Call, message, give_up, replaced}
use Rattle.rules.specs.Said.{said_outcome}
use Rattle.history.specs.History.{Step, Entry, history}
use Rattle.history.specs.Marks.{Honest}

abbrev row : ℕ → Row
row a = record { address = a; opened = true }

-- a till driver, two PSAMs, a reader and a display
abbrev rows : List Row
rows = row 0x0100 ∷ row 0x0001 ∷ row 0x0002 ∷ row 0x0202 ∷ row 0x0301 ∷ []

-- the till asks the PSAM and the PSAM the reader, on thread 3; each answers '0000'
abbrev ask_psam : Call
ask_psam = message (0x00 ∷ 0x01 ∷ 0x01 ∷ 0x00 ∷ 0x42 ∷ 0x03 ∷ 0x00 ∷ 0x00 ∷ [])

abbrev ask_reader : Call
ask_reader = message (0x02 ∷ 0x02 ∷ 0x00 ∷ 0x01 ∷ 0x45 ∷ 0x03 ∷ 0x00 ∷ 0x00 ∷ [])

abbrev reader_answers : Call
reader_answers = message (0x00 ∷ 0x01 ∷ 0x02 ∷ 0x02 ∷ 0xFF ∷ 0x03 ∷ 0x00 ∷ 0x02 ∷ 0x00 ∷ 0x00 ∷ [])

abbrev psam_answers : Call
psam_answers = message (0x01 ∷ 0x00 ∷ 0x00 ∷ 0x01 ∷ 0xFF ∷ 0x03 ∷ 0x00 ∷ 0x02 ∷ 0x00 ∷ 0x00 ∷ [])

-- calls with a reply buffer of ten bytes, the newest first, and what their history says
abbrev calls : List Call → List Step
calls cs = map (λ (c : Call). record { room = 10; call = c }) cs

abbrev pub of : List Call → List Entry
of cs = history rows (calls cs)

abbrev said : List Call → List Said
said cs = map (λ (e : Entry). said_outcome e.outcome) (of cs)

-- ---- the histories, the newest call first

-- the PSAM answers while its own question is open, which is 7, and sends the same response again
abbrev pub again : List Call
again = psam_answers ∷ reader_answers ∷ psam_answers ∷ ask_reader ∷ ask_psam ∷ []

-- the display is replaced while the PSAM is asked
abbrev pub another_replaced : List Call
another_replaced = psam_answers ∷ replaced 0x0301 ∷ ask_psam ∷ []

-- or the other PSAM, a handler of the same category
abbrev pub other_replaced : List Call
other_replaced = psam_answers ∷ replaced 0x0002 ∷ ask_psam ∷ []

-- the PSAM is declared replaced while it is asked, which is 16: no accepted call
abbrev pub refused_replaced : List Call
refused_replaced = psam_answers ∷ replaced 0x0001 ∷ ask_psam ∷ []

-- the PSAM is given up, the display replaced, and the PSAM's late response comes
abbrev pub late_reply : List Call
late_reply = psam_answers ∷ replaced 0x0301 ∷ give_up 3 0x0001 ∷ ask_psam ∷ []

-- the PSAM is replaced, and only then asked
abbrev pub asked_after : List Call
asked_after = psam_answers ∷ message (0x00 ∷ 0x01 ∷ 0x01 ∷ 0x00 ∷ 0xF0 ∷ 0x03 ∷ 0x00 ∷ 0x00 ∷ []) ∷ replaced 0x0001 ∷ []

-- ---- their marks meet the premises

-- a mark for the entry with one number, and another for all others
abbrev pub marking : (at there else : ℕ) → ℕ → ℕ
marking at there else n = cond (eqb n at) there else

pub record Admitted : Type 0 where
  -- the first and the third response bear one mark, 0, the second bears 1
  pub again-said : said again ≡ says answered (0x0100 ∷ []) ∷ says answered (0x0001 ∷ []) ∷ refused 7 ∷ says passed (0x0202 ∷ []) ∷ says passed (0x0001 ∷ []) ∷ []
  pub again-honest : Honest (marking 3 1 0) (of again)
  pub another-said : said another_replaced ≡ says answered (0x0100 ∷ []) ∷ says reset [] ∷ says passed (0x0001 ∷ []) ∷ []
  pub another-honest : Honest (λ n. 0) (of another_replaced)
  pub other-said : said other_replaced ≡ says answered (0x0100 ∷ []) ∷ says reset [] ∷ says passed (0x0001 ∷ []) ∷ []
  pub other-honest : Honest (λ n. 0) (of other_replaced)
  pub refused-said : said refused_replaced ≡ says answered (0x0100 ∷ []) ∷ refused 16 ∷ says passed (0x0001 ∷ []) ∷ []
  pub refused-honest : Honest (λ n. 0) (of refused_replaced)
  pub late-said : said late_reply
      ≡ says swallowed [] ∷ says reset [] ∷ says given (0x01 ∷ 0x00 ∷ 0x00 ∷ 0x01 ∷ 0xFF ∷ 0x03 ∷ 0x00 ∷ 0x02 ∷ 0xFF ∷ 0xF3 ∷ []) ∷ says passed (0x0001 ∷ []) ∷ []
  pub late-honest : Honest (λ n. 0) (of late_reply)
  pub after-said : said asked_after ≡ says answered (0x0100 ∷ []) ∷ says passed (0x0001 ∷ []) ∷ says reset [] ∷ []
  pub after-honest : Honest (λ n. 1) (of asked_after)
