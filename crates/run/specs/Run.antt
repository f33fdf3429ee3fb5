-- The session program without its text: the steps of an input with their outcomes, and how it ends.
use Rattle.std.specs.Prelude.{ℕ, ◌+◌, cond, List, [], ◌∷◌, ltb, length, replicate, Result, Ok, Err, ⊤}
use Rattle.tapa.specs.declared.Refusal.{Refusal}
use Rattle.table.specs.declared.Row.{Row}
use Rattle.table.specs.Table.{judge_table}
use Rattle.rules.specs.View.{View}
use Rattle.rules.specs.Judge.{Call, message as message_call, give_up, replaced as replaced_call, judge}
use Rattle.rules.specs.Apply.{written}
use Rattle.rules.specs.declared.Outcome.{Outcome}
use Rattle.history.specs.History as history
use Rattle.fields.specs.Fields.{file_of, Step, message, give-up, replaced, Steps, over, broken, then, Script, torn, begins, row-then, script_of}
use Rattle.run.specs.declared.Totals.{Totals}
use Rattle.run.specs.declared.Item.{Item}
use Rattle.run.specs.declared.Item.TheVariants.{Came, Over, Broken, Refused, TooLong, Nothing}

-- ---- a step

-- a step is a call of the router
abbrev pub call_of : Step → Call
call_of (message c) = message_call c
call_of (give-up t a) = give_up t a
call_of (replaced a) = replaced_call a

-- with a reply buffer of 10 bytes: before a call, and after it
abbrev pub no_reply : List ℕ
no_reply = replicate 10 0

abbrev pub reply_of : Outcome → List ℕ
reply_of o = written o no_reply

abbrev pub outcome_of : View → Step → Outcome
outcome_of v st = judge v 10 (call_of st)

-- the reply buffer that goes with an item
abbrev pub reply_in : Item → List ℕ
reply_in (Came k o) = reply_of o
reply_in (Over t) = no_reply
reply_in (Broken n) = no_reply
reply_in (Refused r) = no_reply
reply_in TooLong = no_reply
reply_in Nothing = no_reply

-- ---- the history of a session

-- a step as a call of the history
abbrev pub called : Step → history.Step
called st = record { room = 10; call = call_of st }

-- 'totals: accepted, answered, given up, waiting, owing', from the history of all calls, the newest first; accepted are the passed commands
abbrev pub totals_after : List Row → List history.Step → Totals
totals_after rows calls = record {
  accepted = history.total history.is_passed (history.history rows calls);
  answered = history.total history.is_answered (history.history rows calls);
  given = history.total history.is_given (history.history rows calls);
  waiting = length (history.open_in (history.history rows calls));
  owing = length (history.owed_in (history.history rows calls));
}

-- ---- the items of the steps, after the calls so far: 'One line a field after the rows, numbered from 1', k being the next one's number

abbrev pub items_of : List Row → (past : List history.Step) → (k : ℕ) → Steps → List Item
items_of rows past k over = Over (totals_after rows past) ∷ []
items_of rows past k (broken n) = Broken n ∷ []
items_of rows past k (then st m) = Came k (outcome_of (history.view_after rows past) st) ∷ items_of rows (called st ∷ past) (k + 1) m

-- ---- the rows, the last one first, and then the steps

-- 'A refused table prints `table refused N` and ends'
abbrev pub checked_items : Result ⊤ Refusal → List Row → Steps → List Item
checked_items (Ok tt) rows m = items_of rows [] 1 m
checked_items (Err r) rows m = Refused r ∷ []

abbrev pub script_items : List Row → Script → List Item
script_items rows (torn n) = Broken n ∷ []
script_items rows (begins m) = checked_items (judge_table rows) rows m
script_items rows (row-then a o m) = script_items (record { address = a; opened = o } ∷ rows) m

-- 'at most 65,536 bytes, a longer input printing only `too long`'
unfoldable pub run_of : List ℕ → List Item
run_of s = cond (ltb 65536 (length s)) (TooLong ∷ []) (script_items [] (script_of 1 (file_of s)))
