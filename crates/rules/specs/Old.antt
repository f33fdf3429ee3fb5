-- The old list of rules, a to f, kept beside the theorem that let rule f go (proofs/Old.antt, `f-goes`; of whole histories: room history, Old). No
-- code is held to what stands here.
use Rattle.std.specs.Prelude.{ℕ, Bool, List, [], ◌∷◌, ◌++◌, leb, length}
use Rattle.lists.specs.Lists.{checks}
use Rattle.tapa.specs.Codes.{insufficient_resources}
use Rattle.message.specs.declared.Head.{Head}
use Rattle.rules.specs.View.{View}
use Rattle.rules.specs.declared.Outcome.{Outcome}
use Rattle.rules.specs.declared.Outcome.TheVariants.{Passed, Answered, Swallowed, Event, Turned, Given, Reset, Refused}
use Rattle.rules.specs.Judge.{rules, Call, judge}

-- 'f. waits plus owings are already 48: 'FFF6''
abbrev pub rule_f : View → (asker asked thread : ℕ) → Bool × Outcome
rule_f v asker asked t = (leb 48 (length v.places), Turned asker asked t insufficient_resources)

-- the old list: a to e as they stand, and f last
abbrev pub old_rules : View → Head → List (Bool × Outcome)
old_rules v h = rules v h ++ rule_f v h.source h.destination h.thread ∷ []

-- what the old list made of a command
abbrev pub old_command : View → Head → Outcome
old_command v h = checks (old_rules v h) (Passed h.source h.destination h.kind h.thread)

-- and of any call: f was asked last, so it changed nothing but what a to e pass
abbrev pub with_f : View → Outcome → Outcome
with_f v (Passed asker asked kind t) = checks (rule_f v asker asked t ∷ []) (Passed asker asked kind t)
with_f v (Answered asked asker t k) = Answered asked asker t k
with_f v (Swallowed asked t) = Swallowed asked t
with_f v Event = Event
with_f v (Turned asker asked t k) = Turned asker asked t k
with_f v (Given asker asked t) = Given asker asked t
with_f v (Reset h) = Reset h
with_f v (Refused r) = Refused r

abbrev pub old_judge : View → (room : ℕ) → Call → Outcome
old_judge v room c = with_f v (judge v room c)
