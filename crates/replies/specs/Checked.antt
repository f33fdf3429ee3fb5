-- Which messages a part takes: the checks in the page's order, as for the event queue and the data store.
use Rattle.std.specs.Prelude.{ℕ, Bool, List, [], ◌∷◌, ltb, Result, Ok, Err}
use Rattle.tapa.specs.declared.Refusal.{Refusal}
use Rattle.lists.specs.Lists.{checks}
use Rattle.tapa.specs.declared.Refusal.TheVariants.{BufferTooSmall, NotThisPartsMessage}
use Rattle.message.specs.declared.Head.{Head}
use Rattle.message.specs.Message.{read_of}

-- 'then 1, 2, 3'; the reader has 19 at the place of 3 (request 04)
abbrev pub well_read : Result Head Refusal → Result Head Refusal
well_read (Err r) = Err r
well_read (Ok h) = Ok h

-- 'Checks: reply buffer under 13 (9)', of the data store 'the longest response as the least buffer size'; 'The thread may be any byte.'
abbrev pub room_checks : ℕ → ℕ → List (Bool × Result Head Refusal)
room_checks least room = (ltb room least, Err BufferTooSmall) ∷ []

abbrev pub opened : ℕ → ℕ → List ℕ → Result Head Refusal
opened least room message = checks (room_checks least room) (well_read (read_of message))

-- then whether it is another's, by the part's own test: 'not this part's message' (15)
abbrev pub own_checks : (Head → Bool) → Head → List (Bool × Result Head Refusal)
own_checks elsewhere h = (elsewhere h, Err NotThisPartsMessage) ∷ []

abbrev pub owned : (Head → Bool) → Result Head Refusal → Result Head Refusal
owned elsewhere (Err r) = Err r
owned elsewhere (Ok h) = checks (own_checks elsewhere h) (Ok h)
