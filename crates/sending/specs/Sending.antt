-- 'the bytes to send are a part of the incoming buffer or of the reply buffer, never a copy'
use Rattle.std.specs.Prelude.{ℕ, ◌≡◌, List, take}
use Rattle.std.specs.Borrow.{Bor}
use Rattle.lists.specs.Lists.{LiesAt}
use Rattle.rules.specs.declared.Outcome.{Outcome}
use Rattle.rules.specs.declared.Outcome.TheVariants.{Passed, Answered, Swallowed, Event, Turned, Given, Reset, Refused}
use Rattle.rules.specs.Apply.{sent}

-- the slice of which the part is taken: the reply buffer for a response that the router made, else the message
abbrev pub taken_of : Outcome → (message reply : Bor (List ℕ)) → Bor (List ℕ)
taken_of (Passed asker asked kind t) message reply = message
taken_of (Answered asked asker t k) message reply = message
taken_of (Swallowed asked t) message reply = message
taken_of Event message reply = message
taken_of (Turned asker asked t k) message reply = reply
taken_of (Given asker asked t) message reply = reply
taken_of (Reset h) message reply = message
taken_of (Refused r) message reply = message

-- the part handed out: its bytes, and that it stands in one of the two slices, from the start on
pub record Sending (o : Outcome) (message reply part : Bor (List ℕ)) : Type 0 where
  pub bytes : part.now ≡ sent o message.now reply.now
  pub place : LiesAt 0 (taken_of o message reply) part

-- the first ten bytes of a slice
pub record FirstTen (slice part : Bor (List ℕ)) : Type 0 where
  pub bytes : part.now ≡ take 10 slice.now
  pub place : LiesAt 0 slice part
