-- The numbers of an arrival: those of its head, and 0 where there is no such number. A give up and a replaced call name their address as destination.
use Rattle.std.specs.Prelude.{ℕ}
use Rattle.message.specs.declared.Head.{Head}
use Rattle.arrivals.specs.declared.Arrival.{Arrival}
use Rattle.arrivals.specs.declared.Arrival.TheVariants.{Unread, Torn, Command, Response, GiveUp, Replaced, Nothing}

abbrev pub call : (thread address : ℕ) → Head
call thread address = record { destination = address; source = 0; kind = 0; thread = thread; length = 0 }

abbrev pub head_of : Arrival → Head
head_of (Unread n) = call 0 0
head_of (Torn h n) = h
head_of (Command h) = h
head_of (Response h code) = h
head_of (GiveUp thread address) = call thread address
head_of (Replaced address) = call 0 address
head_of Nothing = call 0 0
