-- Refusal numbers
use Rattle.std.specs.Prelude.{ℕ}
use Rattle.tapa.specs.declared.Refusal.{Refusal}
use Rattle.tapa.specs.declared.Refusal.TheVariants.{TooShort, TooLong, FewerThanAnnounced, NotInTable, ThreadAbove7, NoResponseCode, StrayResponse, WrongAsker, BufferTooSmall, EventCannotBeTaken, RowCountOrShape, Repeat, TooManyMulti, NothingToGiveUp, NotThisPartsMessage, StandsInAWait, NoSourceKept, StatusNotUsable, MoreThanAnnounced, HoldsAQuestion}

-- the page's number of each refusal; request 04: 'fewer bytes than announced stays 3, more bytes becomes 19';
-- request 05: 'of one that still holds a question on that thread is 20'
abbrev pub number_of : Refusal → ℕ
number_of TooShort = 1
number_of TooLong = 2
number_of FewerThanAnnounced = 3
number_of NotInTable = 4
number_of ThreadAbove7 = 5
number_of NoResponseCode = 6
number_of StrayResponse = 7
number_of WrongAsker = 8
number_of BufferTooSmall = 9
number_of EventCannotBeTaken = 10
number_of RowCountOrShape = 11
number_of Repeat = 12
number_of TooManyMulti = 13
number_of NothingToGiveUp = 14
number_of NotThisPartsMessage = 15
number_of StandsInAWait = 16
number_of NoSourceKept = 17
number_of StatusNotUsable = 18
number_of MoreThanAnnounced = 19
number_of HoldsAQuestion = 20
