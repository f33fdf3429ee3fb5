-- 'Refusal numbers': the page's table, line by line, and the numbers that requests added.
use mathlib.Core.Path.{◌≡◌, refl}
use mathlib.Core.List.{List, [], ◌∷◌, map}
use Rattle.tapa.specs.declared.Refusal.{Refusal}
use Rattle.tapa.specs.declared.Refusal.TheVariants.{TooShort, TooLong, FewerThanAnnounced, NotInTable, ThreadAbove7, NoResponseCode, StrayResponse, WrongAsker, BufferTooSmall, EventCannotBeTaken, RowCountOrShape, Repeat, TooManyMulti, NothingToGiveUp, NotThisPartsMessage, StandsInAWait, NoSourceKept, StatusNotUsable, MoreThanAnnounced, HoldsAQuestion}
use Rattle.tapa.specs.Refusals.{number_of}

-- the refusals by their names, in the order of their numbers
abbrev pub named : List Refusal
named =
    TooShort
    ∷ TooLong
    ∷ FewerThanAnnounced
    ∷ NotInTable
    ∷ ThreadAbove7
    ∷ NoResponseCode
    ∷ StrayResponse
    ∷ WrongAsker
    ∷ BufferTooSmall
    ∷ EventCannotBeTaken
    ∷ RowCountOrShape
    ∷ Repeat
    ∷ TooManyMulti
    ∷ NothingToGiveUp
    ∷ NotThisPartsMessage
    ∷ StandsInAWait
    ∷ NoSourceKept
    ∷ StatusNotUsable
    ∷ MoreThanAnnounced
    ∷ HoldsAQuestion
    ∷ []

pub numbered : map number_of named ≡ 1 ∷ 2 ∷ 3 ∷ 4 ∷ 5 ∷ 6 ∷ 7 ∷ 8 ∷ 9 ∷ 10 ∷ 11 ∷ 12 ∷ 13 ∷ 14 ∷ 15 ∷ 16 ∷ 17 ∷ 18 ∷ 19 ∷ 20 ∷ []
numbered = refl
