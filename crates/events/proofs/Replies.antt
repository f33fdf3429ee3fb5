-- Whole messages and whole replies in bytes, computed: what a message comes to in a lent buffer whose bytes are '55'.
use Prim.Native.Nat.{ℕ}
use mathlib.Core.Path.{◌≡◌, refl}
use mathlib.Core.List.{List, [], ◌∷◌, ◌++◌}
use lib.ListN.{replicate}
use Rattle.tapa.specs.Address.{handler_of}
use Rattle.tapa.specs.Said.{Said, refused, says, reply, no_reply}
use Rattle.message.specs.Message.{read_of, part_of, message_of}
use Rattle.replies.specs.Said.{said_answer}
use Rattle.queue.specs.declared.Event.{Event}
use Rattle.queue.specs.Events.{known_search, meets}
use Rattle.events.specs.Events.{elsewhere, command_of, judge, apply, handled}

-- what is said of the answer, the events that are held then, and the whole buffer
pub record Came : Type 0 where
  pub said : Said
  pub held : List Event
  pub buffer : List ℕ

abbrev came : Said → List Event → List ℕ → Came
came said held buffer = record { said = said; held = held; buffer = buffer }

-- what becomes of a queue that holds these events, a message, and a buffer of so many bytes
abbrev asked : List Event → List ℕ → ℕ → Came
asked es message room =
    came (said_answer (handled es message (replicate room 0x55)).answer) (handled es message (replicate room 0x55)).events
    (handled es message (replicate room 0x55)).reply

-- a reply of so many bytes, and the bytes of the buffer after it as they were lent
abbrev replies : ℕ → List Event → List ℕ → ℕ → Came
replies n held bytes rest = came (says reply (n ∷ [])) held (bytes ++ replicate rest 0x55)

abbrev seven : Event
seven = record { kind = 0x07; location = 0x0102 }

abbrev nine : Event
nine = record { kind = 0x09; location = 0x0281 }

abbrev later : Event
later = record { kind = 0x09; location = 0x0102 }

-- a queue with three events; the oldest stands first
abbrev three : List Event
three = seven ∷ nine ∷ later ∷ []

abbrev coded : List Event → (high low : ℕ) → Came
coded held high low = replies 10 held (0x01 ∷ 0x00 ∷ 0x07 ∷ 0x00 ∷ 0xFF ∷ 0x03 ∷ 0x00 ∷ 0x02 ∷ high ∷ low ∷ []) 5

-- ---- 'Get takes the oldest, or 'FF72'.'

abbrev get : List ℕ
get = 0x07 ∷ 0x00 ∷ 0x01 ∷ 0x00 ∷ 0xC1 ∷ 0x03 ∷ 0x00 ∷ 0x00 ∷ []

pub record Gets : Type 0 where
  -- 'A found event's response carries type, location, '0000' (length '0005')'; 'lent bytes after the reply stay'
  pub one : asked (seven ∷ []) get 15
      ≡ replies 13 [] (0x01 ∷ 0x00 ∷ 0x07 ∷ 0x00 ∷ 0xFF ∷ 0x03 ∷ 0x00 ∷ 0x05 ∷ 0x07 ∷ 0x01 ∷ 0x02 ∷ 0x00 ∷ 0x00 ∷ []) 2
  pub oldest : asked three get 15
      ≡ replies 13 (nine ∷ later ∷ []) (0x01 ∷ 0x00 ∷ 0x07 ∷ 0x00 ∷ 0xFF ∷ 0x03 ∷ 0x00 ∷ 0x05 ∷ 0x07 ∷ 0x01 ∷ 0x02 ∷ 0x00 ∷ 0x00 ∷ []) 2
  pub none : asked [] get 15 ≡ replies 10 [] (0x01 ∷ 0x00 ∷ 0x07 ∷ 0x00 ∷ 0xFF ∷ 0x03 ∷ 0x00 ∷ 0x02 ∷ 0xFF ∷ 0x72 ∷ []) 5
  -- 'Source and destination are swapped exactly', and 'The thread may be any byte.': '0780', '0181' and thread 200
  pub exact : asked (nine ∷ []) (0x07 ∷ 0x80 ∷ 0x01 ∷ 0x81 ∷ 0xC1 ∷ 0xC8 ∷ 0x00 ∷ 0x00 ∷ []) 13
      ≡ replies 13 [] (0x01 ∷ 0x81 ∷ 0x07 ∷ 0x80 ∷ 0xFF ∷ 0xC8 ∷ 0x00 ∷ 0x05 ∷ 0x09 ∷ 0x02 ∷ 0x81 ∷ 0x00 ∷ 0x00 ∷ []) 0
  -- 'reply buffer under 13 (9)', also where no event stands in it
  pub small : (asked three get 12 ≡ came (refused 9) three (replicate 12 0x55)) × (asked [] get 12 ≡ came (refused 9) [] (replicate 12 0x55))

pub gets : Gets
unfolding handled read_of part_of message_of handler_of elsewhere command_of judge apply meets
gets = record { one = refl; oldest = refl; none = refl; exact = refl; small = (refl, refl) }

-- ---- 'Find takes the oldest that meets its search type (Search Type Coding table): unknown type 'FFFB', empty 'FF72', no match 'FF73', in that order.'

abbrev find : (by kind high low : ℕ) → List ℕ
find by kind high low = 0x07 ∷ 0x00 ∷ 0x01 ∷ 0x00 ∷ 0xC2 ∷ 0x03 ∷ 0x00 ∷ 0x04 ∷ by ∷ kind ∷ high ∷ low ∷ []

abbrev found : List Event → (kind high low : ℕ) → Came
found held kind high low =
    replies 13 held (0x01 ∷ 0x00 ∷ 0x07 ∷ 0x00 ∷ 0xFF ∷ 0x03 ∷ 0x00 ∷ 0x05 ∷ kind ∷ high ∷ low ∷ 0x00 ∷ 0x00 ∷ []) 2

pub record Finds : Type 0 where
  -- '01' by location, whatever type stands there; '02' by type, whatever location; '03' by both
  pub by-location : asked three (find 0x01 0xEE 0x02 0x81) 15 ≡ found (seven ∷ later ∷ []) 0x09 0x02 0x81
  pub by-type : asked three (find 0x02 0x07 0xEE 0xEE) 15 ≡ found (nine ∷ later ∷ []) 0x07 0x01 0x02
  pub by_both : asked three (find 0x03 0x09 0x01 0x02) 15 ≡ found (seven ∷ nine ∷ []) 0x09 0x01 0x02
  -- where two meet the search, the older one
  pub older : (asked three (find 0x01 0x09 0x01 0x02) 15 ≡ found (nine ∷ later ∷ []) 0x07 0x01 0x02)
      × (asked three (find 0x02 0x09 0x01 0x02) 15 ≡ found (seven ∷ later ∷ []) 0x09 0x02 0x81)
  -- the location compares exactly, its top bit too
  pub no-match : (asked three (find 0x01 0x07 0x02 0x01) 15 ≡ coded three 0xFF 0x73) × (asked three (find 0x02 0x08 0x01 0x02) 15 ≡ coded three 0xFF 0x73)
      × (asked three (find 0x03 0x07 0x02 0x81) 15 ≡ coded three 0xFF 0x73)
  pub empty : (asked [] (find 0x01 0x07 0x01 0x02) 15 ≡ coded [] 0xFF 0x72) × (asked [] (find 0x02 0x07 0x01 0x02) 15 ≡ coded [] 0xFF 0x72)
      × (asked [] (find 0x03 0x07 0x01 0x02) 15 ≡ coded [] 0xFF 0x72)
  pub unknown : (asked three (find 0x00 0x07 0x01 0x02) 15 ≡ coded three 0xFF 0xFB) × (asked three (find 0x04 0x07 0x01 0x02) 15 ≡ coded three 0xFF 0xFB)
      × (asked three (find 0x81 0x07 0x01 0x02) 15 ≡ coded three 0xFF 0xFB) × (asked [] (find 0x05 0x07 0x01 0x02) 15 ≡ coded [] 0xFF 0xFB)

pub finds : Finds
unfolding handled read_of part_of message_of handler_of elsewhere command_of judge apply meets known_search
finds = record {
  by-location = refl;
  by-type = refl;
  by_both = refl;
  older = (refl, refl);
  no-match = (refl, refl, refl);
  empty = (refl, refl, refl);
  unknown = (refl, refl, refl, refl);
}

-- ---- Add, and 'Add to a full queue drops the newcomer (house).'

abbrev add : List ℕ
add = 0x07 ∷ 0x00 ∷ 0x01 ∷ 0x00 ∷ 0xC0 ∷ 0x03 ∷ 0x00 ∷ 0x03 ∷ 0x09 ∷ 0x02 ∷ 0x81 ∷ []

-- no reply, and the buffer as it was
abbrev silent : List Event → Came
silent held = came (says no_reply []) held (replicate 15 0x55)

pub record Adds : Type 0 where
  pub first : asked [] add 15 ≡ silent (nine ∷ [])
  pub behind : asked (seven ∷ []) add 15 ≡ silent (seven ∷ nine ∷ [])
  -- 'It holds at most 100 events'
  pub hundredth : asked (replicate 99 seven) add 15 ≡ silent (replicate 99 seven ++ (nine ∷ []))
  pub full : asked (replicate 100 seven) add 15 ≡ silent (replicate 100 seven)
  -- 'a wrong Add changes nothing and has no reply': two bytes, and four
  pub short : asked (seven ∷ []) (0x07 ∷ 0x00 ∷ 0x01 ∷ 0x00 ∷ 0xC0 ∷ 0x03 ∷ 0x00 ∷ 0x02 ∷ 0x09 ∷ 0x02 ∷ []) 15 ≡ silent (seven ∷ [])
  pub long : asked (seven ∷ []) (0x07 ∷ 0x00 ∷ 0x01 ∷ 0x00 ∷ 0xC0 ∷ 0x03 ∷ 0x00 ∷ 0x04 ∷ 0x09 ∷ 0x02 ∷ 0x81 ∷ 0x00 ∷ []) 15 ≡ silent (seven ∷ [])

pub adds : Adds
unfolding handled read_of part_of message_of handler_of elsewhere command_of judge apply
adds = record {
  first = refl;
  behind = refl;
  hundredth = refl;
  full = refl;
  short = refl;
  long = refl;
}

-- ---- Flush, wrong lengths and other types, and messages that are not the queue's

-- a message without data for an address, of a type
abbrev plain : (high low kind : ℕ) → List ℕ
plain high low kind = high ∷ low ∷ 0x01 ∷ 0x00 ∷ kind ∷ 0x03 ∷ 0x00 ∷ 0x00 ∷ []

pub record Others : Type 0 where
  -- request 01: 'it answers 'FF72' and stays empty; a queue with events still answers '0000''
  pub flush : (asked three (plain 0x07 0x00 0xC3) 15 ≡ coded [] 0x00 0x00) × (asked [] (plain 0x07 0x00 0xC3) 15 ≡ coded [] 0xFF 0x72)
  -- 'a wrong data length (Add 3, Get 0, Find 4, Flush 0), gives 'FFFB''
  pub get-of-1 : asked three (0x07 ∷ 0x00 ∷ 0x01 ∷ 0x00 ∷ 0xC1 ∷ 0x03 ∷ 0x00 ∷ 0x01 ∷ 0x00 ∷ []) 15 ≡ coded three 0xFF 0xFB
  pub find-of-3 : asked three (0x07 ∷ 0x00 ∷ 0x01 ∷ 0x00 ∷ 0xC2 ∷ 0x03 ∷ 0x00 ∷ 0x03 ∷ 0x02 ∷ 0x07 ∷ 0x01 ∷ []) 15 ≡ coded three 0xFF 0xFB
  pub find-of-5 : asked three (0x07 ∷ 0x00 ∷ 0x01 ∷ 0x00 ∷ 0xC2 ∷ 0x03 ∷ 0x00 ∷ 0x05 ∷ 0x02 ∷ 0x07 ∷ 0x01 ∷ 0x02 ∷ 0x00 ∷ []) 15 ≡ coded three 0xFF 0xFB
  pub flush-of-1 : asked three (0x07 ∷ 0x00 ∷ 0x01 ∷ 0x00 ∷ 0xC3 ∷ 0x03 ∷ 0x00 ∷ 0x01 ∷ 0x00 ∷ []) 15 ≡ coded three 0xFF 0xFB
  -- 'A type outside 'C0' to 'C3'': one below, one above, and Open Handler
  pub outside : (asked three (plain 0x07 0x00 0xBF) 15 ≡ coded three 0xFF 0xFB) × (asked three (plain 0x07 0x00 0xC4) 15 ≡ coded three 0xFF 0xFB)
      × (asked three (plain 0x07 0x00 0xF0) 15 ≡ coded three 0xFF 0xFB)
  -- 'destination handler not '0700' or type 'FF' (15)'
  pub elsewhere : (asked three (plain 0x07 0x01 0xC1) 15 ≡ came (refused 15) three (replicate 15 0x55))
      × (asked three (plain 0x06 0x00 0xC1) 15 ≡ came (refused 15) three (replicate 15 0x55))
      × (asked three (plain 0x07 0x00 0xFF) 15 ≡ came (refused 15) three (replicate 15 0x55))

pub others : Others
unfolding handled read_of part_of message_of handler_of elsewhere command_of judge apply
others = record {
  flush = (refl, refl);
  get-of-1 = refl;
  find-of-3 = refl;
  find-of-5 = refl;
  flush-of-1 = refl;
  outside = (refl, refl, refl);
  elsewhere = (refl, refl, refl);
}
