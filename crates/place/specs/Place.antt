-- A passed command that is not done with: its number, and the tests that the rules ask of it.
use Rattle.std.specs.Prelude.{ℕ, ◌+◌, ◌*◌, ◌/◌, ◌%◌, ◌<◌, ◌≡◌, Bool, true, not, ◌&&◌, ◌||◌, cond, eqb, leb}
use Rattle.tapa.specs.Address.{handler_of, multi}
use Rattle.place.specs.declared.Place.{Place}

-- ---- a place as one number: thread, type, asked, asker, and the mark of an owing on top

abbrev pub pack : Place → ℕ
pack p =
    cond p.owed 0x1000000000000 0 + p.asker * 0x100000000 + p.asked * 0x10000 + p.kind * 0x100 + p.thread

abbrev pub unpack : ℕ → Place
unpack x = record {
  asker = x / 0x100000000 % 0x10000;
  asked = x / 0x10000 % 0x10000;
  kind = x / 0x100 % 0x100;
  thread = x % 0x100;
  owed = leb 0x1000000000000 x;
}

-- the number of a place: it fits 49 bits, and the place is read back from it
pub record Packed (p : Place) (x : ℕ) : Type 0 where
  pub same : x ≡ pack p
  pub small : x < 0x2000000000000
  pub back : unpack x ≡ p

-- ---- tests

-- 'A wait is an accepted command'
abbrev pub is_open : Place → Bool
is_open x = not x.owed

-- 'An owing is a wait given up whose reply has not come.'
abbrev pub is_owed : Place → Bool
is_owed x = x.owed

abbrev pub on_thread : ℕ → Place → Bool
on_thread t x = eqb x.thread t

-- 'A thread's waits become a tree': these
abbrev pub open_on : ℕ → Place → Bool
open_on t x = is_open x && on_thread t x

abbrev pub owed_on : ℕ → Place → Bool
owed_on t x = is_owed x && on_thread t x

-- a wait of the thread that has exactly this asked address: a response answers it, and a give up names it
abbrev pub asks_exactly : ℕ → ℕ → Place → Bool
asks_exactly a t x = open_on t x && eqb x.asked a

-- 'this exact source is owed on this thread'
abbrev pub owes_exactly : ℕ → ℕ → Place → Bool
owes_exactly a t x = owed_on t x && eqb x.asked a

-- h is the asked handler
abbrev pub asks : ℕ → Place → Bool
asks h x = eqb (handler_of x.asked) h

-- h stands in it 'as asker or asked'
abbrev pub stands : ℕ → Place → Bool
stands h x = eqb (handler_of x.asker) h || asks h x

-- 'stands in this thread's tree as asker or asked'
abbrev pub stands_on : ℕ → ℕ → Place → Bool
stands_on t h x = open_on t x && stands h x

-- 'holds [an] open question itself on that thread': a wait of the thread that h asked
abbrev pub holds_on : ℕ → ℕ → Place → Bool
holds_on t h x = open_on t x && eqb (handler_of x.asker) h

-- 'handler stands in a wait as asker or asked'
abbrev pub stands_in : ℕ → Place → Bool
stands_in h x = is_open x && stands h x

-- 'is single and asked or owing on any thread; or is multi and owing on this thread'. A multi handler that is asked on this
-- thread stands in its tree, and is let through no more than one that is owing.
abbrev pub on_slot : ℕ → ℕ → Place → Bool
on_slot h t x = asks h x && (not (multi h) || on_thread t x)

-- an owing of the handler: 'Else its owings end'
abbrev pub owed_by : ℕ → Place → Bool
owed_by h x = is_owed x && asks h x

abbrev pub not_owed_by : ℕ → Place → Bool
not_owed_by h x = not (owed_by h x)

-- a wait that is given up 'becomes an owing'
abbrev pub owing : Place → Place
owing x = record {
  asker = x.asker;
  asked = x.asked;
  kind = x.kind;
  thread = x.thread;
  owed = true;
}
