-- The table Search Type Coding, written out: which search types are known, and what each of them looks at.
use Prim.Native.Nat.{ℕ, zero, suc}
use mathlib.Core.Path.{◌≡◌, refl}
use mathlib.Core.Bool.{◌&&◌, ◌||◌}
use native.Mathlib.Omega.{arith}
use lib.Dec.{eqb}
use borrow.Author.Tests.{le-leb, lt-leb, ne_eqb}
use Rattle.queue.specs.declared.Event.{Event}
use Rattle.queue.specs.declared.Search.{Search}
use Rattle.queue.specs.Events.{known_search, meets}

-- bit 1 is by location, bit 2 by type; any other bit, or none, is unknown: of all numbers, 1, 2 and 3 are known
pub known-search : (by : ℕ) → known_search by ≡ (eqb by 0x01 || (eqb by 0x02 || eqb by 0x03))
unfolding known_search
known-search zero = refl
known-search (suc zero) = refl
known-search (suc (suc zero)) = refl
known-search (suc (suc (suc zero))) = refl
known-search (suc (suc (suc (suc n)))) =
    let m : ℕ = suc (suc (suc (suc n))) in
    rw (le-leb 1 m (omega arith), lt-leb m 3 (omega arith), ne_eqb m 1 (λ e. omega arith), ne_eqb m 2 (λ e. omega arith), ne_eqb m 3 (λ e. omega arith))

abbrev search : ℕ → Event → Search
search by e = record { by = by; wanted = e }

pub by-location : (wanted e : Event) → meets (search 0x01 wanted) e ≡ eqb e.location wanted.location
unfolding meets
by-location wanted e = refl

pub by-type : (wanted e : Event) → meets (search 0x02 wanted) e ≡ eqb e.kind wanted.kind
unfolding meets
by-type wanted e = refl

pub by_both : (wanted e : Event) → meets (search 0x03 wanted) e ≡ (eqb e.kind wanted.kind && eqb e.location wanted.location)
unfolding meets
by_both wanted e = refl
