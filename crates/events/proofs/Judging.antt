-- Laws of what is decided: where a queue is empty, and which event is taken.
use mathlib.Core.Path.{◌≡◌, refl}
use Rattle.std.specs.Prelude.{Some, None}
use mathlib.Core.Bool.{true, false}
use mathlib.Core.List.{List, [], ◌∷◌}
use Rattle.lists.specs.Lists.{first, without}
use Rattle.queue.specs.declared.Event.{Event}
use Rattle.queue.specs.declared.Search.{Search}
use Rattle.std.specs.Prelude.{Some, None}
use Rattle.queue.specs.Events.{oldest, known_search, meets}
use Rattle.queue.proofs.Taking.{like-itself, takes-found}
use Rattle.events.specs.declared.Command.TheVariants.{Get, Find}
use Rattle.events.specs.declared.Outcome.TheVariants.{Taken, Coded}
use Rattle.events.specs.Events.{is_empty, judge, apply}

-- a queue without an oldest event is empty
pub none-empty : (es : List Event) → oldest es ≡ None → is_empty es ≡ true
none-empty [] e = refl
none-empty (x ∷ es) e = cc

pub one-filled : (es : List Event) (x : Event) → oldest es ≡ Some x → is_empty es ≡ false
one-filled [] x e = cc
one-filled (y ∷ es) x e = refl

-- ---- Find: 'unknown type 'FFFB', empty 'FF72', no match 'FF73', in that order'

-- an unknown type, also where the queue is empty
pub find-unknown : (s : Search) (es : List Event) → known_search s.by ≡ false → judge es (Find s) ≡ Coded 0xFFFB
unfolding judge
find-unknown s es n = rw n

-- a known type, in an empty queue
pub find-empty : (s : Search) → known_search s.by ≡ true → judge [] (Find s) ≡ Coded 0xFF72
unfolding judge
find-empty s k = rw k

-- a known type, events, and none that meets it
pub find-unmet : (s : Search) (e : Event) (es : List Event) → known_search s.by ≡ true → first (meets s) (e ∷ es) ≡ None → judge (e ∷ es) (Find s) ≡ Coded 0xFF73
unfolding judge
find-unmet s e es k n = rw (k, n)

-- ---- a taken event is the one that was found

-- 'Get takes the oldest'
pub get-takes-oldest : (e : Event) (es : List Event) → apply (judge (e ∷ es) Get) (e ∷ es) ≡ es
unfolding judge apply
get-takes-oldest e es = rw (like-itself e)

-- 'Find takes the oldest that meets its search type'
pub find-takes-oldest : (s : Search) (e : Event) (es : List Event) → first (meets s) es ≡ Some e → apply (Taken e) es ≡ without (meets s) es
unfolding apply
find-takes-oldest s e es f = takes-found (meets s) e es f
