-- The contracts leave one item, one reply and one next state possible. Assumes nothing.
use Prim.Native.Nat.{ℕ}
use mathlib.Core.Path.{◌≡◌, sym, ap, ◌∙◌}
use mathlib.Core.List.{List}
use Rattle.router.proofs.States.{determined}
use Rattle.run.specs.declared.Session.{Session}
use Rattle.run.specs.declared.Turn.{Turn}
use Rattle.run.specs.declared.Went.{Went}
use Rattle.run.specs.State.{hands_out, Shown, shown, Turns, turn_of}
use Rattle.run.specs.Start.{Begins}

pub one-next : (s : List ℕ) (w : Session) (t t' : Turn) → Turns s w t → Turns s w t' → t ≡ t'
one-next s w t t' g h =
    let e : shown t ≡ shown t' = g.same ∙ sym h.same in
    let m : t.more ≡ t'.more = g.more ∙ (ap (λ (x : Shown). hands_out x.item) e ∙ sym h.more) in
    let q : t.next.router ≡ t'.next.router =
    determined t.next.router t'.next.router g.ready.law h.ready.law (ap (λ (x : Shown). x.view) e) in
    λ i. record { item = (e i).item; reply = (e i).reply; more = m i; next = record { cursor = (e i).cursor; router = q i } }

-- in place: one item, and one content of the lent arrays
pub one-next-in : (s : List ℕ) (w : Session) (n : ℕ) (x x' : Went) (c c' l l' : List ℕ) → Turns s w (turn_of x c n l) → Turns s w (turn_of x' c' n l')
    → (x ≡ x') × (l ≡ l') × (c ≡ c')
one-next-in s w n x x' c c' l l' g h =
    let e = one-next s w (turn_of x c n l) (turn_of x' c' n l') g h in (
      (λ i. record { item = (e i).item; reply = (e i).reply; more = (e i).more; cursor = (e i).next.cursor; len = (e i).next.router.len }),
      ap (λ (t : Turn). t.next.router.list) e,
      ap (λ (t : Turn). t.next.router.cells) e,
    )

pub one-begin : (s : List ℕ) (b b' : Session) → Begins s b → Begins s b' → b ≡ b'
one-begin s b b' g h = g.same ∙ sym h.same
