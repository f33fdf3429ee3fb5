-- The contracts leave one answer, one content of the arrays and one of the reply buffer possible. Two calls are compared that were lent the same.
use Prim.Native.Nat.{ℕ}
use Rattle.std.specs.Prelude.{Option}
use mathlib.Core.Path.{◌≡◌, sym, ◌∙◌}
use mathlib.Core.List.{List, []}
use denote.Ref.{MutBor}
use Rattle.lists.proofs.Arrays.{one-array}
use Rattle.message.specs.declared.Head.{Head}
use Rattle.table.specs.Table.{pack, unpack}
use Rattle.place.specs.declared.Place.{Place}
use Rattle.places.proofs.Once.{one_list}
use Rattle.rules.specs.View.{View}
use Rattle.rules.specs.declared.Outcome.{Outcome}
use Rattle.ruling.specs.Ruling.{Shown, lent}
use Rattle.routing.specs.declared.Step.{Step}
use Rattle.routing.specs.Steps.{Placing, Moving, OnMessage, OnResponse, OnGiveUp, OnReplaced}

same : (p q : Outcome) (m n : ℕ) → p ≡ q → m ≡ n → ◌≡◌ {A = Step} (record { outcome = p; len = m }) (record { outcome = q; len = n })
same p q m n e f = cc

module _ (o : Outcome) (l l' : List ℕ) (s s' : Step) where
  one-placing : (ps : List Place) → Placing o ps l s → Placing o ps l' s' → (s ≡ s') × (l ≡ l')
  one-placing ps a b =
      let d = one_list _ l l' s.len s'.len a.places b.places in
      (same s.outcome s'.outcome s.len s'.len (a.outcome ∙ sym b.outcome) d.0, d.1)

  one-moving : (v : View) (c c' : List ℕ) (n : ℕ) → Moving o v c n l s → Moving o v c' n l' s' → (s ≡ s') × (l ≡ l') × (c ≡ c')
  one-moving v c c' n x y =
      let p = one-placing v.places x.placing y.placing in
      (p.0, p.1, (one-array 16 pack unpack _ c c' n n x.table y.table).1)

module _ (list l l' : MutBor (List ℕ)) (k : ℕ) (s s' : Step) where
  module _ (cells c c' : MutBor (List ℕ)) (n : ℕ) where
    pub one-on-message : (message : Shown) (reply b b' : MutBor (List ℕ))
        → OnMessage (lent cells c) n (lent list l) k message (lent reply b) s
        → OnMessage (lent cells c') n (lent list l') k message (lent reply b') s'
        → (s ≡ s') × (l.now ≡ l'.now) × (c.now ≡ c'.now) × (b.now ≡ b'.now)
    one-on-message message reply b b' x y =
        let p = one-moving _ l.now l'.now s s' _ c.now c'.now n x.moving y.moving in
        (p.0, p.1, p.2, x.reply ∙ sym y.reply)

    pub one-on-response : (h : Head) (coded : Option ℕ)
        → OnResponse (lent cells c) n (lent list l) k h coded s
        → OnResponse (lent cells c') n (lent list l') k h coded s'
        → (s ≡ s') × (l.now ≡ l'.now) × (c.now ≡ c'.now)
    one-on-response h coded = one-moving _ l.now l'.now s s' _ c.now c'.now n

    pub one-on-replaced : (address : ℕ)
        → OnReplaced (lent cells c) n (lent list l) k address s
        → OnReplaced (lent cells c') n (lent list l') k address s'
        → (s ≡ s') × (l.now ≡ l'.now) × (c.now ≡ c'.now)
    one-on-replaced address = one-moving _ l.now l'.now s s' _ c.now c'.now n

  pub one-on-give-up : (thread address : ℕ) (reply b b' : MutBor (List ℕ))
      → OnGiveUp (lent list l) k thread address (lent reply b) s
      → OnGiveUp (lent list l') k thread address (lent reply b') s'
      → (s ≡ s') × (l.now ≡ l'.now) × (b.now ≡ b'.now)
  one-on-give-up thread address reply b b' f g =
      let x = f [] in let y = g [] in
      let p = one-placing _ l.now l'.now s s' _ x.placing y.placing in
      (p.0, p.1, x.reply ∙ sym y.reply)
