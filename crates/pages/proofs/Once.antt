-- The contract leaves one page and one next session possible. Assumes nothing.
use Prim.Native.Nat.{ℕ}
use mathlib.Core.Path.{◌≡◌, sym, ap, ◌∙◌}
use mathlib.Core.List.{List}
use Rattle.router.proofs.States.{determined}
use Rattle.text.specs.Text.{Pen, pen}
use Rattle.run.specs.declared.Session.{Session}
use Rattle.run.specs.State.{Sight, sight_of}
use Rattle.pages.specs.declared.Page.{Page}
use Rattle.pages.specs.Pages.{Paged}

pub one-fill-page : (s : List ℕ) (w : Session) (old new new' : List ℕ) (p p' : Page) → Paged s w old new p → Paged s w old new' p'
    → (p ≡ p') × (new ≡ new')
one-fill-page s w old new new' p p' g h =
    let e : pen new p.used ≡ pen new' p'.used = g.text ∙ sym h.text in
    let m = g.more ∙ sym h.more in
    let v : sight_of p.next ≡ sight_of p'.next = g.moved ∙ sym h.moved in
    let r = determined p.next.router p'.next.router g.ready.law h.ready.law (ap (λ (x : Sight). x.view) v) in
    ((λ i. record { used = (e i).at; more = m i; next = record { cursor = (v i).cursor; router = r i } }), ap (λ (x : Pen). x.bytes) e)
