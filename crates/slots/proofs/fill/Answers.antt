-- Zeros, the key over them, the data behind it: there is room for both, so each copy takes all its bytes.
use Rattle.std.proofs.Common.{◌≡◌, ◌++◌, ◌-◌, ℕ, List, length, length-take, length-drop, take, drop, ap, ◌∙◌, arith}
use Rattle.slots.proofs.Slots.{filled}
use Rattle.slots.proofs.fill.Goals as goal

pub returns : goal.returns
returns c =
    let a = c.args in
    let key = a.key.now in
    let d = a.bytes.now in
    let h0 = c.fill.new.self in
    let h1 = c.copy-n.new.to in
    let n = c.copy-n.result in
    let m = c.copy-m.result in
    let h : List ℕ = take (length h1 - n) (drop n h1) in
    let en : n ≡ length key = omega arith in
    let em : m ≡ length d = omega (arith, length-take {A = ℕ}, length-drop {A = ℕ}) in
    filled a.slot.now key d h0 h1 _ n c.requires (c.fill.ensures.after (λ y e. e)) en
    (c.copy-n.ensures.bytes ∙ ap (λ (k : ℕ). take k key ++ drop k h0) en)
    (c.copy-m.ensures.bytes ∙ ap (λ (k : ℕ). take k d ++ drop k h) em)
