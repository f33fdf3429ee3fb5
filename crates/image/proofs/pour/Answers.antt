-- One slot a round.
use Rattle.std.proofs.Common.{◌+◌, length, take, drop, ap, sym, ◌∙◌, arith}
use Rattle.book.specs.declared.Entry.{Entry}
use Rattle.image.proofs.Restores.{poured-done, poured-more, slot-long, slot-there, slot_at}
use Rattle.layout.proofs.Readers.{entries-count}
use Rattle.layout.specs.Judged.{count_in, entries_in}
use Rattle.slots.proofs.Slots.{put-long}
use Rattle.slots.specs.Slots.{put}
use Rattle.image.proofs.pour.Goals as goal

pub loop-i-preserved : goal.loop-i-preserved
loop-i-preserved c =
    let s = c.loop-i in
    let img = c.args.img.now in
    let i = s.i in
    let x = c.entry_in-x in
    let slot = take 383 (drop (slot_at img i) img) in
    let filled = c.fill_slot.ensures ∙ ap (put s.area x.result.slot) (slot-there img c.held-n.result i c.held-n.ensures.0) in
    let long = put-long s.area slot x.result.slot s.invariant.1 (slot-long img i (omega arith) c.requires.1) x.ensures.1 in
    let more = poured-more (entries_in img) img i (slot_at img i) (slot_at img (i + 1)) s.area _ (omega (arith, entries-count img 64 (count_in img))) (omega arith)
    (filled ∙ ap (λ (y : Entry). put s.area y.slot slot) x.ensures.0) in
    (omega arith, ap length filled ∙ long ∙ s.invariant.1, more ∙ s.invariant.2)

pub returns : goal.returns
returns c =
    let img = c.args.img.now in
    sym (poured-done (entries_in img) img c.loop-i.i (slot_at img c.loop-i.i) c.loop-i.area (omega (arith, entries-count img 64 (count_in img)))) ∙ c.loop-i.invariant.2
