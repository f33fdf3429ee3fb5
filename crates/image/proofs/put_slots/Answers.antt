-- One slot a round: the part of the area that is read is the entry's slot.
use Rattle.std.proofs.Common.{◌≡◌, ℕ, ◌+◌, ◌*◌, ◌<◌, List, length, get_or, ap, sym, ◌∙◌, arith}
use Rattle.book.specs.Book.{Lawful, entries_of, no_entry}
use Rattle.book.specs.declared.Book.{Book}
use Rattle.book.specs.declared.Entry.{Entry}
use Rattle.image.proofs.Flats.{flat-done, flat-more, slots-wide}
use Rattle.image.proofs.Saves.{narrow_at, slot_whole}
use Rattle.image.specs.Image.{slot_bytes}
use Rattle.lists.specs.Lists.{over}
use Rattle.slots.proofs.Slots.{window-long}
use Rattle.slots.specs.Slots.{bytes_of}
use Rattle.image.proofs.put_slots.Goals as goal

module _ (b : Book) (area : List ℕ) (i : ℕ) (law : Lawful b area) (h : i < length (entries_of b)) where
  abbrev here : Entry
  here = get_or (entries_of b) i no_entry

  read : (x : Entry) (part : List ℕ) → x ≡ here → part ≡ bytes_of area x.slot 0 383 → part ≡ slot_bytes area here
  read x part e p = p ∙ slot_whole area x here law.roomy (narrow_at b area i law h).slot e

  long : (x : Entry) (part : List ℕ) → x ≡ here → part ≡ bytes_of area x.slot 0 383 → length part ≡ 383
  long x part e p = ap length (read x part e p) ∙ window-long area here.slot law.roomy (narrow_at b area i law h).slot

pub put-requires : goal.put-requires
put-requires c =
    let size = long c.args.b c.args.area.now c.loop-i.i c.requires.1.law (omega arith) c.entry_at-x.result c.part.result.now c.entry_at-x.ensures c.part.ensures.bytes in
    omega (arith, size)

pub loop-i-preserved : goal.loop-i-preserved
loop-i-preserved c =
    let s = c.loop-i in
    let l = entries_of c.args.b in
    let law = c.requires.1.law in
    let area = c.args.area.now in
    let got = read c.args.b area s.i law (omega arith) c.entry_at-x.result c.part.result.now c.entry_at-x.ensures c.part.ensures.bytes in
    let r = flat-more (slot_bytes area) 383 l (slots-wide area c.args.b.kinds l law.roomy law.fit) no_entry c.args.from s.out _ s.i (omega arith) (omega arith)
    (c.put.ensures ∙ ap (over s.out (c.args.from + s.i * 383)) got) in
    (omega arith, r.0 ∙ s.invariant.1, r.1 ∙ s.invariant.2)

pub returns : goal.returns
returns c =
    let l = entries_of c.args.b in
    let law = c.requires.1.law in
    sym (flat-done (slot_bytes c.args.area.now) 383 l (slots-wide c.args.area.now c.args.b.kinds l law.roomy law.fit) no_entry c.args.from c.loop-i.out c.loop-i.i (omega arith)) ∙ c.loop-i.invariant.2
