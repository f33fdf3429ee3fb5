-- The law gives the entry a slot of the area. Rattle finds this too; the answer has a wrong wipe refused at once.
use Rattle.std.proofs.Common.{◌≡◌, ℕ, get_or, ap, ◌∙◌}
use Rattle.book.specs.Book.{entries_of, no_entry}
use Rattle.book.specs.declared.Entry.{Entry}
use Rattle.record_commands.proofs.Steps.{fits-there}
use Rattle.slots.proofs.Slots.{wiped-is}
use Rattle.slots.specs.Slots.{wiped}
use Rattle.record_commands.proofs.erased.Goals as goal

pub returns : goal.returns
returns c =
    let a = c.args in
    let law = c.requires.lawful in
    let its : c.entry_at-x.result.slot ≡ (get_or (entries_of a.b) a.«at» no_entry).slot = ap (λ (x : Entry). x.slot) c.entry_at-x.ensures in (
      c.removed.ensures,
      c.wipe.ensures ∙ ap (λ (n : ℕ). wiped a.area.now n) its
          ∙ wiped-is a.area.now _ law.roomy (fits-there a.b a.area.now law a.«at» c.requires.at_in_bounds).slot,
    )
