-- The oldest of all goes without a search, any other is looked for.
use Rattle.std.proofs.Common.{sym}
use Rattle.lists.proofs.Numbers.{find-none-without, end-found}
use Rattle.queue.specs.Places.{events_of}
use Rattle.queue.proofs.Laws.{len, met-inside}
use Rattle.queue.proofs.Taking.{rest-left, goes_on, stays}
use Rattle.event_changes.proofs.take.Goals as goal

pub returns-then-is_met : goal.returns-then-is_met
returns-then-is_met c =
    let q = c.args.queue.now in
    let es = events_of q in
    let there = sym c.in-Some.ensures in
    let met = sym c.if-is_met.ensures in
    rw (rest-left c.args.event _ q.start es there met, goes_on c.args.event _ q.start es there met, len q.places q.start 0 q.count) c.drop_oldest.ensures

pub close_gap-requires-clause-newer_lt_count : goal.close_gap-requires-clause-newer_lt_count
close_gap-requires-clause-newer_lt_count c = met-inside _ c.args.queue.now _ (sym c.in-Some-find.ensures)

pub returns-in_default-find : goal.returns-in_default-find
returns-in_default-find c =
    let q = c.args.queue.now in
    record {
      holds = record { events = sym (find-none-without _ _ (sym c.in_default-find.ensures)); law = c.requires };
      begins = sym (stays c.args.event _ q.start (events_of q) (sym c.in-Some.ensures) (sym c.if-is_met.ensures));
    }

pub returns-in-Some-find : goal.returns-in-Some-find
returns-in-Some-find c =
    let q = c.args.queue.now in
    rw (← end-found _ _ _ (sym c.in-Some-find.ensures), stays c.args.event _ q.start (events_of q) (sym c.in-Some.ensures) (sym c.if-is_met.ensures)) c.close_gap.ensures
