-- The event behind the gap moves into it; the last place in use is then freed.
use Rattle.std.proofs.Common.{◌≡◌, ◌+◌, ◌-◌, refl, arith}
use Rattle.queue.proofs.Laws.{moving-starts, moving-goes, moving-ends}
use Rattle.event_changes.proofs.close_gap.Goals as goal

pub loop-older-init : goal.loop-older-init
loop-older-init c =
    let q = c.args.queue.now in
    let e : q.count - 1 - (q.count - 1 - c.args.newer) ≡ c.args.newer = omega arith in
    record {
      start = refl;
      inside = omega arith;
      moving = rw e (moving-starts q _ c.requires.lawful c.requires.newer_lt_count);
    }

pub loop-older-preserved : goal.loop-older-preserved
loop-older-preserved c =
    let n = c.args.queue.now.count in
    let h = c.loop-older.older in
    let i = c.loop-older.invariant in
    let gap : n - 1 - (n - 1 - h) ≡ h = omega arith in
    let behind : n - (n - 1 - h) ≡ h + 1 = omega arith in
    let less : n - 1 - (h + 1) ≡ n - 1 - h - 1 = omega arith in
    record {
      start = i.start;
      inside = omega arith;
      moving = rw (c.place_from-gap.ensures, c.place_from-behind.ensures, i.start, less) (rw (gap, behind) at (moving-goes _ _ _ _ (n - 1 - h) (omega arith) i.moving));
    }

pub returns : goal.returns
returns c =
    let i = c.loop-older.invariant in
    rw (c.place_from-newest.ensures, i.start) (moving-ends _ _ _ _ _ c.requires.lawful.begun (omega arith) i.moving)
