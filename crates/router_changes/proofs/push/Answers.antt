-- The first free cell is taken, and a full list is left.
use Rattle.std.proofs.Common.{refl}
use Rattle.lists.proofs.Arrays.{push-room}
use Rattle.places.specs.Places.{pack, unpack}
use Rattle.places.proofs.Room.{newest, unpushed}
use Rattle.router_changes.proofs.push.Goals as goal

pub returns-then-n-ge48 : goal.returns-then-n-ge48
returns-then-n-ge48 c =
    let a = c.args in
    rw (unpushed a.place a.list.now a.n c.if-n-ge48.true) (record { holds = refl; law = c.requires })

pub returns : goal.returns
returns c =
    let p = c.pack_of.ensures in
    let a = c.args in
    let k = c.if-n-ge48.false in
    rw (newest a.place a.list.now a.n k) (push-room 48 pack unpack _ _ c.requires _ _ k p.same p.back)
