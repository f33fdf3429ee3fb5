-- Demand 1, from the rooms: each contract leaves one result.
use mathlib.Core.Path.{◌≡◌}
use Rattle.lists.proofs.Tests.{one_value}
use Rattle.message.proofs.Once as message
use Rattle.table.proofs.Once as table
use Rattle.place.proofs.Once as place
use Rattle.places.proofs.Once as places
use Rattle.ruling.proofs.Once as ruling
use Rattle.routing.proofs.Once as routing
use Rattle.router.proofs.Once as router
use Rattle.sending.proofs.Once as sending
use Rattle.replies.proofs.Once as replies
use Rattle.queue.proofs.Once as queue
use Rattle.events.proofs.Once as events
use Rattle.store.proofs.Once as store
use Rattle.cutter.proofs.Once as cutter
use Rattle.slots.proofs.Once.{one-slot-part}
use Rattle.joiner.proofs.Once as joiner
use Rattle.run.proofs.Once as run
use Rattle.pages.proofs.Once as pages
use Rattle.text.proofs.Once.{one-writes}
use Rattle.forms.proofs.Once.{one-wording}
use Rattle.hexes.proofs.Once as hexes
use Rattle.demands.specs.One.{One, OneResult}

-- an equation leaves one value
pub equations : {A : Type 0} (v : A) → One (λ (x : A). x ≡ v)
equations v x y = one_value x y v

pub one-result : OneResult
one-result = record {
  write = λ d s k t part before w v a b. message.one-write d s k t part before a b w v;
  data-part = message.one-data-part;
  set-open = λ before n h to m k. table.one-set-open before m k n h to;
  pack-of = place.one-pack-of;
  list = λ ps n k l m. places.one_list ps l m n k;
  rule-for = ruling.one-rule-for;
  on-message = routing.one-on-message;
  on-response = routing.one-on-response;
  on-give-up = routing.one-on-give-up;
  on-replaced = routing.one-on-replaced;
  route = λ r message before x y a b. router.one-route r x y message before a b;
  give-up = λ r thread address before x y a b. router.one-give-up r x y thread address before a b;
  replaced = λ r address x y. router.one-replaced r x y address;
  route-in = router.one-route-in;
  give-up-in = router.one-give-up-in;
  replaced-in = router.one-replaced-in;
  part-to-send = sending.one-part-to-send;
  reply = λ h part before x y a b. replies.one-reply h part before a b x y;
  pack = queue.one-pack;
  queue = λ es start p q. queue.one-queue p q es start;
  lent-queue = λ es start s t l m. queue.one_lent l m s t es start;
  lent-whole = λ q. (queue.lent-whole q).0;
  handle = λ q message before h k a b. events.one-handle q message before a b h k;
  slot-part = λ area s at n p q. one-slot-part area p q s at n;
  store-handle = store.one-handle;
  part-to-cut = λ message x y p q. let s = cutter.one-part-to-cut message x y p q in (s.bytes, s.place);
  cut-next = λ part thread at before h k a b. cutter.one-cut-next part thread at before a b h k;
  next = λ c before s t a b. cutter.one-next c before a b s t;
  first-command = λ message before f g a b. cutter.one-first-command message before a b f g;
  begin = λ message b c p q. let s = cutter.one-begin message b c p q in (s.0, (s.1.0.bytes, s.1.0.place), s.1.1.0, s.1.1.1);
  join = λ j piece before r t a b. joiner.one-join j piece before a b r t;
  joined-part = joiner.one-joined-part;
  get-next = λ thread before w v a b. joiner.one-get-next thread before a b w v;
  session-begin = run.one-begin;
  session-next = run.one-next;
  session-next-in = run.one-next-in;
  fill-page = λ input w before p q a b. pages.one-fill-page input w before a b p q;
  text-writes = one-writes;
  wording = one-wording;
  hex-read = hexes.one-read;
  hex-write = hexes.one-write;
}
