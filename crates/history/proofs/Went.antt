-- What went out: a response to the asker, from the asked address, on the thread, with the code.
use Prim.Native.Nat.{ℕ}
use Rattle.tapa.specs.declared.Refusal.{Refusal}
use Rattle.message.specs.declared.Head.{Head}
use Rattle.std.specs.Prelude.{Result, Ok, Err}
use mathlib.Core.Path.{◌≡◌, refl}
use mathlib.Core.Logic.{inl, inr}
use mathlib.Core.Bool.{true, false}
use mathlib.Core.List.{List}
use lib.ListN.{replicate, take}
use Rattle.tapa.specs.Codes.{handler_error}
use Rattle.lists.specs.Lists.{onto}
use Rattle.lists.proofs.Tests.{clash, differ}
use Rattle.message.specs.Message.{read_of, part_of, code_of, message_of, response_of}
use Rattle.message.proofs.Back.{reads-response, code-response}
use Rattle.rules.specs.declared.Outcome.{Outcome}
use Rattle.rules.specs.declared.Outcome.TheVariants.{Passed, Answered, Swallowed, Event, Turned, Given, Reset, Refused}
use Rattle.rules.specs.Judge.{Call, message, give_up, replaced}
use Rattle.rules.specs.Says.{ReadSays, Says}
use Rattle.history.specs.History.{Step, entry, bytes_of, goes_out, replies, named, Reply, Went}

-- a response that goes on is itself the reply
read-reply : (s : List ℕ) (asked asker t k : ℕ) (r : Result Head Refusal) → read_of s ≡ r → ReadSays r (code_of (part_of s)) (Answered asked asker t k)
    → Reply s asker asked t k
read-reply s asked asker t k (Err r) e y = clash false y refl
read-reply s asked asker t k (Ok h) e y =
    record { head = h; read = e; to-asker = y.2; from-asked = y.1; kind = y.0; on-thread = y.3; with_code = y.4 }

passed_on : (c : Call) (asked asker t k : ℕ) → Says c (Answered asked asker t k) → Reply (bytes_of c) asker asked t k
passed_on (message s) asked asker t k y = read-reply s asked asker t k (read_of s) refl y
passed_on (give_up u a) asked asker t k (inl e) = clash false e refl
passed_on (give_up u a) asked asker t k (inr e) = let z = e.1 in differ (cc)
passed_on (replaced a) asked asker t k (inl e) = clash false e refl
passed_on (replaced a) asked asker t k (inr e) = differ (cc)

-- a response that the router made stands in the reply buffer's first ten bytes
made : (asker asked t k : ℕ) (buffer : List ℕ) → Reply (take 10 (onto (response_of asker asked t k) buffer)) asker asked t k
unfolding message_of response_of
made asker asked t k buffer = record {
  head = _;
  read = reads-response asker asked t k;
  to-asker = refl;
  from-asked = refl;
  kind = refl;
  on-thread = refl;
  with_code = code-response asker asked t k;
}

replied : (s : Step) (o : Outcome) → Says s.call o → replies o ≡ true
    → Reply (goes_out s o) (named o).asker (named o).asked (named o).thread (named o).code
replied s (Passed asker asked kind t) y e = clash false e refl
replied s (Answered asked asker t k) y e = passed_on s.call asked asker t k y
replied s (Swallowed asked t) y e = clash false e refl
replied s Event y e = clash false e refl
replied s (Turned asker asked t k) y e = made asker asked t k (replicate s.room 0)
replied s (Given asker asked t) y e = made asker asked t handler_error (replicate s.room 0)
replied s (Reset h) y e = clash false e refl
replied s (Refused r) y e = clash false e refl

pub went : (s : Step) (o : Outcome) → Says s.call o → Went (entry s o)
went s o y = record { part = refl; reply = replied s o y }
