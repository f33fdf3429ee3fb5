-- Where a response goes: after any calls from a fresh joiner, to the source of the last '42' command that was kept on its thread.
use Prim.Native.Nat.{ℕ, ◌+◌, ◌≤◌}
use Rattle.std.specs.Prelude.{Some, None}
use mathlib.Core.Path.{◌≡◌, refl, ◌∙◌}
use mathlib.Core.Bool.{Bool, true, false, cond}
use mathlib.Core.List.{List, ◌++◌}
use lib.ListN.{length, get_or}
use native.Mathlib.Omega.{arith}
use Rattle.lists.specs.Lists.{All}
use Rattle.tapa.specs.Numbers.{two_bytes}
use Rattle.tapa.specs.Codes.{response, successful}
use Rattle.message.specs.Message.{message_of}
use Rattle.joiner.specs.Joining.{fresh_joiner}
use Rattle.joiner.specs.Sending.{together, Small, response_sent, Delivers}
use Rattle.joiner.specs.Sources.{Call, joiner_after, last_source}
use Rattle.joiner.proofs.Delivered.{response-delivered}
use Rattle.joiner.proofs.Sources.{fresh-last-kept}

held : (b : Bool) (x s : ℕ) → cond b (Some x) None ≡ Some s → (b ≡ true) × (x ≡ s)
held true x s e = (refl, cc)
held false x s e = absurd (let z : ◌≡◌ {A = ℕ} 0 1 = cc in omega arith)

-- however the response is cut
pub response-to-last : (calls : List Call) (first : List ℕ) (rest : List (List ℕ)) (b : List ℕ) → (joiner_after fresh_joiner calls).joined ≡ 0
    → Small first → All Small rest → 1032 ≤ length b
    → (destination source thread s : ℕ) (part : List ℕ) → thread ≤ 7 → length part + 2 ≤ 1024
    → last_source calls thread None ≡ Some s → together first rest ≡ response_sent destination source thread part
    → Delivers (joiner_after fresh_joiner calls) first rest (message_of s source response thread (part ++ two_bytes successful)) b
response-to-last calls first rest b idle small smalls room destination source thread s part t few last e =
    let j = joiner_after fresh_joiner calls in
    let k = held (get_or j.kept thread false) (get_or j.sources thread 0) s (fresh-last-kept calls thread t ∙ last) in
    rw k.1 at (response-delivered j first rest b idle small smalls room destination source thread part t few k.0 e)
