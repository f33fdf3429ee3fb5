-- Sums at the desk, C9, and request 01: for every Get and every Flush, from any source and on any thread, and every lent buffer that is large enough.
use Prim.Native.Nat.{ℕ, ◌+◌, ◌*◌, ◌/◌, ◌%◌, ◌≤◌, ◌<◌}
use Rattle.std.specs.Prelude.{Some, Ok}
use mathlib.Core.Path.{◌≡◌, refl, ap, ◌∙◌}
use mathlib.Core.Bool.{false}
use mathlib.Core.List.{List, [], ◌∷◌}
use native.Mathlib.Omega.{arith}
use lib.Dec.{eqb}
use lib.ListN.{length, drop, get_or, length-drop}
use borrow.Author.Tests.{le-ltb}
use Rattle.lists.specs.Lists.{onto}
use Rattle.tapa.specs.Address.{handler_of}
use Rattle.tapa.specs.Codes.{successful, no_events, response, get_event, flush_queue, event_handler}
use Rattle.tapa.specs.Numbers.{word_at}
use Rattle.tapa.specs.Said.{says, reply as replies}
use Rattle.message.specs.Message.{head_of, part_of, message_of, response_of}
use Rattle.message.proofs.Laws.{part-of-message}
use Rattle.message.proofs.Sums.{c2}
use Rattle.replies.specs.Said.{said_answer}
use Rattle.queue.specs.declared.Event.{Event}
use Rattle.events.specs.declared.Command.TheVariants.{Get, Flush}
use Rattle.events.specs.Events.{elsewhere, checked, command_of, judge, apply, Answered, handled}

module _ (s : List ℕ) (short : length s ≡ 8) (none : word_at s 6 ≡ 0) where
  no-data : length (part_of s) ≡ 0
  no-data = ap length (part-of-message s (head_of s) (c2 s short none)) ∙ length-drop 8 s ∙ omega arith

  taken_in : (room kind : ℕ) → 13 ≤ room → handler_of (word_at s 0) ≡ event_handler → get_or s 4 0 ≡ kind → eqb kind response ≡ false → checked room s ≡ Ok (head_of s)
  unfolding elsewhere
  taken_in room kind enough there is asks = rw (le-ltb room 13 enough, c2 s short none, there, is, asks)

  is_get : get_or s 4 0 ≡ get_event → command_of (get_or s 4 0) (part_of s) ≡ Get
  unfolding command_of
  is_get get = rw (get, no-data)

  is-flush : get_or s 4 0 ≡ flush_queue → command_of (get_or s 4 0) (part_of s) ≡ Flush
  unfolding command_of
  is-flush flush = rw (flush, no-data)

  -- 'C9 Get on an empty queue: 'FF72'.'
  pub c9 : (reply : List ℕ) → 13 ≤ length reply → handler_of (word_at s 0) ≡ event_handler → get_or s 4 0 ≡ get_event
      → handled [] s reply
      ≡ record { answer = Ok (Some 10); events = []; reply = onto (response_of (word_at s 2) (word_at s 0) (get_or s 5 0) no_events) reply }
  unfolding handled judge apply response_of
  c9 reply enough there get = rw (taken_in (length reply) get_event enough there get refl, is_get get)

  pub c9-said : (reply : List ℕ) → 13 ≤ length reply → handler_of (word_at s 0) ≡ event_handler → get_or s 4 0 ≡ get_event
      → said_answer (handled [] s reply).answer ≡ says replies (10 ∷ [])
  c9-said reply enough there get = ap (λ (w : Answered). said_answer w.answer) (c9 reply enough there get)

  -- ---- request 01

  -- 'it answers 'FF72' and stays empty'
  pub flush-none : (reply : List ℕ) → 13 ≤ length reply → handler_of (word_at s 0) ≡ event_handler → get_or s 4 0 ≡ flush_queue
      → handled [] s reply
      ≡ record { answer = Ok (Some 10); events = []; reply = onto (response_of (word_at s 2) (word_at s 0) (get_or s 5 0) no_events) reply }
  unfolding handled judge apply response_of
  flush-none reply enough there flush = rw (taken_in (length reply) flush_queue enough there flush refl, is-flush flush)

  -- 'a queue with events still answers '0000'', and is empty then
  pub flush-some : (e : Event) (es : List Event) (reply : List ℕ) → 13 ≤ length reply → handler_of (word_at s 0) ≡ event_handler → get_or s 4 0 ≡ flush_queue
      → handled (e ∷ es) s reply
      ≡ record { answer = Ok (Some 10); events = []; reply = onto (response_of (word_at s 2) (word_at s 0) (get_or s 5 0) successful) reply }
  unfolding handled judge apply response_of
  flush-some e es reply enough there flush = rw (taken_in (length reply) flush_queue enough there flush refl, is-flush flush)

-- ---- C9 in bytes: any destination whose handler is '0700', any source and any thread; the buffer's rest stays as it was
module _ (d1 d2 s1 s2 thread : ℕ) (buffer : List ℕ) (destination : d2 < 256) (source : s2 < 256)
    (there : handler_of (d1 * 256 + d2) ≡ 0x0700) (enough : 13 ≤ length buffer) where
  abbrev get : List ℕ
  get = d1 ∷ d2 ∷ s1 ∷ s2 ∷ 0xC1 ∷ thread ∷ 0x00 ∷ 0x00 ∷ []

  pub c9-bytes : handled [] get buffer
      ≡ record { answer = Ok (Some 10); events = []; reply = s1 ∷ s2 ∷ d1 ∷ d2 ∷ 0xFF ∷ thread ∷ 0x00 ∷ 0x02 ∷ 0xFF ∷ 0x72 ∷ drop 10 buffer }
  unfolding message_of response_of
  c9-bytes =
      let a : (s1 * 256 + s2) / 256 ≡ s1 = omega arith in
      let b : (s1 * 256 + s2) % 256 ≡ s2 = omega arith in
      let c : (d1 * 256 + d2) / 256 ≡ d1 = omega arith in
      let d : (d1 * 256 + d2) % 256 ≡ d2 = omega arith in
      c9 get refl refl buffer enough there refl ∙ rw (a, b, c, d)
