-- The page's numbers, codes and words at every place of 'Routing one message', Give up and Replaced, in the page's order and written out: what
-- `said_outcome` says of the outcome of a call. Each law's premises are the checks before it, which did not apply.
use Prim.Native.Nat.{ℕ, ◌+◌, ◌≤◌, ◌<◌}
use Rattle.std.specs.Prelude.{Some, None, Ok}
use mathlib.Core.Path.{◌≡◌, refl, ap, ◌∙◌}
use mathlib.Core.Bool.{true, false}
use mathlib.Core.List.{List, [], ◌∷◌}
use lib.Dec.{eqb}
use lib.ListN.{length}
use borrow.Author.Tests.{eqb-true, ne_eqb}
use Rattle.lists.specs.Lists.{some_of}
use Rattle.lists.proofs.Tests.{split}
use Rattle.tapa.specs.Address.{category_of, handler_of}
use Rattle.tapa.specs.Numbers.{word_at}
use Rattle.tapa.specs.Said.{refused, says, passed, answered, swallowed, event, turned, given, reset}
use Rattle.known_types.specs.Types.{known}
use Rattle.message.specs.declared.Head.{Head}
use Rattle.message.specs.Message.{read_of, part_of, code_of, response_of}
use Rattle.message.proofs.Laws.{reads_short, reads-long, reads-fewer, reads_more}
use Rattle.table.specs.Table.{listed, opened_at}
use Rattle.place.specs.declared.Place.{Place}
use Rattle.places.specs.Places.{open_on, owes_exactly, stands_in, holding}
use Rattle.rules.specs.View.{View}
use Rattle.rules.specs.Judge.{answerable, is_add_event, closed_to, may_ask, busy, judge_kind, message, give_up, replaced, judge}
use Rattle.rules.specs.Said.{said_outcome}
use Rattle.rules.proofs.Steps.{message-small, message-unread, message-unlisted, message-thread, message-kind, kind-response, kind-event, kind-command}
use Rattle.rules.proofs.Steps.{event-taken, event-refused, closed-to, turned-a, turned-b, turned-c, turned-d, turned-e, passes}
use Rattle.rules.proofs.Steps.{late-swallowed, late-stray, response-missing, response-late, response-holding, response-wrong, response-answered}
use Rattle.rules.proofs.Steps.{give-up-small, give-up-thread, give-up-none, give-up-holding, give-up-given, replaced-unlisted, replaced-stands, replaced-reset}

-- what is no message of type 'C0' to handler '0700' is no Add Event
adds_none : (h : Head) → (h.kind ≡ 0xC0 → handler_of h.destination ≡ 0x0700 → ⊥) → is_add_event h ≡ false
adds_none h n =
    split (eqb h.kind 0xC0)
    (λ p. rw p (ne_eqb (handler_of h.destination) 0x0700 (λ d. n (eqb-true h.kind 0xC0 p) d)))
    (λ p. rw p)

-- rule d, 'for an empty tree, category 01'
pub begins-by-01 : (places : List Place) (t a : ℕ) → some_of (open_on t) places ≡ false → may_ask places t a ≡ eqb (category_of a) 0x01
begins-by-01 places t a e = rw e

-- ---- a message
module _ (v : View) (room : ℕ) (s : List ℕ) where
  pub message-9 : room < 10 → said_outcome (judge v room (message s)) ≡ refused 9
  message-9 l = ap said_outcome (message-small v room s l)

  module _ (enough : 10 ≤ room) where
    pub message-1 : length s < 8 → said_outcome (judge v room (message s)) ≡ refused 1
    message-1 l = ap said_outcome (message-unread v room s enough (read_of s) refl _ (reads_short s l))

    pub message-2 : 8 ≤ length s → 1024 < word_at s 6 → said_outcome (judge v room (message s)) ≡ refused 2
    message-2 l m = ap said_outcome (message-unread v room s enough (read_of s) refl _ (reads-long s l m))

    pub message-3 : 8 ≤ length s → word_at s 6 ≤ 1024 → length s < 8 + word_at s 6 → said_outcome (judge v room (message s)) ≡ refused 3
    message-3 l m n = ap said_outcome (message-unread v room s enough (read_of s) refl _ (reads-fewer s l m n))

    pub message-19 : word_at s 6 ≤ 1024 → 8 + word_at s 6 < length s → said_outcome (judge v room (message s)) ≡ refused 19
    message-19 m n = ap said_outcome (message-unread v room s enough (read_of s) refl _ (reads_more s m n))

    module _ (h : Head) (r : read_of s ≡ Ok h) where
      pub message-4 : listed (handler_of h.source) v.rows ≡ false → said_outcome (judge v room (message s)) ≡ refused 4
      message-4 n = ap said_outcome (message-unlisted v room s enough (read_of s) refl h r n)

      module _ (y : listed (handler_of h.source) v.rows ≡ true) where
        pub message-5 : 7 < h.thread → said_outcome (judge v room (message s)) ≡ refused 5
        message-5 l = ap said_outcome (message-thread v room s enough (read_of s) refl h r y l)

        module _ (t : h.thread ≤ 7) where
          by_kind : judge v room (message s) ≡ judge_kind v h (code_of (part_of s))
          by_kind = message-kind v room s enough (read_of s) refl h r y t

          -- Type 'FF'
          module _ (k : h.kind ≡ 0xFF) where
            pub message-6 : code_of (part_of s) ≡ None → said_outcome (judge v room (message s)) ≡ refused 6
            message-6 e = ap said_outcome (by_kind ∙ kind-response v h _ k ∙ response-missing v.places h _ e)

            module _ (code : ℕ) (e : code_of (part_of s) ≡ Some code) where
              module _ (w : Place) (f : answerable v.places h.source h.thread ≡ Some w) where
                pub message-7-holding : holding v.places h.source h.thread ≡ true → said_outcome (judge v room (message s)) ≡ refused 7
                message-7-holding b = ap said_outcome (by_kind ∙ kind-response v h _ k ∙ response-holding v.places h _ code e w f b)

                module _ (n : holding v.places h.source h.thread ≡ false) where
                  pub message-8 : (w.asker ≡ h.destination → ⊥) → said_outcome (judge v room (message s)) ≡ refused 8
                  message-8 x = ap said_outcome (by_kind ∙ kind-response v h _ k ∙ response-wrong v.places h _ code e w f n x)

                  pub message-answered : w.asker ≡ h.destination → said_outcome (judge v room (message s)) ≡ says answered (h.destination ∷ [])
                  message-answered d = ap said_outcome (by_kind ∙ kind-response v h _ k ∙ response-answered v.places h _ code e w f n d)

              module _ (f : answerable v.places h.source h.thread ≡ None) where
                pub message-swallowed : some_of (owes_exactly h.source h.thread) v.places ≡ true → said_outcome (judge v room (message s)) ≡ says swallowed []
                message-swallowed o =
                    ap said_outcome (by_kind ∙ kind-response v h _ k ∙ response-late v.places h _ code e f ∙ late-swallowed v.places h o)

                pub message-7 : some_of (owes_exactly h.source h.thread) v.places ≡ false → said_outcome (judge v room (message s)) ≡ refused 7
                message-7 o = ap said_outcome (by_kind ∙ kind-response v h _ k ∙ response-late v.places h _ code e f ∙ late-stray v.places h o)

          module _ (k : h.kind ≡ 0xFF → ⊥) where
            -- Type 'C0' to handler '0700'
            module _ (c : h.kind ≡ 0xC0) (d : handler_of h.destination ≡ 0x0700) where
              adds : is_add_event h ≡ true
              adds = rw (c, d)

              pub message-event : opened_at 0x0700 v.rows ≡ true → said_outcome (judge v room (message s)) ≡ says event []
              message-event o = ap said_outcome (by_kind ∙ kind-event v h _ k adds ∙ event-taken v.rows o)

              pub message-10 : opened_at 0x0700 v.rows ≡ false → said_outcome (judge v room (message s)) ≡ refused 10
              message-10 o = ap said_outcome (by_kind ∙ kind-event v h _ k adds ∙ event-refused v.rows o)

            -- Any other type: the rules with their codes
            module _ (other : h.kind ≡ 0xC0 → handler_of h.destination ≡ 0x0700 → ⊥) where
              e : is_add_event h ≡ false
              e = adds_none h other

              pub message-a : listed (handler_of h.destination) v.rows ≡ false
                  → said_outcome (judge v room (message s)) ≡ says turned (response_of h.source h.destination h.thread 0xFFF1)
              message-a x = ap said_outcome (by_kind ∙ kind-command v h _ k e ∙ turned-a v h x)

              module _ (a : listed (handler_of h.destination) v.rows ≡ true) where
                pub message-b : known (category_of h.destination) h.kind ≡ false
                    → said_outcome (judge v room (message s)) ≡ says turned (response_of h.source h.destination h.thread 0xFFFB)
                message-b x = ap said_outcome (by_kind ∙ kind-command v h _ k e ∙ turned-b v h a x)

                module _ (b : known (category_of h.destination) h.kind ≡ true) where
                  pub message-c : opened_at (handler_of h.destination) v.rows ≡ false → (h.kind ≡ 0xF0 → ⊥)
                      → said_outcome (judge v room (message s)) ≡ says turned (response_of h.source h.destination h.thread 0xFFF7)
                  message-c x n = ap said_outcome (by_kind ∙ kind-command v h _ k e ∙ turned-c v h a b (closed-to v.rows _ _ x n))

                  module _ (c : closed_to v.rows (handler_of h.destination) h.kind ≡ false) where
                    pub message-d : may_ask v.places h.thread h.source ≡ false
                        → said_outcome (judge v room (message s)) ≡ says turned (response_of h.source h.destination h.thread 0xFFF3)
                    message-d x = ap said_outcome (by_kind ∙ kind-command v h _ k e ∙ turned-d v h a b c x)

                    module _ (d : may_ask v.places h.thread h.source ≡ true) where
                      pub message-e : busy v.places h.source (handler_of h.destination) h.thread ≡ true
                          → said_outcome (judge v room (message s)) ≡ says turned (response_of h.source h.destination h.thread 0xFFF5)
                      message-e x = ap said_outcome (by_kind ∙ kind-command v h _ k e ∙ turned-e v h a b c d x)

                      module _ (f : busy v.places h.source (handler_of h.destination) h.thread ≡ false) where
                        pub message-passed : said_outcome (judge v room (message s)) ≡ says passed (h.destination ∷ [])
                        message-passed = ap said_outcome (by_kind ∙ kind-command v h _ k e ∙ passes v h a b c d f)

-- ---- Give up
module _ (v : View) (room t a : ℕ) where
  pub give-up-9 : room < 10 → said_outcome (judge v room (give_up t a)) ≡ refused 9
  give-up-9 l = ap said_outcome (give-up-small v room t a l)

  module _ (enough : 10 ≤ room) where
    pub give-up-5 : 7 < t → said_outcome (judge v room (give_up t a)) ≡ refused 5
    give-up-5 l = ap said_outcome (give-up-thread v room t a enough l)

    module _ (l : t ≤ 7) where
      pub give-up-14 : answerable v.places a t ≡ None → said_outcome (judge v room (give_up t a)) ≡ refused 14
      give-up-14 e = ap said_outcome (give-up-none v room t a enough l e)

      module _ (w : Place) (e : answerable v.places a t ≡ Some w) where
        pub give-up-20 : holding v.places a t ≡ true → said_outcome (judge v room (give_up t a)) ≡ refused 20
        give-up-20 b = ap said_outcome (give-up-holding v room t a enough l w e b)

        pub give-up-done : holding v.places a t ≡ false
            → said_outcome (judge v room (give_up t a)) ≡ says given (response_of w.asker a t 0xFFF3)
        give-up-done b = ap said_outcome (give-up-given v room t a enough l w e b)

-- ---- Replaced
module _ (v : View) (room a : ℕ) where
  pub replaced-4 : listed (handler_of a) v.rows ≡ false → said_outcome (judge v room (replaced a)) ≡ refused 4
  replaced-4 n = ap said_outcome (replaced-unlisted v a _ refl n)

  module _ (y : listed (handler_of a) v.rows ≡ true) where
    pub replaced-16 : some_of (stands_in (handler_of a)) v.places ≡ true → said_outcome (judge v room (replaced a)) ≡ refused 16
    replaced-16 s = ap said_outcome (replaced-stands v a _ refl y s)

    pub replaced-done : some_of (stands_in (handler_of a)) v.places ≡ false → said_outcome (judge v room (replaced a)) ≡ says reset []
    replaced-done s = ap said_outcome (replaced-reset v a _ refl y s)
