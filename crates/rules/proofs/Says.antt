-- An outcome says what its call said: its addresses, type and thread are those of the message's bytes, of the give up, of the replaced call.
use Prim.Native.Nat.{ℕ}
use Rattle.std.specs.Prelude.{Some, None, Result, Ok, Err, Option}
use mathlib.Core.Path.{◌≡◌, refl}
use mathlib.Core.Logic.{inl, inr}
use mathlib.Core.List.{List}
use lib.Dec.{eqb, ltb}
use borrow.Author.Tests.{eqb-true}
use Rattle.lists.specs.Lists.{some_of}
use Rattle.lists.proofs.Tests.{split, checks-are}
use Rattle.tapa.specs.Address.{handler_of}
use Rattle.tapa.specs.Codes.{response, event_handler}
use Rattle.tapa.specs.declared.Refusal.{Refusal}
use Rattle.tapa.specs.declared.Refusal.TheVariants.{BufferTooSmall}
use Rattle.message.specs.declared.Head.{Head}
use Rattle.message.specs.Message.{read_of, part_of, code_of}
use Rattle.table.specs.Table.{listed, opened_at}
use Rattle.place.specs.declared.Place.{Place}
use Rattle.places.specs.Places.{owes_exactly, stands_in, holding}
use Rattle.rules.specs.View.{View}
use Rattle.rules.specs.declared.Outcome.TheVariants.{Answered, Refused}
use Rattle.rules.specs.Judge.{answerable, reply_tests, late, reply, judge_response, is_add_event, judge_command, common_tests, judge_kind, judge_read, judge_message}
use Rattle.rules.specs.Judge.{yields, judge_give_up, judge_replaced, Call, message, give_up, replaced, judge}
use Rattle.rules.specs.Says.{Spoken, ReadSays, GivesUp, Replaces, Says}
use Rattle.rules.proofs.Steps.{command-is}

-- ---- a message
module _ (v : View) (h : Head) where
  response-says : (code : Option ℕ) → h.kind ≡ response → Spoken h code (judge_response v.places h code)
  unfolding judge_response reply late
  response-says None k = tt
  response-says (Some code) k = go (answerable v.places h.source h.thread)
    where
      go : (o : Option Place) → Spoken h (Some code) (reply v.places o h code)
      go None = split (some_of (owes_exactly h.source h.thread) v.places) (λ p. rw p (k, refl, refl)) (λ p. rw p tt)
      go (Some w) =
          checks-are (Spoken h (Some code)) (reply_tests v.places w h) (Answered h.source h.destination h.thread code) (tt, (tt, tt))
          (λ _. (k, refl, refl, refl, refl))

  command-says : (code : Option ℕ) → Spoken h code (judge_command v h)
  command-says code = command-is v h (Spoken h code) (λ k r. (refl, refl, refl)) (λ n. (refl, refl, refl, refl))

  kind-says : (code : Option ℕ) → Spoken h code (judge_kind v h code)
  unfolding judge_kind
  kind-says code =
      split (eqb h.kind response) (λ p. rw p (response-says code (eqb-true h.kind response p)))
      (λ p. rw p (split (is_add_event h)
      (λ q. rw q (split (opened_at event_handler v.rows) (λ b. rw b q) (λ b. rw b tt)))
      (λ q. rw q (command-says code))))

read-says : (v : View) (r : Result Head Refusal) (code : Option ℕ) → ReadSays r code (judge_read v r code)
unfolding judge_read
read-says v (Err r) code = refl
read-says v (Ok h) code = checks-are (Spoken h code) (common_tests v.rows h) (judge_kind v h code) (tt, (tt, tt)) (λ _. kind-says v h code)

refused_says : (r : Result Head Refusal) (code : Option ℕ) (k : Refusal) → ReadSays r code (Refused k)
refused_says (Err r) code k = refl
refused_says (Ok h) code k = tt

message-says : (v : View) (room : ℕ) (s : List ℕ) → Says (message s) (judge_message v room s)
unfolding judge_message
message-says v room s =
    split (ltb room 10) (λ p. rw p (refused_says (read_of s) (code_of (part_of s)) BufferTooSmall)) (λ p. rw p (read-says v (read_of s) (code_of (part_of s))))

-- ---- Give up, Replaced

yields-says : (places : List Place) (o : Option Place) (t a : ℕ) → GivesUp t a (yields places o t a)
unfolding yields
yields-says places None t a = inl refl
yields-says places (Some w) t a = split (holding places a t) (λ p. rw p (inl refl)) (λ p. rw p (inr (w.asker, refl)))

give-up-says : (v : View) (room t a : ℕ) → GivesUp t a (judge_give_up v room t a)
unfolding judge_give_up
give-up-says v room t a =
    split (ltb room 10) (λ p. rw p (inl refl))
    (λ p. rw p (split (ltb 7 t) (λ q. rw q (inl refl)) (λ q. rw q (yields-says v.places (answerable v.places a t) t a))))

replaced-says : (v : View) (a : ℕ) → Replaces a (judge_replaced v a)
unfolding judge_replaced
replaced-says v a =
    split (listed (handler_of a) v.rows)
    (λ p. rw p (split (some_of (stands_in (handler_of a)) v.places) (λ q. rw q (inl refl)) (λ q. rw q (inr refl))))
    (λ p. rw p (inl refl))

-- ---- any call, in any view
pub says : (v : View) (room : ℕ) (c : Call) → Says c (judge v room c)
says v room (message s) = message-says v room s
says v room (give_up t a) = give-up-says v room t a
says v room (replaced a) = replaced-says v a
